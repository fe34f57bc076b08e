use Rattle.std.proofs.Common.{subst, sym}
use Rattle.station_rows.specs.Rows.{AreLeftColumns, AreTrainRows}
use Rattle.station_rows.proofs.Opened.{opening_is, opening_meets}
use Rattle.station_rows.proofs.opening_rows.opening.Goals as goal

pub returns-clause-opening : goal.returns-clause-opening
returns-clause-opening c =
    opening_is c.args.layout.now c.new.result c.new-2.result
    (subst (AreTrainRows c.args.layout.now) (sym c.new.ensures) c.in_ok-rows.ensures)
    (subst (AreLeftColumns c.args.layout.now) (sym c.new-2.ensures) c.in_ok-columns.ensures)

pub returns-clause-meets : goal.returns-clause-meets
returns-clause-meets c =
    opening_meets c.args.layout.now c.new.result c.new-2.result
    (subst (AreTrainRows c.args.layout.now) (sym c.new.ensures) c.in_ok-rows.ensures)
    (subst (AreLeftColumns c.args.layout.now) (sym c.new-2.ensures) c.in_ok-columns.ensures)
