use Rattle.station_rows.specs.Rows.{pair_stands}
use Rattle.master_lp.proofs.AllHold.{all_hold, pair_fails}
use Rattle.master_lp.proofs.look.violated_beside_cliques.Goals as goal

pub returns-in_ok-row-in-Some : goal.returns-in_ok-row-in-Some
returns-in_ok-row-in-Some c =
    let above = rw c.in-Some.is at c.in_ok-excess.ensures in
    let cut = c.in-Some.excess.cut in
    record {
      stands = pair_stands cut above.order above.there above.holds c.in_ok-row-in-Some.ensures;
      fails =
          pair_fails c.args.case.now c.args.layout.now c.requires.layout c.args.point.now c.args.weights.now c.requires.read cut above
          c.in_ok-row-in-Some.row c.in_ok-row-in-Some.ensures;
    }

pub returns-in-None : goal.returns-in-None
returns-in-None c =
    let met = rw c.in-None.is at c.in_ok-excess.ensures in
    all_hold c.args.case.now c.args.layout.now c.requires.layout c.args.point.now c.args.weights.now c.requires.read c.args.meetings.now
    c.requires.meetings met c.requires.uses c.requires.held
