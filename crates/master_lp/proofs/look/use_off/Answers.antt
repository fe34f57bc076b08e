use Rattle.station_rows.specs.Rows.{use_stands}
use Rattle.master_lp.proofs.AllHold.{use_fails}
use Rattle.master_lp.proofs.look.use_off.Goals as goal

pub returns-in_ok-row-in-Some : goal.returns-in_ok-row-in-Some
returns-in_ok-row-in-Some c = record {
  stands = use_stands c.in-Some.platform c.in-Some.ensures.there c.in_ok-row-in-Some.ensures;
  fails =
      use_fails c.args.case.now c.args.layout.now c.requires.layout c.args.point.now c.args.weights.now c.requires.read c.in-Some.platform
      c.in-Some.ensures c.in_ok-row-in-Some.row c.in_ok-row-in-Some.ensures;
}
