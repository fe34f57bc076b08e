use Rattle.dual_leaves.proofs.Arrivals.{IsLatestBelow}
use Rattle.dual_leaves.proofs.latest.latest_arrival.Given as goal

abbrev pub invariant-loop-cell : goal.invariant-loop-cell
invariant-loop-cell l = IsLatestBelow l.case l.layout l.cells l.cell-index l.latest
