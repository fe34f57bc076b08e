use Rattle.exact_lp.specs.Places.{place_of}
use Rattle.exact_lp.proofs.Chosen.{IsBestOf}
use Rattle.exact_lp.proofs.choice.leaving.Given as goal

abbrev pub invariant-loop-at : goal.invariant-loop-at
invariant-loop-at l = IsBestOf l.table.rows.items (place_of l.variable) l.at l.best
