use Rattle.std.proofs.Common.{◌<◌, length, pos, ◌<ℤ◌}
use Rattle.std.specs.Prelude.{IfSome}
use Rattle.ratio.specs.Cells.{cell_at}
use Rattle.exact_lp.specs.Places.{place_of}
use Rattle.exact_lp.proofs.choice.improving.Given as goal

abbrev pub invariant-loop-v : goal.invariant-loop-v
invariant-loop-v l = record {
  within : IfSome l.best (λ b. b.at < length l.table.variables.items);
  improves : IfSome l.best (λ b. pos 0 <ℤ cell_at l.table.cost (place_of b.at));
}
