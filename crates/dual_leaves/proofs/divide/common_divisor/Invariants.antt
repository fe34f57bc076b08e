use Rattle.std.proofs.Common.{ℕ, pos, ◌<ℤ◌, unsigned_abs}
use Rattle.std.specs.Int.{◌∣◌}
use Rattle.std.specs.List.{All}
use Rattle.std.specs.Map.{values_of}
use Rattle.dual_leaves.proofs.divide.common_divisor.Given as goal

abbrev pub invariant-loop-value : goal.invariant-loop-value
invariant-loop-value g l = record {
  positive : pos 0 <ℤ l.divisor;
  start : (d : ℕ) → d ∣ unsigned_abs l.divisor → d ∣ unsigned_abs l.start;
  each : (d : ℕ) → d ∣ unsigned_abs l.divisor → All (λ z. d ∣ unsigned_abs z) l.value-iterator → All (λ z. d ∣ unsigned_abs z) (values_of l.sums.entries);
}
