-- The steps of sums by pattern.
use Rattle.std.proofs.Common.{◌≡◌, ℕ, ◌+◌, ◌*◌, ◌<◌, ◌≤◌, ◌==◌, ◌&&◌, List, length, get_or, drop, ap, arith, ℤ, pos, ◌+ℤ◌}
use Rattle.std.specs.Prelude.{unsigned_abs, ◌^◌}
use Rattle.std.proofs.lemmas.Int.{ints}
use Rattle.leaf_bounds.specs.declared.number.PairValue.{PairValue}
use Rattle.leaf_bounds.specs.declared.potentials.Side.{Side}
use Rattle.leaf_bounds.specs.declared.leaf.Leaf.{Leaf}
use Rattle.leaf_bounds.specs.Total.{only_if, total}
use Rattle.leaf_bounds.specs.Places.{ArePairValues}
use Rattle.leaf_bounds.specs.Sides.{train_on, value_on}
use Rattle.leaf_bounds.proofs.BoundedLemmas.{side_bounded, total_step}

-- a sum on the way is at most 600 numbers in size
pub side_within : (side : Side) (t i k : ℕ) (xs : List PairValue) (sum start : ℤ) → ArePairValues xs → unsigned_abs start ≤ 200 * 10 ^ 30
    → sum +ℤ total (value_on side t i) (drop k xs) ≡ start +ℤ total (value_on side t i) xs → unsigned_abs sum ≤ 600 * 10 ^ 30
side_within side t i k xs sum start h s e =
    let rest = side_bounded side t i k xs h in
    let all : unsigned_abs (total (value_on side t i) xs) ≤ 200 * 10 ^ 30 = side_bounded side t i 0 xs h in
    omega (arith, ints, rest, all, s, e)

-- the next entry
pub side_more : (side : Side) (t i k n : ℕ) (xs : List PairValue) (d : PairValue) (before after whole : ℤ) → k < length xs → n ≡ train_on side (get_or xs k d)
    → before +ℤ total (value_on side t i) (drop k xs) ≡ whole
    → after ≡ before +ℤ only_if (n == t && (get_or xs k d).number == i) (get_or xs k d).value
    → after +ℤ total (value_on side t i) (drop (k + 1) xs) ≡ whole
side_more side t i k n xs d before after whole h m e f =
    let step = total_step (value_on side t i) xs k d h in
    let here : only_if (n == t && (get_or xs k d).number == i) (get_or xs k d).value ≡ value_on side t i (get_or xs k d) =
    ap (λ j. only_if (j == t && (get_or xs k d).number == i) (get_or xs k d).value) m in
    omega (arith, ints, step, here, e, f)

pub side_size : (side : Side) (t i : ℕ) (xs : List PairValue) → ArePairValues xs → unsigned_abs (total (value_on side t i) xs) ≤ 200 * 10 ^ 30
side_size side t i xs h = side_bounded side t i 0 xs h

-- the entries of a leaf
pub alpha_entries : (l : Leaf) → ArePairValues l.alpha
alpha_entries l = record { each = l.kept.alpha_each; ascends = l.kept.alpha_ascends }

pub beta_entries : (l : Leaf) → ArePairValues l.beta
beta_entries l = record { each = l.kept.beta_each; ascends = l.kept.beta_ascends }

-- two sums from 0
pub both_small : (a b first second : ℤ) → unsigned_abs first ≤ 200 * 10 ^ 30 → unsigned_abs second ≤ 200 * 10 ^ 30 → a ≡ pos 0 +ℤ first → b ≡ a +ℤ second
    → unsigned_abs b ≤ 400 * 10 ^ 30
both_small a b first second f s e g = omega (arith, ints, f, s, e, g)
