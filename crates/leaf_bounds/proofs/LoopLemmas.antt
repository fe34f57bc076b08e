-- The steps of a sum along a list, in the form in which the code has them.
use Rattle.std.proofs.Common.{◌≡◌, ℕ, ◌+◌, ◌*◌, ◌<◌, ◌≤◌, List, length, get_or, drop, refl, arith, ℤ, pos, ◌+ℤ◌}
use Rattle.std.specs.Prelude.{unsigned_abs, ◌^◌}
use Rattle.std.proofs.lemmas.Int.{ints, to_z-of_z, fits_signed_from_abs}
use mir.Syntax.{w128}
use mir.Val.{SFits, to_z, of_z}
use Rattle.leaf_bounds.specs.Total.{total}
use Rattle.leaf_bounds.proofs.BoundedLemmas.{total_step, total_end}

-- the sum so far, with what is left, is the whole sum
module _ {X : Type 0} (f : X → ℤ) (xs : List X) (k most : ℕ) (x : X) (sum value : ℤ) (there : k < length xs)
    (so_far : sum +ℤ total f (drop k xs) ≡ total f xs) (val : value ≡ f (get_or xs k x)) (bound : (j : ℕ) → unsigned_abs (total f (drop j xs)) ≤ most)
    (small : 2 * most < 2 ^ 127) where
  value_fits : SFits w128 value
  value_fits =
      let step = total_step f xs k x there in
      let a = bound k in
      let b = bound (k + 1) in
      fits_signed_from_abs w128 value (omega (arith, ints, step, a, b, val, small))

  pub sum_fits : SFits w128 (sum +ℤ to_z w128 (of_z w128 value))
  sum_fits =
      let v = value_fits in
      let step = total_step f xs k x there in
      let whole : unsigned_abs (total f xs) ≤ most = bound 0 in
      let b = bound (k + 1) in
      simp to_z-of_z (fits_signed_from_abs w128 (sum +ℤ value) (omega (arith, ints, step, whole, b, val, small, so_far)))

  pub sum_more : to_z w128 (of_z w128 (sum +ℤ to_z w128 (of_z w128 value))) +ℤ total f (drop (k + 1) xs) ≡ total f xs
  sum_more =
      let v = value_fits in
      let step = total_step f xs k x there in
      let g : SFits w128 (sum +ℤ value) = simp to_z-of_z at sum_fits in
      simp to_z-of_z (omega (arith, ints, step, val, so_far))

-- a number that is handed on
pub returned : (z : ℤ) → unsigned_abs z ≤ 10 ^ 37 → to_z w128 (of_z w128 z) ≡ z
returned z h = let f : SFits w128 z = fits_signed_from_abs w128 z (omega (arith, h)) in simp to_z-of_z refl

-- where nothing is left
module _ {X : Type 0} (f : X → ℤ) (xs : List X) (k : ℕ) (sum : ℤ) (so_far : sum +ℤ total f (drop k xs) ≡ total f xs)
    (none : total f (drop k xs) ≡ pos 0) where
  pub whole_value : sum ≡ total f xs
  whole_value = omega (arith, ints, so_far, none)

  pub whole_size : (most : ℕ) → unsigned_abs (total f xs) ≤ most → unsigned_abs sum ≤ most
  whole_size most bound = omega (arith, ints, so_far, none, bound)

pub sum_size : {X : Type 0} (f : X → ℤ) (xs : List X) (k most : ℕ) (sum : ℤ) → length xs ≤ k
    → sum +ℤ total f (drop k xs) ≡ total f xs → unsigned_abs (total f xs) ≤ most → unsigned_abs sum ≤ most
sum_size f xs k most sum end so_far bound = whole_size f xs k sum so_far (total_end f xs k end) most bound
