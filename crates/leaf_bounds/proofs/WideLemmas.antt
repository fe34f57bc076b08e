-- Sums and products of numbers that are small enough for 128 bits, in the form in which the code has them.
use Rattle.std.proofs.Common.{◌≡◌, ℕ, ◌+◌, ◌*◌, ◌≤◌, refl, sym, ap, ◌∙◌, subst, arith, ℤ, pos, negsuc, ◌+ℤ◌, ◌-ℤ◌, ◌*ℤ◌, ◌≤ℤ◌}
use Rattle.std.specs.Prelude.{unsigned_abs, int_lt, int_le, ◌^◌}
use Rattle.std.specs.Int.{int_max}
use Rattle.std.proofs.lemmas.Int.{ints, clamps, to_z-of_z, fits_signed_from_abs}
use Rattle.std.proofs.lemmas.Nat.{mul-le}
use Rattle.station.specs.Allowed.{numbers}
use lib.Signed.{lt_z, le_z}
use mir.Syntax.{w128}
use mir.Val.{SFits, to_z, of_z}
use Rattle.leaf_bounds.specs.Total.{total}
use Rattle.leaf_bounds.specs.declared.check.LeafValue.{LeafValue}
use Rattle.leaf_bounds.specs.Leaf.{ceiling}
use Rattle.leaf_bounds.proofs.Totals.{total_numbers_next}

pub wide : (z : ℤ) → unsigned_abs z ≤ 10 ^ 38 → SFits w128 z
wide z h = fits_signed_from_abs w128 z (omega (arith, h))

-- a price at a scale
pub price_size : (q : ℤ) (n most : ℕ) → pos 1 ≤ℤ q → q ≤ℤ pos (10 ^ 18) → n ≤ most → unsigned_abs (q *ℤ pos n) ≤ 10 ^ 18 * most
price_size (pos k) n most least h l = mul-le k n (10 ^ 18) most (omega (arith, ints, h)) l
price_size (negsuc k) n most least h l = absurd (omega (arith, ints, least))

-- three numbers added up
module _ (a b c : ℤ) (fa : unsigned_abs a ≤ 10 ^ 28) (fb : unsigned_abs b ≤ 400 * 10 ^ 30) (fc : unsigned_abs c ≤ 10 ^ 36) where
  first_fits : SFits w128 a
  first_fits = wide a (omega (arith, fa))

  second_fits : SFits w128 b
  second_fits = wide b (omega (arith, fb))

  third_fits : SFits w128 c
  third_fits = wide c (omega (arith, fc))

  two_fit : SFits w128 (a +ℤ b)
  two_fit = wide (a +ℤ b) (omega (arith, ints, fa, fb))

  three_fit : SFits w128 ((a +ℤ b) +ℤ c)
  three_fit = wide ((a +ℤ b) +ℤ c) (omega (arith, ints, fa, fb, fc))

  pub three_fits : SFits w128 (to_z w128 (of_z w128 (to_z w128 (of_z w128 a) +ℤ to_z w128 (of_z w128 b))) +ℤ to_z w128 (of_z w128 c))
  three_fits =
      let f = first_fits in
      let g = second_fits in
      let h = third_fits in
      let k = two_fit in
      simp to_z-of_z three_fit

  pub three_is : to_z w128 (of_z w128 (to_z w128 (of_z w128 (to_z w128 (of_z w128 a) +ℤ to_z w128 (of_z w128 b))) +ℤ to_z w128 (of_z w128 c))) ≡ (a +ℤ b) +ℤ c
  three_is =
      let f = first_fits in
      let g = second_fits in
      let h = third_fits in
      let k = two_fit in
      let m = three_fit in
      simp to_z-of_z refl

  pub three_size : unsigned_abs (to_z w128 (of_z w128 (to_z w128 (of_z w128 (to_z w128 (of_z w128 a) +ℤ to_z w128 (of_z w128 b))) +ℤ to_z w128 (of_z w128 c)))) ≤ 10 ^ 37
  three_size = subst (λ (z : ℤ). unsigned_abs z ≤ 10 ^ 37) (sym three_is) (omega (arith, ints, fa, fb, fc))

-- two numbers compared, of which the code has the first as its value
pub less_is : (a b x y : ℤ) → unsigned_abs a ≤ 10 ^ 37 → SFits w128 b → a ≡ x → b ≡ y
    → lt_z (to_z w128 (of_z w128 a)) (to_z w128 (of_z w128 b)) ≡ int_lt x y
less_is a b x y fa g e f =
    let h : SFits w128 a = wide a (omega (arith, fa)) in
    simp to_z-of_z (λ i. int_lt (e i) (f i))

-- a sum over numbers, one number more
module _ (f : ℕ → ℤ) (k most : ℕ) (sum value : ℤ) (so_far : sum ≡ total f (numbers k)) (val : value ≡ f k) (size : unsigned_abs sum ≤ k * most)
    (whole : unsigned_abs sum ≤ 64 * 10 ^ 36) (small : unsigned_abs value ≤ most) (limit : most ≤ 10 ^ 36) where
  value_wide : SFits w128 value
  value_wide = wide value (omega (arith, small, limit))

  sum_wide : SFits w128 (sum +ℤ value)
  sum_wide = wide (sum +ℤ value) (omega (arith, ints, whole, small, limit))

  pub added_is : to_z w128 (of_z w128 (sum +ℤ to_z w128 (of_z w128 value))) ≡ total f (numbers (k + 1))
  added_is =
      let g = value_wide in
      let h = sum_wide in
      let next = total_numbers_next f k in
      simp to_z-of_z (omega (arith, ints, so_far, val, next))

  pub added_size : unsigned_abs (to_z w128 (of_z w128 (sum +ℤ to_z w128 (of_z w128 value)))) ≤ (k + 1) * most
  added_size =
      let g = value_wide in
      let h = sum_wide in
      simp to_z-of_z (omega (arith, ints, size, small))

-- a difference
module _ (a b : ℤ) (fa : unsigned_abs a ≤ 64 * 10 ^ 36) (fb : unsigned_abs b ≤ 64 * 10 ^ 36 + 10 ^ 35) (fd : unsigned_abs (a -ℤ b) ≤ 10 ^ 38) where
  left_fits : SFits w128 a
  left_fits = wide a (omega (arith, fa))

  right_fits : SFits w128 b
  right_fits = wide b (omega (arith, fb))

  pub difference_fits : SFits w128 (to_z w128 (of_z w128 a) -ℤ to_z w128 (of_z w128 b))
  difference_fits =
      let f = left_fits in
      let g = right_fits in
      simp to_z-of_z (wide (a -ℤ b) fd)

  pub difference_is : to_z w128 (of_z w128 (to_z w128 (of_z w128 a) -ℤ to_z w128 (of_z w128 b))) ≡ a -ℤ b
  difference_is =
      let f = left_fits in
      let g = right_fits in
      let h : SFits w128 (a -ℤ b) = wide (a -ℤ b) fd in
      simp to_z-of_z refl

-- what is said of a leaf
pub answered : (v t b q x y : ℤ) → unsigned_abs v ≤ 10 ^ 38 → unsigned_abs t ≤ 10 ^ 31 → SFits w128 b → SFits w128 q → v ≡ x → t ≡ y
    → b ≡ ceiling (to_z w128 (of_z w128 v)) (to_z w128 (of_z w128 q))
    → ◌≡◌ {A = LeafValue}
    (record { value = to_z w128 (of_z w128 v); empty = le_z (to_z w128 (of_z w128 t)) (to_z w128 (of_z w128 v)); bound = to_z w128 (of_z w128 b) })
    (record { value = x; empty = int_le y x; bound = ceiling x q })
answered v t b q x y fv ft fb fq e f g =
    let h : SFits w128 v = wide v fv in
    let k : SFits w128 t = wide t (omega (arith, ft)) in
    let m : b ≡ ceiling v q = simp to_z-of_z at g in
    simp to_z-of_z (λ i. record { value = e i; empty = int_le (f i) (e i); bound = (m ∙ ap (λ (z : ℤ). ceiling z q) e) i })

-- by how much a sum is more than a price
module _ (s p m : ℤ) (fs : unsigned_abs s ≤ 10 ^ 36) (fp : unsigned_abs p ≤ 10 ^ 28) (least : pos 0 ≤ℤ p)
    (is : m ≡ int_max (to_z w128 (of_z w128 (to_z w128 (of_z w128 s) -ℤ to_z w128 (of_z w128 p)))) (pos 0)) where
  more_is : m ≡ int_max (s -ℤ p) (pos 0)
  more_is = is ∙ ap (λ z. int_max z (pos 0)) (difference_is s p (omega (arith, fs)) (omega (arith, fp)) (omega (arith, ints, fs, fp)))

  more_size : unsigned_abs m ≤ 10 ^ 36
  more_size = subst (λ (z : ℤ). unsigned_abs z ≤ 10 ^ 36) (sym more_is) (omega (arith, ints, clamps, fs, fp, least))

  more_wide : SFits w128 m
  more_wide = let s = more_size in wide m (omega (arith, s))

  pub excess_is : to_z w128 (of_z w128 m) ≡ int_max (s -ℤ p) (pos 0)
  excess_is = let f = more_wide in simp to_z-of_z more_is

  pub excess_size : unsigned_abs (to_z w128 (of_z w128 m)) ≤ 10 ^ 36
  excess_size = let f = more_wide in simp to_z-of_z more_size
