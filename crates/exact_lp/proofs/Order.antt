-- The order of signed numbers under sums and products.
use Rattle.std.proofs.Common.{◌≡◌, ◌+◌, ◌*◌, ◌≤◌, arith, subst, ℤ, pos, negsuc, ◌+ℤ◌, ◌*ℤ◌, ◌<ℤ◌, ◌≤ℤ◌}
use Rattle.std.proofs.lemmas.Int.{ints, by_lt_z}
use Rattle.std.proofs.Math.Nat.{mul-le-mul_right}
use Rattle.ratio.proofs.Ring.{mul_comm_ℤ, add-mul_ℤ}
use borrow.Author.Differences.{up, down, product_is}

pub add_le_ℤ : (a b c d : ℤ) → a ≤ℤ b → c ≤ℤ d → (a +ℤ c) ≤ℤ (b +ℤ d)
add_le_ℤ a b c d h k = omega (arith, ints)

pub mul_le_ℤ : (a b w : ℤ) → pos 0 ≤ℤ w → a ≤ℤ b → (a *ℤ w) ≤ℤ (b *ℤ w)
mul_le_ℤ a b (pos n) h le =
    let q : up a + down b ≤ up b + down a = omega (arith, ints) in
    let p : (up a + down b) * n ≤ (up b + down a) * n = mul-le-mul_right n q in
    omega (arith, ints, p, product_is a (pos n), product_is b (pos n))
mul_le_ℤ a b (negsuc n) h le = absurd (omega (arith, ints))

pub mul_le_left_ℤ : (w a b : ℤ) → pos 0 ≤ℤ w → a ≤ℤ b → (w *ℤ a) ≤ℤ (w *ℤ b)
mul_le_left_ℤ w a b h le =
    let P : ℤ → ℤ → Type 0 = λ x y. x ≤ℤ y in
    subst (λ (z : ℤ). P z (w *ℤ b)) (mul_comm_ℤ a w) (subst (λ (z : ℤ). P (a *ℤ w) z) (mul_comm_ℤ b w) (mul_le_ℤ a b w h le))

-- a positive factor cancels
pub cancel_le_ℤ : (a b k : ℤ) → pos 0 <ℤ k → (a *ℤ k) ≤ℤ (b *ℤ k) → a ≤ℤ b
cancel_le_ℤ a b k some le = by_lt_z b a (λ lt. absurd (past lt)) (λ h. h)
  where
    past : b <ℤ a → ⊥
    past lt =
        let more : ((b +ℤ pos 1) *ℤ k) ≤ℤ (a *ℤ k) = mul_le_ℤ (b +ℤ pos 1) a k (omega (arith, ints)) (omega (arith, ints)) in
        let parts : (b +ℤ pos 1) *ℤ k ≡ b *ℤ k +ℤ pos 1 *ℤ k = add-mul_ℤ b (pos 1) k in
        omega (arith, ints)
