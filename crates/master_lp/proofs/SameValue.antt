-- One value, by cross products: of a fraction, a leaf, duals, a point and a plan.
use Rattle.std.proofs.Common.{◌≡◌, ℕ, ◌*◌, ◌<◌, ◌≤◌, sym, ap, ◌∙◌, subst, arith, ℤ, pos, ◌*ℤ◌, ◌≤ℤ◌, ◌<ℤ◌}
use Rattle.std.specs.Prelude.{unsigned_abs}
use Rattle.std.proofs.lemmas.Int.{ints}
use Rattle.ratio.proofs.Ring.{cancel_ℤ, mul_comm_ℤ, mul_pairs_ℤ, mul_right_comm_ℤ}
use Rattle.ratio.proofs.Signed.{mul_positive}
use Rattle.exact_lp.proofs.Order.{cancel_le_ℤ, mul_le_ℤ}
use Rattle.transport.proofs.Signed.{size_is}
use Rattle.leaf_bounds.proofs.Totals.{mul-none_ℤ}

above : (z : ℤ) → pos 0 <ℤ z → pos 0 ≤ℤ z
above z h = omega (arith, ints)

both_ways : (a b : ℤ) → a ≤ℤ b → b ≤ℤ a → a ≡ b
both_ways a b h k = omega (arith, ints)

-- a plan that costs at most what a least point does costs as much
pub same_cost : (cost plan scale : ℤ) → pos 0 <ℤ scale → plan ≤ℤ cost → (cost *ℤ scale) ≤ℤ (plan *ℤ scale) → plan ≡ cost
same_cost cost plan scale some most least = both_ways plan cost most (cancel_le_ℤ cost plan scale some least)

-- num / den is the leaf's value over q, which is what the duals are worth, which is what the point costs
pub same_value : (num den value q leasts duals cost scale : ℤ) → pos 0 <ℤ q → pos 0 <ℤ duals
    → num *ℤ q ≡ value *ℤ den → value *ℤ duals ≡ leasts *ℤ q → cost *ℤ duals ≡ leasts *ℤ scale → num *ℤ scale ≡ cost *ℤ den
same_value num den value q leasts duals cost scale some more e1 e2 e3 =
    cancel_ℤ (num *ℤ scale) (cost *ℤ den) (q *ℤ duals) (mul_positive q duals some more)
    (ap (λ (z : ℤ). (num *ℤ scale) *ℤ z) (mul_comm_ℤ q duals)
    ∙ mul_pairs_ℤ num scale duals q
    ∙ ap (λ (z : ℤ). z *ℤ (scale *ℤ duals)) e1
    ∙ mul_pairs_ℤ value den scale duals
    ∙ ap (λ (z : ℤ). z *ℤ (den *ℤ scale)) e2
    ∙ mul_pairs_ℤ leasts q den scale
    ∙ ap (λ (z : ℤ). z *ℤ (q *ℤ den)) (sym e3)
    ∙ mul_pairs_ℤ cost duals q den
    ∙ ap (λ (z : ℤ). (cost *ℤ den) *ℤ z) (mul_comm_ℤ duals q))

-- a fraction of a cost of at least 0 is at least 0
pub whole : (num den scale : ℤ) (cost : ℕ) → pos 0 <ℤ den → pos 0 <ℤ scale → num *ℤ scale ≡ pos cost *ℤ den → pos (unsigned_abs num) ≡ num
whole num den scale cost some more e =
    let least = mul_le_ℤ (pos 0) (pos cost) den (above den some) (omega (arith, ints)) in
    let none : pos 0 *ℤ scale ≡ pos 0 *ℤ den = zero_times scale ∙ sym (zero_times den) in
    let P : ℤ → Type 0 = λ z. (pos 0 *ℤ scale) ≤ℤ z in
    let Q : ℤ → Type 0 = λ z. z ≤ℤ (pos cost *ℤ den) in
    size_is num (cancel_le_ℤ (pos 0) num scale more (subst P (sym e) (subst Q (sym none) least)))
  where
    zero_times : (z : ℤ) → pos 0 *ℤ z ≡ pos 0
    zero_times z = mul_comm_ℤ (pos 0) z ∙ mul-none_ℤ z

-- a plan that costs at least what a point does costs at least the fraction
pub below_plan : (num den cost scale plan weight : ℤ) → pos 0 <ℤ den → pos 0 <ℤ scale
    → num *ℤ scale ≡ cost *ℤ den → (cost *ℤ weight) ≤ℤ (plan *ℤ scale) → (num *ℤ weight) ≤ℤ (plan *ℤ den)
below_plan num den cost scale plan weight some more e least =
    let times = mul_le_ℤ (cost *ℤ weight) (plan *ℤ scale) den (above den some) least in
    let one : (num *ℤ weight) *ℤ scale ≡ (cost *ℤ weight) *ℤ den =
    mul_right_comm_ℤ num weight scale ∙ ap (λ (z : ℤ). z *ℤ weight) e ∙ mul_right_comm_ℤ cost den weight in
    let two : (plan *ℤ den) *ℤ scale ≡ (plan *ℤ scale) *ℤ den = mul_right_comm_ℤ plan den scale in
    let P : ℤ → Type 0 = λ z. z ≤ℤ ((plan *ℤ den) *ℤ scale) in
    let Q : ℤ → Type 0 = λ z. ((cost *ℤ weight) *ℤ den) ≤ℤ z in
    cancel_le_ℤ (num *ℤ weight) (plan *ℤ den) scale more (subst P (sym one) (subst Q (sym two) times))
