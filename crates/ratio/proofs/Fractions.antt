-- Whole numbers as fractions, and equal fractions.
use Rattle.std.proofs.Common.{◌≡◌, ◌*◌, arith, sym, ap, ◌∙◌, ℤ, pos, ◌+ℤ◌, ◌-ℤ◌, ◌*ℤ◌, ◌<ℤ◌, unsigned_abs, subst}
use Rattle.std.proofs.lemmas.Int.{ints, unsigned_abs-mul}
use Rattle.std.proofs.lemmas.Nat.Gcd.{dvd_refl}
use Rattle.std.proofs.Math.Nat.{one-dvd}
use Rattle.std.specs.Ordering.{int_cmp, ordering_index}
use Rattle.std.specs.declared.cmp.Ordering.{Ordering}
use Rattle.ratio.specs.Fraction.{IsLowest, IsSameFraction}
use Rattle.ratio.proofs.Coprime.{lowest_unique}
use Rattle.ratio.proofs.Ring.{cancel_ℤ, mul_assoc_ℤ, mul_right_comm_ℤ, mul_pairs_ℤ}
use Rattle.ratio.proofs.Signed.{size_of_positive}

pub whole_is : (n d a : ℤ) → pos 0 <ℤ d → IsLowest n d → IsSameFraction n d a (pos 1) → (n ≡ a) × (d ≡ pos 1)
whole_is n d a positive lowest same =
    let sizes : unsigned_abs n * 1 ≡ unsigned_abs a * unsigned_abs d = sym (unsigned_abs-mul n (pos 1)) ∙ ap unsigned_abs same ∙ unsigned_abs-mul a d in
    let is = lowest_unique (unsigned_abs n) (unsigned_abs d) (unsigned_abs a) 1 sizes lowest (one-dvd (unsigned_abs a), dvd_refl 1, λ e p q. q) (omega arith) in
    let den : d ≡ pos 1 = (size_of_positive d positive).0 ∙ ap pos is.1 in
    (cancel_ℤ n a (pos 1) (omega (arith, ints)) (same ∙ ap (λ (z : ℤ). a *ℤ z) den), den)

-- a / b and c / d are the same where their lowest terms p / q and r / s are
pub same_through : (a b c d p q r s : ℤ) → pos 0 <ℤ q → pos 0 <ℤ s → p *ℤ b ≡ a *ℤ q → r *ℤ d ≡ c *ℤ s → p *ℤ s ≡ r *ℤ q → a *ℤ d ≡ c *ℤ b
same_through a b c d p q r s qp sp one two cross =
    cancel_ℤ (a *ℤ d) (c *ℤ b) s sp
    (cancel_ℤ ((a *ℤ d) *ℤ s) ((c *ℤ b) *ℤ s) q qp
    (ap (λ (z : ℤ). z *ℤ q) (mul_assoc_ℤ a d s)
    ∙ mul_right_comm_ℤ a (d *ℤ s) q
    ∙ ap (λ (z : ℤ). z *ℤ (d *ℤ s)) (sym one)
    ∙ mul_pairs_ℤ p b d s
    ∙ ap (λ (z : ℤ). z *ℤ (b *ℤ d)) cross
    ∙ mul_pairs_ℤ r q b d
    ∙ ap (λ (z : ℤ). z *ℤ (q *ℤ b)) two
    ∙ mul_pairs_ℤ c s q b
    ∙ sym (mul_assoc_ℤ (c *ℤ b) s q)))

-- a fraction in lowest terms whose denominator is that of whole numbers
pub whole_from : (n d a b e : ℤ) → pos 0 <ℤ d → IsLowest n d → b ≡ pos 1 → e ≡ pos 1 → IsSameFraction n d a (b *ℤ e) → n ≡ a
whole_from n d a b e positive lowest one two same =
    (whole_is n d a positive lowest (subst (λ (z : ℤ). n *ℤ z ≡ a *ℤ d) (λ i. one i *ℤ two i) same)).0

times_one : (z : ℤ) → z *ℤ pos 1 ≡ z
times_one z = omega (arith, ints)

pub sum_from : (n d x y p q : ℤ) → pos 0 <ℤ d → IsLowest n d → p ≡ pos 1 → q ≡ pos 1 → IsSameFraction n d (x *ℤ q +ℤ y *ℤ p) (p *ℤ q) → n ≡ x +ℤ y
sum_from n d x y p q positive lowest one two same =
    whole_from n d (x *ℤ q +ℤ y *ℤ p) p q positive lowest one two same
    ∙ (λ i. (ap (λ (z : ℤ). x *ℤ z) two ∙ times_one x) i +ℤ (ap (λ (z : ℤ). y *ℤ z) one ∙ times_one y) i)

pub difference_from : (n d x y p q : ℤ) → pos 0 <ℤ d → IsLowest n d → p ≡ pos 1 → q ≡ pos 1 → IsSameFraction n d (x *ℤ q -ℤ y *ℤ p) (p *ℤ q) → n ≡ x -ℤ y
difference_from n d x y p q positive lowest one two same =
    whole_from n d (x *ℤ q -ℤ y *ℤ p) p q positive lowest one two same
    ∙ (λ i. (ap (λ (z : ℤ). x *ℤ z) two ∙ times_one x) i -ℤ (ap (λ (z : ℤ). y *ℤ z) one ∙ times_one y) i)

-- what the comparison says
pub equal_from_cmp : (a b : ℤ) (o : Ordering) → o ≡ int_cmp a b → ordering_index o ≡ 1 → a ≡ b
equal_from_cmp a b o is equal = grind (arith, ints)
