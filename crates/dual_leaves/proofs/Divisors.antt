-- Common divisors by fractions in lowest terms.
use Rattle.std.proofs.Common.{◌≡◌, ℕ, zero, suc, ◌*◌, ◌/◌, ◌<◌, List, ◌∷◌, sym, ap, ◌∙◌, subst, arith, ℤ, pos, ◌*ℤ◌, ◌<ℤ◌, unsigned_abs, int_div}
use Rattle.std.specs.Int.{IsGcd, ◌∣◌}
use Rattle.std.specs.List.{All}
use Rattle.std.proofs.lemmas.Int.{unsigned_abs-mul}
use Rattle.std.proofs.lemmas.List.Elements.{All-cons}
use Rattle.std.proofs.lemmas.Nat.Gcd.{dvd_trans, IsGcd-swap}
use Rattle.std.proofs.Math.Nat.{div-mul_cancel, dvd-mul_left, dvd-mul_right, eq_of_mul-eq-mul_right, mul_assoc, zero-mul}
use Rattle.ratio.specs.Fraction.{IsLowest, IsSameFraction}
use Rattle.ratio.proofs.Coprime.{dvd_of_coprime}
use Rattle.ratio.proofs.Signed.{div_positive, exact_div, size_of_positive, unsigned_abs-div}
use Rattle.dual_leaves.specs.Divided.{DivideAll, Divides}

positive_part : (q g : ℕ) → 0 < q * g → 0 < q
positive_part zero g h = absurd (omega (arith, zero-mul g))
positive_part (suc q) g h = omega arith

-- where N / D is O / P in lowest terms, P / D divides P and O
record AreParts (P O D : ℕ) : Type 0 where
  whole : D ∣ P
  first : P / D ∣ P
  second : P / D ∣ O

parts : (P O N D : ℕ) → 0 < D → N * P ≡ O * D → IsGcd N D 1 → AreParts P O D
parts P O N D some e lowest =
    let whole : D ∣ P = dvd_of_coprime D N P (IsGcd-swap N D 1 lowest) (subst (λ (x : ℕ). D ∣ x) (sym e) (dvd-mul_left D O)) in
    let back : P / D * D ≡ P = div-mul_cancel D whole in
    let times : O * D ≡ N * (P / D) * D = sym e ∙ ap (λ (x : ℕ). N * x) (sym back) ∙ sym (mul_assoc N (P / D) D) in
    let other : O ≡ N * (P / D) = eq_of_mul-eq-mul_right D some O (N * (P / D)) times in
    record {
      whole = whole;
      first = subst (λ (x : ℕ). P / D ∣ x) back (dvd-mul_right (P / D) D);
      second = subst (λ (x : ℕ). P / D ∣ x) (sym other) (dvd-mul_left (P / D) N);
    }

-- what the quotient by the denominator divides
pub record IsDivisor (p o r : ℤ) : Type 0 where
  pub positive : pos 0 <ℤ r
  pub first : Divides r p
  pub second : Divides r o

pub gcd_is : (p o num den r : ℤ) → pos 0 <ℤ p → pos 0 <ℤ den → IsSameFraction num den o p → IsLowest num den → r ≡ int_div p den → IsDivisor p o r
gcd_is p o num den r above below same lowest is =
    let size = size_of_positive den below in
    let sizes : unsigned_abs num * unsigned_abs p ≡ unsigned_abs o * unsigned_abs den = sym (unsigned_abs-mul num p) ∙ ap unsigned_abs same ∙ unsigned_abs-mul o den in
    let found = parts (unsigned_abs p) (unsigned_abs o) (unsigned_abs num) (unsigned_abs den) size.1 sizes lowest in
    let r_is : r ≡ int_div p (pos (unsigned_abs den)) = is ∙ ap (λ (z : ℤ). int_div p z) size.0 in
    let r_size : unsigned_abs r ≡ unsigned_abs p / unsigned_abs den = ap unsigned_abs r_is ∙ unsigned_abs-div p (unsigned_abs den) in
    record {
      positive = subst (λ (z : ℤ). pos 0 <ℤ z) (sym r_is) (div_positive p (unsigned_abs den) above size.1 found.whole);
      first = subst (λ (n : ℕ). n ∣ unsigned_abs p) (sym r_size) found.first;
      second = subst (λ (n : ℕ). n ∣ unsigned_abs o) (sym r_size) found.second;
    }

-- the next of some numbers is divided too
pub each_more : (d : ℕ) (before after z : ℤ) (rest all : List ℤ) → ((d : ℕ) → d ∣ unsigned_abs before → All (λ y. d ∣ unsigned_abs y) (z ∷ rest) → All (λ y. d ∣ unsigned_abs y) all)
    → Divides after before → Divides after z → d ∣ unsigned_abs after → All (λ y. d ∣ unsigned_abs y) rest → All (λ y. d ∣ unsigned_abs y) all
each_more d before after z rest all h first second p rest_all =
    h d (dvd_trans d p first) (All-cons (λ y. d ∣ unsigned_abs y) z rest (dvd_trans d p second) rest_all)

-- what divides a common divisor divides the numbers too
pub divide_all : (d e : ℤ) (zs : List ℤ) → Divides d e → DivideAll e zs → DivideAll d zs
divide_all d e zs h all = λ k z m. dvd_trans (unsigned_abs d) h (all k z m)

-- a whole quotient of positive numbers
pub record IsQuotient (number divisor q : ℤ) : Type 0 where
  pub size : divisor ≡ pos (unsigned_abs divisor)
  pub some : 0 < unsigned_abs divisor
  pub parts : q *ℤ divisor ≡ number
  pub positive : pos 0 <ℤ q

pub quotient_is : (number divisor q : ℤ) → pos 0 <ℤ number → pos 0 <ℤ divisor → Divides divisor number → q ≡ int_div number divisor → IsQuotient number divisor q
quotient_is number divisor q above below whole is =
    let size = size_of_positive divisor below in
    let by_size : q ≡ int_div number (pos (unsigned_abs divisor)) = is ∙ ap (λ (z : ℤ). int_div number z) size.0 in
    record {
      size = size.0;
      some = size.1;
      parts = (λ i. by_size i *ℤ size.0 i) ∙ exact_div number (unsigned_abs divisor) whole;
      positive = subst (λ (z : ℤ). pos 0 <ℤ z) (sym by_size) (div_positive number (unsigned_abs divisor) above size.1 whole);
    }
