-- Numbers divided by a common divisor: their sums, and their order.
use Rattle.std.proofs.Common.{◌≡◌, ◌≢◌, ℕ, Bool, true, false, cond, List, [], ◌∷◌, ◌++◌, Ordering, refl, sym, ap, ◌∙◌, append_assoc, arith, ℤ, pos, ◌+ℤ◌, ◌*ℤ◌, ◌<ℤ◌, int_div}
use Rattle.std.specs.List.{All, AllByRecursion}
use Rattle.std.specs.List.Sorted.{IsStrictlySortedBy}
use Rattle.std.specs.Map.{keys_of, values_of}
use Rattle.std.specs.Ordering.{int_eq}
use Rattle.std.specs.declared.cmp.Ordering.TheVariants.{Less}
use Rattle.std.proofs.lemmas.Int.{ints}
use Rattle.std.proofs.lemmas.Bool.Decides.{Decides-int_eq}
use Rattle.std.proofs.lemmas.List.Elements.{All-head, All-tail}
use Rattle.std.proofs.lemmas.Map.Keys.{sorted_head, sorted_tail}
use Rattle.station.proofs.Lists.{Every, Rising, every-append, rising-append}
use Rattle.leaf_bounds.specs.Total.{only_if, total}
use Rattle.leaf_bounds.proofs.Totals.{total-append}
use Rattle.leaf_bounds.proofs.RisingLemmas.{Before}
use Rattle.ratio.proofs.Ring.{add-mul_ℤ}
use Rattle.ratio.proofs.Signed.{exact_div}
use Rattle.dual_leaves.specs.Divided.{DivideAll, Divides, listed, quotients}
use Rattle.dual_leaves.specs.Sums.{summed}

times_if : (b : Bool) (x y g : ℤ) → x *ℤ g ≡ y → only_if b x *ℤ g ≡ only_if b y
times_if true x y g e = e
times_if false x y g e = zero g
  where
    zero : (g : ℤ) → pos 0 *ℤ g ≡ pos 0
    zero g = omega (arith, ints)

zero_if : (b : Bool) (y : ℤ) (g : ℕ) → pos 0 *ℤ pos g ≡ y → pos 0 *ℤ pos g ≡ only_if b y
zero_if true y g e = e
zero_if false y g e = zero (pos g)
  where
    zero : (g : ℤ) → pos 0 *ℤ g ≡ pos 0
    zero g = omega (arith, ints)

module _ {K X : Type 0} (make : K → ℤ → X) (f : X → ℤ) (test : K → Bool) (adds : (k : K) (z : ℤ) → f (make k z) ≡ only_if (test k) z) (g : ℕ) where
  listed_sum : (k : K) (x y : ℤ) → x *ℤ pos g ≡ y → total f (listed make k x) *ℤ pos g ≡ only_if (test k) y
  listed_sum k x y e = by (int_eq x (pos 0)) refl
    where
      by : (b : Bool) → int_eq x (pos 0) ≡ b → total f (cond b [] (make k x ∷ [])) *ℤ pos g ≡ only_if (test k) y
      by true t = zero_if (test k) y g (ap (λ z. z *ℤ pos g) (sym ((Decides-int_eq x (pos 0)).0 t)) ∙ e)
      by false t = ap (λ z. z *ℤ pos g) (alone (f (make k x)) ∙ adds k x) ∙ times_if (test k) x y (pos g) e
        where
          alone : (z : ℤ) → z +ℤ pos 0 ≡ z
          alone z = omega (arith, ints)

  -- the sum of the quotients, times the divisor, is the sum
  pub quotients_sum : (es : List (K × ℤ)) → DivideAll (pos g) (values_of es) → total f (quotients make (pos g) es) *ℤ pos g ≡ summed test es
  quotients_sum [] h = zero (pos g)
    where
      zero : (g : ℤ) → pos 0 *ℤ g ≡ pos 0
      zero g = omega (arith, ints)
  quotients_sum (e ∷ es) h =
      let here = listed_sum e.0 (int_div e.1 (pos g)) e.1 (exact_div e.1 g (All-head (Divides (pos g)) e.1 (values_of es) h)) in
      let rest = quotients_sum es (All-tail (Divides (pos g)) e.1 (values_of es) h) in
      ap (λ z. z *ℤ pos g) (total-append f (listed make e.0 (int_div e.1 (pos g))) (quotients make (pos g) es))
      ∙ add-mul_ℤ (total f (listed make e.0 (int_div e.1 (pos g)))) (total f (quotients make (pos g) es)) (pos g)
      ∙ (λ i. here i +ℤ rest i)

-- what holds of each quotient that is listed
module _ {K X : Type 0} (make : K → ℤ → X) (Q : K → Type 0) (S : ℤ → Type 0) (P : X → Type 0) (holds : (k : K) (z : ℤ) → Q k → S z → z ≢ pos 0 → P (make k z)) where
  listed_every : (k : K) (z : ℤ) → Q k → S z → Every P (listed make k z)
  listed_every k z q s = by (int_eq z (pos 0)) refl
    where
      by : (b : Bool) → int_eq z (pos 0) ≡ b → Every P (cond b [] (make k z ∷ []))
      by true e = tt
      by false e = (holds k z q s (λ n. apart (sym (by_zero n) ∙ e)), tt)
        where
          by_zero : z ≡ pos 0 → int_eq z (pos 0) ≡ true
          by_zero n = ap (λ y. int_eq y (pos 0)) n

          apart : true ≡ false → ⊥
          apart e = cc

  pub quotients_every : (d : ℤ) (es : List (K × ℤ)) → All Q (keys_of es) → All (λ z. S (int_div z d)) (values_of es) → Every P (quotients make d es)
  quotients_every d [] q s = tt
  quotients_every d (e ∷ es) q s =
      every-append P (listed make e.0 (int_div e.1 d)) (quotients make d es)
      (listed_every e.0 (int_div e.1 d) (All-head Q e.0 (keys_of es) q) (All-head (λ z. S (int_div z d)) e.1 (values_of es) s))
      (quotients_every d es (All-tail Q e.0 (keys_of es) q) (All-tail (λ z. S (int_div z d)) e.1 (values_of es) s))

-- keys in order give entries in order
module _ {K X : Type 0} (make : K → ℤ → X) (R : K → K → Ordering) (key : X → ℤ) (Q : K → Type 0)
    (less : (a b : K) (y z : ℤ) → Q a → Q b → R a b ≡ Less → key (make a y) <ℤ key (make b z)) where
  behind_listed : (a b : K) (y z : ℤ) → Q a → Q b → R a b ≡ Less → Every (Before key (make a y)) (listed make b z)
  behind_listed a b y z p q e = by (int_eq z (pos 0))
    where
      by : (d : Bool) → Every (Before key (make a y)) (cond d [] (make b z ∷ []))
      by true = tt
      by false = (less a b y z p q e, tt)

  behind : (a : K) (y : ℤ) (d : ℤ) (es : List (K × ℤ)) → Q a → All Q (keys_of es) → AllByRecursion (λ b. R a b ≡ Less) (keys_of es)
      → Every (Before key (make a y)) (quotients make d es)
  behind a y d [] p q h = tt
  behind a y d (e ∷ es) p q h =
      every-append (Before key (make a y)) (listed make e.0 (int_div e.1 d)) (quotients make d es)
      (behind_listed a e.0 y (int_div e.1 d) p (All-head Q e.0 (keys_of es) q) h.0) (behind a y d es p (All-tail Q e.0 (keys_of es) q) h.1)

  pub quotients_rise : (d : ℤ) (es : List (K × ℤ)) → IsStrictlySortedBy R (keys_of es) → All Q (keys_of es) → Rising (Before key) (quotients make d es)
  quotients_rise d [] up q = tt
  quotients_rise d (e ∷ es) up q =
      rising-append (Before key) (listed make e.0 (int_div e.1 d)) (quotients make d es)
      (alone (int_eq (int_div e.1 d) (pos 0))) (quotients_rise d es (sorted_tail R e.0 (keys_of es) up) (All-tail Q e.0 (keys_of es) q))
      (across (int_eq (int_div e.1 d) (pos 0)))
    where
      alone : (b : Bool) → Rising (Before key) (cond b [] (make e.0 (int_div e.1 d) ∷ []))
      alone true = tt
      alone false = (tt, tt)

      across : (b : Bool) → Every (λ x. Every (Before key x) (quotients make d es)) (cond b [] (make e.0 (int_div e.1 d) ∷ []))
      across true = tt
      across false =
          (behind e.0 (int_div e.1 d) d es (All-head Q e.0 (keys_of es) q) (All-tail Q e.0 (keys_of es) q) (sorted_head R e.0 (keys_of es) up), tt)

-- one key more
pub quotients_more : {K X : Type 0} (make : K → ℤ → X) (d : ℤ) (k : K) (z : ℤ) (left rest : List (K × ℤ)) (before after all : List X) → left ≡ (k, z) ∷ rest
    → after ≡ before ++ listed make k (int_div z d) → before ++ quotients make d left ≡ all → after ++ quotients make d rest ≡ all
quotients_more make d k z left rest before after all e f h =
    ap (λ xs. xs ++ quotients make d rest) f ∙ append_assoc before (listed make k (int_div z d)) (quotients make d rest)
    ∙ ap (λ es. before ++ quotients make d es) (sym e) ∙ h
