-- The lists of a case, and places along them.
use Rattle.std.proofs.Common.{◌≡◌, ℕ, ◌+◌, ◌<◌, ◌≤◌, false, List, [], length, get_or, map, sym, ap, ◌∙◌, subst, arith, None, ℤ, pos, negsuc, ◌+ℤ◌, ◌*ℤ◌, ◌≤ℤ◌}
use Rattle.std.specs.Prelude.{find, int_lt, ◌^◌, unsigned_abs}
use Rattle.std.specs.List.{All}
use Rattle.std.specs.List.Sorted.{IsStrictlyIncreasing}
use Rattle.std.proofs.lemmas.Int.{ints, to_z-of_z, fits_signed_from_abs, fits_signed_mul}
use Rattle.std.proofs.Common.{lit<}
use lib.Signed.{lt_z, mag}
use mir.Syntax.{w64, w128}
use mir.Val.{SFits, to_z, of_z}
use Rattle.std.proofs.lemmas.List.Kept.{AllPairs-from_increasing}
use Rattle.std.proofs.lemmas.List.Elements.{All-map, All-weaker}
use Rattle.patterns.specs.Book.{Offers, IsBook, offers_of, pattern_at}
use Rattle.patterns.specs.Allowed.{Lists, list_of, FitsBook}
use Rattle.patterns.proofs.SoundLemmas.{flat_within}
use Rattle.pair_prices.specs.Case.{CaseRecord}
use Rattle.pair_prices.specs.Top.{sealed_price}
use Rattle.leaf_bounds.specs.declared.leaf.Leaf.{Leaf}
use Rattle.leaf_bounds.specs.declared.number.PairValue.{PairValue}
use Rattle.leaf_bounds.specs.declared.pairs.Places.{Places}
use Rattle.leaf_bounds.specs.Row.{AreBelowBoth, ArePlacesOf}
use Rattle.leaf_bounds.specs.Listed.{IsSmall, pair_listed}
use Rattle.leaf_bounds.specs.Places.{AreBelow, ArePairValues, key_at}
use Rattle.leaf_bounds.specs.Shown.{numbers_of}
use Rattle.leaf_bounds.specs.Verdict.{pair_fails, pair_places}
use Rattle.leaf_bounds.proofs.VerdictLemmas.{none_found, at_most}

pub alpha_values : (l : Leaf) → ArePairValues l.alpha
alpha_values l = record { each = l.kept.alpha_each; ascends = l.kept.alpha_ascends }

pub beta_values : (l : Leaf) → ArePairValues l.beta
beta_values l = record { each = l.kept.beta_each; ascends = l.kept.beta_ascends }

pub below_weaker : (xs : List PairValue) (key more place : ℕ) → key ≤ more → AreBelow xs key place → AreBelow xs more place
below_weaker xs key more place l h = λ k x m e. let less = h k x m e in omega arith

pub offers_few : (book : Offers) (t : ℕ) → IsBook book → t < length book → length (offers_of book t) ≤ 4096
offers_few book t h l = h.counts t [] l

-- each number of a train's list is one of its offers
pub number_there : (lists : Lists) (book : Offers) (t k : ℕ) (xs : List ℕ) → FitsBook lists book → t < length book → xs ≡ list_of lists t → k < length xs
    → get_or xs k 0 < length (offers_of book t)
number_there lists book t k xs h l e m =
    (subst (λ (ns : List ℕ). All (λ n. n < length (offers_of book t)) ns) (sym e) (h.there t (omega (arith, h.trains)))) k 0 m

-- and below all later ones
pub number_less : (lists : Lists) (book : Offers) (t i j : ℕ) (xs : List ℕ) → FitsBook lists book → t < length book → xs ≡ list_of lists t
    → i < j → j < length xs → get_or xs i 0 < get_or xs j 0
number_less lists book t i j xs h l e m n =
    AllPairs-from_increasing xs (subst IsStrictlyIncreasing (sym e) (h.ascending t (omega (arith, h.trains)))) i j 0 m n

-- for all places from k on
abbrev pub AreBelowRest : List PairValue → ℕ → ℕ → List ℕ → ℕ → ℕ → Type 0
AreBelowRest values f s xs k place = (m : ℕ) → k ≤ m → m < length xs → AreBelow values (key_at f s (get_or xs m 0)) place

pub rest_at_first : (values : List PairValue) (f s : ℕ) (xs : List ℕ) (place : ℕ) → AreBelow values (key_at f s 0) place → AreBelowRest values f s xs 0 place
rest_at_first values f s xs place h = λ m l n. below_weaker values (key_at f s 0) (key_at f s (get_or xs m 0)) place (omega arith) h

pub rest_more : (lists : Lists) (book : Offers) (t : ℕ) (values : List PairValue) (f s : ℕ) (xs : List ℕ) (k place : ℕ) → FitsBook lists book
    → t < length book → xs ≡ list_of lists t → AreBelow values (key_at f s (get_or xs k 0)) place → AreBelowRest values f s xs (k + 1) place
rest_more lists book t values f s xs k place h l e b = λ m i n.
    let less = number_less lists book t k m xs h l e (omega arith) n in
    below_weaker values (key_at f s (get_or xs k 0)) (key_at f s (get_or xs m 0)) place (omega (arith, less)) b

-- a price at a scale above 0
pub price_least : (q : ℤ) (n : ℕ) → pos 1 ≤ℤ q → pos 0 ≤ℤ (q *ℤ pos n)
price_least (pos k) n h = omega (arith, ints)
price_least (negsuc k) n h = absurd (omega (arith, ints, h))

pub not_over : (a b : ℤ) → pos 0 ≤ℤ a → b ≤ℤ pos 0 → int_lt a b ≡ false
not_over a b h g = grind (arith, ints)

-- a pair for which nothing is listed
module _ (c : CaseRecord) (lists : Lists) (l : Leaf) (f s : ℕ) (h : FitsBook lists c.book) (b : IsBook c.book) (o : f < s) (m : s < length c.book)
    (alpha : (i : ℕ) → i < 4096 → pair_listed l.alpha (record { first = f; second = s }) i ≡ pos 0)
    (beta : (i : ℕ) → i < 4096 → pair_listed l.beta (record { first = f; second = s }) i ≡ pos 0) where
  passes : (i j : ℕ) → i < length (offers_of c.book f) → j < length (offers_of c.book s)
      → pair_fails c (numbers_of l) (record { first = f; second = s; i = i; j = j }) ≡ false
  passes i j p q =
      let few = offers_few c.book f b (omega arith) in
      let few_2 = offers_few c.book s b m in
      let a = alpha i (omega (arith, few)) in
      let d = beta j (omega (arith, few_2)) in
      not_over _ _ (price_least l.q (sealed_price c (pattern_at c.book f i) (pattern_at c.book s j)) l.kept.q_least) (omega (arith, ints, a, d))

  pub none_fails : None ≡ find (pair_fails c (numbers_of l)) (pair_places lists (record { first = f; second = s }))
  none_fails =
      sym (none_found (pair_fails c (numbers_of l)) (pair_places lists (record { first = f; second = s }))
      (flat_within (λ x. pair_fails c (numbers_of l) x ≡ false) (λ i. i < length (offers_of c.book f))
      (λ i. map (λ j. record { first = f; second = s; i = i; j = j }) (list_of lists s)) (list_of lists f)
      (h.there f (omega (arith, h.trains)))
      (λ i p. All-map (λ x. pair_fails c (numbers_of l) x ≡ false) (λ j. record { first = f; second = s; i = i; j = j }) (list_of lists s)
      (All-weaker (λ j. j < length (offers_of c.book s)) (λ j. pair_fails c (numbers_of l) (record { first = f; second = s; i = i; j = j }) ≡ false)
      (λ j q. passes i j p q) (list_of lists s) (h.there s (omega (arith, h.trains)))))))

size_most : (s : ℤ) → unsigned_abs s ≤ mag s + 1
size_most (pos n) = omega arith
size_most (negsuc n) = omega arith

-- a price at the leaf's scale
module _ (q s : ℤ) (least : pos 1 ≤ℤ q) (most : q ≤ℤ pos (10 ^ 18)) (f : SFits w64 s) where
  scale_fits : SFits w128 q
  scale_fits = fits_signed_from_abs w128 q (omega (arith, ints))

  price_fits_wide : SFits w128 s
  price_fits_wide = record { sfits = let g = f.sfits in omega (arith, g) }

  pub price_fits : SFits w128 (to_z w128 (of_z w128 q) *ℤ to_z w128 (of_z w128 (to_z w64 (of_z w64 s))))
  price_fits =
      let a = scale_fits in
      let b = price_fits_wide in
      let m : unsigned_abs q ≤ 10 ^ 18 = omega (arith, ints) in
      let n : unsigned_abs s ≤ 2 ^ 63 = let g = f.sfits in let same = size_most s in omega (arith, g, same) in
      simp to_z-of_z (fits_signed_mul w128 q s (10 ^ 18) (2 ^ 63) m n (lit< tt))

  pub price_is : (n : ℕ) → s ≡ pos n
      → to_z w128 (of_z w128 (to_z w128 (of_z w128 q) *ℤ to_z w128 (of_z w128 (to_z w64 (of_z w64 s))))) ≡ q *ℤ pos n
  price_is n e =
      let a = scale_fits in
      let b = price_fits_wide in
      let d : SFits w128 (q *ℤ s) = simp to_z-of_z at price_fits in
      simp to_z-of_z (ap (λ (z : ℤ). q *ℤ z) e)

-- the test of a pair
module _ (a b p la lb sc : ℤ) (fa : IsSmall a) (fb : IsSmall b) (ea : a ≡ la) (eb : b ≡ lb) where
  alpha_fits : SFits w128 a
  alpha_fits = fits_signed_from_abs w128 a (omega (arith, fa))

  beta_fits : SFits w128 b
  beta_fits = fits_signed_from_abs w128 b (omega (arith, fb))

  worth_fits : SFits w128 (a +ℤ b)
  worth_fits = fits_signed_from_abs w128 (a +ℤ b) (omega (arith, ints, fa, fb))

  pub over_is : SFits w128 p → p ≡ sc
      → lt_z (to_z w128 (of_z w128 p)) (to_z w128 (of_z w128 (to_z w128 (of_z w128 a) +ℤ to_z w128 (of_z w128 b)))) ≡ int_lt sc (la +ℤ lb)
  over_is f e =
      let g = alpha_fits in
      let h = beta_fits in
      let k = worth_fits in
      simp to_z-of_z (λ i. int_lt (e i) (ea i +ℤ eb i))

  pub not_over_is : pos 0 ≤ℤ sc → lt_z (pos 0) (to_z w128 (of_z w128 (to_z w128 (of_z w128 a) +ℤ to_z w128 (of_z w128 b)))) ≡ false
      → lt_z (pos 0) (to_z w128 (of_z w128 (to_z w128 (of_z w128 a) +ℤ to_z w128 (of_z w128 b)))) ≡ int_lt sc (la +ℤ lb)
  not_over_is s t =
      let g = alpha_fits in
      let h = beta_fits in
      let k = worth_fits in
      let u : lt_z (pos 0) (a +ℤ b) ≡ false = simp to_z-of_z at t in
      let most : (a +ℤ b) ≤ℤ pos 0 = at_most (a +ℤ b) (pos 0) u in
      t ∙ sym (not_over sc (la +ℤ lb) s (omega (arith, ints, most, ea, eb)))

-- both lists at once
pub both_weaker : (l : Leaf) (key more : ℕ) (at : Places) → key ≤ more → AreBelowBoth l key at → AreBelowBoth l more at
both_weaker l key more at h b = record {
  alpha = below_weaker l.alpha key more at.alpha h b.alpha;
  beta = below_weaker l.beta key more at.beta h b.beta;
}

pub both_after : (l : Leaf) (key more : ℕ) (at : Places) → key ≤ more → ArePlacesOf l key at → AreBelowBoth l more at
both_after l key more at h p = record {
  alpha = below_weaker l.alpha key more at.alpha h p.alpha.below;
  beta = below_weaker l.beta key more at.beta h p.beta.below;
}

pub both_at_first : (l : Leaf) (key : ℕ) → AreBelowBoth l key (record { alpha = 0; beta = 0 })
both_at_first l key = record { alpha = λ k x m e. absurd (omega arith); beta = λ k x m e. absurd (omega arith) }
