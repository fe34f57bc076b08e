-- What a search among ascending weights finds.
use Rattle.std.proofs.Common.{◌≡◌, ◌≢◌, ℕ, zero, suc, ◌+◌, ◌-◌, ◌<◌, ◌≤◌, arith, refl, sym, ap, subst, List, [], ◌∷◌, length, get_or, Result, Ok, Err, ℤ, pos, ◌==◌, if◌then◌else◌}
use Rattle.std.specs.List.Sorted.{IsSearchInRange, IsBinarySearchResult, IsNonDecreasingBy}
use Rattle.std.specs.Ordering.{nat_cmp, ordering_index}
use Rattle.std.specs.Prelude.{MatchResult}
use Rattle.std.proofs.lemmas.Cmp.{ranked}
use Rattle.std.proofs.lemmas.Bool.Decides.{nat_tests}
use Rattle.exact_lp.specs.declared.point.ColumnWeight.{ColumnWeight}
use Rattle.exact_lp.specs.Columns.{AreAscendingWeights}
use Rattle.station_rows.specs.Points.{weight_at}

-- the columns ascend over any distance
far : (weights : List ColumnWeight) → AreAscendingWeights weights → (i n : ℕ) (d : ColumnWeight) → i + suc n < length weights → (get_or weights i d).column < (get_or weights (i + suc n) d).column
far weights up i zero d h = up i d h
far weights up i (suc n) d h =
    let before = far weights up i n d (omega arith) in
    let next = up (i + suc n) d (omega arith) in
    let same : (get_or weights (i + suc n + 1) d).column ≡ (get_or weights (i + suc (suc n)) d).column = ap (λ (m : ℕ). (get_or weights m d).column) (omega arith) in
    omega arith

pub rises : (weights : List ColumnWeight) → AreAscendingWeights weights → (i j : ℕ) (d : ColumnWeight) → i < j → j < length weights → (get_or weights i d).column < (get_or weights j d).column
rises weights up i j d before inside =
    let e : i + suc (j - i - 1) ≡ j = omega arith in
    subst (λ (m : ℕ). (get_or weights i d).column < (get_or weights m d).column) e (far weights up i (j - i - 1) d (omega arith))

passed : (a n : ℕ) (v r s : ℤ) → a ≢ n → r ≡ s → (if a == n then v else r) ≡ s
passed a n v r s ne e = grind (arith, nat_tests)

taken : (a n : ℕ) (v r : ℤ) → a ≡ n → (if a == n then v else r) ≡ v
taken a n v r e = grind (arith, nat_tests)

pub weight_absent : (weights : List ColumnWeight) (n : ℕ) → ((k : ℕ) (d : ColumnWeight) → k < length weights → (get_or weights k d).column ≢ n) → weight_at weights n ≡ pos 0
weight_absent [] n h = refl
weight_absent (w ∷ weights) n h = passed w.column n w.weight (weight_at weights n) (pos 0) (h 0 w (omega arith)) (weight_absent weights n (λ k d l. h (suc k) d (omega arith)))

pub tail_rises : (w : ColumnWeight) (weights : List ColumnWeight) → AreAscendingWeights (w ∷ weights) → AreAscendingWeights weights
tail_rises w weights up k d l =
    let next : suc k + 1 ≡ suc (k + 1) = omega arith in
    subst (λ (m : ℕ). (get_or weights k d).column < (get_or (w ∷ weights) m d).column) next (up (suc k) d (omega arith))

weight_found : (weights : List ColumnWeight) (i n : ℕ) (d : ColumnWeight) → AreAscendingWeights weights → i < length weights → (get_or weights i d).column ≡ n → weight_at weights n ≡ (get_or weights i d).weight
weight_found [] i n d up h e = absurd (omega arith)
weight_found (w ∷ weights) zero n d up h e = taken w.column n w.weight (weight_at weights n) e
weight_found (w ∷ weights) (suc i) n d up h e =
    let before = rises (w ∷ weights) up 0 (suc i) d (omega arith) h in
    passed w.column n w.weight (weight_at weights n) (get_or weights i d).weight (omega arith)
    (weight_found weights i n d (tail_rises w weights up) (omega arith) e)

module _ (weights : List ColumnWeight) (up : AreAscendingWeights weights) (n : ℕ) where
  -- the comparisons with n rise along the weights, as a binary search asks
  comparisons_rise : IsNonDecreasingBy (λ (w : ColumnWeight). ordering_index (nat_cmp w.column n)) weights
  comparisons_rise i j d le inside = higher (get_or weights i d).column (get_or weights j d).column (not_below i j d le inside)
    where
      higher : (a b : ℕ) → a ≤ b → ordering_index (nat_cmp a n) ≤ ordering_index (nat_cmp b n)
      higher a b le = grind (arith, nat_tests)

      not_below : (i j : ℕ) (d : ColumnWeight) → i ≤ j → j < length weights → (get_or weights i d).column ≤ (get_or weights j d).column
      not_below i j d le inside = grind (arith, λ (l : i < j). rises weights up i j d l inside, λ (e : i ≡ j). ap (λ (m : ℕ). (get_or weights m d).column) e)

  pub weight_searched : (r : Result ℕ ℕ) → IsSearchInRange r (length weights) → IsBinarySearchResult (λ (w : ColumnWeight). nat_cmp w.column n) weights r
      → MatchResult r (λ i. (d : ColumnWeight) → weight_at weights n ≡ (get_or weights i d).weight) (λ i. weight_at weights n ≡ pos 0)
  weight_searched (Ok at) inside equal = λ d. weight_found weights at n d up inside (ranked _ n _ (sym (equal d)))
  weight_searched (Err at) inside parted = weight_absent weights n (λ k d l. elsewhere k d l)
    where
      elsewhere : (k : ℕ) (d : ColumnWeight) → k < length weights → (get_or weights k d).column ≢ n
      elsewhere k d l = grind (arith, λ (b : k < at). below k d b, λ (b : at ≤ k). above k d b l)
        where
          below : (k : ℕ) (d : ColumnWeight) → k < at → (get_or weights k d).column < n
          below k d b = ranked _ n _ (sym ((parted comparisons_rise).0 k d (omega arith) b))

          above : (k : ℕ) (d : ColumnWeight) → at ≤ k → k < length weights → n < (get_or weights k d).column
          above k d b l = ranked _ n _ (sym ((parted comparisons_rise).1 k d b l))
