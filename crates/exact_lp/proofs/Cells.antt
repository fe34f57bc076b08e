-- What a search among ascending cells finds.
use Rattle.std.proofs.Common.{◌≡◌, ◌≢◌, ℕ, zero, suc, ◌+◌, ◌-◌, ◌<◌, ◌≤◌, arith, refl, sym, ap, subst, List, [], ◌∷◌, length, get_or, Result, Ok, Err, ℤ, pos, ◌==◌, if◌then◌else◌}
use Rattle.std.specs.List.Sorted.{IsSearchInRange, IsBinarySearchResult, IsNonDecreasingBy}
use Rattle.std.specs.Ordering.{nat_cmp, ordering_index}
use Rattle.std.specs.Prelude.{MatchResult}
use Rattle.std.proofs.lemmas.Cmp.{ranked}
use Rattle.std.proofs.lemmas.Bool.Decides.{nat_tests}
use Rattle.exact_lp.specs.declared.row.RowCell.{RowCell}
use Rattle.exact_lp.specs.Columns.{AreAscendingCells, value_at}

-- the columns ascend over any distance
far : (cells : List RowCell) → AreAscendingCells cells → (i n : ℕ) (d : RowCell) → i + suc n < length cells → (get_or cells i d).column < (get_or cells (i + suc n) d).column
far cells up i zero d h = up i d h
far cells up i (suc n) d h =
    let before = far cells up i n d (omega arith) in
    let next = up (i + suc n) d (omega arith) in
    let same : (get_or cells (i + suc n + 1) d).column ≡ (get_or cells (i + suc (suc n)) d).column = ap (λ (m : ℕ). (get_or cells m d).column) (omega arith) in
    omega arith

pub rises : (cells : List RowCell) → AreAscendingCells cells → (i j : ℕ) (d : RowCell) → i < j → j < length cells → (get_or cells i d).column < (get_or cells j d).column
rises cells up i j d before inside =
    let e : i + suc (j - i - 1) ≡ j = omega arith in
    subst (λ (m : ℕ). (get_or cells i d).column < (get_or cells m d).column) e (far cells up i (j - i - 1) d (omega arith))

passed : (a n : ℕ) (v r s : ℤ) → a ≢ n → r ≡ s → (if a == n then v else r) ≡ s
passed a n v r s ne e = grind (arith, nat_tests)

taken : (a n : ℕ) (v r : ℤ) → a ≡ n → (if a == n then v else r) ≡ v
taken a n v r e = grind (arith, nat_tests)

pub value_absent : (cells : List RowCell) (n : ℕ) → ((k : ℕ) (d : RowCell) → k < length cells → (get_or cells k d).column ≢ n) → value_at cells n ≡ pos 0
value_absent [] n h = refl
value_absent (cell ∷ cells) n h = passed cell.column n cell.value (value_at cells n) (pos 0) (h 0 cell (omega arith)) (value_absent cells n (λ k d l. h (suc k) d (omega arith)))

pub tail_rises : (cell : RowCell) (cells : List RowCell) → AreAscendingCells (cell ∷ cells) → AreAscendingCells cells
tail_rises cell cells up k d l =
    let next : suc k + 1 ≡ suc (k + 1) = omega arith in
    subst (λ (m : ℕ). (get_or cells k d).column < (get_or (cell ∷ cells) m d).column) next (up (suc k) d (omega arith))

value_found : (cells : List RowCell) (i n : ℕ) (d : RowCell) → AreAscendingCells cells → i < length cells → (get_or cells i d).column ≡ n → value_at cells n ≡ (get_or cells i d).value
value_found [] i n d up h e = absurd (omega arith)
value_found (cell ∷ cells) zero n d up h e = taken cell.column n cell.value (value_at cells n) e
value_found (cell ∷ cells) (suc i) n d up h e =
    let before = rises (cell ∷ cells) up 0 (suc i) d (omega arith) h in
    passed cell.column n cell.value (value_at cells n) (get_or cells i d).value (omega arith)
    (value_found cells i n d (tail_rises cell cells up) (omega arith) e)

module _ (cells : List RowCell) (up : AreAscendingCells cells) (n : ℕ) where
  -- the comparisons with n rise along the cells, as a binary search asks
  comparisons_rise : IsNonDecreasingBy (λ (cell : RowCell). ordering_index (nat_cmp cell.column n)) cells
  comparisons_rise i j d le inside = higher (get_or cells i d).column (get_or cells j d).column (not_below i j d le inside)
    where
      higher : (a b : ℕ) → a ≤ b → ordering_index (nat_cmp a n) ≤ ordering_index (nat_cmp b n)
      higher a b le = grind (arith, nat_tests)

      not_below : (i j : ℕ) (d : RowCell) → i ≤ j → j < length cells → (get_or cells i d).column ≤ (get_or cells j d).column
      not_below i j d le inside = grind (arith, λ (l : i < j). rises cells up i j d l inside, λ (e : i ≡ j). ap (λ (m : ℕ). (get_or cells m d).column) e)

  pub value_searched : (r : Result ℕ ℕ) → IsSearchInRange r (length cells) → IsBinarySearchResult (λ (cell : RowCell). nat_cmp cell.column n) cells r
      → MatchResult r (λ i. (d : RowCell) → value_at cells n ≡ (get_or cells i d).value) (λ i. value_at cells n ≡ pos 0)
  value_searched (Ok at) inside equal = λ d. value_found cells at n d up inside (ranked _ n _ (sym (equal d)))
  value_searched (Err at) inside parted = value_absent cells n (λ k d l. elsewhere k d l)
    where
      elsewhere : (k : ℕ) (d : RowCell) → k < length cells → (get_or cells k d).column ≢ n
      elsewhere k d l = grind (arith, λ (b : k < at). below k d b, λ (b : at ≤ k). above k d b l)
        where
          below : (k : ℕ) (d : RowCell) → k < at → (get_or cells k d).column < n
          below k d b = ranked _ n _ (sym ((parted comparisons_rise).0 k d (omega arith) b))

          above : (k : ℕ) (d : RowCell) → at ≤ k → k < length cells → n < (get_or cells k d).column
          above k d b l = ranked _ n _ (sym ((parted comparisons_rise).1 k d b l))
