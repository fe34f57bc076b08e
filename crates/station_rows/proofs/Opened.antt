-- The opening rows with the columns of leaving trains out.
use Rattle.std.proofs.Common.{◌≡◌, ℕ, suc, ◌+◌, ◌<◌, ◌≤◌, Bool, false, List, [], ◌∷◌, ◌++◌, length, get_or, refl, sym, ap, ◌∙◌, subst, arith, ℤ, pos, neg_ℤ, ◌*ℤ◌, ◌≤ℤ◌, below_more}
use Rattle.std.specs.Prelude.{MatchBool, slice_index}
use Rattle.std.specs.List.{range_with_len}
use Rattle.std.proofs.lemmas.Int.{ints}
use Rattle.std.proofs.lemmas.Bool.{eq-eqb, ne_eqb}
use Rattle.std.proofs.lemmas.List.{get_or_append_left, get_or_push}
use Rattle.station.specs.Allowed.{numbers}
use Rattle.ratio.proofs.Ring.{mul_comm_ℤ}
use Rattle.exact_lp.specs.declared.row.Row.{Row}
use Rattle.exact_lp.specs.declared.row.RowCell.{RowCell}
use Rattle.exact_lp.specs.Columns.{value_at}
use Rattle.exact_lp.specs.Sources.{IsOpening, OpeningMeets, opening_sum}
use Rattle.pair_prices.specs.Case.{CaseRecord}
use Rattle.pair_prices.specs.Fraction.{left_out}
use Rattle.leaf_bounds.specs.Total.{only_if, total}
use Rattle.leaf_bounds.proofs.Totals.{total_none}
use Rattle.pair_cuts.proofs.Limits.{cost_of_left_row}
use Rattle.pattern_pricing.specs.declared.column.Column.{Column}
use Rattle.pattern_pricing.specs.declared.column.Column.TheVariants.{LeftOut}
use Rattle.pattern_pricing.specs.Layout.{LayoutRecord}
use Rattle.station_rows.specs.Rows.{AreLeftColumns, AreTrainRows, IsRow, StandsIn, use_stands, clique_stands, pair_stands, use_value, clique_value, pair_row_value}
use Rattle.station_rows.proofs.Spread.{one-mul_ℤ}
use Rattle.station_rows.proofs.RowSums.{two_at}

-- one more of a list that is known place by place
pub each_more : {X : Type 0} (P : ℕ → X → Type 0) (xs : List X) (x : X) (k : ℕ) → length xs ≡ k → ((i : ℕ) (d : X) → i < k → P i (get_or xs i d)) → P k x
    → (i : ℕ) (d : X) → i < k + 1 → P i (get_or (xs ++ x ∷ []) i d)
each_more P xs x k long before here i d =
    below_more (λ j. P j (get_or (xs ++ x ∷ []) j d)) k
    (λ j h. subst (P j) (sym (get_or_append_left xs (x ∷ []) d j (omega (arith, long, h)))) (before j d h))
    (subst (P k) (sym (get_or_push xs x d k long)) here) i

sum_is : (cells : List RowCell) (rows : List Row) (columns : List ℕ) (g : ℕ → ℤ) (a : ℕ) → length columns ≡ length rows
    → ((k : ℕ) (d : Row) → k < length rows → value_at cells (slice_index columns k) *ℤ (get_or rows k d).least ≡ g (a + k))
    → opening_sum cells rows columns ≡ total g (range_with_len a (length rows))
sum_is cells [] columns g a long h = refl
sum_is cells (row ∷ rows) [] g a long h = absurd (omega (arith, long))
sum_is cells (row ∷ rows) (column ∷ columns) g a long h =
    let here : value_at cells column *ℤ row.least ≡ g a = h 0 row (omega arith) ∙ ap g (plain a) in
    let rest = sum_is cells rows columns g (a + 1) (omega (arith, long)) (λ k d i. h (suc k) d (omega (arith, i)) ∙ ap g (next a k)) in
    omega (arith, ints, here, rest)
  where
    plain : (n : ℕ) → n + 0 ≡ n
    plain n = omega arith

    next : (n i : ℕ) → n + suc i ≡ n + 1 + i
    next n i = omega arith

module _ (l : LayoutRecord) (rows : List Row) (columns : List ℕ) (are : AreTrainRows l rows) (lefts : AreLeftColumns l columns) where
  inside : (k : ℕ) → k < length rows → k < length l.lists
  inside k h = let long = are.trains in omega (arith, long, h)

  pub opening_is : IsOpening rows columns
  opening_is = record {
    one_each = lefts.trains ∙ sym are.trains;
    equal = λ k d h. (are.each k d (inside k h)).equal_is;
    leasts = λ k d h. let is = (are.each k d (inside k h)).least_is in omega (arith, ints, is);
    own = λ k d h.
        (are.each k d (inside k h)).values (slice_index columns k) (LeftOut k) (lefts.each k (inside k h))
        ∙ ap (λ b. only_if b (pos 1)) (eq-eqb k k refl);
    alone = λ j k d h i ne.
        (are.each j d (inside j h)).values (slice_index columns k) (LeftOut k) (lefts.each k (inside k i))
        ∙ ap (λ b. only_if b (pos 1)) (ne_eqb j k ne);
  }

  -- what the opening point gives a row
  row_at_opening : (value : Column → ℤ) (row : Row) (least : ℤ) → IsRow l value least false row
      → opening_sum row.cells rows columns ≡ total (λ k. value (LeftOut k)) (numbers (length l.lists))
  row_at_opening value row least is =
      sum_is row.cells rows columns (λ k. value (LeftOut k)) 0 (lefts.trains ∙ sym are.trains)
      (λ k d h.
      ap (λ (z : ℤ). z *ℤ (get_or rows k d).least) (is.values (slice_index columns k) (LeftOut k) (lefts.each k (inside k h)))
      ∙ ap (λ (z : ℤ). value (LeftOut k) *ℤ z) ((are.each k d (inside k h)).least_is)
      ∙ mul_comm_ℤ (value (LeftOut k)) (pos 1) ∙ one-mul_ℤ (value (LeftOut k)) ∙ ap (λ n. value (LeftOut n)) (plain k))
      ∙ ap (λ n. total (λ k. value (LeftOut k)) (numbers n)) are.trains
    where
      plain : (n : ℕ) → n ≡ 0 + n
      plain n = omega arith

  met : (value : Column → ℤ) (row : Row) (least : ℤ) → IsRow l value least false row → least ≤ℤ total (λ k. value (LeftOut k)) (numbers (length l.lists))
      → OpeningMeets rows columns row
  met value row least is h =
      let P : Bool → Type 0 = λ b. MatchBool b (opening_sum row.cells rows columns ≡ row.least) (row.least ≤ℤ opening_sum row.cells rows columns) in
      let sum = row_at_opening value row least is in
      let same = is.least_is in
      let all : row.least ≤ℤ opening_sum row.cells rows columns = omega (arith, ints, sum, same, h) in
      subst P (sym is.equal_is) all

  pub opening_meets : (c : CaseRecord) (row : Row) → StandsIn c l row → OpeningMeets rows columns row
  opening_meets c row (use_stands p h is) =
      met (use_value p) row (neg_ℤ (pos 1)) is (let none = total_none (numbers (length l.lists)) in omega (arith, ints, none))
  opening_meets c row (clique_stands p m h is) =
      met (clique_value c l.lists p m) row (pos 0) is (let none = total_none (numbers (length l.lists)) in omega (arith, ints, none))
  opening_meets c row (pair_stands cut h n cut_is is) =
      let below : cut.first < length l.lists = omega (arith, h, n) in
      let sum = two_at (λ k. cut.alpha_left) (λ k. cut.beta_left) cut.first cut.second (length l.lists) below n in
      let i = left_out l.lists cut.first in
      let j = left_out l.lists cut.second in
      let most = cut_is.holds i j (omega arith) (omega arith) in
      let alpha = get_or_push cut.alpha cut.alpha_left (pos 0) i cut_is.alpha in
      let beta = get_or_push cut.beta cut.beta_left (pos 0) j cut_is.beta in
      let free = ap (λ (k : ℕ). pos k) (cost_of_left_row c l.lists cut.first cut.second i j (omega arith)) in
      met (pair_row_value cut) row (pos 0) is (omega (arith, ints, sum, most, alpha, beta, free))
