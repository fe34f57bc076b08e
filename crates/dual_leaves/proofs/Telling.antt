-- How a row's columns tell what it holds to.
use Rattle.std.proofs.Common.{◌≡◌, ◌≢◌, ℕ, ◌+◌, ◌<◌, ◌==◌, ◌≤◌, ◌&&◌, Bool, true, false, List, length, get_or, Option, None, Some, refl, sym, ap, ◌∙◌, subst, arith, inl, inr, ◌⊎◌, ℤ, pos, neg_ℤ}
use Rattle.std.specs.Prelude.{slice_get}
use Rattle.std.proofs.lemmas.Bool.{cases_lt, eq-eqb}
use borrow.Author.Tests.{eqb-true}
use Rattle.exact_lp.specs.declared.row.Row.{Row}
use Rattle.exact_lp.specs.declared.row.RowCell.{RowCell}
use Rattle.exact_lp.specs.Columns.{value_at}
use Rattle.exact_lp.specs.Outcomes.{NamesBelow}
use Rattle.pair_prices.specs.Case.{CaseRecord}
use Rattle.pair_cuts.specs.Cut.{IsPairCut}
use Rattle.pattern_pricing.specs.declared.column.Column.{Column}
use Rattle.pattern_pricing.specs.declared.column.Column.TheVariants.{Weight, LeftOut, PlatformUse, PairValue}
use Rattle.pattern_pricing.specs.declared.column.PairAt.{PairAt}
use Rattle.pattern_pricing.specs.Layout.{LayoutRecord, IsColumn, columns_of}
use Rattle.pattern_pricing.specs.Positions.{position}
use Rattle.pattern_pricing.proofs.Places.{at_position, position_of}
use Rattle.leaf_bounds.specs.Total.{only_if}
use Rattle.station_rows.specs.Rows.{IsTrainRow, IsUseRow, IsCliqueRow, use_stands, clique_stands, pair_stands}
use Rattle.dual_leaves.specs.declared.kind.RowKind.{RowKind}
use Rattle.dual_leaves.specs.declared.kind.RowKind.TheVariants.{Train, Use, Clique, Pair}
use Rattle.dual_leaves.specs.Kinds.{IsKind, IsStationRow, cell_of, kind_at}
use Rattle.dual_leaves.proofs.Cells.{value_here, value_listed}
use Rattle.dual_leaves.proofs.Steps.{cell_is}

-- the columns at which a row has cells are there
pub below_of : (c : CaseRecord) (l : LayoutRecord) (row : Row) → IsStationRow c l row → NamesBelow (length (columns_of l)) row
below_of c l row (inl h) = h.2.below
below_of c l row (inr (use_stands p i h)) = h.below
below_of c l row (inr (clique_stands p m i h)) = h.below
below_of c l row (inr (pair_stands cut o s g h)) = h.below

same_some : {X : Type 0} (x y : X) → Some x ≡ Some y → x ≡ y
same_some x y e = cc

none_some : {X : Type 0} (x : X) → None ≡ Some x → ⊥
none_some x e = cc

-- two columns at one place are one
pub same_column : (l : LayoutRecord) (x y : Column) (n : ℕ) → slice_get (columns_of l) n ≡ Some x → IsColumn l y → n ≡ position l y → x ≡ y
same_column l x y n e there is = same_some x y (sym e ∙ ap (slice_get (columns_of l)) is ∙ at_position l y there)

-- no value tells nothing
nothing_at : (equal : Bool) (column : Column) → kind_at equal column (pos 0) ≡ None
nothing_at equal (Weight w) = refl
nothing_at true (LeftOut t) = refl
nothing_at false (LeftOut t) = refl
nothing_at equal (PlatformUse p) = refl
nothing_at equal (PairValue p) = refl

only_0 : (b : Bool) (z : ℤ) → (only_if b z ≡ pos 0) ⊎ (b ≡ true)
only_0 true z = inr refl
only_0 false z = inl refl

module _ (c : CaseRecord) (l : LayoutRecord) (row : Row) where
  abbrev Tells : Column → RowKind → Type 0
  Tells column kind = kind_at row.equal column (cell_of l row column) ≡ Some kind

  absent : (column : Column) (kind : RowKind) → Tells column kind → cell_of l row column ≡ pos 0 → IsKind c l row kind
  absent column kind e z =
      absurd (none_some kind (sym (nothing_at row.equal column) ∙ ap (kind_at row.equal column) (sym z) ∙ e))

  unequal : (t : ℕ) (kind : RowKind) → row.equal ≡ false → Tells (LeftOut t) kind → IsKind c l row kind
  unequal t kind f e = absurd (none_some kind (sym (ap (λ b. kind_at b (LeftOut t) (cell_of l row (LeftOut t))) f) ∙ e))

  -- the kind that this value tells
  tells : (equal : Bool) (column : Column) (value : ℤ) (told kind : RowKind) → row.equal ≡ equal → cell_of l row column ≡ value
      → kind_at equal column value ≡ Some told → Tells column kind → told ≡ kind
  tells equal column value told kind f z e h = same_some told kind (sym e ∙ (λ i. kind_at (sym f i) column (sym z i)) ∙ h)

  by_train : (t : ℕ) → t < length l.lists → IsTrainRow l t row → (column : Column) (kind : RowKind) → IsColumn l column → Tells column kind → IsKind c l row kind
  by_train t i h (Weight w) kind there e = absurd (none_some kind e)
  by_train t i h (LeftOut s) kind there e =
      by (only_0 (t == s) (pos 1)) (cell_is c l row (pos 0) _ _ _ h (LeftOut s) there)
    where
      by : (only_if (t == s) (pos 1) ≡ pos 0) ⊎ ((t == s) ≡ true) → cell_of l row (LeftOut s) ≡ only_if (t == s) (pos 1) → IsKind c l row kind
      by (inl z) cell = absent (LeftOut s) kind e (cell ∙ z)
      by (inr b) cell =
          let one = cell ∙ ap (λ d. only_if d (pos 1)) b in
          let P : ℕ → Type 0 = λ n. (n < length l.lists) × IsTrainRow l n row in
          subst (IsKind c l row) (tells true (LeftOut s) (pos 1) (Train s) kind h.equal_is one refl e) (subst P (eqb-true t s b) (i, h))
  by_train t i h (PlatformUse p) kind there e = absent (PlatformUse p) kind e (cell_is c l row (pos 0) _ _ _ h (PlatformUse p) there)
  by_train t i h (PairValue p) kind there e = absent (PairValue p) kind e (cell_is c l row (pos 0) _ _ _ h (PairValue p) there)

  by_use : (p : ℕ) → p < l.platforms → IsUseRow l p row → (column : Column) (kind : RowKind) → IsColumn l column → Tells column kind → IsKind c l row kind
  by_use p i h (Weight w) kind there e = absurd (none_some kind e)
  by_use p i h (LeftOut s) kind there e = unequal s kind h.equal_is e
  by_use p i h (PlatformUse q) kind there e =
      by (only_0 (p == q) (neg_ℤ (pos 1))) (cell_is c l row (pos 0) _ _ _ h (PlatformUse q) there)
    where
      by : (only_if (p == q) (neg_ℤ (pos 1)) ≡ pos 0) ⊎ ((p == q) ≡ true) → cell_of l row (PlatformUse q) ≡ only_if (p == q) (neg_ℤ (pos 1)) → IsKind c l row kind
      by (inl z) cell = absent (PlatformUse q) kind e (cell ∙ z)
      by (inr b) cell =
          let one = cell ∙ ap (λ d. only_if d (neg_ℤ (pos 1))) b in
          let P : ℕ → Type 0 = λ n. (n < l.platforms) × IsUseRow l n row in
          subst (IsKind c l row) (tells false (PlatformUse q) (neg_ℤ (pos 1)) (Use q) kind h.equal_is one refl e) (subst P (eqb-true p q b) (i, h))
  by_use p i h (PairValue q) kind there e = absent (PairValue q) kind e (cell_is c l row (pos 0) _ _ _ h (PairValue q) there)

  by_clique : (p : ℕ) (m : ℤ) → p < l.platforms → IsCliqueRow c l p m row → (column : Column) (kind : RowKind) → IsColumn l column → Tells column kind → IsKind c l row kind
  by_clique p m i h (Weight w) kind there e = absurd (none_some kind e)
  by_clique p m i h (LeftOut s) kind there e = unequal s kind h.equal_is e
  by_clique p m i h (PlatformUse q) kind there e =
      by (only_0 (p == q) (pos 1)) (cell_is c l row (pos 0) _ _ _ h (PlatformUse q) there)
    where
      by : (only_if (p == q) (pos 1) ≡ pos 0) ⊎ ((p == q) ≡ true) → cell_of l row (PlatformUse q) ≡ only_if (p == q) (pos 1) → IsKind c l row kind
      by (inl z) cell = absent (PlatformUse q) kind e (cell ∙ z)
      by (inr b) cell =
          let one = cell ∙ ap (λ d. only_if d (pos 1)) b in
          let P : ℕ → Type 0 = λ n. (n < l.platforms) × ((minute : ℤ) × IsCliqueRow c l n minute row) in
          subst (IsKind c l row) (tells false (PlatformUse q) (pos 1) (Clique q) kind h.equal_is one refl e) (subst P (eqb-true p q b) (i, (m, h)))
  by_clique p m i h (PairValue q) kind there e = absent (PairValue q) kind e (cell_is c l row (pos 0) _ _ _ h (PairValue q) there)

  by_station : IsStationRow c l row → (column : Column) (kind : RowKind) → IsColumn l column → Tells column kind → IsKind c l row kind
  by_station (inl h) column kind there e = by_train h.0 h.1 h.2 column kind there e
  by_station (inr (use_stands p i h)) column kind there e = by_use p i h column kind there e
  by_station (inr (clique_stands p m i h)) column kind there e = by_clique p m i h column kind there e
  by_station (inr (pair_stands cut o s g h)) (Weight w) kind there e = absurd (none_some kind e)
  by_station (inr (pair_stands cut o s g h)) (LeftOut t) kind there e = unequal t kind h.equal_is e
  by_station (inr (pair_stands cut o s g h)) (PlatformUse q) kind there e = absent (PlatformUse q) kind e (cell_is c l row (pos 0) _ _ _ h (PlatformUse q) there)
  by_station (inr (pair_stands cut o s g h)) (PairValue q) kind there e =
      by (only_0 (cut.first == q.first && cut.second == q.second) (pos 1)) (cell_is c l row (pos 0) _ _ _ h (PairValue q) there)
    where
      both : (a b : Bool) → (a && b) ≡ true → (a ≡ true) × (b ≡ true)
      both true true e = (refl, refl)
      both true false e = cc
      both false b e = cc

      by : (only_if (cut.first == q.first && cut.second == q.second) (pos 1) ≡ pos 0) ⊎ ((cut.first == q.first && cut.second == q.second) ≡ true)
          → cell_of l row (PairValue q) ≡ only_if (cut.first == q.first && cut.second == q.second) (pos 1) → IsKind c l row kind
      by (inl z) cell = absent (PairValue q) kind e (cell ∙ z)
      by (inr b) cell =
          let one = cell ∙ ap (λ d. only_if d (pos 1)) b in
          let parts = both (cut.first == q.first) (cut.second == q.second) b in
          let P : ℕ → ℕ → Type 0 = λ n m. (n < m) × (m < length l.lists) × IsPairCut c l.lists n m cut in
          let all = subst (λ (m : ℕ). P q.first m) (eqb-true cut.second q.second parts.1)
          (subst (λ (n : ℕ). P n cut.second) (eqb-true cut.first q.first parts.0) (o, s, g)) in
          subst (IsKind c l row) (tells false (PairValue q) (pos 1) (Pair q) kind h.equal_is one refl e) (all.0, all.1, (cut, all.2, h))

  -- what no cell tells, no column does
  silent : ((i : ℕ) (column : Column) → i < length row.cells → IsColumn l column
      → (get_or row.cells i (record { column = 0; value = pos 0 })).column ≡ position l column
      → kind_at row.equal column (get_or row.cells i (record { column = 0; value = pos 0 })).value ≡ None)
      → (equal : Bool) (column : Column) (value : ℤ) (kind : RowKind) → IsColumn l column → row.equal ≡ equal → cell_of l row column ≡ value → value ≢ pos 0
      → kind_at equal column value ≡ Some kind → ⊥
  silent h equal column value kind there f z some e =
      let cell = value_listed row.cells (position l column) (λ q. some (sym z ∙ q)) in
      let none = h cell.place column cell.inside there (cell.column (record { column = 0; value = pos 0 })) in
      let same = cell.value (record { column = 0; value = pos 0 }) ∙ z in
      none_some kind (sym none ∙ (λ i. kind_at (f i) column (same i)) ∙ e)

  pub none_told : ((i : ℕ) (column : Column) → i < length row.cells → IsColumn l column
      → (get_or row.cells i (record { column = 0; value = pos 0 })).column ≡ position l column
      → kind_at row.equal column (get_or row.cells i (record { column = 0; value = pos 0 })).value ≡ None) → IsStationRow c l row → ⊥
  none_told h (inl r) =
      let is = r.2 in
      silent h true (LeftOut r.0) (pos 1) (Train r.0) r.1 is.equal_is
      (cell_is c l row (pos 0) _ _ _ is (LeftOut r.0) r.1 ∙ ap (λ b. only_if b (pos 1)) (eq-eqb r.0 r.0 refl)) (λ q. cc) refl
  none_told h (inr (use_stands p i is)) =
      silent h false (PlatformUse p) (neg_ℤ (pos 1)) (Use p) i is.equal_is
      (cell_is c l row (pos 0) _ _ _ is (PlatformUse p) i ∙ ap (λ b. only_if b (neg_ℤ (pos 1))) (eq-eqb p p refl)) (λ q. cc) refl
  none_told h (inr (clique_stands p m i is)) =
      silent h false (PlatformUse p) (pos 1) (Clique p) i is.equal_is
      (cell_is c l row (pos 0) _ _ _ is (PlatformUse p) i ∙ ap (λ b. only_if b (pos 1)) (eq-eqb p p refl)) (λ q. cc) refl
  none_told h (inr (pair_stands cut o s g is)) =
      let q : PairAt = record { first = cut.first; second = cut.second } in
      silent h false (PairValue q) (pos 1) (Pair q) (o, s) is.equal_is
      (cell_is c l row (pos 0) _ _ _ is (PairValue q) (o, s)
      ∙ (λ i. only_if (eq-eqb cut.first cut.first refl i && eq-eqb cut.second cut.second refl i) (pos 1))) (λ q. cc) refl

-- a cell tells the kind of a row
pub told_by : (l : LayoutRecord) (row : Row) (i : ℕ) (d : RowCell) (column : Column) (kind : RowKind) → i < length row.cells
    → slice_get (columns_of l) (get_or row.cells i d).column ≡ Some column → IsColumn l column → kind_at row.equal column (get_or row.cells i d).value ≡ Some kind
    → (c : CaseRecord) → IsStationRow c l row → IsKind c l row kind
told_by l row i d column kind h e there told c is =
    by_station c l row is column kind there
    (ap (kind_at row.equal column)
    (ap (value_at row.cells) (sym (position_of l (get_or row.cells i d).column column e)) ∙ value_here row.cells i d row.ascending h) ∙ told)

-- the same of cells that are the row's
pub told_from : (l : LayoutRecord) (row : Row) (cells : List RowCell) → cells ≡ row.cells → (i : ℕ) (d : RowCell) (column : Column) (kind : RowKind) → i < length cells
    → slice_get (columns_of l) (get_or cells i d).column ≡ Some column → IsColumn l column → kind_at row.equal column (get_or cells i d).value ≡ Some kind
    → (c : CaseRecord) → IsStationRow c l row → IsKind c l row kind
told_from l row cells is =
    subst (λ (cs : List RowCell). (i : ℕ) (d : RowCell) (column : Column) (kind : RowKind) → i < length cs
    → slice_get (columns_of l) (get_or cs i d).column ≡ Some column → IsColumn l column → kind_at row.equal column (get_or cs i d).value ≡ Some kind
    → (c : CaseRecord) → IsStationRow c l row → IsKind c l row kind) (sym is) (told_by l row)

-- no cell before tells anything, nor does this one
pub none_more : (l : LayoutRecord) (equal : Bool) (cells : List RowCell) (i : ℕ) (d : RowCell) (found : Column)
    → ((k : ℕ) (column : Column) → k < i → IsColumn l column → (get_or cells k d).column ≡ position l column
    → kind_at equal column (get_or cells k d).value ≡ None)
    → slice_get (columns_of l) (get_or cells i d).column ≡ Some found → kind_at equal found (get_or cells i d).value ≡ None
    → (k : ℕ) (column : Column) → k < i + 1 → IsColumn l column → (get_or cells k d).column ≡ position l column
    → kind_at equal column (get_or cells k d).value ≡ None
none_more l equal cells i d found before e none k column h there is = by (cases_lt k i)
  where
    by : (k < i) ⊎ (i ≤ k) → kind_at equal column (get_or cells k d).value ≡ None
    by (inl less) = before k column less there is
    by (inr more) =
        let here : k ≡ i = omega (arith, h, more) in
        let P : ℕ → Type 0 = λ n. kind_at equal column (get_or cells n d).value ≡ None in
        let place : (get_or cells i d).column ≡ position l column = subst (λ (n : ℕ). (get_or cells n d).column ≡ position l column) here is in
        subst P (sym here)
        (ap (λ x. kind_at equal x (get_or cells i d).value) (sym (same_column l found column (get_or cells i d).column e there place)) ∙ none)

-- so a row of which no cell tells anything is none of the bound
pub none_from : (l : LayoutRecord) (row : Row) (cells : List RowCell) → cells ≡ row.cells → (count : ℕ) → length cells ≤ count
    → ((i : ℕ) (column : Column) → i < count → IsColumn l column → (get_or cells i (record { column = 0; value = pos 0 })).column ≡ position l column
    → kind_at row.equal column (get_or cells i (record { column = 0; value = pos 0 })).value ≡ None)
    → (c : CaseRecord) → IsStationRow c l row → ⊥
none_from l row cells is count long h c =
    none_told c l row
    (subst (λ (cs : List RowCell). (i : ℕ) (column : Column) → i < length cs → IsColumn l column
    → (get_or cs i (record { column = 0; value = pos 0 })).column ≡ position l column
    → kind_at row.equal column (get_or cs i (record { column = 0; value = pos 0 })).value ≡ None) is
    (λ i column m. h i column (omega (arith, m, long))))

pub none_of : {X : Type 0} (o : Option X) → ((x : X) → o ≡ Some x → ⊥) → o ≡ None
none_of None h = refl
none_of (Some x) h = absurd (h x refl)
