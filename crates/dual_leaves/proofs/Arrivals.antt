-- The latest arrival, cell by cell.
use Rattle.std.proofs.Common.{◌≡◌, ◌≢◌, ℕ, ◌+◌, ◌<◌, ◌≤◌, Bool, true, false, cond, List, length, get_or, Some, refl, sym, ap, ◌∙◌, subst, arith, inl, inr, ◌⊎◌, ℤ, pos, neg_ℤ, ◌≤ℤ◌}
use Rattle.std.specs.Prelude.{slice_get, slice_index}
use Rattle.std.specs.Int.{int_max}
use Rattle.std.specs.Ordering.{int_eq}
use Rattle.std.proofs.lemmas.Int.{ints, clamps}
use Rattle.std.proofs.lemmas.Bool.{cases_lt}
use Rattle.std.proofs.lemmas.Bool.Decides.{Decides-int_eq}
use Rattle.exact_lp.specs.declared.row.Row.{Row}
use Rattle.exact_lp.specs.declared.row.RowCell.{RowCell}
use Rattle.exact_lp.specs.Columns.{value_at}
use Rattle.station.specs.declared.part.Pattern.{Pattern}
use Rattle.patterns.specs.Allowed.{FitsBook, Lists, list_of}
use Rattle.patterns.specs.Book.{pattern_at}
use Rattle.pair_prices.specs.Case.{CaseRecord, IsCase}
use Rattle.pair_prices.proofs.CaseLemmas.{sound_at}
use Rattle.pair_prices.specs.Fraction.{pattern_of}
use Rattle.pattern_pricing.specs.declared.column.Column.{Column}
use Rattle.pattern_pricing.specs.declared.column.Column.TheVariants.{Weight, LeftOut, PlatformUse, PairValue}
use Rattle.pattern_pricing.specs.Layout.{LayoutRecord, IsColumn, columns_of, weight_column}
use Rattle.pattern_pricing.specs.Positions.{position}
use Rattle.pattern_pricing.proofs.Places.{position_of}
use Rattle.dual_leaves.specs.Kinds.{cell_of}
use Rattle.dual_leaves.specs.Latest.{arrival_or, IsLatest}
use Rattle.dual_leaves.proofs.Cells.{value_here, value_listed}
use Rattle.dual_leaves.proofs.Telling.{same_column}

-- what stands for a cell where there is none
abbrev pub no_cell : RowCell
no_cell = record { column = 0; value = pos 0 }

-- the same over the first so many cells
pub record IsLatestBelow (c : CaseRecord) (l : LayoutRecord) (cells : List RowCell) (count : ℕ) (minute : ℤ) : Type 0 where
  pub first : neg_ℤ (pos 30) ≤ℤ minute
  pub last : minute ≤ℤ pos 2909
  pub most : (i : ℕ) (column : Column) → i < count → IsColumn l column → (get_or cells i no_cell).column ≡ position l column
      → arrival_or c l.lists column (get_or cells i no_cell).value ≤ℤ minute
  pub least : (bound : ℤ) → neg_ℤ (pos 30) ≤ℤ bound
      → ((i : ℕ) (column : Column) → i < count → IsColumn l column → (get_or cells i no_cell).column ≡ position l column
      → arrival_or c l.lists column (get_or cells i no_cell).value ≤ℤ bound)
      → minute ≤ℤ bound

max_first : (x y : ℤ) → x ≤ℤ int_max x y
max_first x y = omega (arith, ints, clamps)

max_second : (x y : ℤ) → y ≤ℤ int_max x y
max_second x y = omega (arith, ints, clamps)

max_least : (x y b : ℤ) → x ≤ℤ b → y ≤ℤ b → int_max x y ≤ℤ b
max_least x y b h k = omega (arith, ints, clamps, h, k)

int_neq : (z : ℤ) → z ≢ pos 0 → int_eq z (pos 0) ≡ false
int_neq z h = by (int_eq z (pos 0)) refl
  where
    by : (b : Bool) → int_eq z (pos 0) ≡ b → int_eq z (pos 0) ≡ false
    by true e = absurd (h ((Decides-int_eq z (pos 0)).0 e))
    by false e = e

module _ (c : CaseRecord) (l : LayoutRecord) (cells : List RowCell) where
  pub latest_none : (minute : ℤ) → minute ≡ neg_ℤ (pos 30) → IsLatestBelow c l cells 0 minute
  latest_none minute e = record {
    first = omega (arith, ints, e);
    last = omega (arith, ints, e);
    most = λ i column h there is. absurd (omega (arith, h));
    least = λ bound h all. omega (arith, ints, e, h);
  }

  pub latest_more : (k : ℕ) (minute a next : ℤ) (found : Column) → IsLatestBelow c l cells k minute
      → slice_get (columns_of l) (get_or cells k no_cell).column ≡ Some found → IsColumn l found
      → a ≡ arrival_or c l.lists found (get_or cells k no_cell).value → neg_ℤ (pos 30) ≤ℤ a → a ≤ℤ pos 2909 → next ≡ int_max minute a
      → IsLatestBelow c l cells (k + 1) next
  latest_more k minute a next found h e there is low high sum =
      subst (IsLatestBelow c l cells (k + 1)) (sym sum) (record {
        first = let f = h.first in let m = max_first minute a in omega (arith, ints, f, m);
        last = max_least minute a (pos 2909) h.last high;
        most = λ i column m t q. by i column t q (cases_lt i k) m;
        least = λ bound b all.
            max_least minute a bound (h.least bound b (λ i column m t q. all i column (omega (arith, m)) t q))
            (subst (λ (z : ℤ). z ≤ℤ bound) (sym is) (all k found (omega arith) there (position_of l (get_or cells k no_cell).column found e)));
      })
    where
      by : (i : ℕ) (column : Column) → IsColumn l column → (get_or cells i no_cell).column ≡ position l column → (i < k) ⊎ (k ≤ i) → i < k + 1
          → arrival_or c l.lists column (get_or cells i no_cell).value ≤ℤ int_max minute a
      by i column t q (inl less) m =
          let before = h.most i column less t q in
          let first = max_first minute a in
          before_max (arrival_or c l.lists column (get_or cells i no_cell).value) minute (int_max minute a) before first
        where
          before_max : (x y z : ℤ) → x ≤ℤ y → y ≤ℤ z → x ≤ℤ z
          before_max x y z f g = omega (arith, ints, f, g)
      by i column t q (inr more) m =
          let here : i ≡ k = omega (arith, m, more) in
          let place : (get_or cells k no_cell).column ≡ position l column = subst (λ (n : ℕ). (get_or cells n no_cell).column ≡ position l column) here q in
          let same = same_column l found column (get_or cells k no_cell).column e t place in
          let value : arrival_or c l.lists column (get_or cells i no_cell).value ≡ a =
          (λ n. arrival_or c l.lists (sym same n) (get_or cells (here n) no_cell).value) ∙ sym is in
          subst (λ (z : ℤ). z ≤ℤ int_max minute a) (sym value) (max_second minute a)

pub latest_all : (c : CaseRecord) (l : LayoutRecord) (row : Row) (count : ℕ) (minute : ℤ) → length row.cells ≤ count → IsLatestBelow c l row.cells count minute
    → count ≤ length row.cells → IsLatest c l row minute
latest_all c l row count minute all h most = record {
  first = h.first;
  last = h.last;
  most = λ train place i k some.
      let cell = value_listed row.cells (position l (weight_column train place)) some in
      let inside = cell.inside in
      let here = h.most cell.place (weight_column train place) (omega (arith, inside, all)) (i, k) (cell.column no_cell) in
      let value = cell.value no_cell in
      subst (λ (z : ℤ). z ≤ℤ minute)
      (ap (λ z. arrival_or c l.lists (weight_column train place) z) value
      ∙ if_not (cell_of l row (weight_column train place)) (pattern_of c l.lists train place).arrive some)
      here;
  least = λ bound b each. h.least bound b (λ i column m there is. by bound b each i column m there is);
}
  where
    if_not : (z a : ℤ) → z ≢ pos 0 → cond (int_eq z (pos 0)) (neg_ℤ (pos 30)) a ≡ a
    if_not z a h = ap (λ b. cond b (neg_ℤ (pos 30)) a) (int_neq z h)

    by : (bound : ℤ) → neg_ℤ (pos 30) ≤ℤ bound
        → ((train place : ℕ) → train < length l.lists → place < length (list_of l.lists train)
        → cell_of l row (weight_column train place) ≢ pos 0 → (pattern_of c l.lists train place).arrive ≤ℤ bound)
        → (i : ℕ) (column : Column) → i < count → IsColumn l column → (get_or row.cells i no_cell).column ≡ position l column
        → arrival_or c l.lists column (get_or row.cells i no_cell).value ≤ℤ bound
    by bound b each i (Weight w) m there is =
        cases (int_eq (get_or row.cells i no_cell).value (pos 0)) refl
      where
        value : (get_or row.cells i no_cell).value ≡ cell_of l row (weight_column w.train w.place)
        value = sym (value_here row.cells i no_cell row.ascending (omega (arith, m, most))) ∙ ap (value_at row.cells) is

        cases : (e : Bool) → int_eq (get_or row.cells i no_cell).value (pos 0) ≡ e → cond e (neg_ℤ (pos 30)) (pattern_of c l.lists w.train w.place).arrive ≤ℤ bound
        cases true e = b
        cases false e = each w.train w.place there.0 there.1 (λ z. apart (sym (ap (λ y. int_eq y (pos 0)) (value ∙ z)) ∙ e))
          where
            apart : true ≡ false → ⊥
            apart e = cc
    by bound b each i (LeftOut t) m there is = b
    by bound b each i (PlatformUse p) m there is = b
    by bound b each i (PairValue p) m there is = b

-- an allowed pattern arrives within these minutes
pub arrival_within : (c : CaseRecord) → IsCase c → (lists : Lists) → FitsBook lists c.book → (train place : ℕ) → train < length lists → place < length (list_of lists train)
    → (x : Pattern) → x ≡ pattern_at c.book train (slice_index (list_of lists train) place) → (neg_ℤ (pos 30) ≤ℤ x.arrive) × (x.arrive ≤ℤ pos 2909)
arrival_within c case lists fits train place h k x e =
    let sound = sound_at c case train (slice_index (list_of lists train) place) (omega (arith, h, fits.trains)) (fits.there train h place 0 k) in
    subst (λ (y : Pattern). (neg_ℤ (pos 30) ≤ℤ y.arrive) × (y.arrive ≤ℤ pos 2909)) (sym e) (sound.arrive_least, sound.arrive_most)
