-- The cells of each kind of row give each column its value.
use Rattle.std.proofs.Common.{◌≡◌, ℕ, ◌+◌, ◌<◌, ◌≤◌, ◌==◌, ◌&&◌, Bool, true, false, List, [], ◌++◌, length, get_or, refl, sym, ap, ◌∙◌, subst, arith, Some, ℤ, pos, neg_ℤ, ◌+ℤ◌}
use Rattle.std.specs.Prelude.{slice_get}
use Rattle.std.proofs.lemmas.Int.{ints}
use Rattle.std.proofs.lemmas.Bool.{eq-eqb, eqb-true, ne_eqb}
use Rattle.std.proofs.lemmas.Option.{get_or_from_slice_get, slice_get-get_or, slice_get_within}
use Rattle.exact_lp.specs.declared.row.RowCell.{RowCell}
use Rattle.exact_lp.specs.Columns.{AreAscendingCells}
use Rattle.transport.specs.Coupling.{at}
use Rattle.pair_prices.specs.Case.{CaseRecord}
use Rattle.leaf_bounds.specs.Total.{only_if}
use Rattle.pair_cuts.specs.declared.cut.PairCut.{PairCut}
use Rattle.pattern_pricing.specs.declared.column.Column.{Column}
use Rattle.pattern_pricing.specs.declared.column.Column.TheVariants.{Weight, LeftOut, PlatformUse, PairValue}
use Rattle.pattern_pricing.specs.Layout.{LayoutRecord, IsColumn, columns_of, weight_column}
use Rattle.pattern_pricing.specs.Positions.{list_size, patterns_in, position, start_of}
use Rattle.pattern_pricing.proofs.Places.{at_position, count_is, position_of, start_most, start_next}
use Rattle.station_rows.specs.Rows.{train_value, use_value, clique_value, pair_row_value, IsRow}
use Rattle.station_rows.specs.Points.{value_column}
use Rattle.station_rows.specs.Contents.{cell_at, clique_cells, held_cells, held_value, opening_cells, pair_cells, train_cells, use_cells}
use Rattle.station_rows.proofs.Covered.{Covers, covers_append, covers_cell, covers_none, covers_parts, covers_wider}
use Rattle.station_rows.proofs.There.{column_there, starts_order}

module _ (l : LayoutRecord) where
  abbrev trains : ℕ
  trains = length l.lists

  abbrev count : ℕ
  count = length (columns_of l)

  -- the value by a column's number
  abbrev pub by_number : (Column → ℤ) → ℕ → ℤ
  by_number value n = value (get_or (columns_of l) n (LeftOut 0))

  number_value : (value : Column → ℤ) (n : ℕ) (col : Column) → slice_get (columns_of l) n ≡ Some col → by_number value n ≡ value col
  number_value value n col e = ap value (get_or_from_slice_get (columns_of l) n col (LeftOut 0) e)

  place_value : (value : Column → ℤ) (col : Column) → IsColumn l col → value col ≡ by_number value (position l col)
  place_value value col there = sym (number_value value (position l col) col (at_position l col there))

  position_below : (col : Column) → IsColumn l col → position l col < count
  position_below col there = slice_get_within (columns_of l) (position l col) col (at_position l col there)

  -- a row whose cells cover all columns
  pub row_covered : (value : Column → ℤ) (least : ℤ) (equal : Bool) (cells : List RowCell) (up : AreAscendingCells cells) → Covers (by_number value) 0 count cells
      → IsRow l value least equal (record { least = least; equal = equal; cells = cells; ascending = up })
  row_covered value least equal cells up covers = record {
    least_is = refl;
    equal_is = refl;
    below = covers.below;
    values = λ n col e.
        covers.values n (omega arith) (slice_get_within (columns_of l) n col e) ∙ number_value value n col e;
  }

  module _ (value : Column → ℤ) where
    abbrev v : ℕ → ℤ
    v = by_number value

    -- columns without a value
    gap : (a b : ℕ) → a ≤ b → b ≤ count → ((col : Column) → IsColumn l col → a ≤ position l col → position l col < b → value col ≡ pos 0) → Covers v a b []
    gap a b order most h =
        covers_none v a b order
        (λ n i j.
        let d : Column = LeftOut 0 in
        let col = get_or (columns_of l) n d in
        let e = slice_get-get_or (columns_of l) n d (omega (arith, j, most)) in
        let is = position_of l n col e in
        let low : a ≤ position l col = omega (arith, is, i) in
        let high : position l col < b = omega (arith, is, j) in
        h col (column_there l n col e) low high)

    one : (a b : ℕ) (col : Column) (z : ℤ) → IsColumn l col → position l col ≡ a → b ≡ a + 1 → z ≡ value col → Covers v a b (cell_at l col z)
    one a b col z there at_a next is =
        covers_cell v a b (record { column = position l col; value = z }) at_a next (is ∙ place_value value col there ∙ ap v at_a)

    block : (t : ℕ) (f : ℕ → ℤ) → t < trains → ((i : ℕ) → i < list_size l t → f i ≡ value (weight_column t i))
        → Covers v (start_of l t) (start_of l t + list_size l t) (train_cells l t f (list_size l t))
    block t f h is =
        let e : start_of l t + 0 ≡ start_of l t = omega arith in
        let P : ℕ → Type 0 = λ a. Covers v a (start_of l t + list_size l t) (train_cells l t f (list_size l t)) in
        subst P e
        (covers_parts v (λ i. start_of l t + i) (λ i. cell_at l (weight_column t i) (f i)) (list_size l t)
        (λ i k. one (start_of l t + i) (start_of l t + (i + 1)) (weight_column t i) (f i) (h, k) refl (omega arith) (is i k)))

  -- what a test adds where it doesn't hold
  off : (b : Bool) (z : ℤ) → (b ≡ true → ⊥) → only_if b z ≡ pos 0
  off true z h = absurd (h refl)
  off false z h = refl

  module _ (t : ℕ) (h : t < trains) where
    train_zero : (col : Column) → IsColumn l col → (start_of l t ≤ position l col → position l col < start_of l t + list_size l t → ⊥)
        → (position l col ≡ patterns_in l + t → ⊥) → train_value t col ≡ pos 0
    train_zero (Weight w) there out left =
        off (t == w.train) (pos 1)
        (λ e. let P : ℕ → Type 0 = λ s. start_of l s ≤ start_of l w.train + w.place in
        let Q : ℕ → Type 0 = λ s. start_of l w.train + w.place < start_of l s + list_size l s in
        let below = there.1 in
        let same : w.train ≡ t = sym (eqb-true t w.train e) in
        out (subst P same (omega arith)) (subst Q same (omega (arith, below))))
    train_zero (LeftOut s) there out left = off (t == s) (pos 1) (λ e. let same = eqb-true t s e in left (omega (arith, same)))
    train_zero (PlatformUse p) there out left = refl
    train_zero (PairValue p) there out left = refl

    pub opening_covers : Covers (by_number (train_value t)) 0 count (opening_cells l t)
    opening_covers =
        let value = train_value t in
        let a = start_of l t in
        let b = a + list_size l t in
        let d = patterns_in l + t in
        let most = start_most l (t + 1) (omega arith) in
        let next = start_next l t in
        let all = count_is l in
        let v : ℕ → ℤ = by_number value in
        let cells = train_cells l t (λ place. pos 1) (list_size l t) in
        let own : (b : Bool) → b ≡ true → pos 1 ≡ only_if b (pos 1) = λ b e. sym (ap (λ s. only_if s (pos 1)) e) in
        covers_wider v 0 (d + 1) count (opening_cells l t)
        (covers_append v 0 d (d + 1) cells (cell_at l (LeftOut t) (pos 1))
        (covers_wider v 0 b d cells
        (covers_append v 0 a b [] cells
        (gap value 0 a (omega arith) (omega (arith, most, next, all)) (λ col there i j. train_zero col there (λ m n. omega (arith, j, m)) (λ m. omega (arith, j, m, most, next))))
        (block value t (λ place. pos 1) h (λ i k. own (t == t) (eq-eqb t t refl))))
        (gap value b d (omega (arith, most, next)) (omega (arith, all, h)) (λ col there i j. train_zero col there (λ m n. omega (arith, i, n)) (λ m. omega (arith, j, m)))))
        (one value d (d + 1) (LeftOut t) (pos 1) h refl refl (own (t == t) (eq-eqb t t refl))))
        (gap value (d + 1) count (omega (arith, all, h)) (omega arith) (λ col there i j. train_zero col there (λ m n. omega (arith, i, n, most, next)) (λ m. omega (arith, i, m))))

  start_none : start_of l 0 ≡ 0
  unfolding start_of
  start_none = refl

  module _ (p : ℕ) (h : p < l.platforms) where
    use_number : ℕ
    use_number = patterns_in l + trains + p

    platform_zero : (z : ℤ) (q : ℕ) → (patterns_in l + trains + q ≡ patterns_in l + trains + p → ⊥) → only_if (p == q) z ≡ pos 0
    platform_zero z q out = off (p == q) z (λ e. let same = eqb-true p q e in out (omega (arith, same)))

    use_zero : (col : Column) → (position l col ≡ patterns_in l + trains + p → ⊥) → use_value p col ≡ pos 0
    use_zero (Weight w) out = refl
    use_zero (LeftOut t) out = refl
    use_zero (PlatformUse q) out = platform_zero (neg_ℤ (pos 1)) q out
    use_zero (PairValue q) out = refl

    own_use : (z : ℤ) (b : Bool) → b ≡ true → z ≡ only_if b z
    own_use z b e = sym (ap (λ s. only_if s z) e)

    pub use_covers : Covers (by_number (use_value p)) 0 count (use_cells l p)
    use_covers =
        let value = use_value p in
        let v : ℕ → ℤ = by_number value in
        let a = patterns_in l + trains + p in
        let cells = use_cells l p in
        let all = count_is l in
        covers_wider v 0 (a + 1) count cells
        (covers_append v 0 a (a + 1) [] cells
        (gap value 0 a (omega arith) (omega (arith, all, h)) (λ col there i j. use_zero col (λ m. omega (arith, j, m))))
        (one value a (a + 1) (PlatformUse p) (neg_ℤ (pos 1)) h refl refl (own_use (neg_ℤ (pos 1)) (p == p) (eq-eqb p p refl))))
        (gap value (a + 1) count (omega (arith, all, h)) (omega arith) (λ col there i j. use_zero col (λ m. omega (arith, i, m))))

    module _ (c : CaseRecord) (m : ℤ) where
      clique_zero : (col : Column) → IsColumn l col → patterns_in l ≤ position l col → (position l col ≡ patterns_in l + trains + p → ⊥) → clique_value c l.lists p m col ≡ pos 0
      clique_zero (Weight w) there behind out =
          let inside = there.0 in
          let below = there.1 in
          let most = start_most l (w.train + 1) (omega (arith, inside)) in
          let next = start_next l w.train in
          absurd (omega (arith, behind, below, most, next))
      clique_zero (LeftOut t) there behind out = refl
      clique_zero (PlatformUse q) there behind out = platform_zero (pos 1) q out
      clique_zero (PairValue q) there behind out = refl

      pub clique_covers : Covers (by_number (clique_value c l.lists p m)) 0 count (clique_cells c l p m)
      clique_covers =
          let value = clique_value c l.lists p m in
          let v : ℕ → ℤ = by_number value in
          let a = patterns_in l + trains + p in
          let held = held_cells c l p m trains in
          let all = count_is l in
          covers_wider v 0 (a + 1) count (clique_cells c l p m)
          (covers_append v 0 a (a + 1) held (cell_at l (PlatformUse p) (pos 1))
          (covers_wider v 0 (patterns_in l) a held
          weights
          (gap value (patterns_in l) a (omega arith) (omega (arith, all, h)) (λ col there i j. clique_zero col there i (λ n. omega (arith, j, n)))))
          (one value a (a + 1) (PlatformUse p) (pos 1) h refl refl (own_use (pos 1) (p == p) (eq-eqb p p refl))))
          (gap value (a + 1) count (omega (arith, all, h)) (omega arith)
          (λ col there i j. clique_zero col there (omega (arith, i)) (λ n. omega (arith, i, n))))
        where
          part : (t : ℕ) → t < trains
              → Covers (by_number (clique_value c l.lists p m)) (start_of l t) (start_of l (t + 1)) (train_cells l t (held_value c l p m t) (list_size l t))
          part t k =
              let P : ℕ → Type 0 = λ b. Covers (by_number (clique_value c l.lists p m)) (start_of l t) b (train_cells l t (held_value c l p m t) (list_size l t)) in
              subst P (sym (start_next l t)) (block (clique_value c l.lists p m) t (held_value c l p m t) k (λ i j. refl))

          weights : Covers (by_number (clique_value c l.lists p m)) 0 (patterns_in l) (held_cells c l p m trains)
          weights =
              let P : ℕ → Type 0 = λ b. Covers (by_number (clique_value c l.lists p m)) b (patterns_in l) (held_cells c l p m trains) in
              subst P start_none
              (covers_parts (by_number (clique_value c l.lists p m)) (start_of l) (λ t. train_cells l t (held_value c l p m t) (list_size l t)) trains part)

  module _ (cut : PairCut) (h : cut.first < cut.second) (n : cut.second < trains) where
    abbrev f : ℕ
    f = cut.first

    abbrev s : ℕ
    s = cut.second

    -- outside the columns of the two trains there is no value
    pair_zero : (col : Column) → IsColumn l col
        → (start_of l f ≤ position l col → position l col < start_of l f + list_size l f → ⊥)
        → (start_of l s ≤ position l col → position l col < start_of l s + list_size l s → ⊥)
        → (position l col ≡ patterns_in l + f → ⊥) → (position l col ≡ patterns_in l + s → ⊥)
        → (position l col ≡ position l (value_column f s) → ⊥) → pair_row_value cut col ≡ pos 0
    pair_zero (Weight w) there out_f out_s left_f left_s out =
        none (only_if (f == w.train) (at cut.alpha w.place)) (only_if (s == w.train) (at cut.beta w.place))
        (off (f == w.train) (at cut.alpha w.place) (λ e. within f (eqb-true f w.train e) out_f))
        (off (s == w.train) (at cut.beta w.place) (λ e. within s (eqb-true s w.train e) out_s))
      where
        none : (a b : ℤ) → a ≡ pos 0 → b ≡ pos 0 → neg_ℤ (a +ℤ b) ≡ pos 0
        none a b d e = omega (arith, ints, d, e)

        within : (t : ℕ) → t ≡ w.train → (start_of l t ≤ start_of l w.train + w.place → start_of l w.train + w.place < start_of l t + list_size l t → ⊥) → ⊥
        within t e out =
            let P : ℕ → Type 0 = λ k. start_of l k ≤ start_of l w.train + w.place in
            let Q : ℕ → Type 0 = λ k. start_of l w.train + w.place < start_of l k + list_size l k in
            let below = there.1 in
            let same : w.train ≡ t = sym e in
            out (subst P same (omega arith)) (subst Q same (omega (arith, below)))
    pair_zero (LeftOut t) there out_f out_s left_f left_s out =
        none (only_if (f == t) cut.alpha_left) (only_if (s == t) cut.beta_left)
        (off (f == t) cut.alpha_left (λ e. let same = eqb-true f t e in left_f (omega (arith, same))))
        (off (s == t) cut.beta_left (λ e. let same = eqb-true s t e in left_s (omega (arith, same))))
      where
        none : (a b : ℤ) → a ≡ pos 0 → b ≡ pos 0 → neg_ℤ (a +ℤ b) ≡ pos 0
        none a b d e = omega (arith, ints, d, e)
    pair_zero (PlatformUse q) there out_f out_s left_f left_s out = refl
    pair_zero (PairValue q) there out_f out_s left_f left_s out = by (f == q.first) (s == q.second) refl refl
      where
        by : (a b : Bool) → (f == q.first) ≡ a → (s == q.second) ≡ b → only_if (a && b) (pos 1) ≡ pos 0
        by true true d e =
            let P : ℕ → Type 0 = λ k. position l (value_column k q.second) ≡ position l (value_column f s) in
            let Q : ℕ → Type 0 = λ k. position l (value_column f k) ≡ position l (value_column f s) in
            absurd (out (subst P (eqb-true f q.first d) (subst Q (eqb-true s q.second e) refl)))
        by true false d e = refl
        by false b d e = refl

    pair_own : (b : Bool) → b ≡ true → pos 1 ≡ only_if b (pos 1)
    pair_own b e = sym (ap (λ k. only_if k (pos 1)) e)

    -- the number at the first train, and at the second
    at_first : (a b : ℤ) (q r : Bool) → q ≡ true → r ≡ false → neg_ℤ a ≡ neg_ℤ (only_if q a +ℤ only_if r b)
    at_first a b true false d e = omega (arith, ints)
    at_first a b true true d e = cc
    at_first a b false r d e = cc

    at_second : (a b : ℤ) (q r : Bool) → q ≡ false → r ≡ true → neg_ℤ b ≡ neg_ℤ (only_if q a +ℤ only_if r b)
    at_second a b false true d e = omega (arith, ints)
    at_second a b false false d e = cc
    at_second a b true r d e = cc

    both_true : (a b : Bool) → a ≡ true → b ≡ true → (a && b) ≡ true
    both_true true true d e = refl
    both_true true false d e = e
    both_true false b d e = d

    pub pair_covers : Covers (by_number (pair_row_value cut)) 0 count (pair_cells l cut)
    pair_covers =
        let value = pair_row_value cut in
        let v : ℕ → ℤ = by_number value in
        let below : f < trains = omega (arith, h, n) in
        let g = position l (value_column f s) in
        let a = start_of l f in
        let b = start_of l s in
        let a_end = a + list_size l f in
        let b_end = b + list_size l s in
        let d = patterns_in l + f in
        let e = patterns_in l + s in
        let firsts = train_cells l f (λ place. neg_ℤ (at cut.alpha place)) (list_size l f) in
        let seconds = train_cells l s (λ place. neg_ℤ (at cut.beta place)) (list_size l s) in
        let first_left = cell_at l (LeftOut f) (neg_ℤ cut.alpha_left) in
        let second_left = cell_at l (LeftOut s) (neg_ℤ cut.beta_left) in
        let most = start_most l (s + 1) (omega (arith, n)) in
        let next = start_next l s in
        let order = starts_order l f s h in
        let all = count_is l in
        let inside = position_below (value_column f s) (h, n) in
        let yes_f = eq-eqb f f refl in
        let yes_s = eq-eqb s s refl in
        let not_f = ne_eqb f s (λ k. omega (arith, h, k)) in
        let not_s = ne_eqb s f (λ k. omega (arith, h, k)) in
        covers_wider v 0 (g + 1) count (pair_cells l cut)
        (covers_append v 0 g (g + 1) (firsts ++ seconds ++ first_left ++ second_left) (cell_at l (value_column f s) (pos 1))
        (covers_wider v 0 (e + 1) g (firsts ++ seconds ++ first_left ++ second_left)
        (covers_append v 0 e (e + 1) (firsts ++ seconds ++ first_left) second_left
        (covers_wider v 0 (d + 1) e (firsts ++ seconds ++ first_left)
        (covers_append v 0 d (d + 1) (firsts ++ seconds) first_left
        (covers_wider v 0 b_end d (firsts ++ seconds)
        (covers_append v 0 b b_end firsts seconds
        (covers_wider v 0 a_end b firsts
        (covers_append v 0 a a_end [] firsts
        (gap value 0 a (omega arith) (omega (arith, most, next, order, all))
        (λ col there i j. pair_zero col there (λ x y. omega (arith, j, x)) (λ x y. omega (arith, j, x, order)) (λ x. omega (arith, j, x, most, next, order))
        (λ x. omega (arith, j, x, most, next, order)) (λ x. omega (arith, j, x, most, next, order))))
        (block value f (λ place. neg_ℤ (at cut.alpha place)) below (λ i k. at_first (at cut.alpha i) (at cut.beta i) (f == f) (s == f) yes_f not_s)))
        (gap value a_end b (omega (arith, order)) (omega (arith, most, next, all))
        (λ col there i j. pair_zero col there (λ x y. omega (arith, i, y)) (λ x y. omega (arith, j, x)) (λ x. omega (arith, j, x, most, next))
        (λ x. omega (arith, j, x, most, next)) (λ x. omega (arith, j, x, most, next)))))
        (block value s (λ place. neg_ℤ (at cut.beta place)) n (λ i k. at_second (at cut.alpha i) (at cut.beta i) (f == s) (s == s) not_f yes_s)))
        (gap value b_end d (omega (arith, most, next)) (omega (arith, all, below))
        (λ col there i j. pair_zero col there (λ x y. omega (arith, i, y, order)) (λ x y. omega (arith, i, y)) (λ x. omega (arith, j, x))
        (λ x. omega (arith, j, x, h)) (λ x. omega (arith, j, x, below)))))
        (one value d (d + 1) (LeftOut f) (neg_ℤ cut.alpha_left) below refl refl (at_first cut.alpha_left cut.beta_left (f == f) (s == f) yes_f not_s)))
        (gap value (d + 1) e (omega (arith, h)) (omega (arith, all, n))
        (λ col there i j. pair_zero col there (λ x y. omega (arith, i, y, most, next, order)) (λ x y. omega (arith, i, y, most, next)) (λ x. omega (arith, i, x))
        (λ x. omega (arith, j, x)) (λ x. omega (arith, j, x, n)))))
        (one value e (e + 1) (LeftOut s) (neg_ℤ cut.beta_left) n refl refl (at_second cut.alpha_left cut.beta_left (f == s) (s == s) not_f yes_s)))
        (gap value (e + 1) g (omega (arith, n)) (omega (arith, inside))
        (λ col there i j. pair_zero col there (λ x y. omega (arith, i, y, most, next, order)) (λ x y. omega (arith, i, y, most, next)) (λ x. omega (arith, i, x, h))
        (λ x. omega (arith, i, x)) (λ x. omega (arith, j, x)))))
        (one value g (g + 1) (value_column f s) (pos 1) (h, n) refl refl (pair_own (f == f && s == s) (both_true (f == f) (s == s) yes_f yes_s))))
        (gap value (g + 1) count (omega (arith, inside)) (omega arith)
        (λ col there i j. pair_zero col there (λ x y. omega (arith, i, y, most, next, order)) (λ x y. omega (arith, i, y, most, next)) (λ x. omega (arith, i, x, below))
        (λ x. omega (arith, i, x, n)) (λ x. omega (arith, i, x))))
