-- Lists of cells that give a value to each column of a range.
use Rattle.std.proofs.Common.{◌≡◌, ℕ, zero, suc, ◌+◌, ◌-◌, ◌<◌, ◌≤◌, ◌==◌, if◌then◌else◌, Bool, true, false, List, [], ◌∷◌, ◌++◌, get_or, refl, sym, ap, ◌∙◌, subst, arith, inl, inr, ◌⊎◌, ℤ, pos}
use Rattle.std.specs.List.{All, flat_map}
use Rattle.std.specs.Ordering.{int_eq}
use Rattle.std.proofs.lemmas.Int.{ints}
use Rattle.std.proofs.lemmas.Bool.{cases_lt}
use Rattle.std.proofs.lemmas.Bool.Decides.{nat_tests}
use Rattle.std.proofs.lemmas.List.{append-nil}
use Rattle.std.proofs.lemmas.List.Elements.{All-append, All-cons, All-get_or, All-head, All-nil, All-tail, All-weaker}
use Rattle.station.specs.Allowed.{numbers}
use Rattle.patterns.proofs.Steps.{flat_map_numbers_more}
use Rattle.exact_lp.specs.declared.row.RowCell.{RowCell}
use Rattle.exact_lp.specs.Columns.{AreAscendingCells, value_at}
use Rattle.exact_lp.proofs.Cells.{rises, tail_rises}
use Rattle.station_rows.specs.Contents.{kept_cell}

-- The cells ascend, name columns from a up to b alone, and give each of those its value.
pub record Covers (v : ℕ → ℤ) (a b : ℕ) (cells : List RowCell) : Type 0 where
  pub order : a ≤ b
  pub ascending : AreAscendingCells cells
  pub from : All (λ cell. a ≤ cell.column) cells
  pub below : All (λ cell. cell.column < b) cells
  pub values : (n : ℕ) → a ≤ n → n < b → value_at cells n ≡ v n

passed : (a n : ℕ) (v r : ℤ) → (a ≡ n → ⊥) → (if a == n then v else r) ≡ r
passed a n v r ne = grind (arith, nat_tests)

-- no cell has the column
unlisted : (cells : List RowCell) (n : ℕ) → All (λ cell. cell.column ≡ n → ⊥) cells → value_at cells n ≡ pos 0
unlisted [] n h = refl
unlisted (cell ∷ cells) n h =
    passed cell.column n cell.value (value_at cells n) (All-head (λ (d : RowCell). d.column ≡ n → ⊥) cell cells h)
    ∙ unlisted cells n (All-tail (λ (d : RowCell). d.column ≡ n → ⊥) cell cells h)

-- the value is that of the first list, or of the second
in_first : (xs ys : List RowCell) (n : ℕ) → All (λ cell. cell.column ≡ n → ⊥) ys → value_at (xs ++ ys) n ≡ value_at xs n
in_first [] ys n h = unlisted ys n h
in_first (cell ∷ cells) ys n h = ap (λ (z : ℤ). if cell.column == n then cell.value else z) (in_first cells ys n h)

in_second : (xs ys : List RowCell) (n : ℕ) → All (λ cell. cell.column ≡ n → ⊥) xs → value_at (xs ++ ys) n ≡ value_at ys n
in_second [] ys n h = refl
in_second (cell ∷ cells) ys n h =
    passed cell.column n cell.value (value_at (cells ++ ys) n) (All-head (λ (d : RowCell). d.column ≡ n → ⊥) cell cells h)
    ∙ in_second cells ys n (All-tail (λ (d : RowCell). d.column ≡ n → ⊥) cell cells h)

rises_cons : (cell : RowCell) (cells : List RowCell) → AreAscendingCells cells → All (λ d. cell.column < d.column) cells → AreAscendingCells (cell ∷ cells)
rises_cons cell cells up h zero d l = All-get_or (λ (e : RowCell). cell.column < e.column) cells 0 d (omega arith) h
rises_cons cell cells up h (suc k) d l =
    let next : suc (k + 1) ≡ suc k + 1 = omega arith in
    let P : ℕ → Type 0 = λ m. (get_or cells k d).column < (get_or (cell ∷ cells) m d).column in
    subst P next (up k d (omega arith))

rises_append : (b : ℕ) (xs ys : List RowCell) → AreAscendingCells xs → AreAscendingCells ys → All (λ d. d.column < b) xs → All (λ d. b ≤ d.column) ys
    → AreAscendingCells (xs ++ ys)
rises_append b [] ys up vp h k = vp
rises_append b (cell ∷ cells) ys up vp h k =
    let P : RowCell → Type 0 = λ d. cell.column < d.column in
    let here : cell.column < b = All-head (λ (d : RowCell). d.column < b) cell cells h in
    rises_cons cell (cells ++ ys)
    (rises_append b cells ys (tail_rises cell cells up) vp (All-tail (λ (d : RowCell). d.column < b) cell cells h) k)
    (All-append P cells ys (λ i d l. rises (cell ∷ cells) up 0 (suc i) d (omega arith) (omega (arith, l)))
    (All-weaker (λ (d : RowCell). b ≤ d.column) P (λ d e. omega arith) ys k))

module _ (v : ℕ → ℤ) where
  pub covers_none : (a b : ℕ) → a ≤ b → ((n : ℕ) → a ≤ n → n < b → v n ≡ pos 0) → Covers v a b []
  covers_none a b order h = record {
    order = order;
    ascending = λ k d l. absurd (omega arith);
    from = All-nil (λ (d : RowCell). a ≤ d.column);
    below = All-nil (λ (d : RowCell). d.column < b);
    values = λ n i j. sym (h n i j);
  }

  pub covers_cell : (a b : ℕ) (cell : RowCell) → cell.column ≡ a → b ≡ a + 1 → cell.value ≡ v a → Covers v a b (kept_cell cell)
  covers_cell a b cell at_a next is = by (int_eq cell.value (pos 0)) refl
    where
      only : (n : ℕ) → a ≤ n → n < b → n ≡ a
      only n i j = omega (arith, i, j, next)

      by : (t : Bool) → int_eq cell.value (pos 0) ≡ t → Covers v a b (if t then [] else cell ∷ [])
      by true e =
          let zero_is : cell.value ≡ pos 0 = grind (arith, ints) in
          covers_none a b (omega (arith, next)) (λ n i j. ap v (only n i j) ∙ sym is ∙ zero_is)
      by false e = record {
        order = omega (arith, next);
        ascending = λ k d l. absurd (omega arith);
        from = All-cons (λ (d : RowCell). a ≤ d.column) cell [] (omega (arith, at_a)) (All-nil (λ (d : RowCell). a ≤ d.column));
        below = All-cons (λ (d : RowCell). d.column < b) cell [] (omega (arith, at_a, next)) (All-nil (λ (d : RowCell). d.column < b));
        values = λ n i j. found n (only n i j);
      }
        where
          found : (n : ℕ) → n ≡ a → (if cell.column == n then cell.value else pos 0) ≡ v n
          found n s = let same : cell.column ≡ n = omega (arith, at_a, s) in taken (cell.column == n) refl same ∙ is ∙ ap v (sym s)
            where
              taken : (t : Bool) → (cell.column == n) ≡ t → cell.column ≡ n → (if t then cell.value else pos 0) ≡ cell.value
              taken true f g = refl
              taken false f g = absurd (grind (arith, nat_tests))

  pub covers_append : (a b d : ℕ) (xs ys : List RowCell) → Covers v a b xs → Covers v b d ys → Covers v a d (xs ++ ys)
  covers_append a b d xs ys p q =
      let ab = p.order in
      let bd = q.order in
      record {
        order = omega (arith, ab, bd);
        ascending = rises_append b xs ys p.ascending q.ascending p.below q.from;
        from = All-append (λ (e : RowCell). a ≤ e.column) xs ys p.from
            (All-weaker (λ (e : RowCell). b ≤ e.column) (λ (e : RowCell). a ≤ e.column) (λ e i. omega (arith, ab, i)) ys q.from);
        below = All-append (λ (e : RowCell). e.column < d) xs ys
            (All-weaker (λ (e : RowCell). e.column < b) (λ (e : RowCell). e.column < d) (λ e i. omega (arith, bd, i)) xs p.below) q.below;
        values = λ n i j. by n i j (cases_lt n b);
      }
    where
      by : (n : ℕ) → a ≤ n → n < d → (n < b) ⊎ (b ≤ n) → value_at (xs ++ ys) n ≡ v n
      by n i j (inl l) =
          in_first xs ys n (All-weaker (λ (e : RowCell). b ≤ e.column) (λ (e : RowCell). e.column ≡ n → ⊥) (λ e k s. omega (arith, k, s, l)) ys q.from)
          ∙ p.values n i l
      by n i j (inr g) =
          in_second xs ys n (All-weaker (λ (e : RowCell). e.column < b) (λ (e : RowCell). e.column ≡ n → ⊥) (λ e k s. omega (arith, k, s, g)) xs p.below)
          ∙ q.values n g j

  -- further columns behind, without a value
  pub covers_wider : (a b d : ℕ) (cells : List RowCell) → Covers v a b cells → Covers v b d [] → Covers v a d cells
  covers_wider a b d cells p q =
      let P : List RowCell → Type 0 = λ xs. Covers v a d xs in
      subst P (append-nil cells) (covers_append a b d cells [] p q)

  -- parts one behind the other
  pub covers_parts : (start : ℕ → ℕ) (part : ℕ → List RowCell) (n : ℕ) → ((k : ℕ) → k < n → Covers v (start k) (start (k + 1)) (part k))
      → Covers v (start 0) (start n) (flat_map part (numbers n))
  covers_parts start part zero h = covers_none (start 0) (start 0) (omega arith) (λ n i j. absurd (omega (arith, i, j)))
  covers_parts start part (suc n) h =
      let e : n + 1 ≡ suc n = omega arith in
      let P : ℕ → Type 0 = λ k. Covers v (start 0) (start k) (flat_map part (numbers k)) in
      let Q : List RowCell → Type 0 = λ cells. Covers v (start 0) (start (n + 1)) cells in
      subst P e (subst Q (sym (flat_map_numbers_more part n))
      (covers_append (start 0) (start n) (start (n + 1)) (flat_map part (numbers n)) (part n)
      (covers_parts start part n (λ k l. h k (omega (arith, l)))) (h n (omega arith))))
