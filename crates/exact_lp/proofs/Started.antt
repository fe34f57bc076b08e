-- A table as it is begun and added to.
use Rattle.std.proofs.Common.{◌≡◌, ℕ, zero, suc, ◌+◌, ◌^◌, ◌<◌, arith, refl, sym, ap, subst, ◌∙◌, List, [], ◌∷◌, ◌++◌, length, map, get_or, drop, drop-cons, add-one, ℤ, pos, neg_ℤ, ◌+ℤ◌, ◌-ℤ◌, ◌*ℤ◌, ◌<ℤ◌, ◌≤ℤ◌, below_more}
use Rattle.std.proofs.lemmas.Int.{ints}
use Rattle.std.proofs.lemmas.List.{length-map, length_push}
use Rattle.ratio.specs.Cells.{cell_at, dot}
use Rattle.exact_lp.specs.Places.{place_of}
use Rattle.exact_lp.specs.Tables.{IsCleared, IsNewRow, IsPriceRow, IsTable, combination, number_at, price_cells, row_at}
use Rattle.exact_lp.proofs.Wider.{all_above, last_one, column_added, mapped_row, price_cells-push, row_added, widened}

pub no_prices : IsPriceRow 0 (pos 0 ∷ pos 1 ∷ [])
no_prices = record { prices = []; one_each = refl; dear = λ k d h. absurd (omega arith); cells_are = refl }

pub one_price : (n : ℕ) (cells : List ℤ) (price y : ℤ) → IsPriceRow n cells → pos 0 ≤ℤ price → y ≡ pos 0 -ℤ price → IsPriceRow (n + 1) (cells ++ y ∷ [])
one_price n cells price y row some e = record {
  prices = row.prices ++ price ∷ [];
  one_each = length_push row.prices price ∙ ap (λ (m : ℕ). m + 1) row.one_each;
  dear = all_above row.prices price row.dear some;
  cells_are = (λ i. row.cells_are i ++ (e ∙ turned price) i ∷ []) ∙ sym (price_cells-push row.prices price);
}
  where
    turned : (p : ℤ) → pos 0 -ℤ p ≡ neg_ℤ p
    turned p = omega (arith, ints)

pub started : (n : ℕ) (cost : List ℤ) → IsPriceRow n cost → IsTable [] cost n [] []
started n cost row = record {
  prices = row.prices;
  one_each = row.one_each;
  dear = row.dear;
  free = λ k h. absurd (omega arith);
  wide = λ k h. absurd (omega arith);
  cost_wide = ap length row.cells_are ∙ wide row.prices n row.one_each;
  costless = λ k h. absurd (omega arith);
  costs = subst (λ (cells : List ℤ). pos 0 <ℤ cell_at cells 1) (sym row.cells_are) (omega (arith, ints));
  based = refl;
  basic = λ k h. absurd (omega arith);
  own = λ k h. absurd (omega arith);
  apart = λ j k h l ne. absurd (omega arith);
  cleared = λ k h. absurd (omega arith);
  meant = λ values hold. let e = ap (λ (cells : List ℤ). dot cells values) row.cells_are in (λ z. sym e ∙ z, λ z. e ∙ z);
}
  where
    wide : (ps : List ℤ) (n : ℕ) → length ps ≡ n → length (price_cells ps) ≡ n + 2
    wide ps n e = let l = length-map ps neg_ℤ in omega arith

-- one more row is taken out of a row to come
pub row_step : (rows : List (List ℤ)) (cost : List ℤ) (variables : ℕ) (basis spares : List ℕ) → IsTable rows cost variables basis spares
    → (spare : ℕ) → ((k : ℕ) → k < length rows → cell_at (row_at rows k) (place_of spare) ≡ pos 0)
    → (at : ℕ) (line new : List ℤ) → at < length rows → IsNewRow basis variables spare at line
    → IsCleared (row_at rows at) (place_of (number_at basis at)) line new → IsNewRow basis variables spare (at + 1) new
row_step rows cost variables basis spares table spare alone at line new inside so clear = record {
  size = clear.size ∙ so.size;
  costless = clear.zero_stays 1 (table.costless at inside) so.costless;
  above = clear.sign_stays (place_of spare) (alone at inside) so.above;
  clear = below_more (λ k. cell_at new (place_of (number_at basis k)) ≡ pos 0) at
      (λ k h. clear.zero_stays (place_of (number_at basis k)) (table.apart at k inside (omega arith) (omega arith)) (so.clear k h))
      clear.gone;
}

pub combination-drop : (row : List ℤ) (spares : List ℕ) (numbers : List ℤ) (i d : ℕ) → i < length spares
    → combination row (drop i spares) (drop i numbers) ≡ cell_at row (place_of (get_or spares i d)) *ℤ get_or numbers i (pos 0) +ℤ combination row (drop (i + 1) spares) (drop (i + 1) numbers)
combination-drop row spares numbers i d h =
    rw (add-one, drop-cons spares i d h) (more row (get_or spares i d) (drop (suc i) spares) numbers i)
  where
    none : (c : ℤ) → pos 0 ≡ c *ℤ pos 0 +ℤ pos 0
    none c = omega (arith, ints)

    nothing : (row : List ℤ) (spares : List ℕ) → combination row spares [] ≡ pos 0
    nothing row [] = refl
    nothing row (s ∷ ss) = refl

    more : (row : List ℤ) (s : ℕ) (ss : List ℕ) (numbers : List ℤ) (i : ℕ)
        → combination row (s ∷ ss) (drop i numbers) ≡ cell_at row (place_of s) *ℤ get_or numbers i (pos 0) +ℤ combination row ss (drop (suc i) numbers)
    more row s ss [] zero = none (cell_at row (place_of s)) ∙ ap (λ (z : ℤ). cell_at row (place_of s) *ℤ pos 0 +ℤ z) (sym (nothing row ss))
    more row s ss [] (suc i) = none (cell_at row (place_of s)) ∙ ap (λ (z : ℤ). cell_at row (place_of s) *ℤ pos 0 +ℤ z) (sym (nothing row ss))
    more row s ss (n ∷ ns) zero = refl
    more row s ss (n ∷ ns) (suc i) = more row s ss ns i

-- ---- as the code writes them
pub spare_added : (rows : List (List ℤ)) (cost : List ℤ) (variables : ℕ) (basis spares : List ℕ) → IsTable rows cost variables basis spares
    → (rows' : List (List ℤ)) (cost' : List ℤ) (variables' : ℕ) (spares' : List ℕ)
    → rows' ≡ map (λ (row : List ℤ). row ++ pos 0 ∷ []) rows → cost' ≡ cost ++ pos 0 ∷ [] → variables' ≡ variables + 1 → spares' ≡ spares ++ variables ∷ [] → variables + 2 < 2 ^ 64
    → IsTable rows' cost' variables' basis spares'
spare_added rows cost variables basis spares table rows' cost' variables' spares' e f g h fits =
    subst (λ (xs : List (List ℤ)). IsTable xs cost' variables' basis spares') (sym e)
    (subst (λ (xs : List ℤ). IsTable (map (λ (row : List ℤ). row ++ pos 0 ∷ []) rows) xs variables' basis spares') (sym f)
    (subst (λ (n : ℕ). IsTable (map (λ (row : List ℤ). row ++ pos 0 ∷ []) rows) (cost ++ pos 0 ∷ []) n basis spares') (sym g)
    (subst (λ (xs : List ℕ). IsTable (map (λ (row : List ℤ). row ++ pos 0 ∷ []) rows) (cost ++ pos 0 ∷ []) (variables + 1) basis xs) (sym h)
    (widened rows cost variables basis spares table fits))))

-- the new cell of a row that is as wide as it should be
pub new_cell : (row : List ℤ) (variables : ℕ) → length row ≡ variables + 2 → variables + 2 < 2 ^ 64 → cell_at (row ++ pos 0 ∷ []) (place_of variables) ≡ pos 0
new_cell row variables long fits = last_one row (pos 0) (pos 0) (place_of variables) (omega arith)

pub spare_alone : (rows rows' : List (List ℤ)) (variables : ℕ) → ((k : ℕ) → k < length rows → length (row_at rows k) ≡ variables + 2) → rows' ≡ map (λ (row : List ℤ). row ++ pos 0 ∷ []) rows
    → variables + 2 < 2 ^ 64 → (k : ℕ) → k < length rows' → cell_at (row_at rows' k) (place_of variables) ≡ pos 0
spare_alone rows rows' variables wide e fits k h =
    let inside : k < length rows = omega (arith, ap length e, length-map rows (λ (row : List ℤ). row ++ pos 0 ∷ [])) in
    ap (λ (xs : List (List ℤ)). cell_at (row_at xs k) (place_of variables)) e
    ∙ ap (λ (r : List ℤ). cell_at r (place_of variables)) (mapped_row rows k inside)
    ∙ new_cell (row_at rows k) variables (wide k inside) fits

pub column_table : (rows : List (List ℤ)) (cost : List ℤ) (variables : ℕ) (basis spares : List ℕ) → IsTable rows cost variables basis spares
    → (numbers : List ℤ) (price y : ℤ) (rows' : List (List ℤ)) (cost' : List ℤ) (variables' : ℕ)
    → rows' ≡ map (λ (row : List ℤ). row ++ combination row spares numbers ∷ []) rows → cost' ≡ cost ++ y ∷ []
    → y ≡ combination cost spares numbers -ℤ cell_at cost 1 *ℤ price → pos 0 ≤ℤ price → variables' ≡ variables + 1
    → IsTable rows' cost' variables' basis spares
column_table rows cost variables basis spares table numbers price y rows' cost' variables' e f is some g =
    let added = map (λ (row : List ℤ). row ++ combination row spares numbers ∷ []) rows in
    subst (λ (xs : List (List ℤ)). IsTable xs cost' variables' basis spares) (sym e)
    (subst (λ (xs : List ℤ). IsTable added xs variables' basis spares) (sym (f ∙ ap (λ (z : ℤ). cost ++ z ∷ []) is))
    (subst (λ (n : ℕ). IsTable added (cost ++ (combination cost spares numbers -ℤ cell_at cost 1 *ℤ price) ∷ []) n basis spares) (sym g)
    (column_added rows cost variables basis spares table numbers price some)))

pub row_table : (rows : List (List ℤ)) (cost : List ℤ) (variables : ℕ) (basis spares : List ℕ) → IsTable rows cost variables basis spares
    → (spare : ℕ) (line : List ℤ) → spare < variables → ((k : ℕ) → k < length rows → cell_at (row_at rows k) (place_of spare) ≡ pos 0) → cell_at cost (place_of spare) ≡ pos 0
    → IsNewRow basis variables spare (length rows) line → (rows' : List (List ℤ)) (basis' : List ℕ) → rows' ≡ rows ++ line ∷ [] → basis' ≡ basis ++ spare ∷ []
    → IsTable rows' cost variables basis' spares
row_table rows cost variables basis spares table spare line within alone unpriced new rows' basis' e f =
    subst (λ (xs : List (List ℤ)). IsTable xs cost variables basis' spares) (sym e)
    (subst (λ (xs : List ℕ). IsTable (rows ++ line ∷ []) cost variables xs spares) (sym f)
    (row_added rows cost variables basis spares table line spare within new.size new.costless new.above new.clear alone unpriced))
