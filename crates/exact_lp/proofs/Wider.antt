-- One more variable, and one more row, keep what a table keeps.
use Rattle.std.proofs.Common.{◌≡◌, ◌≢◌, ℕ, zero, suc, ◌+◌, ◌^◌, ◌<◌, ◌≤◌, arith, refl, sym, ap, subst, ◌∙◌, List, [], ◌∷◌, ◌++◌, length, map, get_or, ℤ, pos, neg_ℤ, ◌+ℤ◌, ◌-ℤ◌, ◌*ℤ◌, ◌<ℤ◌, ◌≤ℤ◌, ◌↔◌, ◌⊎◌, ⊎_elim, below_more}
use Rattle.std.specs.Prelude.{All}
use Rattle.std.proofs.lemmas.Int.{ints}
use Rattle.std.proofs.lemmas.List.{get_or_append_left, get_or_past, get_or_push, length-map, length_push, map_push}
use Rattle.ratio.specs.Cells.{cell_at, dot}
use Rattle.ratio.proofs.Ring.{add-mul_ℤ, mul_assoc_ℤ, mul-neg_ℤ, sub-mul_ℤ}
use Rattle.exact_lp.specs.Places.{place_of}
use Rattle.exact_lp.specs.Tables.{IsTable, combination, price_cells, row_at, number_at}
use Rattle.exact_lp.proofs.Ray.{neg_product}
use Rattle.exact_lp.proofs.Swapped.{all_rows}
use Rattle.exact_lp.proofs.Values.{added, length-added, dot-added, dot-append}

-- the cells in front of a new one
before : (cells : List ℤ) (x : ℤ) (v n : ℕ) → length cells ≡ n + 2 → v < n → cell_at (cells ++ x ∷ []) (place_of v) ≡ cell_at cells (place_of v)
before cells x v n long h = get_or_append_left cells (x ∷ []) (pos 0) (place_of v) (omega arith)

pub last_one : {A : Type 0} (xs : List A) (x d : A) (k : ℕ) → k ≡ length xs → get_or (xs ++ x ∷ []) k d ≡ x
last_one xs x d k e = get_or_push xs x d k (sym e)

-- all are at least 0, and one more
pub all_above : (ps : List ℤ) (p : ℤ) → All (λ x. pos 0 ≤ℤ x) ps → pos 0 ≤ℤ p → All (λ x. pos 0 ≤ℤ x) (ps ++ p ∷ [])
all_above [] p all some zero d h = some
all_above [] p all some (suc k) d h = absurd (omega arith)
all_above (x ∷ xs) p all some zero d h = all 0 x (omega arith)
all_above (x ∷ xs) p all some (suc k) d h = all_above xs p (λ j e l. all (suc j) e (omega arith)) some k d (omega arith)

-- what the new variable means: its cells, its price and what may be solved
pub wider : (rows : List (List ℤ)) (cost : List ℤ) (variables : ℕ) (basis spares : List ℕ) → (table : IsTable rows cost variables basis spares)
    → (rows' : List (List ℤ)) (cells : ℕ → ℤ) (y price : ℤ) (spares' : List ℕ)
    → length rows' ≡ length rows → ((k : ℕ) → k < length rows → row_at rows' k ≡ row_at rows k ++ cells k ∷ []) → pos 0 ≤ℤ price
    → ((k : ℕ) → k < length spares' → (number_at spares' k < variables + 1) × (cell_at (price_cells (table.prices ++ price ∷ [])) (place_of (number_at spares' k)) ≡ pos 0))
    → ((values : List ℤ) → All (λ row. dot row values ≡ pos 0) rows' → (dot (cost ++ y ∷ []) values ≡ pos 0) ↔ (dot (price_cells (table.prices ++ price ∷ [])) values ≡ pos 0))
    → IsTable rows' (cost ++ y ∷ []) (variables + 1) basis spares'
wider rows cost variables basis spares table rows' cells y price spares' long is some free meant =
    let Cell : (place : ℕ) → List ℤ → Type 0 = λ place r. cell_at r place ≡ pos 0 in
    let front : (k v : ℕ) → k < length rows → v < variables → cell_at (row_at rows' k) (place_of v) ≡ cell_at (row_at rows k) (place_of v) =
    λ k v h l. ap (λ (r : List ℤ). cell_at r (place_of v)) (is k h) ∙ before (row_at rows k) (cells k) v variables (table.wide k h) l in
    let front_cost : (v : ℕ) → v < variables → cell_at (cost ++ y ∷ []) (place_of v) ≡ cell_at cost (place_of v) = λ v l. before cost y v variables table.cost_wide l in
    let one_cost : cell_at (cost ++ y ∷ []) 1 ≡ cell_at cost 1 = get_or_append_left cost (y ∷ []) (pos 0) 1 (omega (arith, table.cost_wide)) in
    record {
      prices = table.prices ++ price ∷ [];
      one_each = length_push table.prices price ∙ ap (λ (n : ℕ). n + 1) table.one_each;
      dear = all_above table.prices price table.dear some;
      free = free;
      wide = λ k h. ap length (is k (omega arith)) ∙ length_push (row_at rows k) (cells k) ∙ wide_more (length (row_at rows k)) variables (table.wide k (omega arith));
      cost_wide = length_push cost y ∙ wide_more (length cost) variables table.cost_wide;
      costless = λ k h. ap (λ (r : List ℤ). cell_at r 1) (is k (omega arith)) ∙ get_or_append_left (row_at rows k) (cells k ∷ []) (pos 0) 1 (omega (arith, table.wide k (omega arith))) ∙ table.costless k (omega arith);
      costs = subst (λ (z : ℤ). pos 0 <ℤ z) (sym one_cost) table.costs;
      based = table.based ∙ sym long;
      basic = λ k h. omega (arith, table.basic k (omega arith));
      own = λ k h. subst (λ (z : ℤ). pos 0 <ℤ z) (sym (front k (number_at basis k) (omega arith) (table.basic k (omega arith)))) (table.own k (omega arith));
      apart = λ j k h l differ. front j (number_at basis k) (omega arith) (table.basic k (omega arith)) ∙ table.apart j k (omega arith) (omega arith) differ;
      cleared = λ k h. front_cost (number_at basis k) (table.basic k (omega arith)) ∙ table.cleared k (omega arith);
      meant = meant;
    }
  where
    wide_more : (m n : ℕ) → m ≡ n + 2 → m + 1 ≡ n + 1 + 2
    wide_more m n e = omega arith

-- prices and one more
pub price_cells-push : (ps : List ℤ) (p : ℤ) → price_cells (ps ++ p ∷ []) ≡ price_cells ps ++ neg_ℤ p ∷ []
price_cells-push ps p = ap (λ (xs : List ℤ). pos 0 ∷ pos 1 ∷ xs) (map_push neg_ℤ ps p)

length-price_cells : (ps : List ℤ) → length (price_cells ps) ≡ length ps + 2
length-price_cells ps = let e = length-map ps neg_ℤ in omega arith

price_front : (ps : List ℤ) (p : ℤ) (v n : ℕ) → length ps ≡ n → v < n → cell_at (price_cells (ps ++ p ∷ [])) (place_of v) ≡ cell_at (price_cells ps) (place_of v)
price_front ps p v n long h =
    ap (λ (xs : List ℤ). cell_at xs (place_of v)) (price_cells-push ps p) ∙ before (price_cells ps) (neg_ℤ p) v n (length-price_cells ps ∙ ap (λ (m : ℕ). m + 2) long) h

same_sums : {a b c d : ℤ} → a ≡ b → c ≡ d → ((a ≡ pos 0) ↔ (c ≡ pos 0)) → (b ≡ pos 0) ↔ (d ≡ pos 0)
same_sums e h both = (λ z. sym h ∙ both.0 (e ∙ z), λ z. sym e ∙ both.1 (h ∙ z))

nothing_added : (s c x : ℤ) → c ≡ pos 0 → s ≡ s +ℤ c *ℤ x
nothing_added s c x e = none s x ∙ ap (λ (z : ℤ). s +ℤ z *ℤ x) (sym e)
  where
    none : (s x : ℤ) → s ≡ s +ℤ pos 0 *ℤ x
    none s x = omega (arith, ints)

added_nothing : (s c x : ℤ) → x ≡ pos 0 → s ≡ s +ℤ c *ℤ x
added_nothing s c x e = none s c ∙ ap (λ (z : ℤ). s +ℤ c *ℤ z) (sym e)
  where
    none : (s c : ℤ) → s ≡ s +ℤ c *ℤ pos 0
    none s c = omega (arith, ints)

pub mapped_row : (rows : List (List ℤ)) (k : ℕ) → k < length rows → row_at (map (λ (row : List ℤ). row ++ pos 0 ∷ []) rows) k ≡ row_at rows k ++ pos 0 ∷ []
mapped_row [] k h = absurd (omega arith)
mapped_row (row ∷ rows) zero h = refl
mapped_row (row ∷ rows) (suc k) h = mapped_row rows k (omega arith)

-- ---- a spare variable, which stands in no row yet
pub widened : (rows : List (List ℤ)) (cost : List ℤ) (variables : ℕ) (basis spares : List ℕ) → IsTable rows cost variables basis spares → variables + 2 < 2 ^ 64
    → IsTable (map (λ (row : List ℤ). row ++ pos 0 ∷ []) rows) (cost ++ pos 0 ∷ []) (variables + 1) basis (spares ++ variables ∷ [])
widened rows cost variables basis spares table fits =
    let widen : List ℤ → List ℤ = λ row. row ++ pos 0 ∷ [] in
    let rows' = map widen rows in
    let ps' = table.prices ++ pos 0 ∷ [] in
    let is : (k : ℕ) → k < length rows → row_at rows' k ≡ row_at rows k ++ pos 0 ∷ [] = λ k h. mapped_row rows k h in
    let Free : ℕ → Type 0 = λ s. (s < variables + 1) × (cell_at (price_cells ps') (place_of s) ≡ pos 0) in
    wider rows cost variables basis spares table rows' (λ k. pos 0) (pos 0) (pos 0) (spares ++ variables ∷ [])
    (length-map rows widen) is (omega (arith, ints))
    (λ k h. pushed Free spares variables
    (λ k l. let f = table.free k l in (omega (arith, f.0), price_front table.prices (pos 0) (number_at spares k) variables table.one_each f.0 ∙ f.1))
    (omega arith, new_price table.prices variables table.one_each fits) k h)
    (λ values hold.
    let Zero : List ℤ → Type 0 = λ r. dot r values ≡ pos 0 in
    let same : (row : List ℤ) → dot (row ++ pos 0 ∷ []) values ≡ dot row values = λ row. dot-append row (pos 0) values ∙ sym (nothing_added (dot row values) (pos 0) (cell_at values (length row)) refl) in
    let old : All Zero rows = all_rows Zero rows (λ k h. sym (ap (λ (r : List ℤ). dot r values) (is k h) ∙ same (row_at rows k)) ∙ hold k [] (omega (arith, length-map rows widen))) in
    same_sums (sym (same cost)) (sym (ap (λ (r : List ℤ). dot r values) (price_cells-push table.prices (pos 0)) ∙ same (price_cells table.prices))) (table.meant values old))
  where
    pushed : (P : ℕ → Type 0) (xs : List ℕ) (x : ℕ) → ((k : ℕ) → k < length xs → P (number_at xs k)) → P x → (k : ℕ) → k < length (xs ++ x ∷ []) → P (number_at (xs ++ x ∷ []) k)
    pushed P [] x all here zero h = here
    pushed P [] x all here (suc k) h = absurd (omega arith)
    pushed P (y ∷ ys) x all here zero h = all 0 (omega arith)
    pushed P (y ∷ ys) x all here (suc k) h = pushed P ys x (λ j l. all (suc j) (omega arith)) here k (omega arith)

    new_price : (ps : List ℤ) (n : ℕ) → length ps ≡ n → n + 2 < 2 ^ 64 → cell_at (price_cells (ps ++ pos 0 ∷ [])) (place_of n) ≡ pos 0
    new_price ps n long fits =
        let e : place_of n ≡ n + 2 = omega arith in
        ap (λ (xs : List ℤ). cell_at xs (place_of n)) (price_cells-push ps (pos 0)) ∙ last_one (price_cells ps) (pos 0) (pos 0) (place_of n) (omega (arith, length-price_cells ps))

-- ---- a row, with a variable of its own that stands in no other
pub row_added : (rows : List (List ℤ)) (cost : List ℤ) (variables : ℕ) (basis spares : List ℕ) → IsTable rows cost variables basis spares
    → (line : List ℤ) (v : ℕ) → v < variables → length line ≡ variables + 2 → cell_at line 1 ≡ pos 0 → pos 0 <ℤ cell_at line (place_of v)
    → ((k : ℕ) → k < length rows → cell_at line (place_of (number_at basis k)) ≡ pos 0)
    → ((k : ℕ) → k < length rows → cell_at (row_at rows k) (place_of v) ≡ pos 0) → cell_at cost (place_of v) ≡ pos 0
    → IsTable (rows ++ line ∷ []) cost variables (basis ++ v ∷ []) spares
row_added rows cost variables basis spares table line v within long costless above clear elsewhere unpriced =
    let rows' = rows ++ line ∷ [] in
    let basis' = basis ++ v ∷ [] in
    let size : length rows' ≡ length rows + 1 = length_push rows line in
    let old : (k : ℕ) → k < length rows → row_at rows' k ≡ row_at rows k = λ k h. get_or_append_left rows (line ∷ []) [] k h in
    let new : row_at rows' (length rows) ≡ line = last_one rows line [] (length rows) refl in
    let old_basic : (k : ℕ) → k < length rows → number_at basis' k ≡ number_at basis k = λ k h. get_or_append_left basis (v ∷ []) 0 k (omega (arith, table.based)) in
    let new_basic : number_at basis' (length rows) ≡ v = last_one basis v 0 (length rows) (sym table.based) in
    let each_row : (P : ℕ → Type 0) → ((k : ℕ) → k < length rows → P k) → P (length rows) → (k : ℕ) → k < length rows' → P k = λ P all here k h. below_more P (length rows) all here k (omega arith) in
    let cell : (k : ℕ) (r : List ℤ) (b : ℕ) → row_at rows' k ≡ r → cell_at (row_at rows' k) (place_of b) ≡ cell_at r (place_of b) = λ k r b e. ap (λ (x : List ℤ). cell_at x (place_of b)) e in
    let moved : (r : List ℤ) (a b : ℕ) → a ≡ b → cell_at r (place_of a) ≡ cell_at r (place_of b) = λ r a b e. ap (λ (n : ℕ). cell_at r (place_of n)) e in
    record {
      prices = table.prices;
      one_each = table.one_each;
      dear = table.dear;
      free = table.free;
      wide = each_row (λ k. length (row_at rows' k) ≡ variables + 2) (λ k h. ap length (old k h) ∙ table.wide k h) (ap length new ∙ long);
      cost_wide = table.cost_wide;
      costless = each_row (λ k. cell_at (row_at rows' k) 1 ≡ pos 0) (λ k h. ap (λ (x : List ℤ). cell_at x 1) (old k h) ∙ table.costless k h) (ap (λ (x : List ℤ). cell_at x 1) new ∙ costless);
      costs = table.costs;
      based = length_push basis v ∙ ap (λ (n : ℕ). n + 1) table.based ∙ sym size;
      basic = each_row (λ k. number_at basis' k < variables) (λ k h. omega (arith, old_basic k h, table.basic k h)) (omega (arith, new_basic));
      own = each_row (λ k. pos 0 <ℤ cell_at (row_at rows' k) (place_of (number_at basis' k)))
          (λ k h. subst (λ (z : ℤ). pos 0 <ℤ z) (sym (moved (row_at rows' k) (number_at basis' k) (number_at basis k) (old_basic k h) ∙ cell k (row_at rows k) (number_at basis k) (old k h))) (table.own k h))
          (subst (λ (z : ℤ). pos 0 <ℤ z) (sym (moved (row_at rows' (length rows)) (number_at basis' (length rows)) v new_basic ∙ cell (length rows) line v new)) above);
      apart = λ j k h l differ. each_row (λ j. j ≢ k → cell_at (row_at rows' j) (place_of (number_at basis' k)) ≡ pos 0)
          (λ j h differ. cell j (row_at rows j) (number_at basis' k) (old j h)
          ∙ each_row (λ k. j ≢ k → cell_at (row_at rows j) (place_of (number_at basis' k)) ≡ pos 0)
          (λ k l differ. moved (row_at rows j) (number_at basis' k) (number_at basis k) (old_basic k l) ∙ table.apart j k h l differ)
          (λ differ. moved (row_at rows j) (number_at basis' (length rows)) v new_basic ∙ elsewhere j h) k l differ)
          (λ differ. cell (length rows) line (number_at basis' k) new
          ∙ each_row (λ k. length rows ≢ k → cell_at line (place_of (number_at basis' k)) ≡ pos 0)
          (λ k l differ. moved line (number_at basis' k) (number_at basis k) (old_basic k l) ∙ clear k l)
          (λ differ. absurd (differ refl)) k l differ) j h differ;
      cleared = each_row (λ k. cell_at cost (place_of (number_at basis' k)) ≡ pos 0) (λ k h. moved cost (number_at basis' k) (number_at basis k) (old_basic k h) ∙ table.cleared k h) (moved cost (number_at basis' (length rows)) v new_basic ∙ unpriced);
      meant = λ values hold.
          let Zero : List ℤ → Type 0 = λ r. dot r values ≡ pos 0 in
          table.meant values (all_rows Zero rows (λ k h. subst Zero (old k h) (hold k [] (omega arith))));
    }

-- ---- a column, with the cells that the given rows' numbers give it
abbrev shift : List ℤ → List ℕ → List ℤ → ℤ → List ℤ
shift values [] numbers x = values
shift values (spare ∷ spares) [] x = values
shift values (spare ∷ spares) (number ∷ numbers) x = added (shift values spares numbers x) (place_of spare) (number *ℤ x)

length-shift : (values : List ℤ) (spares : List ℕ) (numbers : List ℤ) (x : ℤ) → length (shift values spares numbers x) ≡ length values
length-shift values [] numbers x = refl
length-shift values (spare ∷ spares) [] x = refl
length-shift values (spare ∷ spares) (number ∷ numbers) x = length-added (shift values spares numbers x) (place_of spare) (number *ℤ x) ∙ length-shift values spares numbers x

dot-shift : (cells values : List ℤ) (spares : List ℕ) (numbers : List ℤ) (x : ℤ) → ((k : ℕ) → k < length spares → place_of (number_at spares k) < length values)
    → dot cells (shift values spares numbers x) ≡ dot cells values +ℤ combination cells spares numbers *ℤ x
dot-shift cells values [] numbers x inside = nothing_added (dot cells values) (pos 0) x refl
dot-shift cells values (spare ∷ spares) [] x inside = nothing_added (dot cells values) (pos 0) x refl
dot-shift cells values (spare ∷ spares) (number ∷ numbers) x inside =
    let rest = shift values spares numbers x in
    let e = dot-shift cells values spares numbers x (λ k h. inside (suc k) (omega arith)) in
    let c = cell_at cells (place_of spare) in
    dot-added cells rest (place_of spare) (number *ℤ x) (omega (arith, inside 0 (omega arith), length-shift values spares numbers x))
    ∙ joined (dot cells values) (combination cells spares numbers) (dot cells rest) c number x e
  where
    joined : (d s r c n x : ℤ) → r ≡ d +ℤ s *ℤ x → r +ℤ c *ℤ (n *ℤ x) ≡ d +ℤ (c *ℤ n +ℤ s) *ℤ x
    joined d s r c n x e =
        let a = mul_assoc_ℤ c n x in
        let b = add-mul_ℤ (c *ℤ n) s x in
        omega (arith, ints)

combination_free : (cells : List ℤ) (spares : List ℕ) (numbers : List ℤ) → ((k : ℕ) → k < length spares → cell_at cells (place_of (number_at spares k)) ≡ pos 0) → combination cells spares numbers ≡ pos 0
combination_free cells [] numbers free = refl
combination_free cells (spare ∷ spares) [] free = refl
combination_free cells (spare ∷ spares) (number ∷ numbers) free =
    none (cell_at cells (place_of spare)) number (combination cells spares numbers) (free 0 (omega arith)) (combination_free cells spares numbers (λ k h. free (suc k) (omega arith)))
  where
    none : (c n s : ℤ) → c ≡ pos 0 → s ≡ pos 0 → c *ℤ n +ℤ s ≡ pos 0
    none c n s e h = (λ i. e i *ℤ n +ℤ h i) ∙ zeros n
      where
        zeros : (n : ℤ) → pos 0 *ℤ n +ℤ pos 0 ≡ pos 0
        zeros n = omega (arith, ints)

pub column_added : (rows : List (List ℤ)) (cost : List ℤ) (variables : ℕ) (basis spares : List ℕ) → IsTable rows cost variables basis spares
    → (numbers : List ℤ) (price : ℤ) → pos 0 ≤ℤ price
    → IsTable (map (λ (row : List ℤ). row ++ combination row spares numbers ∷ []) rows)
    (cost ++ (combination cost spares numbers -ℤ cell_at cost 1 *ℤ price) ∷ []) (variables + 1) basis spares
column_added rows cost variables basis spares table numbers price some =
    let widen : List ℤ → List ℤ = λ row. row ++ combination row spares numbers ∷ [] in
    let rows' = map widen rows in
    let k1 = cell_at cost 1 in
    let y = combination cost spares numbers -ℤ k1 *ℤ price in
    let is : (k : ℕ) → k < length rows → row_at rows' k ≡ row_at rows k ++ combination (row_at rows k) spares numbers ∷ [] = λ k h. mapped_row rows k h in
    wider rows cost variables basis spares table rows' (λ k. combination (row_at rows k) spares numbers) y price spares
    (length-map rows widen) is some
    (λ k h. let f = table.free k h in (omega (arith, f.0), price_front table.prices price (number_at spares k) variables table.one_each f.0 ∙ f.1))
    (λ values hold. meant values (λ k h. sym (ap (λ (r : List ℤ). dot r values) (is k h)) ∙ hold k [] (omega (arith, length-map rows widen))))
  where
    mapped_row : (rows : List (List ℤ)) (k : ℕ) → k < length rows → row_at (map (λ (row : List ℤ). row ++ combination row spares numbers ∷ []) rows) k ≡ row_at rows k ++ combination (row_at rows k) spares numbers ∷ []
    mapped_row [] k h = absurd (omega arith)
    mapped_row (row ∷ rows) zero h = refl
    mapped_row (row ∷ rows) (suc k) h = mapped_row rows k (omega arith)

    meant : (values : List ℤ) → ((k : ℕ) → k < length rows → dot (row_at rows k ++ combination (row_at rows k) spares numbers ∷ []) values ≡ pos 0)
        → (dot (cost ++ (combination cost spares numbers -ℤ cell_at cost 1 *ℤ price) ∷ []) values ≡ pos 0) ↔ (dot (price_cells (table.prices ++ price ∷ [])) values ≡ pos 0)
    meant values hold =
        let wide = variables + 2 in
        let x = cell_at values wide in
        let k1 = cell_at cost 1 in
        let y = combination cost spares numbers -ℤ k1 *ℤ price in
        let ps = table.prices in
        let Zero : List ℤ → Type 0 = λ r. dot r values ≡ pos 0 in
        let appended : (cells : List ℤ) (c : ℤ) → length cells ≡ wide → dot (cells ++ c ∷ []) values ≡ dot cells values +ℤ c *ℤ x =
        λ cells c long. dot-append cells c values ∙ ap (λ (n : ℕ). dot cells values +ℤ c *ℤ cell_at values n) long in
        let prices_long : length (price_cells ps) ≡ wide = length-price_cells ps ∙ ap (λ (n : ℕ). n + 2) table.one_each in
        let priced : dot (price_cells (ps ++ price ∷ [])) values ≡ dot (price_cells ps) values +ℤ neg_ℤ price *ℤ x =
        ap (λ (r : List ℤ). dot r values) (price_cells-push ps price) ∙ appended (price_cells ps) (neg_ℤ price) prices_long in
        ⊎_elim
        (λ (inside : wide < length values).
        let places : (k : ℕ) → k < length spares → place_of (number_at spares k) < length values = λ k h. let f = (table.free k h).0 in omega arith in
        let shifted = shift values spares numbers x in
        let m = neg_ℤ price *ℤ x in
        let ws = added shifted 1 m in
        let sum : (cells : List ℤ) → dot cells ws ≡ dot cells values +ℤ combination cells spares numbers *ℤ x +ℤ cell_at cells 1 *ℤ m =
        λ cells. dot-added cells shifted 1 m (omega (arith, length-shift values spares numbers x)) ∙ ap (λ (z : ℤ). z +ℤ cell_at cells 1 *ℤ m) (dot-shift cells values spares numbers x places) in
        let old : All (λ (r : List ℤ). dot r ws ≡ pos 0) rows = all_rows (λ (r : List ℤ). dot r ws ≡ pos 0) rows
        (λ k h. sum (row_at rows k)
        ∙ sym (nothing_added (dot (row_at rows k) values +ℤ combination (row_at rows k) spares numbers *ℤ x) (cell_at (row_at rows k) 1) m (table.costless k h))
        ∙ sym (appended (row_at rows k) (combination (row_at rows k) spares numbers) (table.wide k h)) ∙ hold k h) in
        same_sums
        (sum cost ∙ sym (cost_same (dot cost values) (combination cost spares numbers) x k1 price) ∙ sym (appended cost y table.cost_wide))
        (sum (price_cells ps) ∙ price_same (dot (price_cells ps) values) (combination (price_cells ps) spares numbers) x price (combination_free (price_cells ps) spares numbers (λ k h. (table.free k h).1)) ∙ sym priced)
        (table.meant ws old))
        (λ (past : length values ≤ wide).
        let none : x ≡ pos 0 = get_or_past values wide (pos 0) past in
        let same : (cells : List ℤ) (c : ℤ) → length cells ≡ wide → dot (cells ++ c ∷ []) values ≡ dot cells values = λ cells c long. appended cells c long ∙ sym (added_nothing (dot cells values) c x none) in
        let old : All Zero rows = all_rows Zero rows (λ k h. sym (same (row_at rows k) (combination (row_at rows k) spares numbers) (table.wide k h)) ∙ hold k h) in
        same_sums (sym (same cost y table.cost_wide)) (sym (priced ∙ sym (added_nothing (dot (price_cells ps) values) (neg_ℤ price) x none))) (table.meant values old))
        (below_or_not (variables + 2) (length values))
      where
        below_or_not : (k n : ℕ) → (k < n) ⊎ (n ≤ k)
        below_or_not k n = grind arith

        cost_same : (d s x k p : ℤ) → d +ℤ (s -ℤ k *ℤ p) *ℤ x ≡ d +ℤ s *ℤ x +ℤ k *ℤ (neg_ℤ p *ℤ x)
        cost_same d s x k p =
            let a = sub-mul_ℤ s (k *ℤ p) x in
            let b = mul_assoc_ℤ k p x in
            let c = ap (λ (z : ℤ). k *ℤ z) (neg_product p x) ∙ mul-neg_ℤ k (p *ℤ x) in
            omega (arith, ints)

        price_same : (d s x p : ℤ) → s ≡ pos 0 → d +ℤ s *ℤ x +ℤ pos 1 *ℤ (neg_ℤ p *ℤ x) ≡ d +ℤ neg_ℤ p *ℤ x
        price_same d s x p e = ap (λ (z : ℤ). d +ℤ z *ℤ x +ℤ pos 1 *ℤ (neg_ℤ p *ℤ x)) e ∙ alone d x (neg_ℤ p *ℤ x)
          where
            alone : (d x m : ℤ) → d +ℤ pos 0 *ℤ x +ℤ pos 1 *ℤ m ≡ d +ℤ m
            alone d x m = omega (arith, ints)
