-- From the rows and columns with weight to the whole table.
use Rattle.std.proofs.Common.{◌≡◌, ℕ, zero, suc, ◌+◌, ◌*◌, ◌<◌, ◌≤◌, List, [], ◌∷◌, length, map, refl, sym, ap, ◌∙◌, subst, arith, slice_index, sum, cond, eqb, ⊎_elim}
use Rattle.std.specs.List.{All, range_with_len}
use Rattle.std.proofs.lemmas.Bool.{cases_eq, cases_lt, cases_Bool, eq-eqb, eqb-true}
use Rattle.std.proofs.lemmas.List.{length-map, get_or-map}
use Rattle.std.proofs.lemmas.List.Elements.{All-from_get_or}
use Rattle.std.proofs.lemmas.List.FromFn.{get_or-map-range_with_len, length-map-range_with_len}
use Rattle.std.proofs.lemmas.List.Sums.{sum_by-cons}
use Rattle.transport.specs.declared.entries.Entry.{Entry}
use Rattle.transport.specs.Core.{entry_at, no_entry, only_at, lifted, cost_in, IsFeasible, IsPlaced, IsSolved}
use Rattle.transport.specs.Kept.{kept_from, whole_entry, IsPlacement, IsShownSolved, IsSolvedAt}
use Rattle.transport.specs.Spread.{AreMostColumns, AreMostRows}
use Rattle.transport.proofs.Duality.{dot, dot_same, keyed, weight_in, weight_grouped}
use Rattle.transport.proofs.Keeping.{IsKept, is_kept, look, look_is, look_at}

only_none : (a b n : ℕ) → (a ≡ b → ⊥) → only_at a b n ≡ 0
only_none a b n ne = ⊎_elim (λ e. absurd (ne (eqb-true a b e))) (λ e. ap (λ x. cond x n 0) e) (cases_Bool (eqb a b))

only_some : (a b n : ℕ) → a ≡ b → only_at a b n ≡ n
only_some a b n e = ap (λ x. cond x n 0) (eq-eqb a b e)

-- two different places kept are different
injective : (P : List ℕ) → ((a b : ℕ) → a < b → b < length P → slice_index P a < slice_index P b) → (a b : ℕ) → a < length P → b < length P → slice_index P a ≡ slice_index P b → a ≡ b
injective P rising a b al bl e =
    ⊎_elim (λ l. absurd (let h = rising a b l bl in omega arith))
    (λ g. ⊎_elim (λ l. absurd (let h = rising b a l al in omega arith)) (λ g'. omega arith) (cases_lt b a))
    (cases_lt a b)

-- what the mapped entries have at a place kept
same_keyed : (key : Entry → ℕ) (m : Entry → Entry) (P : List ℕ) (es : List Entry) → ((a b : ℕ) → a < b → b < length P → slice_index P a < slice_index P b) → ((e : Entry) → key (m e) ≡ slice_index P (key e)) → ((e : Entry) → (m e).weight ≡ e.weight) → ((k : ℕ) → k < length es → key (entry_at es k) < length P) → (a : ℕ) → a < length P → keyed key (map m es) (slice_index P a) ≡ keyed key es a
same_keyed key m P [] rising keys weights inside a al = refl
same_keyed key m P (e ∷ es) rising keys weights inside a al =
    let l = sum_by-cons (λ (x : Entry). only_at (key x) (slice_index P a) x.weight) (m e) (map m es) in
    let r = sum_by-cons (λ (x : Entry). only_at (key x) a x.weight) e es in
    let rest = same_keyed key m P es rising keys weights (λ k kl. inside (suc k) (omega arith)) a al in
    let w = weights e in
    let kl = inside 0 (omega arith) in
    let head : only_at (key (m e)) (slice_index P a) (m e).weight ≡ only_at (key e) a e.weight = ⊎_elim
    (λ same. only_some (key (m e)) (slice_index P a) (m e).weight (keys e ∙ ap (slice_index P) same) ∙ w ∙ sym (only_some (key e) a e.weight same))
    (λ other. only_none (key (m e)) (slice_index P a) (m e).weight (λ q. other (injective P rising (key e) a kl al (sym (keys e) ∙ q))) ∙ sym (only_none (key e) a e.weight other))
    (cases_eq (key e) a) in
    omega arith

-- and elsewhere
none_keyed : (key : Entry → ℕ) (m : Entry → Entry) (es : List Entry) (i : ℕ) → ((k : ℕ) → k < length es → key (m (entry_at es k)) ≡ i → ⊥) → keyed key (map m es) i ≡ 0
none_keyed key m [] i h = refl
none_keyed key m (e ∷ es) i h =
    let l = sum_by-cons (λ (x : Entry). only_at (key x) i x.weight) (m e) (map m es) in
    let rest = none_keyed key m es i (λ k kl. h (suc k) (omega arith)) in
    let head = only_none (key (m e)) i (m e).weight (h 0 (omega arith)) in
    omega arith

-- the sums of the mapped entries
whole_sums : (key : Entry → ℕ) (m : Entry → Entry) (P ws : List ℕ) (es : List Entry) → IsKept 0 ws P → ((e : Entry) → key (m e) ≡ slice_index P (key e)) → ((e : Entry) → (m e).weight ≡ e.weight) → ((k : ℕ) → k < length es → key (entry_at es k) < length P) → ((a : ℕ) → a < length (map (slice_index ws) P) → keyed key es a ≡ slice_index (map (slice_index ws) P) a) → (i : ℕ) → i < length ws → keyed key (map m es) i ≡ slice_index ws i
whole_sums key m P ws es kept keys weights inside sums i il =
    ⊎_elim
    (λ some.
    let f = kept.all i il some in
    let at : slice_index P f.0 ≡ i = let e = f.2 in omega arith in
    let one = same_keyed key m P es kept.rising keys weights inside f.0 f.1 in
    let two = sums f.0 (let e = length-map P (slice_index ws) in let g = f.1 in omega arith) in
    let three = get_or-map (slice_index ws) P f.0 0 0 f.1 in
    let Q : ℕ → Type 0 = λ x. keyed key (map m es) x ≡ slice_index ws x in
    subst Q at (one ∙ two ∙ three))
    (λ none.
    none_keyed key m es i (λ k kl q.
    let p = kept.inside (key (entry_at es k)) (inside k kl) in
    let e : i ≡ p.0 = let a = keys (entry_at es k) in let b = p.1 in omega arith in
    absurd (let h = p.3 in let z = ap (slice_index ws) e in omega arith))
    ∙ omega arith)
    (cases_lt 0 (slice_index ws i))

cost_mapped : (t : ℕ → ℕ → ℕ) (rows columns : List ℕ) (es : List Entry) → cost_in (λ a b. t (slice_index rows a) (slice_index columns b)) es ≡ cost_in t (map (whole_entry rows columns) es)
cost_mapped t rows columns [] = refl
cost_mapped t rows columns (e ∷ es) =
    let f : Entry → ℕ = λ (x : Entry). t (slice_index rows x.row) (slice_index columns x.column) * x.weight in
    let g : Entry → ℕ = λ (x : Entry). t x.row x.column * x.weight in
    let a = sum_by-cons f e es in
    let b = sum_by-cons g (whole_entry rows columns e) (map (whole_entry rows columns) es) in
    let r = cost_mapped t rows columns es in
    omega arith

dot_cons : (x : ℕ) (xs : List ℕ) (n : ℕ) → dot (λ _. 1) (slice_index (x ∷ xs)) (suc n) ≡ x + dot (λ _. 1) (slice_index xs) n
dot_cons x xs zero = omega arith
dot_cons x xs (suc n) = let r = dot_cons x xs n in omega arith

dot_sum : (xs : List ℕ) → dot (λ _. 1) (slice_index xs) (length xs) ≡ sum xs
dot_sum [] = refl
dot_sum (x ∷ xs) = let a = dot_cons x xs (length xs) in let b = dot_sum xs in let c = sum_by-cons (λ (y : ℕ). y) x xs in omega arith

-- all weight is that of the rows
pub weight_placed : (t : ℕ → ℕ → ℕ) (left right : List ℕ) (es : List Entry) (R K : List ℕ) → IsPlacement t left right es R K → weight_in es ≡ sum left
weight_placed t left right es R K p =
    let long = p.rows_length in
    sym (weight_grouped (λ e. e.row) es (length left) (λ k kl. let h = (p.placed k kl).row in omega arith))
    ∙ dot_same (λ _. 1) (keyed (λ e. e.row) es) (slice_index left) (length left) p.row_sums
    ∙ dot_sum left

module _ (t : ℕ → ℕ → ℕ) (left right rows columns : List ℕ) (es : List Entry) (R K : List ℕ)
    (rows_are : rows ≡ kept_from 0 left) (columns_are : columns ≡ kept_from 0 right)
    (p : IsPlacement (λ a b. t (slice_index rows a) (slice_index columns b)) (map (slice_index left) rows) (map (slice_index right) columns) es R K) where
  row_kept : IsKept 0 left rows
  row_kept = let Q : List ℕ → Type 0 = λ l. IsKept 0 left l in subst Q (sym rows_are) (is_kept 0 left)

  column_kept : IsKept 0 right columns
  column_kept = let Q : List ℕ → Type 0 = λ l. IsKept 0 right l in subst Q (sym columns_are) (is_kept 0 right)

  row_long : length R ≡ length rows
  row_long = p.rows_length ∙ length-map rows (slice_index left)

  column_long : length K ≡ length columns
  column_long = p.columns_length ∙ length-map columns (slice_index right)

  row_in : (a : ℕ) → a < length rows → slice_index rows a < length left
  row_in a al = let i = row_kept.inside a al in let e = i.1 in let f = i.2 in omega arith

  column_in : (b : ℕ) → b < length columns → slice_index columns b < length right
  column_in b bl = let i = column_kept.inside b bl in let e = i.1 in let f = i.2 in omega arith

  pub entry_rows : All (λ e. e.row < length rows) es
  entry_rows = All-from_get_or (λ (e : Entry). e.row < length rows) es no_entry (λ k kl. let h = (p.placed k kl).row in let e = row_long in omega arith)

  pub entry_columns : All (λ e. e.column < length columns) es
  entry_columns = All-from_get_or (λ (e : Entry). e.column < length columns) es no_entry (λ k kl. let h = (p.placed k kl).column in let e = column_long in omega arith)

  -- with potentials for the whole table that are at least those of the rows and columns kept
  pub solved_from : (R' K' : List ℕ) → length R' ≡ length left → length K' ≡ length right → IsFeasible t R' K'
      → ((a : ℕ) → a < length R → slice_index R a ≤ slice_index R' (slice_index rows a))
      → ((b : ℕ) → b < length K → slice_index K b ≤ slice_index K' (slice_index columns b))
      → ((i : ℕ) → i < length R' → slice_index R' i ≤ 30000000000000)
      → ((j : ℕ) → j < length K' → slice_index K' j ≤ 30000000000000)
      → IsSolved t left right (map (whole_entry rows columns) es) R' K'
  solved_from R' K' row_length column_length feasible row_up column_up row_bounds column_bounds =
      let m = whole_entry rows columns in
      record {
        rows_length = row_length;
        columns_length = column_length;
        feasible = feasible;
        placed = λ k kl.
            let inside : k < length es = let e = length-map es m in omega arith in
            let at = get_or-map m es k no_entry no_entry inside in
            let o = p.placed k inside in
            let e = entry_at es k in
            let a : e.row < length rows = let h = o.row in let q = row_long in omega arith in
            let b : e.column < length columns = let h = o.column in let q = column_long in omega arith in
            let ri = row_in e.row a in
            let ci = column_in e.column b in
            let Q : Entry → Type 0 = λ x. IsPlaced t R' K' x in
            subst Q (sym at) record {
              row = omega arith;
              column = omega arith;
              tight = λ w.
                  let h = o.tight w in
                  let ru = row_up e.row o.row in
                  let ku = column_up e.column o.column in
                  let f = feasible (slice_index rows e.row) (slice_index columns e.column) (omega arith) (omega arith) in
                  omega arith;
            };
        row_sums = whole_sums (λ e. e.row) m rows left es row_kept (λ e. refl) (λ e. refl) (λ k kl. let h = (p.placed k kl).row in let e = row_long in omega arith) p.row_sums;
        column_sums = whole_sums (λ e. e.column) m columns right es column_kept (λ e. refl) (λ e. refl) (λ k kl. let h = (p.placed k kl).column in let e = column_long in omega arith) p.column_sums;
        row_bounds = row_bounds;
        column_bounds = column_bounds;
      }

  -- with the greatest potentials of all columns, and then of all rows
  pub solved_spread : (R' K' : List ℕ) → length R' ≡ length left → length K' ≡ length right
      → AreMostColumns (λ a j. t (slice_index rows a) j) R K' → AreMostRows t K' R'
      → IsSolved t left right (map (whole_entry rows columns) es) R' K'
  solved_spread R' K' row_length column_length mc mr =
      solved_from R' K' row_length column_length mr.feasible
      (λ a al. let k : a < length rows = let e = row_long in omega arith in let h = row_in a k in let c = p.row_caps a al in
      mr.greatest (slice_index rows a) (slice_index R a) (omega arith) (omega arith) (λ j jl. mc.feasible a j al jl))
      (λ b bl. let k : b < length columns = let e = column_long in omega arith in let h = column_in b k in
      mc.greatest (slice_index columns b) (slice_index K b) (omega arith) (p.column_caps b bl) (λ a al. p.feasible a b al bl))
      mr.caps
      (λ j jl. let c = mc.caps j jl in omega arith)

  -- the potentials of the rows and columns kept, and 0 elsewhere, show that the cost is least
  pub solved_bare : IsShownSolved t left right (map (whole_entry rows columns) es)
  solved_bare =
      let R' : List ℕ = map (look rows R) (range_with_len 0 (length left)) in
      let K' : List ℕ = map (look columns K) (range_with_len 0 (length right)) in
      let rl : length R' ≡ length left = length-map-range_with_len (look rows R) 0 (length left) in
      let cl : length K' ≡ length right = length-map-range_with_len (look columns K) 0 (length right) in
      let at_row : (i : ℕ) → i < length left → slice_index R' i ≡ look rows R i = λ i il. get_or-map-range_with_len (look rows R) 0 (length left) i i 0 il (omega arith) in
      let at_column : (j : ℕ) → j < length right → slice_index K' j ≡ look columns K j = λ j jl. get_or-map-range_with_len (look columns K) 0 (length right) j j 0 jl (omega arith) in
      let caps_row : (i : ℕ) → look rows R i ≤ 20000000000000 = λ i. ⊎_elim (λ f. let c = p.row_caps f.0 f.2 in let e = f.4 in omega arith) (λ z. omega arith) (look_is rows R i) in
      let caps_column : (j : ℕ) → look columns K j ≤ 20000000000000 = λ j. ⊎_elim (λ f. let c = p.column_caps f.0 f.2 in let e = f.4 in omega arith) (λ z. omega arith) (look_is columns K j) in
      let feasible : (i j : ℕ) → look rows R i + look columns K j ≤ lifted t i j = λ i j.
      ⊎_elim
      (λ f. ⊎_elim
      (λ g.
      let h = p.feasible f.0 g.0 f.2 g.2 in
      let e = f.4 in let e' = g.4 in
      let Q : ℕ → Type 0 = λ x. slice_index R f.0 + slice_index K g.0 ≤ lifted t x (slice_index columns g.0) in
      let Q' : ℕ → Type 0 = λ x. slice_index R f.0 + slice_index K g.0 ≤ lifted t i x in
      let h' = subst Q' g.3 (subst Q f.3 h) in
      omega arith)
      (λ z. let c = caps_row i in omega arith)
      (look_is columns K j))
      (λ z. let c = caps_column j in omega arith)
      (look_is rows R i) in (
        R',
        K',
        solved_from R' K' rl cl
            (λ i j il jl. let a = at_row i (omega arith) in let b = at_column j (omega arith) in let f = feasible i j in omega arith)
            (λ a al. let k : a < length rows = let e = row_long in omega arith in let e = at_row (slice_index rows a) (row_in a k) in let f = look_at rows R a row_kept.rising k al in omega arith)
            (λ b bl. let k : b < length columns = let e = column_long in omega arith in let e = at_column (slice_index columns b) (column_in b k) in let f = look_at columns K b column_kept.rising k bl in omega arith)
            (λ i il. let a = at_row i (omega arith) in let c = caps_row i in omega arith)
            (λ j jl. let a = at_column j (omega arith) in let c = caps_column j in omega arith),
      )

  pub solved_cost : IsSolvedAt t left right (cost_in (λ a b. t (slice_index rows a) (slice_index columns b)) es)
  solved_cost = (map (whole_entry rows columns) es, solved_bare.0, solved_bare.1, solved_bare.2, cost_mapped t rows columns es)
