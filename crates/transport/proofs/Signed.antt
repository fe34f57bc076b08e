-- From signed numbers to natural ones.
use Rattle.std.proofs.Common.{◌≡◌, ℕ, zero, suc, ◌+◌, ◌*◌, ◌<◌, ◌≤◌, Bool, true, false, ℤ, pos, negsuc, ◌+ℤ◌, ◌-ℤ◌, ◌*ℤ◌, ◌≤ℤ◌, neg_ℤ, List, [], ◌∷◌, length, map, sym, refl, ap, ◌∙◌, arith, slice_index, sum_by, sum, eqb, cond, add-mul, unsigned_abs}
use Rattle.std.specs.List.{All}
use Rattle.std.proofs.lemmas.Int.{ints}
use Rattle.std.proofs.lemmas.List.{get_or-map}
use Rattle.std.proofs.lemmas.List.Elements.{All-tail}
use Rattle.std.proofs.lemmas.List.Sums.{sum_by-cons}
use Rattle.transport.specs.declared.TableCell.{TableCell}
use Rattle.transport.specs.declared.entries.Entry.{Entry}
use Rattle.transport.specs.Core.{only_at, row_weight, column_weight, cost_in}
use Rattle.transport.specs.Coupling.{total, at, products, row_sum, column_sum, cost_of}
use Rattle.transport.specs.Natural.{cell_of, entry_of}
use Rattle.transport.proofs.Duality.{dot}

pub size_is : (z : ℤ) → pos 0 ≤ℤ z → pos (unsigned_abs z) ≡ z
size_is (pos n) h = refl
size_is (negsuc n) h = absurd (omega (arith, ints))

-- at the head of a list
pub All-head : {X : Type 0} (P : X → Type 0) (x : X) (xs : List X) → All P (x ∷ xs) → P x
All-head P x xs h = h 0 x (omega arith)

pub total_is : (ws : List ℤ) → All (λ w. pos 0 ≤ℤ w) ws → total ws ≡ pos (sum_by unsigned_abs ws)
total_is [] h = refl
total_is (w ∷ ws) h =
    let a = size_is w (All-head (λ w. pos 0 ≤ℤ w) w ws h) in
    let b = total_is ws (All-tail (λ w. pos 0 ≤ℤ w) w ws h) in
    let c = sum_by-cons unsigned_abs w ws in
    omega (arith, ints)

pub sum_sizes : (ws : List ℤ) → sum (map unsigned_abs ws) ≡ sum_by unsigned_abs ws
sum_sizes [] = refl
sum_sizes (w ∷ ws) = let a = sum_by-cons (λ x. x) (unsigned_abs w) (map unsigned_abs ws) in let b = sum_by-cons unsigned_abs w ws in let c = sum_sizes ws in omega arith

-- equal totals are equal sums of sizes
pub same_sizes : (xs ys : List ℤ) → All (λ w. pos 0 ≤ℤ w) xs → All (λ w. pos 0 ≤ℤ w) ys → total xs ≡ total ys → sum (map unsigned_abs xs) ≡ sum (map unsigned_abs ys)
same_sizes xs ys h k e =
    let a = total_is xs h in
    let b = total_is ys k in
    let c = sum_sizes xs in
    let d = sum_sizes ys in
    omega (arith, ints)

pos_cond : (b : Bool) (n : ℕ) → cond b (pos n) (pos 0) ≡ pos (cond b n 0)
pos_cond true n = refl
pos_cond false n = refl

pub row_sum_is : (cs : List TableCell) (i : ℕ) → All (λ c. pos 0 ≤ℤ c.weight) cs → row_sum cs i ≡ pos (row_weight (map entry_of cs) i)
row_sum_is [] i h = refl
row_sum_is (c ∷ cs) i h =
    let w = All-head (λ (c : TableCell). pos 0 ≤ℤ c.weight) c cs h in
    let a = ap (λ z. cond (eqb c.row i) z (pos 0)) (sym (size_is c.weight w)) ∙ pos_cond (eqb c.row i) (unsigned_abs c.weight) in
    let b = row_sum_is cs i (All-tail (λ (c : TableCell). pos 0 ≤ℤ c.weight) c cs h) in
    let d = sum_by-cons (λ (e : Entry). only_at e.row i e.weight) (entry_of c) (map entry_of cs) in
    joined a b d
  where
    joined : {x y : ℤ} {p q r : ℕ} → x ≡ pos p → y ≡ pos q → r ≡ p + q → x +ℤ y ≡ pos r
    joined a b d = omega (arith, ints)

pub column_sum_is : (cs : List TableCell) (j : ℕ) → All (λ c. pos 0 ≤ℤ c.weight) cs → column_sum cs j ≡ pos (column_weight (map entry_of cs) j)
column_sum_is [] j h = refl
column_sum_is (c ∷ cs) j h =
    let w = All-head (λ (c : TableCell). pos 0 ≤ℤ c.weight) c cs h in
    let a = ap (λ z. cond (eqb c.column j) z (pos 0)) (sym (size_is c.weight w)) ∙ pos_cond (eqb c.column j) (unsigned_abs c.weight) in
    let b = column_sum_is cs j (All-tail (λ (c : TableCell). pos 0 ≤ℤ c.weight) c cs h) in
    let d = sum_by-cons (λ (e : Entry). only_at e.column j e.weight) (entry_of c) (map entry_of cs) in
    joined a b d
  where
    joined : {x y : ℤ} {p q r : ℕ} → x ≡ pos p → y ≡ pos q → r ≡ p + q → x +ℤ y ≡ pos r
    joined a b d = omega (arith, ints)

pub cost_of_is : (t : ℕ → ℕ → ℕ) (cs : List TableCell) → All (λ c. pos 0 ≤ℤ c.weight) cs → cost_of t cs ≡ pos (cost_in t (map entry_of cs))
cost_of_is t [] h = refl
cost_of_is t (c ∷ cs) h =
    let w = All-head (λ (c : TableCell). pos 0 ≤ℤ c.weight) c cs h in
    let a : pos (t c.row c.column) *ℤ c.weight ≡ pos (t c.row c.column * unsigned_abs c.weight) = ap (λ z. pos (t c.row c.column) *ℤ z) (sym (size_is c.weight w)) in
    let b = cost_of_is t cs (All-tail (λ (c : TableCell). pos 0 ≤ℤ c.weight) c cs h) in
    let d = sum_by-cons (λ (e : Entry). t e.row e.column * e.weight) (entry_of c) (map entry_of cs) in
    joined a b d
  where
    joined : {x y : ℤ} {p q r : ℕ} → x ≡ pos p → y ≡ pos q → r ≡ p + q → x +ℤ y ≡ pos r
    joined a b d = omega (arith, ints)

pub entries_of_cells : (es : List Entry) → map entry_of (map cell_of es) ≡ es
entries_of_cells [] = refl
entries_of_cells (e ∷ es) = ap (λ l. e ∷ l) (entries_of_cells es)

-- a potential, lifted
lift_mul : (a : ℤ) (r w : ℕ) → a +ℤ pos 10000000000000 ≡ pos r → (a *ℤ pos w) +ℤ pos (10000000000000 * w) ≡ pos (r * w)
lift_mul (pos x) r w h =
    let e : x + 10000000000000 ≡ r = omega (arith, ints) in
    let m = add-mul x 10000000000000 w in
    let n = ap (λ y. y * w) e in
    ap pos (omega arith)
lift_mul (negsuc x) r w h =
    let e : r + suc x ≡ 10000000000000 = omega (arith, ints) in
    let m = add-mul r (suc x) w in
    let n = ap (λ y. y * w) e in
    back (suc x * w) (10000000000000 * w) (r * w) (omega arith)
  where
    back : (p q s : ℕ) → s + p ≡ q → neg_ℤ (pos p) +ℤ pos q ≡ pos s
    back p q s h = omega (arith, ints)

pub lifted_products : (xs ws : List ℤ) (f g : ℕ → ℕ) (n : ℕ) → ((k : ℕ) → k < n → at xs k +ℤ pos 10000000000000 ≡ pos (f k)) → ((k : ℕ) → k < n → at ws k ≡ pos (g k)) → products xs ws n +ℤ pos (10000000000000 * dot (λ _. 1) g n) ≡ pos (dot f g n)
lifted_products xs ws f g zero a b = refl
lifted_products xs ws f g (suc n) a b =
    let r = lifted_products xs ws f g n (λ k l. a k (omega arith)) (λ k l. b k (omega arith)) in
    let h : (at xs n *ℤ at ws n) +ℤ pos (10000000000000 * g n) ≡ pos (f n * g n) = ap (λ z. (at xs n *ℤ z) +ℤ pos (10000000000000 * g n)) (b n (omega arith)) ∙ lift_mul (at xs n) (f n) (g n) (a n (omega arith)) in
    step (products xs ws n) (at xs n *ℤ at ws n) (dot (λ _. 1) g n) (g n) (dot f g n) (f n * g n) r h
  where
    step : (p q : ℤ) (s w c d : ℕ) → p +ℤ pos (10000000000000 * s) ≡ pos c → q +ℤ pos (10000000000000 * w) ≡ pos d → (p +ℤ q) +ℤ pos (10000000000000 * (s + 1 * w)) ≡ pos (c + d)
    step p q s w c d h k = omega (arith, ints)

pub below_of : (a b : ℤ) (r k t : ℕ) → a +ℤ pos 10000000000000 ≡ pos r → b +ℤ pos 10000000000000 ≡ pos k → r + k ≤ t + 20000000000000 → (a +ℤ b) ≤ℤ pos t
below_of a b r k t ha hb h = omega (arith, ints)

pub size_of : (a : ℤ) (r : ℕ) → a +ℤ pos 10000000000000 ≡ pos r → r ≤ 30000000000000 → unsigned_abs a ≤ 100000000000000
size_of (pos x) r h l = let e : x + 10000000000000 ≡ r = omega (arith, ints) in omega arith
size_of (negsuc x) r h l = let e : r + suc x ≡ 10000000000000 = omega (arith, ints) in omega arith

pub unlift_at : (ps : List ℕ) (k : ℕ) → k < length ps → at (map (λ p. pos p -ℤ pos 10000000000000) ps) k +ℤ pos 10000000000000 ≡ pos (slice_index ps k)
unlift_at ps k l = ap (λ z. z +ℤ pos 10000000000000) (get_or-map (λ p. pos p -ℤ pos 10000000000000) ps k 0 (pos 0) l) ∙ cancel (slice_index ps k)
  where
    cancel : (n : ℕ) → (pos n -ℤ pos 10000000000000) +ℤ pos 10000000000000 ≡ pos n
    cancel n = omega (arith, ints)

-- the worth of the potentials, no longer lifted
pub worth_of : (p q : ℤ) (s a b c : ℕ) → p +ℤ pos (10000000000000 * s) ≡ pos a → q +ℤ pos (10000000000000 * s) ≡ pos b → a + b ≡ c + 20000000000000 * s → pos c ≡ p +ℤ q
worth_of p q s a b c ha hb h = omega (arith, ints)
