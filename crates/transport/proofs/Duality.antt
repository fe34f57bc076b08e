-- Weak duality over natural numbers: what entries cost, and what the potentials are worth.
use Rattle.std.proofs.Common.{◌≡◌, ℕ, zero, suc, ◌+◌, ◌*◌, ◌<◌, ◌≤◌, List, [], ◌∷◌, length, refl, ap, ◌∙◌, ⊎_elim, arith, sum_by, eqb, cond, mul-add, add-mul}
use Rattle.std.proofs.lemmas.Bool.{cases_eq, cases_lt, cases_Bool, eq-eqb, eqb-true}
use Rattle.std.proofs.lemmas.List.Sums.{sum_by-cons}
use Rattle.std.proofs.Math.Nat.{mul-le-mul_right}
use Rattle.transport.specs.declared.entries.Entry.{Entry}
use Rattle.transport.specs.Core.{entry_at, only_at, lifted}
pub use Rattle.transport.specs.Core.{cost_in}

-- the sum of f k times g k below n
abbrev pub dot : (ℕ → ℕ) → (ℕ → ℕ) → ℕ → ℕ
dot f g zero = 0
dot f g (suc n) = dot f g n + f n * g n

-- what is placed at key k
abbrev pub keyed : (Entry → ℕ) → List Entry → ℕ → ℕ
keyed key es k = sum_by (λ e. only_at (key e) k e.weight) es

abbrev pub weight_in : List Entry → ℕ
weight_in es = sum_by (λ e. e.weight) es

pub dot_same : (f g h : ℕ → ℕ) (n : ℕ) → ((k : ℕ) → k < n → g k ≡ h k) → dot f g n ≡ dot f h n
dot_same f g h zero e = refl
dot_same f g h (suc n) e =
    let r = dot_same f g h n (λ k l. e k (omega arith)) in
    let q = ap (λ x. f n * x) (e n (omega arith)) in
    omega arith

dot_none : (f g : ℕ → ℕ) (n : ℕ) → ((k : ℕ) → k < n → g k ≡ 0) → dot f g n ≡ 0
dot_none f g zero e = refl
dot_none f g (suc n) e =
    let r = dot_none f g n (λ k l. e k (omega arith)) in
    let q = ap (λ x. f n * x) (e n (omega arith)) in
    omega arith

dot_add : (f g h : ℕ → ℕ) (n : ℕ) → dot f (λ k. g k + h k) n ≡ dot f g n + dot f h n
dot_add f g h zero = refl
dot_add f g h (suc n) =
    let r = dot_add f g h n in
    let q = mul-add (f n) (g n) (h n) in
    omega arith

only_other : (a b n : ℕ) → (a ≡ b → ⊥) → only_at a b n ≡ 0
only_other a b n ne = ⊎_elim (λ e. absurd (ne (eqb-true a b e))) (λ e. ap (λ x. cond x n 0) e) (cases_Bool (eqb a b))

only_same : (a b n : ℕ) → a ≡ b → only_at a b n ≡ n
only_same a b n e = ap (λ x. cond x n 0) (eq-eqb a b e)

dot_only : (f : ℕ → ℕ) (r w n : ℕ) → r < n → dot f (λ k. only_at r k w) n ≡ f r * w
dot_only f r w zero l = absurd (omega arith)
dot_only f r w (suc n) l =
    ⊎_elim
    (λ same.
    let a = dot_none f (λ k. only_at r k w) n (λ k kl. only_other r k w (λ e. absurd (omega arith))) in
    let b = ap (λ x. f n * x) (only_same r n w same) in
    let c = ap (λ x. f x * w) same in
    omega arith)
    (λ other.
    let a = dot_only f r w n (omega arith) in
    let b = ap (λ x. f n * x) (only_other r n w other) in
    omega arith)
    (cases_eq r n)

-- a sum over entries, row by row
pub grouped : (f : ℕ → ℕ) (key : Entry → ℕ) (es : List Entry) (n : ℕ) → ((k : ℕ) → k < length es → key (entry_at es k) < n) → dot f (keyed key es) n ≡ sum_by (λ e. f (key e) * e.weight) es
grouped f key [] n h = dot_none f (keyed key []) n (λ k l. refl)
grouped f key (e ∷ es) n h =
    let split = dot_same f (keyed key (e ∷ es)) (λ k. only_at (key e) k e.weight + keyed key es k) n (λ k l. sum_by-cons (λ x. only_at (key x) k x.weight) e es) in
    let parts = dot_add f (λ k. only_at (key e) k e.weight) (keyed key es) n in
    let head = dot_only f (key e) e.weight n (h 0 (omega arith)) in
    let tail = grouped f key es n (λ k l. h (suc k) (omega arith)) in
    let all = sum_by-cons (λ x. f (key x) * x.weight) e es in
    omega arith

-- the potentials of the entries' places are worth at most what they cost, lifted
pub worth_le : (t : ℕ → ℕ → ℕ) (R K : ℕ → ℕ) (es : List Entry) → ((k : ℕ) → k < length es → R (entry_at es k).row + K (entry_at es k).column ≤ lifted t (entry_at es k).row (entry_at es k).column) → sum_by (λ e. R e.row * e.weight) es + sum_by (λ e. K e.column * e.weight) es ≤ cost_in t es + 20000000000000 * weight_in es
worth_le t R K [] h = omega arith
worth_le t R K (e ∷ es) h =
    let a = sum_by-cons (λ x. R x.row * x.weight) e es in
    let b = sum_by-cons (λ x. K x.column * x.weight) e es in
    let c = sum_by-cons (λ x. t x.row x.column * x.weight) e es in
    let d = sum_by-cons (λ (x : Entry). x.weight) e es in
    let tail = worth_le t R K es (λ k l. h (suc k) (omega arith)) in
    let head = mul-le-mul_right e.weight (h 0 (omega arith)) in
    let l = add-mul (R e.row) (K e.column) e.weight in
    let m = add-mul (t e.row e.column) 20000000000000 e.weight in
    omega arith

-- and exactly that where each entry with weight is tight
pub worth_eq : (t : ℕ → ℕ → ℕ) (R K : ℕ → ℕ) (es : List Entry) → ((k : ℕ) → k < length es → 0 < (entry_at es k).weight → R (entry_at es k).row + K (entry_at es k).column ≡ lifted t (entry_at es k).row (entry_at es k).column) → sum_by (λ e. R e.row * e.weight) es + sum_by (λ e. K e.column * e.weight) es ≡ cost_in t es + 20000000000000 * weight_in es
worth_eq t R K [] h = refl
worth_eq t R K (e ∷ es) h =
    let a = sum_by-cons (λ x. R x.row * x.weight) e es in
    let b = sum_by-cons (λ x. K x.column * x.weight) e es in
    let c = sum_by-cons (λ x. t x.row x.column * x.weight) e es in
    let d = sum_by-cons (λ (x : Entry). x.weight) e es in
    let tail = worth_eq t R K es (λ k l w. h (suc k) (omega arith) w) in
    let l = add-mul (R e.row) (K e.column) e.weight in
    let m = add-mul (t e.row e.column) 20000000000000 e.weight in
    ⊎_elim
    (λ some. let head = ap (λ x. x * e.weight) (h 0 (omega arith) some) in omega arith)
    (λ none.
    let z : e.weight ≡ 0 = omega arith in
    let p = ap (λ x. R e.row * x) z in
    let q = ap (λ x. K e.column * x) z in
    let r = ap (λ x. t e.row e.column * x) z in
    omega arith)
    (cases_lt 0 e.weight)

-- the whole weight, by rows or columns
pub weight_grouped : (key : Entry → ℕ) (es : List Entry) (n : ℕ) → ((k : ℕ) → k < length es → key (entry_at es k) < n) → dot (λ _. 1) (keyed key es) n ≡ weight_in es
weight_grouped key es n h = grouped (λ _. 1) key es n h ∙ one_times es
  where
    one_times : (es : List Entry) → sum_by (λ e. 1 * e.weight) es ≡ weight_in es
    one_times [] = refl
    one_times (e ∷ es) = let a = sum_by-cons (λ (x : Entry). 1 * x.weight) e es in let b = sum_by-cons (λ (x : Entry). x.weight) e es in let c = one_times es in omega arith
