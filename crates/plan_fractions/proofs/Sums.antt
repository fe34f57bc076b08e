-- Sums of which one term is left.
use Rattle.std.proofs.Common.{◌≡◌, ◌⊎◌, ℕ, zero, suc, ◌+◌, ◌<◌, ◌≤◌, Bool, true, false, eqb, cond, List, [], ◌∷◌, inl, inr, refl, ap, ◌∙◌, arith}
use Rattle.std.specs.Prelude.{sum_by}
use Rattle.std.specs.List.{All}
use Rattle.std.proofs.lemmas.Bool.{cases_lt, eq-eqb, ne_eqb}
use Rattle.std.proofs.lemmas.List.Sums.{sum_by-cons}
use Rattle.std.proofs.lemmas.List.Elements.{All-head, All-tail}
use Rattle.station.specs.Allowed.{numbers}
use Rattle.pair_prices.proofs.TopLemmas.{sum_numbers_more}

sum_next : (f : ℕ → ℕ) (n : ℕ) → sum_by f (numbers (suc n)) ≡ sum_by f (numbers n) + f n
sum_next f n = let e : suc n ≡ n + 1 = omega arith in ap (λ k. sum_by f (numbers k)) e ∙ sum_numbers_more f n

pub sum_same : (f g : ℕ → ℕ) (n : ℕ) → ((k : ℕ) → k < n → f k ≡ g k) → sum_by f (numbers n) ≡ sum_by g (numbers n)
sum_same f g zero h = refl
sum_same f g (suc n) h =
    let before = sum_same f g n (λ k l. h k (omega arith)) in
    let here = h n (omega arith) in
    let a = sum_next f n in
    let b = sum_next g n in
    omega (arith, before, here, a, b)

sum_none : (f : ℕ → ℕ) (n : ℕ) → ((k : ℕ) → k < n → f k ≡ 0) → sum_by f (numbers n) ≡ 0
sum_none f zero h = refl
sum_none f (suc n) h =
    let before = sum_none f n (λ k l. h k (omega arith)) in
    let here = h n (omega arith) in
    let a = sum_next f n in
    omega (arith, before, here, a)

one_left_by : (f : ℕ → ℕ) (k n : ℕ) → k < suc n → (k < n) ⊎ (n ≤ k)
    → (k < n → sum_by (λ i. cond (eqb i k) (f i) 0) (numbers n) ≡ f k)
    → sum_by (λ i. cond (eqb i k) (f i) 0) (numbers (suc n)) ≡ f k
one_left_by f k n h (inl l) rest =
    let more = sum_next (λ i. cond (eqb i k) (f i) 0) n in
    let before = rest l in
    let here : cond (eqb n k) (f n) 0 ≡ 0 = ap (λ b. cond b (f n) 0) (ne_eqb n k (λ e. omega arith)) in
    omega (arith, more, before, here)
one_left_by f k n h (inr l) rest =
    let more = sum_next (λ i. cond (eqb i k) (f i) 0) n in
    let before = sum_none (λ i. cond (eqb i k) (f i) 0) n (λ i j. ap (λ b. cond b (f i) 0) (ne_eqb i k (λ e. omega arith))) in
    let e : n ≡ k = omega arith in
    let here : cond (eqb n k) (f n) 0 ≡ f n = ap (λ b. cond b (f n) 0) (eq-eqb n k e) in
    let last : f n ≡ f k = ap f e in
    omega (arith, more, before, here, last)

pub one_left : (f : ℕ → ℕ) (k n : ℕ) → k < n → sum_by (λ i. cond (eqb i k) (f i) 0) (numbers n) ≡ f k
one_left f k zero h = absurd (omega arith)
one_left f k (suc n) h = one_left_by f k n h (cases_lt k n) (one_left f k n)

-- No two numbers pass.
abbrev pub NoTwo : (ℕ → Bool) → ℕ → Type 0
NoTwo b n = (s t : ℕ) → s < t → t < n → b s ≡ true → b t ≡ true → ⊥

not_true : (b : Bool) → (b ≡ true → ⊥) → b ≡ false
not_true true h = absurd (h refl)
not_true false h = refl

one_most : (b : ℕ → Bool) (n : ℕ) → NoTwo b n → sum_by (λ t. cond (b t) 1 0) (numbers n) ≤ 1
one_most b zero h = omega arith
one_most b (suc n) h = by (one_most b n (λ s t i j. h s t i (omega arith))) (b n) refl
  where
    by : sum_by (λ t. cond (b t) 1 0) (numbers n) ≤ 1 → (d : Bool) → b n ≡ d → sum_by (λ t. cond (b t) 1 0) (numbers (suc n)) ≤ 1
    by rest true e =
        let more = sum_next (λ t. cond (b t) 1 0) n in
        let none = sum_none (λ t. cond (b t) 1 0) n
        (λ t l. ap (λ d. cond d 1 0) (not_true (b t) (λ g. h t n l (omega arith) g e))) in
        let here : ◌≡◌ {A = ℕ} (cond (b n) 1 0) 1 = ap (λ d. cond d 1 0) e in
        omega (arith, more, none, here)
    by rest false e =
        let more = sum_next (λ t. cond (b t) 1 0) n in
        let here : ◌≡◌ {A = ℕ} (cond (b n) 1 0) 0 = ap (λ d. cond d 1 0) e in
        omega (arith, rest, more, here)

-- Where no two numbers pass, they are counted once at most, and only if one passes.
pub once_most : (b : ℕ → Bool) (n : ℕ) (used : Bool) → NoTwo b n → ((t : ℕ) → t < n → b t ≡ true → used ≡ true)
    → sum_by (λ t. cond (b t) 1 0) (numbers n) ≤ cond used 1 0
once_most b n true h g = one_most b n h
once_most b n false h g =
    let none = sum_none (λ t. cond (b t) 1 0) n (λ t l. ap (λ d. cond d 1 0) (not_true (b t) (λ e. apart (g t l e)))) in
    omega (arith, none)
  where
    apart : false ≡ true → ⊥
    apart e = cc

pub sum_all : {X : Type 0} (f g : X → ℕ) (xs : List X) → All (λ x. f x ≡ g x) xs → sum_by f xs ≡ sum_by g xs
sum_all f g [] h = refl
sum_all f g (x ∷ xs) h =
    let a : f x ≡ g x = All-head (λ y. f y ≡ g y) x xs h in
    let b = sum_all f g xs (All-tail (λ y. f y ≡ g y) x xs h) in
    let left = sum_by-cons f x xs in
    let right = sum_by-cons g x xs in
    omega (arith, a, b, left, right)
