-- Sums of signed numbers.
use Rattle.std.proofs.Common.{◌≡◌, ℕ, zero, suc, ◌+◌, ◌*◌, ◌<◌, ◌≤◌, Bool, true, false, eqb, List, [], ◌∷◌, ◌++◌, refl, sym, ap, ◌∙◌, subst, inl, inr, ◌⊎◌, arith, ℤ, pos, ◌+ℤ◌, ◌*ℤ◌, ◌≤ℤ◌}
use Rattle.std.specs.Prelude.{sum_by}
use Rattle.std.specs.List.{All}
use Rattle.std.proofs.lemmas.Int.{ints}
use Rattle.std.proofs.lemmas.List.Sums.{sum_by-cons}
use Rattle.std.proofs.lemmas.List.Elements.{All-head, All-tail, All-weaker}
use Rattle.std.proofs.lemmas.Bool.{cases_lt, eq-eqb, ne_eqb}
use borrow.Author.Differences.{up, down, same_in, product_is, sum_is_lem}
use Rattle.station.specs.Allowed.{numbers}
use Rattle.patterns.proofs.Steps.{numbers_more}
use Rattle.patterns.proofs.SoundLemmas.{numbers_below}
use Rattle.leaf_bounds.specs.Total.{only_if, total}

pub mul-add_ℤ : (a b c : ℤ) → a *ℤ (b +ℤ c) ≡ a *ℤ b +ℤ a *ℤ c
mul-add_ℤ a b c =
    let s = sum_is_lem b c in
    let t = sum_is_lem (a *ℤ b) (a *ℤ c) in
    let p = ap (λ (x : ℕ). up a * x) s in
    let q = ap (λ (x : ℕ). down a * x) s in
    same_in (a *ℤ (b +ℤ c)) (a *ℤ b +ℤ a *ℤ c) (omega (arith, p, q, t, product_is a (b +ℤ c), product_is a b, product_is a c))

pub mul-none_ℤ : (a : ℤ) → a *ℤ pos 0 ≡ pos 0
mul-none_ℤ a =
    let e = product_is a (pos 0) in
    same_in (a *ℤ pos 0) (pos 0) (omega (arith, e.0, e.1))

pub total-append : {X : Type 0} (f : X → ℤ) (xs ys : List X) → total f (xs ++ ys) ≡ total f xs +ℤ total f ys
total-append f [] ys = omega (arith, ints)
total-append f (x ∷ xs) ys = let e = total-append f xs ys in omega (arith, ints, e)

pub total_push : {X : Type 0} (f : X → ℤ) (xs : List X) (x : X) → total f (xs ++ x ∷ []) ≡ total f xs +ℤ f x
total_push f xs x = let e = total-append f xs (x ∷ []) in omega (arith, ints, e)

pub total_add : {X : Type 0} (f g : X → ℤ) (xs : List X) → total (λ x. f x +ℤ g x) xs ≡ total f xs +ℤ total g xs
total_add f g [] = refl
total_add f g (x ∷ xs) = let e = total_add f g xs in omega (arith, ints, e)

pub total_none : {X : Type 0} (xs : List X) → total (λ x. pos 0) xs ≡ pos 0
total_none [] = refl
total_none (x ∷ xs) = let e = total_none xs in omega (arith, ints, e)

pub total_swap : {X Y : Type 0} (f : X → Y → ℤ) (xs : List X) (ys : List Y)
    → total (λ x. total (f x) ys) xs ≡ total (λ y. total (λ x. f x y) xs) ys
total_swap f [] ys = sym (total_none ys)
total_swap f (x ∷ xs) ys =
    ap (λ z. total (f x) ys +ℤ z) (total_swap f xs ys) ∙ sym (total_add (f x) (λ y. total (λ z. f z y) xs) ys)

pub total_scaled : {X : Type 0} (q : ℤ) (f : X → ℕ) (xs : List X) → total (λ x. q *ℤ pos (f x)) xs ≡ q *ℤ pos (sum_by f xs)
total_scaled q f [] = sym (mul-none_ℤ q)
total_scaled q f (x ∷ xs) =
    ap (λ z. q *ℤ pos (f x) +ℤ z) (total_scaled q f xs) ∙ sym (mul-add_ℤ q (pos (f x)) (pos (sum_by f xs)))
    ∙ ap (λ n. q *ℤ pos n) (sym (sum_by-cons f x xs))

pub total_le : {X : Type 0} (f g : X → ℤ) (xs : List X) → All (λ x. f x ≤ℤ g x) xs → total f xs ≤ℤ total g xs
total_le f g [] h = omega (arith, ints)
total_le f g (x ∷ xs) h =
    let a : f x ≤ℤ g x = All-head (λ y. f y ≤ℤ g y) x xs h in
    let b = total_le f g xs (All-tail (λ y. f y ≤ℤ g y) x xs h) in
    omega (arith, ints, a, b)

pub total_same : {X : Type 0} (f g : X → ℤ) (xs : List X) → All (λ x. f x ≡ g x) xs → total f xs ≡ total g xs
total_same f g [] h = refl
total_same f g (x ∷ xs) h =
    let a : f x ≡ g x = All-head (λ y. f y ≡ g y) x xs h in
    let b = total_same f g xs (All-tail (λ y. f y ≡ g y) x xs h) in
    omega (arith, ints, a, b)

pub total_least : {X : Type 0} (f : X → ℤ) (xs : List X) → ((x : X) → pos 0 ≤ℤ f x) → pos 0 ≤ℤ total f xs
total_least f [] h = omega (arith, ints)
total_least f (x ∷ xs) h =
    let a = h x in
    let b = total_least f xs h in
    omega (arith, ints, a, b)

pub total_numbers_next : (f : ℕ → ℤ) (k : ℕ) → total f (numbers (k + 1)) ≡ total f (numbers k) +ℤ f k
total_numbers_next f k = ap (total f) (numbers_more k) ∙ total_push f (numbers k) k

pub total_numbers_more : (f : ℕ → ℤ) (k : ℕ) → total f (numbers (suc k)) ≡ total f (numbers k) +ℤ f k
total_numbers_more f k =
    let step : suc k ≡ k + 1 = omega arith in
    ap (λ n. total f (numbers n)) step ∙ total_numbers_next f k

-- over numbers, from what holds of each below the end
pub total_numbers_le : (f g : ℕ → ℤ) (n : ℕ) → ((k : ℕ) → k < n → f k ≤ℤ g k) → total f (numbers n) ≤ℤ total g (numbers n)
total_numbers_le f g n h = total_le f g (numbers n) (All-weaker (λ k. k < n) (λ k. f k ≤ℤ g k) h (numbers n) (numbers_below n))

pub total_numbers_same : (f g : ℕ → ℤ) (n : ℕ) → ((k : ℕ) → k < n → f k ≡ g k) → total f (numbers n) ≡ total g (numbers n)
total_numbers_same f g n h = total_same f g (numbers n) (All-weaker (λ k. k < n) (λ k. f k ≡ g k) h (numbers n) (numbers_below n))

-- a sum of which one term is left
total_off : (f : ℕ → ℤ) (k n : ℕ) → n ≤ k → total (λ t. only_if (eqb k t) (f t)) (numbers n) ≡ pos 0
total_off f k n h =
    total_numbers_same (λ t. only_if (eqb k t) (f t)) (λ t. pos 0) n
    (λ t l. ap (λ b. only_if b (f t)) (ne_eqb k t (λ e. omega arith)))
    ∙ total_none (numbers n)

total_at_by : (f : ℕ → ℤ) (k n : ℕ) → k < suc n → (k < n) ⊎ (n ≤ k)
    → (k < n → total (λ t. only_if (eqb k t) (f t)) (numbers n) ≡ f k)
    → total (λ t. only_if (eqb k t) (f t)) (numbers (suc n)) ≡ f k
total_at_by f k n h (inl l) rest =
    let more = total_numbers_more (λ t. only_if (eqb k t) (f t)) n in
    let before = rest l in
    let here : only_if (eqb k n) (f n) ≡ pos 0 = ap (λ b. only_if b (f n)) (ne_eqb k n (λ e. omega arith)) in
    omega (arith, ints, more, before, here)
total_at_by f k n h (inr l) rest =
    let more = total_numbers_more (λ t. only_if (eqb k t) (f t)) n in
    let before = total_off f k n l in
    let e : k ≡ n = omega arith in
    let here : only_if (eqb k n) (f n) ≡ f n = ap (λ b. only_if b (f n)) (eq-eqb k n e) in
    let last : f n ≡ f k = ap f (sym e) in
    omega (arith, ints, more, before, here, last)

pub total_at : (f : ℕ → ℤ) (k n : ℕ) → k < n → total (λ t. only_if (eqb k t) (f t)) (numbers n) ≡ f k
total_at f k zero h = absurd (omega arith)
total_at f k (suc n) h = total_at_by f k n h (cases_lt k n) (total_at f k n)

at_most_all : (b : Bool) (z : ℤ) → pos 0 ≤ℤ z → only_if b z ≤ℤ z
at_most_all true z h = omega (arith, ints)
at_most_all false z h = omega (arith, ints)

-- one term of a sum of numbers that are at least 0
pub term_le : (f : ℕ → ℤ) (k n : ℕ) → ((i : ℕ) → pos 0 ≤ℤ f i) → k < n → f k ≤ℤ total f (numbers n)
term_le f k n h l =
    let one = total_at f k n l in
    let most = total_numbers_le (λ t. only_if (eqb k t) (f t)) f n (λ t i. at_most_all (eqb k t) (f t) (h t)) in
    omega (arith, ints, one, most)

-- one number passes the test, and the sum is what it adds
record IsOne (b : ℕ → Bool) (w s : ℤ) (n : ℕ) : Type 0 where
  at : ℕ
  there : at < n
  passes : b at ≡ true
  sum : s ≡ w

abbrev NoTwo : (ℕ → Bool) → ℕ → Type 0
NoTwo b n = (s t : ℕ) → s < t → t < n → b s ≡ true → b t ≡ true → ⊥

one_step : (b : ℕ → Bool) (w : ℤ) (k : ℕ) (s : ℤ) (here : Bool) → b k ≡ here → NoTwo b (suc k)
    → (s ≡ pos 0) ⊎ IsOne b w s k → ((s +ℤ only_if here w) ≡ pos 0) ⊎ IsOne b w (s +ℤ only_if here w) (suc k)
one_step b w k s true e h (inl z) = inr (record { at = k; there = omega arith; passes = e; sum = omega (arith, ints, z) })
one_step b w k s true e h (inr o) = absurd (h o.at k o.there (omega arith) o.passes e)
one_step b w k s false e h (inl z) = inl (omega (arith, ints, z))
one_step b w k s false e h (inr o) =
    let sum = o.sum in
    inr (record { at = o.at; there = omega (arith, o.there); passes = o.passes; sum = omega (arith, ints, sum) })

one_or_none : (b : ℕ → Bool) (w : ℤ) (n : ℕ) → NoTwo b n
    → (total (λ t. only_if (b t) w) (numbers n) ≡ pos 0) ⊎ IsOne b w (total (λ t. only_if (b t) w) (numbers n)) n
one_or_none b w zero h = inl refl
one_or_none b w (suc k) h =
    subst (λ (z : ℤ). (z ≡ pos 0) ⊎ IsOne b w z (suc k)) (sym (total_numbers_more (λ t. only_if (b t) w) k))
    (one_step b w k (total (λ t. only_if (b t) w) (numbers k)) (b k) refl h
    (one_or_none b w k (λ s t i j. h s t i (omega arith))))

within : (used : Bool) (w s : ℤ) (b : ℕ → Bool) (n : ℕ) → pos 0 ≤ℤ w → ((t : ℕ) → t < n → b t ≡ true → used ≡ true)
    → (s ≡ pos 0) ⊎ IsOne b w s n → s ≤ℤ only_if used w
within true w s b n h g (inl z) = omega (arith, ints, h, z)
within true w s b n h g (inr o) = let sum = o.sum in omega (arith, ints, sum)
within false w s b n h g (inl z) = omega (arith, ints, z)
within false w s b n h g (inr o) = let e = g o.at o.there o.passes in cc

-- Where no two numbers pass, what they add is added once at most.
pub at_most_once : (b : ℕ → Bool) (w : ℤ) (n : ℕ) (used : Bool) → pos 0 ≤ℤ w → NoTwo b n
    → ((t : ℕ) → t < n → b t ≡ true → used ≡ true) → total (λ t. only_if (b t) w) (numbers n) ≤ℤ only_if used w
at_most_once b w n used h two g = within used w (total (λ t. only_if (b t) w) (numbers n)) b n h g (one_or_none b w n two)
