-- A search for the first answer, step by step.
use Rattle.std.proofs.Common.{◌≡◌, ℕ, suc, ◌+◌, ◌-◌, ◌<◌, ◌≤◌, true, false, List, [], ◌∷◌, ◌++◌, map, refl, sym, ap, ◌∙◌, arith, Option, None, Some}
use Rattle.std.specs.Prelude.{is_some}
use Rattle.std.specs.List.{flat_map, range_with_len}
use Rattle.plan_cost.specs.First.{or_else, first_of}

found : {A : Type 0} (o r : Option A) → is_some o ≡ true → or_else o r ≡ o
found None r e = cc
found (Some x) r e = refl

passed : {A : Type 0} (o r : Option A) → is_some o ≡ false → or_else o r ≡ r
passed None r e = refl
passed (Some x) r e = cc

range_open : (a n : ℕ) → a < n → range_with_len a (n - a) ≡ a ∷ range_with_len (a + 1) (n - (a + 1))
range_open a n h = ap (range_with_len a) (count a n h)
  where
    count : (b m : ℕ) → b < m → m - b ≡ suc (m - (b + 1))
    count b m l = omega arith

range_done : (a n : ℕ) → n ≤ a → range_with_len a (n - a) ≡ []
range_done a n h = ap (range_with_len a) (count a n h)
  where
    count : (b m : ℕ) → m ≤ b → m - b ≡ 0
    count b m l = omega arith

-- a search over the numbers from a to n, each of which stands for an element
pub each_found : {X B : Type 0} (f : X → Option B) (g : ℕ → X) (whole o : Option B) (a n : ℕ)
    → whole ≡ first_of f (map g (range_with_len a (n - a))) → a < n → o ≡ f (g a) → is_some o ≡ true → o ≡ whole
each_found f g whole o a n e h i j =
    sym (e ∙ ap (λ ks. first_of f (map g ks)) (range_open a n h)
    ∙ ap (λ v. or_else v (first_of f (map g (range_with_len (a + 1) (n - (a + 1)))))) (sym i)
    ∙ found o (first_of f (map g (range_with_len (a + 1) (n - (a + 1))))) j)

pub each_passed : {X B : Type 0} (f : X → Option B) (g : ℕ → X) (whole o : Option B) (a n : ℕ)
    → whole ≡ first_of f (map g (range_with_len a (n - a))) → a < n → o ≡ f (g a) → is_some o ≡ false
    → whole ≡ first_of f (map g (range_with_len (a + 1) (n - (a + 1))))
each_passed f g whole o a n e h i j =
    e ∙ ap (λ ks. first_of f (map g ks)) (range_open a n h)
    ∙ ap (λ v. or_else v (first_of f (map g (range_with_len (a + 1) (n - (a + 1)))))) (sym i)
    ∙ passed o (first_of f (map g (range_with_len (a + 1) (n - (a + 1))))) j

pub each_done : {X B : Type 0} (f : X → Option B) (g : ℕ → X) (whole : Option B) (a n : ℕ)
    → whole ≡ first_of f (map g (range_with_len a (n - a))) → n ≤ a → whole ≡ None
each_done f g whole a n e h = e ∙ ap (λ ks. first_of f (map g ks)) (range_done a n h)

or_else_assoc : {A : Type 0} (o u v : Option A) → or_else (or_else o u) v ≡ or_else o (or_else u v)
or_else_assoc None u v = refl
or_else_assoc (Some x) u v = refl

pub first_of-append : {X B : Type 0} (f : X → Option B) (xs ys : List X) → first_of f (xs ++ ys) ≡ or_else (first_of f xs) (first_of f ys)
first_of-append f [] ys = refl
first_of-append f (x ∷ xs) ys =
    ap (or_else (f x)) (first_of-append f xs ys) ∙ sym (or_else_assoc (f x) (first_of f xs) (first_of f ys))

-- the same where each number stands for a list
all_open : {X B : Type 0} (f : X → Option B) (g : ℕ → List X) (a n : ℕ) → a < n
    → first_of f (flat_map g (range_with_len a (n - a)))
    ≡ or_else (first_of f (g a)) (first_of f (flat_map g (range_with_len (a + 1) (n - (a + 1)))))
all_open f g a n h =
    ap (λ ks. first_of f (flat_map g ks)) (range_open a n h)
    ∙ first_of-append f (g a) (flat_map g (range_with_len (a + 1) (n - (a + 1))))

pub all_found : {X B : Type 0} (f : X → Option B) (g : ℕ → List X) (whole o : Option B) (a n : ℕ)
    → whole ≡ first_of f (flat_map g (range_with_len a (n - a))) → a < n → o ≡ first_of f (g a) → is_some o ≡ true → o ≡ whole
all_found f g whole o a n e h i j =
    sym (e ∙ all_open f g a n h
    ∙ ap (λ v. or_else v (first_of f (flat_map g (range_with_len (a + 1) (n - (a + 1)))))) (sym i)
    ∙ found o (first_of f (flat_map g (range_with_len (a + 1) (n - (a + 1))))) j)

pub all_passed : {X B : Type 0} (f : X → Option B) (g : ℕ → List X) (whole o : Option B) (a n : ℕ)
    → whole ≡ first_of f (flat_map g (range_with_len a (n - a))) → a < n → o ≡ first_of f (g a) → is_some o ≡ false
    → whole ≡ first_of f (flat_map g (range_with_len (a + 1) (n - (a + 1))))
all_passed f g whole o a n e h i j =
    e ∙ all_open f g a n h
    ∙ ap (λ v. or_else v (first_of f (flat_map g (range_with_len (a + 1) (n - (a + 1)))))) (sym i)
    ∙ passed o (first_of f (flat_map g (range_with_len (a + 1) (n - (a + 1))))) j

pub all_done : {X B : Type 0} (f : X → Option B) (g : ℕ → List X) (whole : Option B) (a n : ℕ)
    → whole ≡ first_of f (flat_map g (range_with_len a (n - a))) → n ≤ a → whole ≡ None
all_done f g whole a n e h = e ∙ ap (λ ks. first_of f (flat_map g ks)) (range_done a n h)
