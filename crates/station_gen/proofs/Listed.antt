-- Lists of a tree that are made of a station's lists.
use Rattle.std.proofs.Common.{◌≡◌, ℕ, zero, suc, ◌+◌, ◌<◌, ◌≤◌, List, [], ◌∷◌, length, map, Bool, true, ◌||◌, ◌&&◌, Option, Some, None, slice_get, slice_index_or, refl, sym, ap, ◌∙◌, arith, nat_le, le-leb}
use Rattle.std.specs.List.{list_any, list_all}
use Rattle.serde_json.specs.Data.{Data}
use Rattle.serde_json.specs.View.{items_of}
use Rattle.station_reader.specs.First.{or_else, unless, each, each_from}
use Rattle.station_reader.specs.Tree.{list_of}
use Rattle.station.proofs.Tests.{or_right}

pub list_of-items_of : (ds : List Data) → list_of (items_of ds) ≡ ds
list_of-items_of [] = refl
list_of-items_of (d ∷ ds) = ap (λ xs. d ∷ xs) (list_of-items_of ds)

pub map-map : {X Y Z : Type 0} (f : Y → Z) (g : X → Y) (xs : List X) → map f (map g xs) ≡ map (λ x. f (g x)) xs
map-map f g [] = refl
map-map f g (x ∷ xs) = ap (λ ys. f (g x) ∷ ys) (map-map f g xs)

-- the same list, where each element comes back
pub map-same : {X : Type 0} (f : X → X) (xs : List X) → ((i : ℕ) (x : X) → slice_get xs i ≡ Some x → f x ≡ x) → map f xs ≡ xs
map-same f [] same = refl
map-same f (x ∷ xs) same = ap (λ y. y ∷ map f xs) (same 0 x refl) ∙ ap (λ ys. x ∷ ys) (map-same f xs (λ i y is. same (suc i) y is))

-- ---- no failing place

pub neither : {A : Type 0} (a b : Option A) → a ≡ None → b ≡ None → or_else a b ≡ None
neither a b e f = ap (λ o. or_else o b) e ∙ f

pub held : {A : Type 0} (b : Bool) (s : A) → b ≡ true → unless b s ≡ None
held b s e = ap (λ c. unless c s) e

clear-from : {X A : Type 0} (fault : ℕ → X → Option A) (n : ℕ) (xs : List X) → ((i m : ℕ) (x : X) → m ≡ n + i → slice_get xs i ≡ Some x → fault m x ≡ None) → each_from fault n xs ≡ None
clear-from fault n [] all = refl
clear-from fault n (x ∷ xs) all =
    neither (fault n x) (each_from fault (suc n) xs) (all 0 n x (omega arith) refl)
    (clear-from fault (suc n) xs (λ i m y e is. all (suc i) m y (omega arith) is))

pub clear : {X A : Type 0} (fault : ℕ → X → Option A) (xs : List X) → ((i : ℕ) (x : X) → slice_get xs i ≡ Some x → fault i x ≡ None) → each fault xs ≡ None
clear fault xs all = clear-from fault 0 xs (λ i m x e is. let same : m ≡ i = omega arith in ap (λ k. fault k x) same ∙ all i x is)

made-from : {X Y A : Type 0} (fault : ℕ → Y → Option A) (f : X → Y) (n : ℕ) (xs : List X) → each_from fault n (map f xs) ≡ each_from (λ i x. fault i (f x)) n xs
made-from fault f n [] = refl
made-from fault f n (x ∷ xs) = ap (or_else (fault n (f x))) (made-from fault f (suc n) xs)

pub clear-made : {X Y A : Type 0} (fault : ℕ → Y → Option A) (f : X → Y) (xs : List X) → ((i : ℕ) (x : X) → slice_get xs i ≡ Some x → fault i (f x) ≡ None) → each fault (map f xs) ≡ None
clear-made fault f xs all = made-from fault f 0 xs ∙ clear (λ i x. fault i (f x)) xs all

-- ---- tests

pub both_hold : (a b : Bool) → a ≡ true → b ≡ true → (a && b) ≡ true
both_hold a b e f = ap (λ c. c && b) e ∙ f

pub all-pass : {X : Type 0} (test : X → Bool) (xs : List X) → ((i : ℕ) (x : X) → slice_get xs i ≡ Some x → test x ≡ true) → list_all test xs ≡ true
all-pass test [] all = refl
all-pass test (x ∷ xs) all = both_hold (test x) (list_all test xs) (all 0 x refl) (all-pass test xs (λ i y is. all (suc i) y is))

pub or_first : (a b : Bool) → a ≡ true → (a || b) ≡ true
or_first a b e = ap (λ c. c || b) e

pub any-at : {X : Type 0} (test : X → Bool) (xs : List X) (i : ℕ) (x : X) → slice_get xs i ≡ Some x → test x ≡ true → list_any test xs ≡ true
any-at test [] i x is e = absurd (cc)
any-at test (y ∷ xs) zero x is e = let same : x ≡ y = cc in or_first (test y) (list_any test xs) (ap test (sym same) ∙ e)
any-at test (y ∷ xs) (suc i) x is e = or_right (test y) (list_any test xs) (any-at test xs i x is e)

pub within-limits : (low high n : ℕ) → low ≤ n → n ≤ high → (nat_le low n && nat_le n high) ≡ true
within-limits low high n l h = both_hold (nat_le low n) (nat_le n high) (le-leb low n l) (le-leb n high h)

-- ---- places

pub at-place : {X : Type 0} (xs : List X) (i : ℕ) → i < length xs → (x : X) × (slice_get xs i ≡ Some x)
at-place [] i h = absurd (omega arith)
at-place (x ∷ xs) zero h = (x, refl)
at-place (x ∷ xs) (suc i) h = at-place xs i (omega arith)

pub index-is : (names : List (List ℕ)) (i : ℕ) (n : List ℕ) → slice_get names i ≡ Some n → slice_index_or names i [] ≡ n
index-is [] i n is = absurd (cc)
index-is (m ∷ names) zero n is = let same : m ≡ n = cc in same
index-is (m ∷ names) (suc i) n is = index-is names i n is

-- the name at a place that is there
pub name-at : (names : List (List ℕ)) (i : ℕ) → i < length names → slice_get names i ≡ Some (slice_index_or names i [])
name-at [] i h = absurd (omega arith)
name-at (m ∷ names) zero h = refl
name-at (m ∷ names) (suc i) h = name-at names i (omega arith)
