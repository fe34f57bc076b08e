-- Facts of every element of a list, and of each element and each later one.
use Rattle.std.proofs.Common.{◌≡◌, ℕ, zero, suc, ◌+◌, ◌<◌, List, [], ◌∷◌, ◌++◌, length, map, Bool, true, false, not, cond, ◌||◌, Some, slice_get, refl, sym, ap, subst, arith, true≢false}
use Rattle.std.specs.Prelude.{filter, position, ⊤}
use Rattle.std.specs.List.{list_any, prefix_len}

abbrev pub Every : {X : Type 0} → (X → Type 0) → List X → Type 0
Every P [] = ⊤
Every P (x ∷ xs) = P x × Every P xs

abbrev pub Rising : {X : Type 0} → (X → X → Type 0) → List X → Type 0
Rising R [] = ⊤
Rising R (x ∷ xs) = Every (R x) xs × Rising R xs

pub every-at : {X : Type 0} (P : X → Type 0) (xs : List X) → Every P xs → (i : ℕ) (x : X) → slice_get xs i ≡ Some x → P x
every-at P [] all i x is = absurd (cc)
every-at P (y ∷ xs) all zero x is = let same : y ≡ x = cc in subst P same all.0
every-at P (y ∷ xs) all (suc i) x is = every-at P xs all.1 i x is

pub rising-at : {X : Type 0} (R : X → X → Type 0) (xs : List X) → Rising R xs → (i j : ℕ) (x y : X) → i < j → slice_get xs i ≡ Some x → slice_get xs j ≡ Some y → R x y
rising-at R [] all i j x y h is js = absurd (cc)
rising-at R (z ∷ xs) all i zero x y h is js = absurd (omega arith)
rising-at R (z ∷ xs) all zero (suc j) x y h is js = let same : z ≡ x = cc in subst (λ w. R w y) same (every-at (R z) xs all.0 j y js)
rising-at R (z ∷ xs) all (suc i) (suc j) x y h is js = rising-at R xs all.1 i j x y (omega arith) is js

pub every-weaker : {X : Type 0} (P Q : X → Type 0) → ((x : X) → P x → Q x) → (xs : List X) → Every P xs → Every Q xs
every-weaker P Q weaker [] all = tt
every-weaker P Q weaker (x ∷ xs) all = (weaker x all.0, every-weaker P Q weaker xs all.1)

pub every-append : {X : Type 0} (P : X → Type 0) (xs ys : List X) → Every P xs → Every P ys → Every P (xs ++ ys)
every-append P [] ys all more = more
every-append P (x ∷ xs) ys all more = (all.0, every-append P xs ys all.1 more)

every-chosen : {X : Type 0} (P : X → Type 0) (b : Bool) (x : X) (xs : List X) → P x → Every P xs → Every P (cond b (x ∷ xs) xs)
every-chosen P true x xs p all = (p, all)
every-chosen P false x xs p all = all

pub every-filter : {X : Type 0} (P : X → Type 0) (test : X → Bool) (xs : List X) → Every P xs → Every P (filter test xs)
every-filter P test [] all = tt
every-filter P test (x ∷ xs) all = every-chosen P (test x) x (filter test xs) all.0 (every-filter P test xs all.1)

rising-chosen : {X : Type 0} (R : X → X → Type 0) (b : Bool) (x : X) (xs : List X) → Every (R x) xs → Rising R xs → Rising R (cond b (x ∷ xs) xs)
rising-chosen R true x xs first all = (first, all)
rising-chosen R false x xs first all = all

pub rising-filter : {X : Type 0} (R : X → X → Type 0) (test : X → Bool) (xs : List X) → Rising R xs → Rising R (filter test xs)
rising-filter R test [] all = tt
rising-filter R test (x ∷ xs) all = rising-chosen R (test x) x (filter test xs) (every-filter (R x) test xs all.0) (rising-filter R test xs all.1)

pub rising-append : {X : Type 0} (R : X → X → Type 0) (xs ys : List X) → Rising R xs → Rising R ys → Every (λ x. Every (R x) ys) xs → Rising R (xs ++ ys)
rising-append R [] ys all more across = more
rising-append R (x ∷ xs) ys all more across = (every-append (R x) xs ys all.0 across.0, rising-append R xs ys all.1 more across.1)

pub chosen-every : {X : Type 0} (P : X → Type 0) (b : Bool) (x : X) (xs : List X) → P x → Every P xs → Every P (cond b (x ∷ xs) xs)
chosen-every P b x xs p all = every-chosen P b x xs p all

pub chosen-rising : {X : Type 0} (R : X → X → Type 0) (b : Bool) (x : X) (xs : List X) → Every (R x) xs → Rising R xs → Rising R (cond b (x ∷ xs) xs)
chosen-rising R b x xs first all = rising-chosen R b x xs first all

-- ---- a list that is made of another

pub mapped : {X Y : Type 0} (f : X → Y) (xs : List X) (i : ℕ) (y : Y) → slice_get (map f xs) i ≡ Some y → (x : X) × (slice_get xs i ≡ Some x) × (f x ≡ y)
mapped f [] i y is = absurd (cc)
mapped f (x ∷ xs) zero y is = (x, refl, cc)
mapped f (x ∷ xs) (suc i) y is = mapped f xs i y is

pub map-at : {X Y : Type 0} (f : X → Y) (xs : List X) (i : ℕ) (x : X) → slice_get xs i ≡ Some x → slice_get (map f xs) i ≡ Some (f x)
map-at f [] i x is = absurd (cc)
map-at f (y ∷ xs) zero x is = let same : y ≡ x = cc in ap (λ z. Some (f z)) same
map-at f (y ∷ xs) (suc i) x is = map-at f xs i x is

pub length-made : {X Y : Type 0} (f : X → Y) (xs : List X) → length (map f xs) ≡ length xs
length-made f [] = refl
length-made f (x ∷ xs) = ap suc (length-made f xs)

pub any-made : {X Y : Type 0} (test : Y → Bool) (f : X → Y) (xs : List X) → list_any (λ x. test (f x)) xs ≡ list_any test (map f xs)
any-made test f [] = refl
any-made test f (x ∷ xs) = ap (λ b. test (f x) || b) (any-made test f xs)

prefix_len-made : {X Y : Type 0} (test : Y → Bool) (f : X → Y) (xs : List X) → prefix_len (λ x. not (test (f x))) xs ≡ prefix_len (λ y. not (test y)) (map f xs)
prefix_len-made test f [] = refl
prefix_len-made test f (x ∷ xs) = ap (λ n. cond (not (test (f x))) (1 + n) 0) (prefix_len-made test f xs)

pub position-made : {X Y : Type 0} (test : Y → Bool) (f : X → Y) (xs : List X) → position (λ x. test (f x)) xs ≡ position test (map f xs)
position-made test f xs = rw (prefix_len-made test f xs, sym (length-made f xs))

-- ---- a test that some element passes

found_first : {X : Type 0} (test : X → Bool) (x : X) (xs : List X) (b : Bool) → test x ≡ b → ((b || list_any test xs) ≡ true)
    → (list_any test xs ≡ true → (i : ℕ) × (y : X) × (slice_get xs i ≡ Some y) × (test y ≡ true))
    → (i : ℕ) × (y : X) × (slice_get (x ∷ xs) i ≡ Some y) × (test y ≡ true)
found_first test x xs true is e later = (zero, x, refl, is)
found_first test x xs false is e later = let found = later e in (suc found.0, found.1, found.2, found.3)

pub any-found : {X : Type 0} (test : X → Bool) (xs : List X) → list_any test xs ≡ true → (i : ℕ) × (y : X) × (slice_get xs i ≡ Some y) × (test y ≡ true)
any-found test [] e = absurd (true≢false (sym e))
any-found test (x ∷ xs) e = found_first test x xs (test x) refl e (any-found test xs)
