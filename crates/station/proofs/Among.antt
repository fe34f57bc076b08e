-- Elements of a list, and of lists that are made of others.
use Rattle.std.proofs.Common.{◌≡◌, ℕ, zero, suc, ◌+◌, ◌<◌, ◌≤◌, List, [], ◌∷◌, ◌++◌, length, map, get_or, Bool, true, false, cond, Some, slice_get, refl, sym, ap, ◌∙◌, subst, arith, true≢false, ◌⊎◌, inl, inr}
use Rattle.std.specs.Prelude.{filter, flat_map}
use Rattle.std.specs.List.{Contains, range_with_len}

-- x is an element
abbrev pub Among : {X : Type 0} → List X → X → Type 0
Among [] x = ⊥
Among (y ∷ ys) x = (y ≡ x) ⊎ Among ys x

pub contains : {X : Type 0} (xs : List X) (x : X) → Among xs x → Contains xs x
contains [] x h = absurd h
contains (y ∷ ys) x (inl e) = (0, omega arith, e)
contains (y ∷ ys) x (inr h) = let found = contains ys x h in (suc found.0, omega (arith, found.1), found.2)

among-place : {X : Type 0} (xs : List X) (k : ℕ) (x : X) → k < length xs → get_or xs k x ≡ x → Among xs x
among-place [] k x h e = absurd (omega arith)
among-place (y ∷ ys) zero x h e = inl e
among-place (y ∷ ys) (suc k) x h e = inr (among-place ys k x (omega arith) e)

pub among : {X : Type 0} (xs : List X) (x : X) → Contains xs x → Among xs x
among xs x h = among-place xs h.0 x h.1 h.2

pub among-at : {X : Type 0} (xs : List X) (i : ℕ) (x : X) → slice_get xs i ≡ Some x → Among xs x
among-at [] i x is = absurd (cc)
among-at (y ∷ ys) zero x is = inl (cc)
among-at (y ∷ ys) (suc i) x is = inr (among-at ys i x is)

pub place-of : {X : Type 0} (xs : List X) (x : X) → Among xs x → (i : ℕ) × (slice_get xs i ≡ Some x)
place-of [] x h = absurd h
place-of (y ∷ ys) x (inl e) = (0, ap Some e)
place-of (y ∷ ys) x (inr h) = let found = place-of ys x h in (suc found.0, found.1)

-- ---- two lists, one after the other

among-left : {X : Type 0} (xs ys : List X) (x : X) → Among xs x → Among (xs ++ ys) x
among-left [] ys x h = absurd h
among-left (z ∷ zs) ys x (inl e) = inl e
among-left (z ∷ zs) ys x (inr h) = inr (among-left zs ys x h)

among-right : {X : Type 0} (xs ys : List X) (x : X) → Among ys x → Among (xs ++ ys) x
among-right [] ys x h = h
among-right (z ∷ zs) ys x h = inr (among-right zs ys x h)

among-split : {X : Type 0} (xs ys : List X) (x : X) → Among (xs ++ ys) x → Among xs x ⊎ Among ys x
among-split [] ys x h = inr h
among-split (z ∷ zs) ys x (inl e) = inl (inl e)
among-split (z ∷ zs) ys x (inr h) = elim (among-split zs ys x h) [ inl a ↦ inl (inr a) | inr a ↦ inr a ]

-- ---- made lists

pub into-flat_map : {X Y : Type 0} (f : X → List Y) (xs : List X) (x : X) (y : Y) → Among xs x → Among (f x) y → Among (flat_map f xs) y
into-flat_map f [] x y h a = absurd h
into-flat_map f (z ∷ zs) x y (inl e) a = among-left (f z) (flat_map f zs) y (subst (λ w. Among (f w) y) (sym e) a)
into-flat_map f (z ∷ zs) x y (inr h) a = among-right (f z) (flat_map f zs) y (into-flat_map f zs x y h a)

from_either : {X Y : Type 0} (f : X → List Y) (z : X) (zs : List X) (y : Y) → Among (f z) y ⊎ Among (flat_map f zs) y
    → (Among (flat_map f zs) y → (x : X) × Among zs x × Among (f x) y) → (x : X) × Among (z ∷ zs) x × Among (f x) y
from_either f z zs y (inl a) later = (z, inl refl, a)
from_either f z zs y (inr a) later = let found = later a in (found.0, inr found.1, found.2)

pub from-flat_map : {X Y : Type 0} (f : X → List Y) (xs : List X) (y : Y) → Among (flat_map f xs) y → (x : X) × Among xs x × Among (f x) y
from-flat_map f [] y h = absurd h
from-flat_map f (z ∷ zs) y h = from_either f z zs y (among-split (f z) (flat_map f zs) y h) (from-flat_map f zs y)

pub into-map : {X Y : Type 0} (f : X → Y) (xs : List X) (x : X) (y : Y) → Among xs x → f x ≡ y → Among (map f xs) y
into-map f [] x y h e = absurd h
into-map f (z ∷ zs) x y (inl same) e = inl (ap f same ∙ e)
into-map f (z ∷ zs) x y (inr h) e = inr (into-map f zs x y h e)

pub from-map : {X Y : Type 0} (f : X → Y) (xs : List X) (y : Y) → Among (map f xs) y → (x : X) × Among xs x × (f x ≡ y)
from-map f [] y h = absurd h
from-map f (z ∷ zs) y (inl e) = (z, inl refl, e)
from-map f (z ∷ zs) y (inr h) = let found = from-map f zs y h in (found.0, inr found.1, found.2)

into_chosen : {X : Type 0} (b : Bool) (z x : X) (zs : List X) → (z ≡ x → b ≡ true) → (z ≡ x) ⊎ Among zs x → Among (cond b (z ∷ zs) zs) x
into_chosen true z x zs kept h = h
into_chosen false z x zs kept (inl e) = absurd (true≢false (sym (kept e)))
into_chosen false z x zs kept (inr h) = h

more_kept : {X : Type 0} (test : X → Bool) (z x : X) (zs : List X) → (z ≡ x) ⊎ Among zs x → (Among zs x → Among (filter test zs) x) → (z ≡ x) ⊎ Among (filter test zs) x
more_kept test z x zs (inl e) later = inl e
more_kept test z x zs (inr h) later = inr (later h)

pub into-filter : {X : Type 0} (test : X → Bool) (xs : List X) (x : X) → Among xs x → test x ≡ true → Among (filter test xs) x
into-filter test [] x h e = absurd h
into-filter test (z ∷ zs) x h e =
    into_chosen (test z) z x (filter test zs) (λ same. ap test same ∙ e) (more_kept test z x zs h (λ a. into-filter test zs x a e))

from_chosen : {X : Type 0} (test : X → Bool) (b : Bool) (z x : X) (zs : List X) → test z ≡ b → Among (cond b (z ∷ zs) zs) x → ((z ≡ x) × (test x ≡ true)) ⊎ Among zs x
from_chosen test true z x zs is (inl e) = inl (e, ap test (sym e) ∙ is)
from_chosen test true z x zs is (inr h) = inr h
from_chosen test false z x zs is h = inr h

from_kept : {X : Type 0} (test : X → Bool) (z x : X) (zs : List X) → ((z ≡ x) × (test x ≡ true)) ⊎ Among (filter test zs) x
    → (Among (filter test zs) x → Among zs x × (test x ≡ true)) → Among (z ∷ zs) x × (test x ≡ true)
from_kept test z x zs (inl h) later = (inl h.0, h.1)
from_kept test z x zs (inr h) later = let found = later h in (inr found.0, found.1)

pub from-filter : {X : Type 0} (test : X → Bool) (xs : List X) (x : X) → Among (filter test xs) x → Among xs x × (test x ≡ true)
from-filter test [] x h = absurd h
from-filter test (z ∷ zs) x h =
    from_kept test z x zs (from_chosen test (test z) z x (filter test zs) refl h) (from-filter test zs x)

-- ---- numbers

next_or : (a k : ℕ) → a ≤ k → (a ≡ k) ⊎ (a + 1 ≤ k)
next_or zero zero h = inl refl
next_or zero (suc k) h = inr (omega arith)
next_or (suc a) zero h = absurd (omega arith)
next_or (suc a) (suc k) h = elim (next_or a k (omega arith)) [ inl e ↦ inl (ap suc e) | inr l ↦ inr (omega arith) ]

range_later : (a n k : ℕ) → k < a + suc n → (a ≡ k) ⊎ (a + 1 ≤ k) → (a + 1 ≤ k → k < (a + 1) + n → Among (range_with_len (a + 1) n) k) → Among (range_with_len a (suc n)) k
range_later a n k h (inl e) later = inl e
range_later a n k h (inr l) later = inr (later l (omega arith))

pub into-range : (a n k : ℕ) → a ≤ k → k < a + n → Among (range_with_len a n) k
into-range a zero k l h = absurd (omega arith)
into-range a (suc n) k l h = range_later a n k h (next_or a k l) (into-range (a + 1) n k)

pub from-range : (a n k : ℕ) → Among (range_with_len a n) k → (a ≤ k) × (k < a + n)
from-range a zero k h = absurd h
from-range a (suc n) k (inl e) = (omega (arith, e), omega (arith, e))
from-range a (suc n) k (inr h) = let found = from-range (a + 1) n k h in (omega (arith, found.0), omega (arith, found.1))
