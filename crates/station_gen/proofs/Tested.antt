-- What a test that was computed over a list says of each element.
use Rattle.std.proofs.Common.{◌≡◌, ℕ, zero, suc, ◌+◌, ◌<◌, List, [], ◌∷◌, map, Bool, true, Some, slice_get, ap, ◌∙◌, subst, arith, inl, inr}
use Rattle.std.specs.List.{list_all, range_with_len}
use Rattle.station.specs.Allowed.{numbers}
use Rattle.station.proofs.Among.{Among, among-at, into-range}
use Rattle.station.proofs.Tests.{left, right}

pub passes-of : {X : Type 0} (test : X → Bool) (xs : List X) (x : X) → list_all test xs ≡ true → Among xs x → test x ≡ true
passes-of test [] x all h = absurd h
passes-of test (y ∷ ys) x all (inl e) = subst (λ z. test z ≡ true) e (left (test y) (list_all test ys) all)
passes-of test (y ∷ ys) x all (inr h) = passes-of test ys x (right (test y) (list_all test ys) all) h

pub passes-at : {X : Type 0} (test : X → Bool) (xs : List X) (i : ℕ) (x : X) → list_all test xs ≡ true → slice_get xs i ≡ Some x → test x ≡ true
passes-at test xs i x all is = passes-of test xs x all (among-at xs i x is)

pub passes-below : (test : ℕ → Bool) (n k : ℕ) → list_all test (numbers n) ≡ true → k < n → test k ≡ true
passes-below test n k all h = passes-of test (numbers n) k all (into-range 0 n k (omega arith) (omega arith))

-- the element at a place of a list that is made of numbers
pub made-at : {X : Type 0} (f : ℕ → X) (a n i : ℕ) (x : X) → slice_get (map f (range_with_len a n)) i ≡ Some x → (i < n) × (f (a + i) ≡ x)
made-at f a zero i x is = absurd (cc)
made-at f a (suc n) zero x is = let e : a + 0 ≡ a = omega arith in let same : f a ≡ x = cc in (omega arith, ap f e ∙ same)
made-at f a (suc n) (suc i) x is =
    let rest = made-at f (a + 1) n i x is in
    let e : a + suc i ≡ a + 1 + i = omega arith in
    (omega (arith, rest.0), ap f e ∙ rest.1)

pub made-numbers : {X : Type 0} (f : ℕ → X) (n i : ℕ) (x : X) → slice_get (map f (numbers n)) i ≡ Some x → (i < n) × (f i ≡ x)
made-numbers f n i x is =
    let found = made-at f 0 n i x is in
    let e : i ≡ 0 + i = omega arith in
    (found.0, ap f e ∙ found.1)
