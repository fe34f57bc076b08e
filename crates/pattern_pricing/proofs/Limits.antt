-- Lists that fit a case's book are short.
use Rattle.std.proofs.Common.{◌≡◌, ℕ, zero, suc, ◌+◌, ◌<◌, ◌≤◌, List, [], length, refl, sym, subst, arith}
use Rattle.std.specs.Prelude.{slice_index}
use Rattle.std.specs.List.Sorted.{IsStrictlyIncreasing}
use Rattle.patterns.specs.Allowed.{Lists, FitsBook, list_of}
use Rattle.patterns.specs.Book.{Offers, IsBook}

not_below : (xs : List ℕ) → IsStrictlyIncreasing xs → (k : ℕ) → k < length xs → k ≤ slice_index xs k
not_below xs up zero h = omega arith
not_below xs up (suc k) h =
    let before = not_below xs up k (omega arith) in
    let step = up k (omega arith) in
    let e : suc k ≡ k + 1 = omega arith in
    let P : ℕ → Type 0 = λ m. m ≤ slice_index xs m in
    subst P (sym e) (omega (arith, before, step))

pub list_small : (lists : Lists) (book : Offers) → FitsBook lists book → IsBook book → (t : ℕ) → t < length lists → length (list_of lists t) ≤ 4096
list_small lists book fits is t h = by (length (list_of lists t)) refl
  where
    by : (n : ℕ) → length (list_of lists t) ≡ n → length (list_of lists t) ≤ 4096
    by zero e = omega (arith, e)
    by (suc n) e =
        let last = not_below (list_of lists t) (fits.ascending t h) n (omega (arith, e)) in
        let there = fits.there t h n 0 (omega (arith, e)) in
        let trains = fits.trains in
        let few = is.counts t [] (omega (arith, trains, h)) in
        omega (arith, e, last, there, few)
