-- The sum of a list of signed numbers, entry by entry.
use Rattle.std.proofs.Common.{◌≡◌, ℕ, ◌+◌, ◌<◌, List, length, get_or, drop, ◌∷◌, drop-cons, add-one, ap, ℤ, pos, ◌+ℤ◌, arith}
use Rattle.std.proofs.lemmas.Int.{ints}
use Rattle.transport.specs.Coupling.{total}

-- what is left at i is its entry and what is left after it
drop-more : (xs : List ℤ) (i : ℕ) → i < length xs → drop i xs ≡ get_or xs i (pos 0) ∷ drop (i + 1) xs
drop-more xs i h = rw add-one (drop-cons xs i (pos 0) h)

pub total_more : (xs : List ℤ) (i : ℕ) (sum next : ℤ) → i < length xs → sum +ℤ total (drop i xs) ≡ total xs
    → next ≡ sum +ℤ get_or xs i (pos 0) → next +ℤ total (drop (i + 1) xs) ≡ total xs
total_more xs i sum next h so_far e =
    let here : total (drop i xs) ≡ get_or xs i (pos 0) +ℤ total (drop (i + 1) xs) = ap total (drop-more xs i h) in
    omega (arith, ints, so_far, e, here)
