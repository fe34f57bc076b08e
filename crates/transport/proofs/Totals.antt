-- Totals of lists of equal weights.
use Rattle.std.proofs.Common.{◌≡◌, ℕ, zero, suc, ℤ, pos, ◌+ℤ◌, List, [], ◌∷◌, ◌++◌, refl, arith, replicate}
use Rattle.std.proofs.lemmas.Int.{ints}
use Rattle.transport.specs.Coupling.{total}

total_append : (xs ys : List ℤ) → total (xs ++ ys) ≡ total xs +ℤ total ys
total_append [] ys = omega (arith, ints)
total_append (x ∷ xs) ys = let r = total_append xs ys in omega (arith, ints)

total_ones : (n : ℕ) → total (replicate n (pos 1)) ≡ pos n
total_ones zero = refl
total_ones (suc n) = let r = total_ones n in omega (arith, ints)

total_zeros : (n : ℕ) → total (replicate n (pos 0)) ≡ pos 0
total_zeros zero = refl
total_zeros (suc n) = let r = total_zeros n in omega (arith, ints)

pub total_ones_first : (n m : ℕ) → total (replicate n (pos 1) ++ replicate m (pos 0)) ≡ pos n
total_ones_first n m =
    let a = total_append (replicate n (pos 1)) (replicate m (pos 0)) in
    let b = total_ones n in
    let c = total_zeros m in
    omega (arith, ints)

pub total_ones_last : (m n : ℕ) → total (replicate m (pos 0) ++ replicate n (pos 1)) ≡ pos n
total_ones_last m n =
    let a = total_append (replicate m (pos 0)) (replicate n (pos 1)) in
    let b = total_ones n in
    let c = total_zeros m in
    omega (arith, ints)
