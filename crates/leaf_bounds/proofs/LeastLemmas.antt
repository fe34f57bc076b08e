-- The least of some numbers.
use Rattle.std.proofs.Common.{◌≡◌, ℕ, zero, suc, ◌+◌, ◌<◌, ◌≤◌, List, [], ◌∷◌, map, length, get_or, drop, sym, ap, ◌∙◌, arith, min, drop-cons}
use Rattle.std.specs.Prelude.{Contains}
use Rattle.std.specs.List.{All}
use Rattle.std.proofs.lemmas.List.Elements.{All-contains}
use Rattle.leaf_bounds.specs.Made.{least_of}

-- the least of a number and others
abbrev pub least_with : ℕ → List ℕ → ℕ
least_with m [] = m
least_with m (n ∷ ns) = least_with (min n m) ns

with_least : (m n : ℕ) (ns : List ℕ) → least_with m (n ∷ ns) ≡ min m (least_of (n ∷ ns))
with_least m n [] = omega arith
with_least m n (k ∷ ns) =
    let rest = with_least (min n m) k ns in
    omega (arith, rest)

-- the first number, and all of them
pub least_first : (n : ℕ) (ns : List ℕ) → least_with n (n ∷ ns) ≡ least_of (n ∷ ns)
least_first n [] = omega arith
least_first n (k ∷ ns) =
    let all = with_least n n (k ∷ ns) in
    omega (arith, all)

pub least_start : (f : ℕ → ℕ) (xs : List ℕ) (d : ℕ) → 0 < length xs → least_with (f (get_or xs 0 d)) (map f (drop 0 xs)) ≡ least_of (map f xs)
least_start f [] d h = absurd (omega arith)
least_start f (x ∷ xs) d h = least_first (f x) (map f xs)

pub least_more : (f : ℕ → ℕ) (xs : List ℕ) (k m : ℕ) → k < length xs
    → least_with (min (f (get_or xs k 0)) m) (map f (drop (k + 1) xs)) ≡ least_with m (map f (drop k xs))
least_more f xs k m h =
    sym (ap (λ ks. least_with m (map f ks)) (drop-cons xs k 0 h ∙ ap (λ n. get_or xs k 0 ∷ drop n xs) (next k)))
  where
    next : (k : ℕ) → suc k ≡ k + 1
    next k = omega arith

least_head : (n : ℕ) (ns : List ℕ) → least_of (n ∷ ns) ≤ n
least_head n [] = omega arith
least_head n (k ∷ ns) = omega arith

least_tail : (n k : ℕ) (ns : List ℕ) → least_of (n ∷ k ∷ ns) ≤ least_of (k ∷ ns)
least_tail n k ns = omega arith

-- no number is less
pub least_most : (f : ℕ → ℕ) (xs : List ℕ) (k d : ℕ) → k < length xs → least_of (map f xs) ≤ f (get_or xs k d)
least_most f [] k d h = absurd (omega arith)
least_most f (x ∷ xs) zero d h = least_head (f x) (map f xs)
least_most f (x ∷ []) (suc k) d h = absurd (omega arith)
least_most f (x ∷ y ∷ xs) (suc k) d h =
    let rest = least_most f (y ∷ xs) k d (omega arith) in
    let less = least_tail (f x) (f y) (map f xs) in
    omega (arith, rest, less)

pub least_within : (f : ℕ → ℕ) (xs : List ℕ) (i : ℕ) → Contains xs i → least_of (map f xs) ≤ f i
least_within f xs i h = All-contains (λ j. least_of (map f xs) ≤ f j) xs i (λ k d l. least_most f xs k d l) h

pub least_limit : (f : ℕ → ℕ) (xs : List ℕ) (most : ℕ) → All (λ i. f i ≤ most) xs → least_of (map f xs) ≤ most
least_limit f [] most h = omega arith
least_limit f (x ∷ xs) most h =
    let head = least_head (f x) (map f xs) in
    let limit = h 0 x (omega arith) in
    omega (arith, head, limit)
