-- Rows of whole numbers, read as equations.
use Rattle.std.specs.Prelude.{◌≡◌, ℕ, zero, suc, ◌<◌, ℤ, pos, ◌+ℤ◌, ◌-ℤ◌, ◌*ℤ◌, List, [], ◌∷◌, length, map, unsigned_abs, int_div, FitsSigned, ◌↔◌, slice_index_or, All}
use Rattle.std.specs.Int.{IsGcd, ◌∣◌, w128}

-- the sum of the cells times the values; what is past the end of either counts nothing
abbrev pub dot : List ℤ → List ℤ → ℤ
dot [] xs = pos 0
dot (c ∷ cs) [] = pos 0
dot (c ∷ cs) (x ∷ xs) = c *ℤ x +ℤ dot cs xs

-- the cell in a column
abbrev pub cell_at : List ℤ → ℕ → ℤ
cell_at cells column = slice_index_or cells column (pos 0)

-- the one row's equation has the solutions of the other's, wherever `other` holds
abbrev pub KeepsSolutions : List ℤ → List ℤ → List ℤ → Type 0
KeepsSolutions other old new = (xs : List ℤ) → dot other xs ≡ pos 0 → (dot old xs ≡ pos 0) ↔ (dot new xs ≡ pos 0)

-- p times the one row minus s times the other
abbrev pub combined : ℤ → ℤ → List ℤ → List ℤ → List ℤ
combined p s [] ys = []
combined p s (x ∷ xs) [] = []
combined p s (x ∷ xs) (y ∷ ys) = (p *ℤ x -ℤ s *ℤ y) ∷ combined p s xs ys

-- the products and the difference fit 128 bits
pub record CellFits (p s x y : ℤ) : Type 0 where
  pub own : FitsSigned w128 (p *ℤ x)
  pub other : FitsSigned w128 (s *ℤ y)
  pub rest : FitsSigned w128 (p *ℤ x -ℤ s *ℤ y)

-- each number on the way to `combined` fits 128 bits
abbrev pub CombinationFits : ℤ → ℤ → List ℤ → List ℤ → Type 0
CombinationFits p s xs ys = (k : ℕ) → k < length xs → CellFits p s (slice_index_or xs k (pos 0)) (slice_index_or ys k (pos 0))

-- the same for the factors p and s divided by their greatest common divisor
abbrev pub EliminationFits : ℤ → ℤ → List ℤ → List ℤ → Type 0
EliminationFits p s xs ys = (g : ℕ) → IsGcd (unsigned_abs p) (unsigned_abs s) g → CombinationFits (int_div p (pos g)) (int_div s (pos g)) xs ys

-- g is the greatest common divisor of the cells: what divides it is what divides each of them
abbrev pub IsContent : ℕ → List ℤ → Type 0
IsContent g xs = (d : ℕ) → (d ∣ g) ↔ All (λ x. d ∣ unsigned_abs x) xs

-- the cells by g, where g isn't 0
abbrev pub divided : ℕ → List ℤ → List ℤ
divided zero xs = xs
divided (suc g) xs = map (λ x. int_div x (pos (suc g))) xs

-- The row `old` without the column of which `other` has p and it has s: both factors are divided by the greatest
-- common divisor of p and s, and the combined row by that of its cells.
pub record IsEliminated (p s : ℤ) (other old new : List ℤ) : Type 0 where
  pub divisor : ℕ
  pub content : ℕ
  pub divisor_is : IsGcd (unsigned_abs p) (unsigned_abs s) divisor
  pub content_is : IsContent content (combined (int_div p (pos divisor)) (int_div s (pos divisor)) old other)
  pub cells : new ≡ divided content (combined (int_div p (pos divisor)) (int_div s (pos divisor)) old other)
