-- The greatest potentials beside those of the other side. Potentials are lifted by 10^13.
use Rattle.std.specs.Prelude.{ℕ, ◌<◌, ◌≤◌, ◌+◌, List, length, slice_index}
use Rattle.transport.specs.Core.{lifted, IsFeasible}

-- Each column has the greatest potential up to the limit with which no cost is passed.
pub record AreMostColumns (t : ℕ → ℕ → ℕ) (rows columns : List ℕ) : Type 0 where
  pub feasible : IsFeasible t rows columns
  pub greatest : (j b : ℕ) → j < length columns → b ≤ 20000000000000
      → ((i : ℕ) → i < length rows → slice_index rows i + b ≤ lifted t i j) → b ≤ slice_index columns j
  pub caps : (j : ℕ) → j < length columns → slice_index columns j ≤ 20000000000000

-- Likewise each row.
pub record AreMostRows (t : ℕ → ℕ → ℕ) (columns rows : List ℕ) : Type 0 where
  pub feasible : IsFeasible t rows columns
  pub greatest : (i b : ℕ) → i < length rows → b ≤ 30000000000000
      → ((j : ℕ) → j < length columns → b + slice_index columns j ≤ lifted t i j) → b ≤ slice_index rows i
  pub caps : (i : ℕ) → i < length rows → slice_index rows i ≤ 30000000000000
