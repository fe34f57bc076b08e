-- Potentials that show what weights cost at least.
use Rattle.std.specs.Prelude.{◌≡◌, ℕ, ◌<◌, ◌≤◌, List, length, All, ℤ, pos, ◌+ℤ◌, ◌≤ℤ◌, unsigned_abs}
use Rattle.transport.specs.Coupling.{at, weighted}

-- A potential for each weight of two lists, at most 10^14 in size. No two potentials pass a cost, and together they are
-- worth this value.
pub record ArePotentials (costs : ℕ → ℕ → ℕ) (left right : List ℤ) (value : ℤ) (alpha beta : List ℤ) : Type 0 where
  pub alpha_length : length alpha ≡ length left
  pub beta_length : length beta ≡ length right
  pub below : (i j : ℕ) → i < length left → j < length right → (at alpha i +ℤ at beta j) ≤ℤ pos (costs i j)
  pub worth : weighted alpha left +ℤ weighted beta right ≡ value
  pub alpha_size : All (λ a. unsigned_abs a ≤ 100000000000000) alpha
  pub beta_size : All (λ b. unsigned_abs b ≤ 100000000000000) beta
