-- The next of the leaves that wait.
use Rattle.std.specs.Prelude.{◌≡◌, true, false, List, ◌∷◌, All, Option, ◌≤ℤ◌}
use Rattle.std.specs.List.Sorted.{IsPermutation}
use Rattle.leaf_bounds.specs.declared.tree.Bound.TheVariants.{AtLeast}
use Rattle.branching.specs.declared.found.Priced.{Priced}
use Rattle.branching.specs.declared.waiting.Key.{Key}
use Rattle.branching.specs.Known.{is_settled}

-- A key of least bound is taken, and that bound isn't settled.
pub record IsNext (best : Option Priced) (keys rest : List Key) (key : Key) : Type 0 where
  pub taken : IsPermutation keys (key ∷ rest)
  pub least : All (λ other. key.bound ≤ℤ other.bound) rest
  pub unsettled : is_settled best (AtLeast key.bound) ≡ false

-- All bounds are settled.
pub record IsNoneNext (best : Option Priced) (keys rest : List Key) : Type 0 where
  pub same : rest ≡ keys
  pub settled : All (λ other. is_settled best (AtLeast other.bound) ≡ true) keys
