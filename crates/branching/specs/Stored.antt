-- What is kept of a node in its slot.
use Rattle.std.specs.Prelude.{◌≡◌, false, Option}
use Rattle.branching.specs.declared.found.Priced.{Priced}
use Rattle.branching.specs.declared.node.Node.{Node}
use Rattle.branching.specs.declared.part.Part.{Part}
use Rattle.branching.specs.Known.{is_settled}

-- its leaf, and its lists unless its bound is settled
pub record IsStored (best : Option Priced) (n : Node) (p : Part) : Type 0 where
  pub leaf : p.leaf ≡ n.part.leaf
  pub lists : is_settled best n.bound ≡ false → p.allowed ≡ n.part.allowed
