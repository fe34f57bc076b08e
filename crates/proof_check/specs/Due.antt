-- Open splits: the lists of the subtrees that are due.
use Rattle.std.specs.Prelude.{◌≡◌, ℕ, ◌<◌, Bool, Result, Ok, Err, if◌then◌else◌, List, [], ◌∷◌, ◌++◌, length, reverse, All}
use Rattle.patterns.specs.Allowed.{Lists, list_of, with_list}
use Rattle.leaf_bounds.specs.declared.tree.Cut.{Cut}
use Rattle.leaf_bounds.specs.Tree.{lists_below, lists_from, IsParted}
use Rattle.proof_rules.specs.declared.refused.ProofKind.TheVariants.{Part}
use Rattle.proof_check.specs.declared.splits.OpenSplit.{OpenSplit}
use Rattle.proof_check.specs.declared.splits.Splits.{Splits}
use Rattle.proof_check.specs.declared.splits.Subtree.{Subtree}
use Rattle.proof_check.specs.declared.splits.Subtree.TheVariants.{Below, Rest}
use Rattle.proof_check.specs.declared.stop.Stop.{Stop}
use Rattle.proof_check.specs.declared.stop.Stop.TheVariants.{Memory, Refused}

-- the lists of the split's second subtree, while its first is read
abbrev pub due_at : Subtree → OpenSplit → Lists → List Lists
due_at Below o lists = with_list lists o.train o.other ∷ []
due_at Rest o lists = []

-- the train's numbers at the split, from those in the subtree that is read
abbrev pub whole_of : Subtree → OpenSplit → List ℕ → List ℕ
whole_of Below o ns = ns ++ o.other
whole_of Rest o ns = o.other ++ ns

-- the lists at the split
abbrev pub joined : OpenSplit → Lists → Lists
joined o lists = with_list lists o.train (whole_of o.reads o (list_of lists o.train))

-- the lists of what is due after the subtree of these lists, where the innermost split comes first
abbrev pub later : Lists → List OpenSplit → List Lists
later lists [] = []
later lists (o ∷ above) = due_at o.reads o lists ++ later (joined o lists) above

abbrev pub later_of : Splits → List Lists
later_of s = later s.lists.lists (reverse s.above.items)

-- the lists of all that is due
abbrev pub due_of : Splits → List Lists
due_of s = s.lists.lists ∷ later_of s

-- The splits are of trains that are there.
abbrev pub AreOpen : Splits → Type 0
AreOpen s = All (λ o. o.train < length s.lists.lists) s.above.items

-- the lists due after these, and whether there are some
abbrev pub due_now : Splits → Bool → List Lists
due_now s more = if more then due_of s else []

-- the split leads to its first subtree, with the second due after it, or one of its parts has no number
abbrev pub IsDivided : Splits → Cut → Splits → Result (Unit {0}) Stop → Type 0
IsDivided old cut new (Ok done) =
    IsParted old.lists.lists cut × (due_of new ≡ lists_below old.lists.lists cut ∷ lists_from old.lists.lists cut ∷ later_of old)
IsDivided old cut new (Err Memory) = Unit {0}
IsDivided old cut new (Err (Refused kind)) = (IsParted old.lists.lists cut → ⊥) × (kind ≡ Part)
