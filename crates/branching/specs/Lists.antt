-- Lists of allowed numbers by what is left to decide in them.
use Rattle.std.specs.Prelude.{ℕ, ◌<◌, ◌≤◌, List, length, All, Option, Some, None}
use Rattle.patterns.specs.Allowed.{Lists, list_of}
use Rattle.patterns.specs.Book.{Offers, offers_of}
use Rattle.leaf_bounds.specs.Laws.{EachHasMember}
use Rattle.leaf_bounds.specs.Made.{HasOnePlan, LacksMember}
use Rattle.leaf_bounds.specs.Tree.{IsParted}
use Rattle.leaf_bounds.specs.declared.tree.Cut.{Cut}
use Rattle.branching.specs.declared.choice.Choice.{Choice}
use Rattle.branching.specs.declared.kind.Kind.{Kind}
use Rattle.branching.specs.declared.kind.Kind.TheVariants.{Missing, Fixed, Open}

-- the train's list has two numbers or more
pub record IsLong (lists : Lists) (train : ℕ) : Type 0 where
  pub there : train < length lists
  pub two : 2 ≤ length (list_of lists train)

-- Each list has a member, and some list has two.
pub record IsUndecided (lists : Lists) : Type 0 where
  pub some : EachHasMember lists
  pub long : (train : ℕ) × IsLong lists train

abbrev pub IsKind : Lists → Kind → Type 0
IsKind lists Missing = LacksMember lists
IsKind lists Fixed = HasOnePlan lists
IsKind lists Open = IsUndecided lists

-- the cut is of a train that is there, and both parts have a member
pub record IsCut (lists : Lists) (cut : Cut) : Type 0 where
  pub there : cut.train < length lists
  pub parted : IsParted lists cut

abbrev pub IsCutIfAny : Lists → Option Choice → Type 0
IsCutIfAny lists None = Unit {0}
IsCutIfAny lists (Some choice) = IsCut lists choice.cut

-- each is the number of one of the train's patterns
abbrev pub AreNumbers : Offers → ℕ → List ℕ → Type 0
AreNumbers book train numbers = All (λ number. number < length (offers_of book train)) numbers
