-- The tables that a checker holds.
use Rattle.std.specs.Prelude.{ℕ, ◌<◌, All, Bool, List, [], ◌∷◌, ◌++◌, map, length, Option, Some, None, if◌then◌else◌, ◌&&◌, nat_lt, pos}
use Rattle.patterns.specs.Book.{Offers, offers_of}
use Rattle.leaf_bounds.specs.declared.number.NumberValue.{NumberValue}
use Rattle.proof_rules.specs.Fault.{is_none, is_above, is_some_value}
use Rattle.leaf_bounds.specs.Group.{Group}
use Rattle.proof_check.specs.declared.table.Table.{Table}
use Rattle.proof_check.specs.declared.tables.Tables.{Tables}

abbrev pub group_of : Table → Group
group_of t = record { first = t.first; second = t.second; alpha = t.alpha.items; beta = t.beta.items }

abbrev pub groups_of : Tables → List Group
groups_of t = map group_of t.tables.items

-- The rules for a further potential ask only the book.
abbrev pub is_alpha_due : Offers → NumberValue → Group → Bool
is_alpha_due book x g =
    is_none g.beta && is_above (λ y. pos y.number) g.alpha x && is_some_value x.value && nat_lt x.number (length (offers_of book g.first))

abbrev pub is_beta_due : Offers → NumberValue → Group → Bool
is_beta_due book x g =
    is_above (λ y. pos y.number) g.beta x && is_some_value x.value && nat_lt x.number (length (offers_of book g.second))

abbrev pub alpha_added : Offers → NumberValue → Group → Option Group
alpha_added book x g = if is_alpha_due book x g then Some (record g { alpha = g.alpha ++ x ∷ [] }) else None

abbrev pub beta_added : Offers → NumberValue → Group → Option Group
beta_added book x g = if is_beta_due book x g then Some (record g { beta = g.beta ++ x ∷ [] }) else None

-- the second train of each is there
abbrev pub AreThere : ℕ → List Group → Type 0
AreThere trains groups = All (λ g. g.second < trains) groups
