-- The open leaf that a checker holds.
use Rattle.std.specs.Prelude.{◌≡◌, ◌⊎◌, ℕ, ◌<◌, ◌&&◌, Bool, true, false, nat_lt, if◌then◌else◌, List, [], ◌∷◌, ◌++◌, All, slice_get, Some, Result, Ok, Err, pos, length}
use Rattle.std.specs.BTreeMap.{insert_entry, IsOrdered}
use Rattle.std.specs.Ordering.{nat_cmp}
use Rattle.patterns.specs.Allowed.{Lists}
use Rattle.pair_prices.specs.Case.{CaseRecord}
use Rattle.pair_prices.specs.Trains.{TrainPair}
use Rattle.leaf_bounds.specs.declared.leaf.Leaf.{Leaf}
use Rattle.leaf_bounds.specs.declared.number.TrainValue.{TrainValue}
use Rattle.leaf_bounds.specs.declared.number.MinuteValue.{MinuteValue}
use Rattle.leaf_bounds.specs.declared.number.PairValue.{PairValue}
use Rattle.leaf_bounds.specs.declared.uses.UseOf.{UseOf}
use Rattle.leaf_bounds.specs.Group.{Group}
use Rattle.leaf_bounds.specs.Listed.{minute_key, pair_key, AreLeafLists, AreUses}
use Rattle.leaf_bounds.specs.Leaf.{LeafRecord}
use Rattle.leaf_bounds.specs.Expansion.{expansion, in_list}
use Rattle.leaf_bounds.specs.Shown.{record_of_lists}
use Rattle.proof_file.specs.declared.record.ProofRecord.{ProofRecord}
use Rattle.proof_file.specs.declared.record.ProofRecord.TheVariants.{U, V, A, B, Use}
use Rattle.proof_rules.specs.Fault.{Fault, place, sum, OpenLeaf as LeafSoFar, is_none, is_above, is_some_value, is_pair_due, are_small}
use Rattle.proof_check.specs.declared.leaf.OpenLeaf.{OpenLeaf}
use Rattle.proof_check.specs.declared.potentials.Potentials.{Potentials}
use Rattle.proof_check.specs.declared.side.Side.TheVariants.{First, Second}
use Rattle.proof_check.specs.declared.stop.Stop.{Stop}
use Rattle.proof_check.specs.declared.stop.Stop.TheVariants.{Memory, Refused}
use Rattle.proof_rules.specs.declared.refused.ProofKind.TheVariants.{Place, Sum}
use Rattle.proof_check.specs.Going.{Follows}
use Rattle.proof_check.specs.Sums.{Adds, AreKeyed, AreListed, IsTooMuch, some_entries, sum_at}

abbrev pub leaf_of : OpenLeaf → LeafSoFar
leaf_of o = record { q = o.q; u = o.u.items; v = o.v.items; alpha = o.alpha.listed.items; beta = o.beta.listed.items; uses = o.uses.items }

-- the numbers so far of a leaf, with its uses
abbrev pub numbers_so_far : List Group → Lists → LeafSoFar → LeafRecord
numbers_so_far groups lists l = expansion groups lists (record_of_lists l.q l.u l.v l.alpha l.beta) l.uses

-- The lists are those of a leaf, what they name is there, and the sums are its numbers with its uses.
pub record IsLeaf (c : CaseRecord) (groups : List Group) (lists : Lists) (o : OpenLeaf) : Type 0 where
  pub kept : AreLeafLists o.q o.u.items o.v.items o.alpha.listed.items o.beta.listed.items
  pub uses : AreUses o.uses.items
  pub trains : All (λ x. x.train < length c.book) o.u.items
  pub platforms : All (λ x. x.platform < length c.station.platforms) o.v.items
  pub alpha_keyed : AreKeyed o.alpha.sums
  pub beta_keyed : AreKeyed o.beta.sums
  pub alpha_listed : AreListed lists First o.alpha.sums
  pub beta_listed : AreListed lists Second o.beta.sums
  pub alpha : (p : TrainPair) (i : ℕ) → sum_at o.alpha.sums p i ≡ (numbers_so_far groups lists (leaf_of o)).alpha p i
  pub beta : (p : TrainPair) (j : ℕ) → sum_at o.beta.sums p j ≡ (numbers_so_far groups lists (leaf_of o)).beta p j

-- one entry more in one of its lists

abbrev pub AddsU : OpenLeaf → TrainValue → OpenLeaf → Type 0
AddsU old x new = (new ≡ record old { u = new.u }) × (new.u.items ≡ old.u.items ++ x ∷ [])

abbrev pub AddsV : OpenLeaf → MinuteValue → OpenLeaf → Type 0
AddsV old x new = (new ≡ record old { v = new.v }) × (new.v.items ≡ old.v.items ++ x ∷ [])

-- what is listed is also in the sums
pub record AddsPair (old : Potentials) (x : PairValue) (new : Potentials) : Type 0 where
  pub listed : new.listed.items ≡ old.listed.items ++ x ∷ []
  pub sums : new.sums.entries ≡ insert_entry nat_cmp old.sums.entries (pair_key x) x
  pub ordered : IsOrdered nat_cmp new.sums

abbrev pub AddsA : OpenLeaf → PairValue → OpenLeaf → Type 0
AddsA old x new = (new ≡ record old { alpha = new.alpha }) × AddsPair old.alpha x new.alpha

abbrev pub AddsB : OpenLeaf → PairValue → OpenLeaf → Type 0
AddsB old x new = (new ≡ record old { beta = new.beta }) × AddsPair old.beta x new.beta

-- both sides have the table's numbers, times the factor
pub record AddsUse (groups : List Group) (lists : Lists) (old : OpenLeaf) (x : UseOf) (new : OpenLeaf) : Type 0 where
  pub table : Group
  pub there : slice_get groups x.table ≡ Some table
  pub same : new ≡ record old { alpha = new.alpha; beta = new.beta; uses = new.uses }
  pub uses : new.uses.items ≡ old.uses.items ++ x ∷ []
  pub alpha : Adds lists First table x.factor old.alpha.sums new.alpha.sums
  pub beta : Adds lists Second table x.factor old.beta.sums new.beta.sums
  pub alpha_listed : new.alpha.listed ≡ old.alpha.listed
  pub beta_listed : new.beta.listed ≡ old.beta.listed

-- which records of the leaf are due

abbrev pub u_due : CaseRecord → TrainValue → LeafSoFar → Bool
u_due c x l =
    is_none l.v && is_none l.alpha && is_none l.beta && is_none l.uses && nat_lt x.train (length c.book) && is_some_value x.value
    && is_above (λ y. pos y.train) l.u x

abbrev pub v_due : CaseRecord → MinuteValue → LeafSoFar → Bool
v_due c x l =
    is_none l.alpha && is_none l.beta && is_none l.uses && nat_lt x.platform (length c.station.platforms) && is_some_value x.value
    && is_above minute_key l.v x

abbrev pub a_due : CaseRecord → Lists → PairValue → LeafSoFar → Bool
a_due c lists x l = is_none l.beta && is_none l.uses && is_pair_due c l.alpha x && in_list lists x.first x.number

abbrev pub b_due : CaseRecord → Lists → PairValue → LeafSoFar → Bool
b_due c lists x l = is_none l.uses && is_pair_due c l.beta x && in_list lists x.second x.number

abbrev pub use_due : List Group → UseOf → LeafSoFar → Bool
use_due groups x l = nat_lt x.table (length groups) && is_above (λ y. pos y.table) l.uses x

-- with the table a sum on one side is too large
pub record IsUseOver (groups : List Group) (lists : Lists) (old : OpenLeaf) (x : UseOf) : Type 0 where
  pub table : Group
  pub there : slice_get groups x.table ≡ Some table
  pub order : table.first < table.second
  pub over : IsTooMuch lists First table x.factor old.alpha.sums ⊎ IsTooMuch lists Second table x.factor old.beta.sums

abbrev pub IsUsed : List Group → Lists → OpenLeaf → UseOf → OpenLeaf → Result (Unit {0}) Stop → Type 0
IsUsed groups lists old x new (Ok done) = (use_due groups x (leaf_of old) ≡ true) × AddsUse groups lists old x new
IsUsed groups lists old x new (Err Memory) = Unit {0}
IsUsed groups lists old x new (Err (Refused kind)) =
    ((use_due groups x (leaf_of old) ≡ false) × (kind ≡ Place))
    ⊎ ((use_due groups x (leaf_of old) ≡ true) × (kind ≡ Sum) × IsUseOver groups lists old x)

abbrev pub with_due : Bool → LeafSoFar → Result LeafSoFar Fault
with_due due l = if due then Ok l else Err place

abbrev pub with_small : CaseRecord → List Group → Lists → LeafSoFar → Result LeafSoFar Fault
with_small c groups lists l = if are_small c lists (numbers_so_far groups lists l) then Ok l else Err sum

-- what a record of the open leaf leads to
abbrev pub leaf_after : CaseRecord → List Group → Lists → LeafSoFar → ProofRecord → Result LeafSoFar Fault
leaf_after c groups lists l (U x) = with_due (u_due c x l) (record l { u = l.u ++ x ∷ [] })
leaf_after c groups lists l (V x) = with_due (v_due c x l) (record l { v = l.v ++ x ∷ [] })
leaf_after c groups lists l (A x) = with_due (a_due c lists x l) (record l { alpha = l.alpha ++ x ∷ [] })
leaf_after c groups lists l (B x) = with_due (b_due c lists x l) (record l { beta = l.beta ++ x ∷ [] })
leaf_after c groups lists l (Use x) =
    if use_due groups x l then with_small c groups lists (record l { uses = l.uses ++ x ∷ [] }) else Err place
leaf_after c groups lists l _ = Err place

abbrev pub IsLeafStep : CaseRecord → List Group → Lists → OpenLeaf → ProofRecord → OpenLeaf → Result (Unit {0}) Stop → Type 0
IsLeafStep c groups lists old r new result =
    Follows (leaf_after c groups lists (leaf_of old) r) (λ l. (leaf_of new ≡ l) × IsLeaf c groups lists new) result

-- the leaf has the numbers so far
pub record IsClosed (o : OpenLeaf) (l : Leaf) : Type 0 where
  pub q : l.q ≡ o.q
  pub u : l.u ≡ o.u.items
  pub v : l.v ≡ o.v.items
  pub alpha : l.alpha ≡ some_entries o.alpha.sums
  pub beta : l.beta ≡ some_entries o.beta.sums
