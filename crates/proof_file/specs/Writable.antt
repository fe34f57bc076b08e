-- Which trees can be written: their leaves keep the ranges of their own numbers, and these are the others.
use Rattle.std.specs.Prelude.{◌≡◌, ℕ, ◌^◌, ◌<◌, ◌≤◌, List, length, slice_get, Some, IsTrue, pos, ◌≤ℤ◌}
use Rattle.leaf_bounds.specs.declared.number.NumberValue.{NumberValue}
use Rattle.leaf_bounds.specs.declared.uses.UseOf.{UseOf}
use Rattle.leaf_bounds.specs.declared.table.PotTable.{PotTable}
use Rattle.leaf_bounds.specs.declared.shared.SharedLeaf.{SharedLeaf}
use Rattle.leaf_bounds.specs.declared.shared.SharedNode.{SharedNode}
use Rattle.leaf_bounds.specs.declared.shared.SharedNode.TheVariants.{Split as SharedSplit, Leaf as SharedLeafNode}
use Rattle.leaf_bounds.specs.declared.tree.Bound.{Bound}
use Rattle.leaf_bounds.specs.declared.tree.Cut.{Cut}
use Rattle.leaf_bounds.specs.declared.tree.Node.{Node}
use Rattle.leaf_bounds.specs.declared.tree.Node.TheVariants.{Split as SplitNode}
use Rattle.leaf_bounds.specs.Listed.{IsSmall}
use Rattle.proof_file.specs.Kind.{is_in_range}
use Rattle.proof_file.specs.Text.{end_of}

pub record IsCutInRange (cut : Cut) : Type 0 where
  pub train : cut.train < 200
  pub at : cut.at < 4096

pub record IsUseInRange (x : UseOf) : Type 0 where
  pub table : x.table < 65536
  pub least : pos 1 ≤ℤ x.factor
  pub most : x.factor ≤ℤ pos (10 ^ 18)

pub record IsNumberInRange (x : NumberValue) : Type 0 where
  pub number : x.number < 4096
  pub value : IsSmall x.value

pub record IsTableInRange (t : PotTable) : Type 0 where
  pub second : t.second < 200
  pub alpha : (k : ℕ) (x : NumberValue) → slice_get t.alpha k ≡ Some x → IsNumberInRange x
  pub beta : (k : ℕ) (x : NumberValue) → slice_get t.beta k ≡ Some x → IsNumberInRange x

pub record IsWritable (trains : ℕ) (nodes : List Node) (bound : Bound) : Type 0 where
  pub few : trains ≤ 200
  pub cuts : (k : ℕ) (cut : Cut) → slice_get nodes k ≡ Some (SplitNode cut) → IsCutInRange cut
  pub last : IsTrue (is_in_range (end_of bound))

pub record IsSharedWritable (trains : ℕ) (tables : List PotTable) (nodes : List SharedNode) (bound : Bound) : Type 0 where
  pub few : trains ≤ 200
  pub few_tables : length tables ≤ 65536
  pub each_table : (k : ℕ) (t : PotTable) → slice_get tables k ≡ Some t → IsTableInRange t
  pub cuts : (k : ℕ) (cut : Cut) → slice_get nodes k ≡ Some (SharedSplit cut) → IsCutInRange cut
  pub uses : (k : ℕ) (l : SharedLeaf) → slice_get nodes k ≡ Some (SharedLeafNode l)
      → (i : ℕ) (x : UseOf) → slice_get l.uses i ≡ Some x → IsUseInRange x
  pub last : IsTrue (is_in_range (end_of bound))
