-- The texts of trees and of shared trees.
use Rattle.std.specs.Prelude.{ℕ, suc, List, [], ◌∷◌, ◌++◌, map, flat_map, IsTrue}
use Rattle.std.specs.List.{list_all}
use Rattle.leaf_bounds.specs.declared.leaf.Leaf.{Leaf as LeafOf}
use Rattle.leaf_bounds.specs.declared.table.PotTable.{PotTable}
use Rattle.leaf_bounds.specs.declared.tree.Bound.{Bound}
use Rattle.leaf_bounds.specs.declared.tree.Bound.TheVariants.{AtLeast, Nothing as NoBound}
use Rattle.leaf_bounds.specs.declared.tree.Node.{Node}
use Rattle.leaf_bounds.specs.declared.tree.Node.TheVariants.{Split as SplitNode, Leaf as LeafNode}
use Rattle.leaf_bounds.specs.declared.shared.SharedNode.{SharedNode}
use Rattle.leaf_bounds.specs.declared.shared.SharedNode.TheVariants.{Split as SharedSplit, Leaf as SharedLeafNode}
use Rattle.proof_file.specs.declared.record.ProofRecord.{ProofRecord}
use Rattle.proof_file.specs.declared.record.ProofRecord.TheVariants.{Head, Table, Ta, Tb, Split, Leaf, U, V, A, B, Use, Close, End, Nothing}
use Rattle.proof_file.specs.Kind.{line_of, is_in_range}

-- a leaf's records but for its uses and its `close`
abbrev pub numbers_of : LeafOf → List ProofRecord
numbers_of l = Leaf l.q ∷ map (λ x. U x) l.u ++ map (λ x. V x) l.v ++ map (λ x. A x) l.alpha ++ map (λ x. B x) l.beta

abbrev pub node_records : Node → List ProofRecord
node_records (SplitNode cut) = Split cut ∷ []
node_records (LeafNode l) = numbers_of l ++ Close ∷ []

abbrev pub shared_node_records : SharedNode → List ProofRecord
shared_node_records (SharedSplit cut) = Split cut ∷ []
shared_node_records (SharedLeafNode l) = numbers_of l.rest ++ map (λ x. Use x) l.uses ++ Close ∷ []

abbrev pub table_records : ℕ → PotTable → List ProofRecord
table_records number t =
    Table (record { table = number; first = t.first; second = t.second }) ∷ map (λ x. Ta x) t.alpha ++ map (λ x. Tb x) t.beta

-- the tables, numbered upwards
abbrev pub tables_from : ℕ → List PotTable → List ProofRecord
tables_from number [] = []
tables_from number (t ∷ tables) = table_records number t ++ tables_from (suc number) tables

-- the last record
abbrev pub end_of : Bound → ProofRecord
end_of (AtLeast n) = End n
end_of NoBound = Nothing

-- the records of a proof of version 1
unfoldable pub proof_records : ℕ → List Node → Bound → List ProofRecord
proof_records trains nodes bound =
    Head (record { version = 1; trains = trains }) ∷ flat_map node_records nodes ++ end_of bound ∷ []

-- the records of a proof of version 2
unfoldable pub shared_records : ℕ → List PotTable → List SharedNode → Bound → List ProofRecord
shared_records trains tables nodes bound =
    Head (record { version = 2; trains = trains }) ∷ tables_from 0 tables ++ flat_map shared_node_records nodes ++ end_of bound ∷ []

-- Each number of the records is in its field's range.
abbrev pub AreInRange : List ProofRecord → Type 0
AreInRange records = IsTrue (list_all is_in_range records)

-- a text is its records' lines
abbrev pub text_of : List ProofRecord → List ℕ
text_of records = flat_map line_of records

abbrev pub proof_text : ℕ → List Node → Bound → List ℕ
proof_text trains nodes bound = text_of (proof_records trains nodes bound)

abbrev pub shared_text : ℕ → List PotTable → List SharedNode → Bound → List ℕ
shared_text trains tables nodes bound = text_of (shared_records trains tables nodes bound)
