-- What proof files say of trees and of plans.
use Rattle.std.specs.Prelude.{◌≡◌, ◌↔◌, ℕ, List, ◌++◌, Ok, Some}
use Rattle.pair_prices.specs.Case.{CaseRecord, IsCase}
use Rattle.pair_prices.specs.Plan.{IsFeasible}
use Rattle.leaf_bounds.specs.declared.table.PotTable.{PotTable}
use Rattle.leaf_bounds.specs.declared.shared.SharedNode.{SharedNode}
use Rattle.leaf_bounds.specs.declared.tree.Bound.{Bound}
use Rattle.leaf_bounds.specs.declared.tree.Node.{Node}
use Rattle.leaf_bounds.specs.Laws.{KeepsTo}
use Rattle.proof_file.specs.Text.{AreInRange, proof_records, proof_text, shared_records, shared_text}
use Rattle.proof_file.specs.Accepted.{IsAccepted}
use Rattle.proof_file.specs.declared.record.ProofRecord.{ProofRecord}
use Rattle.proof_file.specs.declared.fault.ReaderFault.{ReaderFault}
use Rattle.proof_file.specs.Reading.{line_read, records_of, fault_of}
use Rattle.proof_file.specs.Reader.{new_records}
use Rattle.proof_file.specs.Whole.{IsLineOf, IsReadAs, IsTextOf}
use Rattle.proof_file.specs.Writable.{IsSharedWritable, IsWritable}

-- Whoever wrote the bytes: every feasible plan costs at least the bound, and where that is none there is no plan.
abbrev pub AcceptedBounds : Type 0
AcceptedBounds =
    (c : CaseRecord) → IsCase c → (bound : Bound) (bytes : List ℕ) → IsAccepted c bound bytes
    → (plan : List ℕ) → IsFeasible c plan → KeepsTo c plan bound

-- Two trees with equal texts are equal, and so are the numbers of trains and the bounds.
abbrev pub TextsAreUnique : Type 0
TextsAreUnique =
    (trains others : ℕ) (nodes more : List Node) (bound limit : Bound) → proof_text trains nodes bound ≡ proof_text others more limit
    → (trains ≡ others) × (nodes ≡ more) × (bound ≡ limit)

-- So are two shared trees.
abbrev pub SharedTextsAreUnique : Type 0
SharedTextsAreUnique =
    (trains others : ℕ) (tables rest : List PotTable) (nodes more : List SharedNode) (bound limit : Bound)
    → shared_text trains tables nodes bound ≡ shared_text others rest more limit
    → (trains ≡ others) × (tables ≡ rest) × (nodes ≡ more) × (bound ≡ limit)

-- A line is read as a record exactly where it is the record's line.
abbrev pub LinesAreRecords : Type 0
LinesAreRecords = (version : ℕ) (text : List ℕ) (r : ProofRecord) → (line_read version text ≡ Ok r) ↔ IsLineOf version text r

-- Bytes are read whole as records exactly where they are the text of these.
abbrev pub TextsAreRead : Type 0
TextsAreRead = (bytes : List ℕ) (records : List ProofRecord) → IsReadAs bytes records ↔ IsTextOf bytes records

-- Further bytes add records behind those that are there.
abbrev pub RecordsGrow : Type 0
RecordsGrow = (bytes piece : List ℕ) → records_of (bytes ++ piece) ≡ records_of bytes ++ new_records bytes piece

-- They leave a fault as it is.
abbrev pub FaultsStay : Type 0
FaultsStay = (bytes piece : List ℕ) (fault : ReaderFault) → fault_of bytes ≡ Some fault → fault_of (bytes ++ piece) ≡ Some fault

-- Two pieces add the records that both add as one.
abbrev pub PiecesAddUp : Type 0
PiecesAddUp =
    (bytes front piece : List ℕ) → new_records bytes (front ++ piece) ≡ new_records bytes front ++ new_records (bytes ++ front) piece

-- Where the splits of a tree and its bound are in their ranges, so are all its numbers.
abbrev pub TreesAreInRange : Type 0
TreesAreInRange =
    (trains : ℕ) (nodes : List Node) (bound : Bound) → IsWritable trains nodes bound → AreInRange (proof_records trains nodes bound)

-- The same of a shared tree, where its tables and uses are in their ranges too.
abbrev pub SharedTreesAreInRange : Type 0
SharedTreesAreInRange =
    (trains : ℕ) (tables : List PotTable) (nodes : List SharedNode) (bound : Bound) → IsSharedWritable trains tables nodes bound
    → AreInRange (shared_records trains tables nodes bound)
