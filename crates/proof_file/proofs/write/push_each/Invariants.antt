use Rattle.std.proofs.Common.{◌≡◌, ◌++◌, map, take}
use Rattle.proof_file.specs.declared.record.ProofRecord.{ProofRecord}
use Rattle.proof_file.specs.Text.{text_of}
use Rattle.proof_file.proofs.write.push_each.Given as goal

abbrev pub invariant-loop-value : goal.invariant-loop-value
invariant-loop-value g l =
    (made : g.row.T.Denot → ProofRecord) → ((x : g.row.T.Denot) (r : ProofRecord) → goal.F-post g l.make x r → r ≡ made x)
    → l.into.items ≡ l.initial.into.items ++ text_of (map made (take l.value-index l.values))
