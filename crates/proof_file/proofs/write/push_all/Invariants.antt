use Rattle.std.proofs.Common.{◌≡◌, ◌++◌, take}
use Rattle.std.specs.Prelude.{flat_map}
use Rattle.proof_file.specs.Text.{text_of}
use Rattle.proof_file.proofs.write.push_all.Given as goal

abbrev pub invariant-loop-item : goal.invariant-loop-item
invariant-loop-item g l =
    l.into.items ≡ l.initial.into.items ++ text_of (flat_map g.W.Written.records (take l.item-index l.items))
