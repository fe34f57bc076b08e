use Rattle.std.proofs.Common.{◌≡◌, ◌++◌, take}
use Rattle.proof_file.specs.Text.{tables_from, text_of}
use Rattle.proof_file.proofs.write.push_tables.Given as goal

abbrev pub invariant-loop-number : goal.invariant-loop-number
invariant-loop-number l = l.into.items ≡ l.initial.into.items ++ text_of (tables_from 0 (take l.number l.tables))
