use Rattle.std.proofs.Common.{◌≡◌, ◌++◌}
use Rattle.std.specs.Prelude.{filter}
use Rattle.proof_check.specs.Sums.{is_some_entry, some_entries}
use Rattle.proof_check.proofs.sums.some_entries.Given as goal

abbrev pub invariant-loop-x : goal.invariant-loop-x
invariant-loop-x l = l.entries.items ++ filter is_some_entry l.x-iterator ≡ some_entries l.sums
