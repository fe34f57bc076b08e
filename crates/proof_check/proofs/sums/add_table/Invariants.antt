use Rattle.std.proofs.Common.{take}
use Rattle.proof_check.specs.Tables.{group_of}
use Rattle.proof_check.proofs.AddLemmas.{SumsSoFar}
use Rattle.proof_check.proofs.sums.add_table.Given as goal

abbrev pub invariant-loop-x : goal.invariant-loop-x
invariant-loop-x l = SumsSoFar l.splits.lists.lists l.side (group_of l.table) l.used.factor (take l.x-index l.numbers) l.initial.sums l.sums
