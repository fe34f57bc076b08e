use Rattle.proof_check.specs.Walk.{state_of}
use Rattle.proof_check.proofs.GoLemmas.{GoesOn}
use Rattle.proof_check.proofs.progress.Progress.go_on.Given as goal

abbrev pub invariant-loop-read : goal.invariant-loop-read
invariant-loop-read l = GoesOn l.case (state_of l.initial.self.walk) l.initial.self.number l.records l.read-index l.self.walk l.self.number
