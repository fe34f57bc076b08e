use Rattle.std.proofs.Common.{length}
use Rattle.proof_check.proofs.ReadSteps.{ReadSoFar}
use Rattle.proof_check.proofs.reading.Reading.read.Given as goal

abbrev pub invariant-loop-rest : goal.invariant-loop-rest
invariant-loop-rest l = ReadSoFar l.case l.initial.self l.self l.piece l.rest

abbrev pub decreases-loop-rest : goal.decreases-loop-rest
decreases-loop-rest l = length l.rest
