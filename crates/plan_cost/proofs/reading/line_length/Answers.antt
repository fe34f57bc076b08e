use Rattle.std.proofs.Common.{arith}
use Rattle.plan_cost.proofs.RecordLines.{line_length_is}
use Rattle.plan_cost.proofs.reading.line_length.Goals as goal

pub returns-then-byte-eq10-clause-value : goal.returns-then-byte-eq10-clause-value
returns-then-byte-eq10-clause-value c = line_length_is c.args.bytes.now c.loop-end.end (omega arith) c.loop-end.invariant (λ _. c.if-byte-eq10.true)

pub returns-clause-value : goal.returns-clause-value
returns-clause-value c = line_length_is c.args.bytes.now _ (omega arith) (λ k h. c.loop-end.invariant k (omega arith)) (λ h. absurd (omega (arith, h)))
