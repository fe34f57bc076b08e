use Rattle.proof_check.proofs.ReadSteps.{cut_parts, read_more, read_stops}
use Rattle.proof_check.proofs.reading.Reading.read.Goals as goal

pub returns-in_err-read_part-clause-reads : goal.returns-in_err-read_part-clause-reads
returns-in_err-read_part-clause-reads c =
    read_stops c.args.case.now c.args.self.now c.loop-rest.self c.args.piece.now c.loop-rest.rest.now c.loop-rest.invariant c.read_part.new.self
    c.split_at.result.0.now c.split_at.result.1.now c.from_residual.result c.in_err-read_part.field-0.0
    (cut_parts c.min.result c.loop-rest.rest.now c.split_at.result.0.now c.split_at.result.1.now c.split_at.ensures.front c.split_at.ensures.back)
    c.from_residual.ensures.1 c.in_err-read_part.ensures.reads

pub loop-rest-preserved : goal.loop-rest-preserved
loop-rest-preserved c =
    read_more c.args.case.now c.args.self.now c.loop-rest.self c.args.piece.now c.loop-rest.rest.now c.loop-rest.invariant c.read_part.new.self
    c.split_at.result.0.now c.split_at.result.1.now
    (cut_parts c.min.result c.loop-rest.rest.now c.split_at.result.0.now c.split_at.result.1.now c.split_at.ensures.front c.split_at.ensures.back)
    c.in_ok-read_part.ensures.sound c.in_ok-read_part.ensures.fed c.in_ok-read_part.ensures.reads
