use Rattle.std.proofs.Common.{◌∙◌, sym, refl, ◌<◌, ◌^◌}
use Rattle.proof_file.specs.Reader.{fed_of}
use Rattle.proof_check.specs.Walk.{IsSound}
use Rattle.proof_check.proofs.CheckLemmas.{fed_answer, fed_stands, met_answer, met_stands, on_ok, on_somewhere}
use Rattle.proof_check.proofs.checker.Checker.feed.Goals as goal

pub returns-in-Some-clause-stands : goal.returns-in-Some-clause-stands
returns-in-Some-clause-stands c = λ bytes s f. met_stands c.args.self.now c.args.piece.now c.in-Some.fault c.in-Some.is bytes s

pub returns-in-Some-clause-answer : goal.returns-in-Some-clause-answer
returns-in-Some-clause-answer c = λ bytes s f. met_answer c.args.self.now c.args.piece.now c.in-Some.fault c.in-Some.is bytes s

pub invariant_of-self : goal.invariant_of-self
invariant_of-self c = record {
  room = λ e.
      on_ok c.read_within-read.result (fed_of c.read_within-read.new.self.reader < 2 ^ 63) (sym c.err-self.ensures.value ∙ e) c.read_within-read.ensures.fed;
  sound = λ e.
      on_ok c.read_within-read.result (IsSound c.args.self.now.case.now c.read_within-read.new.self.progress.walk) (sym c.err-self.ensures.value ∙ e)
      c.read_within-read.ensures.sound;
  somewhere = λ e.
      on_somewhere c.args.self.now.case.now c.args.self.now.reading c.read_within-read.new.self c.args.piece.now c.read_within-read.result
      (sym c.err-self.ensures.value ∙ e) (c.args.self.now.somewhere c.in_default.is) c.read_within-read.ensures.reads;
}

pub returns-clause-stands : goal.returns-clause-stands
returns-clause-stands c = λ bytes s f.
    fed_stands c.args.self.now _ c.args.piece.now c.read_within-read.result c.in_default.is refl c.err-self.ensures.value c.read_within-read.ensures.reads bytes s f

pub returns-clause-answer : goal.returns-clause-answer
returns-clause-answer c = λ bytes s f.
    fed_answer c.args.self.now c.read_within-read.new.self c.args.piece.now c.read_within-read.result c.in_default.is c.read_within-read.ensures.reads bytes s f
