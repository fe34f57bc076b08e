use Rattle.std.proofs.Common.{◌≡◌, ◌∙◌, ap, refl, arith, length, min, take, ◌-◌, ◌≤◌, ◌<◌, ◌+◌, List, ℕ}
use Rattle.proof_check.proofs.ReadSteps.{length-take_min, within_ends, within_long, within_stops}
use Rattle.proof_file.specs.Reader.{fed_of}
use Rattle.proof_check.proofs.reading.Reading.read_within.Goals as goal

before : {a b : ℕ} → a < b → a ≤ b
before h = omega (arith, h)

below : (most old new count : ℕ) (piece : List ℕ) → count ≡ min (most - old) (length piece) → old < most
    → new ≡ old + length (take count piece) → new ≤ most
below most old new count piece e h f = omega (arith, e, h, f, length-take_min count piece)

pub returns-in_err-read-clause-reads : goal.returns-in_err-read-clause-reads
returns-in_err-read-clause-reads c =
    let counted = c.min-count.ensures ∙ ap (λ (f : ℕ). min (c.args.most - f) (length c.args.piece.now)) c.fed.ensures in
    within_stops c.args.case.now c.args.most c.args.self.now c.read.new.self c.args.piece.now (take c.min-count.result c.args.piece.now) c.min-count.result
    counted refl (before c.requires.room) c.from_residual.result c.in_err-read.field-0.0 c.from_residual.ensures.1
    c.in_err-read.ensures.reads

pub returns-then-fed-most-clause-reads : goal.returns-then-fed-most-clause-reads
returns-then-fed-most-clause-reads c =
    let counted = c.min-count.ensures ∙ ap (λ (f : ℕ). min (c.args.most - f) (length c.args.piece.now)) c.fed.ensures in
    within_long c.args.case.now c.args.most c.args.self.now c.read.new.self c.args.piece.now (take c.min-count.result c.args.piece.now) c.min-count.result
    counted refl (before c.requires.room) c.refused.result (omega (arith, c.fed-2.ensures, c.if-fed-most.true))
    c.refused.ensures c.in_ok-read.ensures.reads

pub returns-clause-reads : goal.returns-clause-reads
returns-clause-reads c =
    let counted = c.min-count.ensures ∙ ap (λ (f : ℕ). min (c.args.most - f) (length c.args.piece.now)) c.fed.ensures in
    within_ends c.args.case.now c.args.most c.args.self.now c.read.new.self c.args.piece.now (take c.min-count.result c.args.piece.now) c.min-count.result
    counted refl (before c.requires.room) (λ e. c.if-fed-most.false (c.fed-2.ensures ∙ e))
    (below c.args.most (fed_of c.args.self.now.reader) (fed_of c.read.new.self.reader) c.min-count.result c.args.piece.now counted c.requires.room c.in_ok-read.ensures.fed)
    c.in_ok-read.ensures.reads
