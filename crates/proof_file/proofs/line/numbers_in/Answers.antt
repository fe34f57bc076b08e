use Rattle.std.proofs.Common.{◌∙◌, ap, sym, Err}
use Rattle.proof_file.specs.Reading.{answered}
use Rattle.proof_file.proofs.LineLemmas.{read_is_answer}
use Rattle.proof_file.proofs.line.numbers_in.Goals as goal

pub returns-in-Ok-clause-value : goal.returns-in-Ok-clause-value
returns-in-Ok-clause-value g c =
    ap answered (sym c.in-Ok.is ∙ read_is_answer c.read_record.result g.row.N c.args.kind.now.word.now c.args.kind.now.fields c.args.line.now c.requires.word
    c.read_record.ensures.exact c.read_record.ensures.word c.read_record.ensures.shape c.read_record.ensures.number)

pub returns-in-Err-Shape-clause-value : goal.returns-in-Err-Shape-clause-value
returns-in-Err-Shape-clause-value g c =
    ap answered (sym (c.in-Err-Shape.is ∙ ap (λ f. Err f) c.in-Err-Shape.field-0-is)
    ∙ read_is_answer c.read_record.result g.row.N c.args.kind.now.word.now c.args.kind.now.fields c.args.line.now c.requires.word
    c.read_record.ensures.exact c.read_record.ensures.word c.read_record.ensures.shape c.read_record.ensures.number)

pub returns-in-Err-Number-clause-value : goal.returns-in-Err-Number-clause-value
returns-in-Err-Number-clause-value g c =
    ap answered (sym (c.in-Err-Number.is ∙ ap (λ f. Err f) c.in-Err-Number.field-0-is)
    ∙ read_is_answer c.read_record.result g.row.N c.args.kind.now.word.now c.args.kind.now.fields c.args.line.now c.requires.word
    c.read_record.ensures.exact c.read_record.ensures.word c.read_record.ensures.shape c.read_record.ensures.number)
