use Rattle.std.proofs.Common.{◌∙◌, ap}
use Rattle.std.specs.Result.{result_ok}
use Rattle.plan_cost.proofs.RecordLines.{read_is_answer}
use Rattle.plan_cost.proofs.record.values_in.Goals as goal

pub returns-clause-value : goal.returns-clause-value
returns-clause-value g c =
    c.ok.ensures.value ∙ ap result_ok (read_is_answer c.read_record.result g.row.N c.args.kind.now.word.now c.args.kind.now.fields c.args.line.now c.requires.word
    c.read_record.ensures.exact c.read_record.ensures.word c.read_record.ensures.shape c.read_record.ensures.number)
