use Rattle.std.proofs.Common.{◌∙◌, sym}
use Rattle.proof_file.proofs.LineLemmas.{tree_answered, number_answered, table_answered}
use Rattle.proof_file.proofs.line.record_in.Goals as goal

pub returns-in-Some : goal.returns-in-Some
returns-in-Some c =
    tree_answered c.args.version c.args.line.now c.in-Some.answer c.if-line-gt-LINE_BYTES.false (sym c.in-Some.is ∙ c.tree_record.ensures)

pub returns-in-Some-number_record : goal.returns-in-Some-number_record
returns-in-Some-number_record c =
    number_answered c.args.version c.args.line.now c.in-Some-number_record.answer c.if-line-gt-LINE_BYTES.false
    (sym c.in_default.is ∙ c.tree_record.ensures) (sym c.in-Some-number_record.is ∙ c.number_record.ensures)

pub returns-in-Some-table_record : goal.returns-in-Some-table_record
returns-in-Some-table_record c =
    table_answered c.args.version c.args.line.now c.in-Some-table_record.answer c.if-line-gt-LINE_BYTES.false
    (sym c.in_default.is ∙ c.tree_record.ensures) (sym c.in_default-number_record.is ∙ c.number_record.ensures) c.if-version-eq2.true
    (sym c.in-Some-table_record.is ∙ c.table_record.ensures)
