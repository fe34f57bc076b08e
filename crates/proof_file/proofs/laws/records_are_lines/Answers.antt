use Rattle.proof_file.proofs.ReadTexts.{line_is_record, record_is_line}
use Rattle.proof_file.proofs.WholeTexts.{read_is_text, text_is_read}
use Rattle.proof_file.proofs.laws.records_are_lines.Goals as goal

pub returns-clause-line : goal.returns-clause-line
returns-clause-line c = λ version text r. (λ e. line_is_record version text r e, λ h. record_is_line version text r h)

pub returns-clause-text : goal.returns-clause-text
returns-clause-text c = λ bytes records. (λ h. read_is_text bytes records h, λ t. text_is_read bytes records t)
