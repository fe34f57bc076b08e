use Rattle.proof_file.proofs.TreeTexts.{proofs_same, shared_proofs_same}
use Rattle.proof_file.proofs.laws.texts_are_unique.Goals as goal

pub returns-clause-plain : goal.returns-clause-plain
returns-clause-plain c = proofs_same

pub returns-clause-shared : goal.returns-clause-shared
returns-clause-shared c = shared_proofs_same
