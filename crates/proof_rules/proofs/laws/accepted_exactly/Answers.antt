use Rattle.proof_rules.proofs.Accepting.{sound}
use Rattle.proof_rules.proofs.Judging.{complete}
use Rattle.proof_rules.proofs.laws.accepted_exactly.Goals as goal

pub returns : goal.returns
returns c = λ k case bound bytes. (sound k bound bytes, complete k bound bytes)
