use Rattle.proof_rules.proofs.StayLemmas.{refusal_stays}
use Rattle.proof_rules.proofs.laws.refusals_stay.Goals as goal

pub returns : goal.returns
returns k c bytes piece r e = refusal_stays c bytes piece r e
