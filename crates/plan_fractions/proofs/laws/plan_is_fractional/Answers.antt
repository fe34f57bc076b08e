use Rattle.plan_fractions.proofs.Fractions.{fractional}
use Rattle.plan_fractions.proofs.laws.plan_is_fractional.Goals as goal

pub returns : goal.returns
returns c = fractional
