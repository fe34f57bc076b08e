use Rattle.plan_fractions.proofs.Fractions.{bounded}
use Rattle.plan_fractions.proofs.laws.root_value_bounds.Goals as goal

pub returns : goal.returns
returns c = bounded
