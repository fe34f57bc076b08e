use Rattle.plan_fractions.proofs.Fractions.{no_plan}
use Rattle.plan_fractions.proofs.laws.top_means_no_plan.Goals as goal

pub returns : goal.returns
returns c = no_plan
