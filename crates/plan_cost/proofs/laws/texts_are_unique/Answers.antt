use Rattle.plan_cost.proofs.PlanTexts.{texts_unique}
use Rattle.plan_cost.proofs.laws.texts_are_unique.Goals as goal

pub returns : goal.returns
returns c = texts_unique
