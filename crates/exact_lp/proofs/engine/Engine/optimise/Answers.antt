use Rattle.exact_lp.proofs.Duality.{exact_is_least}
use Rattle.exact_lp.proofs.engine.Engine.optimise.Goals as goal

pub returns-in-Ok-clause-least : goal.returns-in-Ok-clause-least
returns-in-Ok-clause-least g c = exact_is_least _ _ _ _ c.in-Ok.outcome c.in-Ok.ensures.exact
