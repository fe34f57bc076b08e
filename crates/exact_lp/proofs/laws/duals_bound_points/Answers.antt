use Rattle.exact_lp.proofs.Duality.{duals_bound}
use Rattle.exact_lp.proofs.laws.duals_bound_points.Goals as goal

pub returns : goal.returns
returns c = duals_bound
