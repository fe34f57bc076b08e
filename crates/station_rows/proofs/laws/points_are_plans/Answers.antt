-- A point's weights are those of a fractional plan.
use Rattle.station_rows.proofs.Planned.{plan_point}
use Rattle.station_rows.proofs.laws.points_are_plans.Goals as goal

pub returns : goal.returns
returns k c l is rows train_rows point meets w are = plan_point l point w are c is rows train_rows meets
