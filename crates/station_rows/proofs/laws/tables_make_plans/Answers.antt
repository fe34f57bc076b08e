-- A point's weights and a table for each pair make a fractional plan.
use Rattle.station_rows.proofs.Tabled.{plan_within}
use Rattle.station_rows.proofs.laws.tables_make_plans.Goals as goal

pub returns : goal.returns
returns k c l is point within w are fits uses tables tabled = plan_within c l is point within w are fits uses tables tabled
