-- Each fractional plan gives a point.
use Rattle.station_rows.proofs.Pointed.{point_of}
use Rattle.station_rows.proofs.laws.plans_are_points.Goals as goal

pub returns : goal.returns
returns k c l is f fraction = point_of c l is f fraction
