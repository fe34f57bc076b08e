-- A least point bounds the points of fractional plans.
use Rattle.std.proofs.Common.{ℤ, pos, subst, ◌*ℤ◌, ◌≤ℤ◌}
use Rattle.station_rows.specs.Laws.{point_cost}
use Rattle.station_rows.proofs.Pointed.{point_of}
use Rattle.station_rows.proofs.laws.least_points_bound_plans.Goals as goal

pub returns : goal.returns
returns k c l is rows train_rows point least f fraction =
    let found = point_of c l is f fraction in
    let meets = found.1.meets rows train_rows in
    let bound = least found.0 meets.within meets.opening meets.standing in
    let P : ℤ → Type 0 = λ z. (point_cost c l point *ℤ z) ≤ℤ (point_cost c l found.0 *ℤ point.scale) in
    let Q : ℤ → Type 0 = λ z. (point_cost c l point *ℤ pos f.scale) ≤ℤ (z *ℤ point.scale) in
    subst Q found.1.cost (subst P found.1.scale bound)
