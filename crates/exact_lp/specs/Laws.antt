-- What duals say of points.
use Rattle.std.specs.Prelude.{ℕ, ◌<◌, ℤ, pos, ◌≤ℤ◌}
use Rattle.exact_lp.specs.declared.duals.Duals.{Duals}
use Rattle.exact_lp.specs.Programs.{BoundsPoints, reduced_price}

-- where no column has a negative reduced price, no point at which the duals' rows hold costs less than the duals
abbrev pub DualsBoundPoints : Type 0
DualsBoundPoints =
    (price : ℕ → ℤ) (count : ℕ) (duals : Duals) → ((column : ℕ) → column < count → pos 0 ≤ℤ reduced_price (price column) duals column)
    → BoundsPoints price count duals
