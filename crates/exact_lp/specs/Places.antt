-- Where cells stand in a row of the table.
use Rattle.std.specs.Prelude.{ℕ, ◌+◌, ◌-◌, ◌^◌, min}

-- the place of a variable's cell: behind the scale's and the cost's, and never past the greatest number of the code's type
abbrev pub place_of : ℕ → ℕ
place_of variable = min (variable + 2) (2 ^ 64 - 1)
