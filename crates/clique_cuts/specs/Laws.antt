-- Arrivals suffice.
use Rattle.std.specs.Prelude.{ℕ, ◌<◌, length, ℤ}
use Rattle.patterns.specs.Allowed.{Lists, FitsBook, list_of}
use Rattle.pair_prices.specs.Case.{CaseRecord, IsCase}
use Rattle.pair_prices.specs.Fraction.{Fraction}
use Rattle.clique_cuts.specs.Over.{IsWithinUse, arrival}

-- If a platform is within its use at the arrival of each listed pattern, it is so at every minute.
abbrev pub ArrivalsSuffice : Type 0
ArrivalsSuffice =
    (c : CaseRecord) → IsCase c → (lists : Lists) → FitsBook lists c.book → (f : Fraction) (platform : ℕ)
    → ((train place : ℕ) → train < length c.book → place < length (list_of lists train)
    → IsWithinUse c lists f platform (arrival c lists train place))
    → (minute : ℤ) → IsWithinUse c lists f platform minute
