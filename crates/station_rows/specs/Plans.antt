-- Fractional plans as weights and tables.
use Rattle.std.specs.Prelude.{◌≡◌, ℕ, ◌<◌, ◌⊎◌, ◌==◌, ◌&&◌, if◌then◌else◌, Bool, true, List, [], ◌∷◌, length, All}
use Rattle.std.specs.List.{list_any}
use Rattle.patterns.specs.declared.weights.Weights.{Weights}
use Rattle.patterns.specs.Allowed.{Lists}
use Rattle.pair_prices.specs.Case.{CaseRecord}
use Rattle.pair_prices.specs.Fraction.{Fraction}
use Rattle.pair_cuts.specs.Coupled.{IsLeastTable}
use Rattle.station_rows.specs.declared.fraction.PairTable.{PairTable}
use Rattle.station_rows.specs.declared.fraction.FractionPlan.{FractionPlan}
use Rattle.station_rows.specs.Tables.{Tables, fraction_with}

abbrev pub is_table_of : ℕ → ℕ → PairTable → Bool
is_table_of first second t = t.first == first && t.second == second

-- the cells of the first table of two trains; none where there is no table of them
abbrev pub table_of : List PairTable → Tables
table_of [] p = []
table_of (t ∷ ts) p = if is_table_of p.first p.second t then t.cells else table_of ts p

-- the plan's numbers
abbrev pub fraction_of_plan : FractionPlan → Fraction
fraction_of_plan plan = fraction_with plan.weights (table_of plan.tables)

-- For each two trains there is a least table of their weights.
abbrev pub AreLeastTables : CaseRecord → Lists → Weights → List PairTable → Type 0
AreLeastTables c lists w tables =
    (first second : ℕ) → first < second → second < length c.book
    → IsLeastTable c lists w first second (table_of tables (record { first = first; second = second }))

-- The tables are least ones, and there is one of each two trains before these two, by the first and then by the second.
pub record AreTablesTo (c : CaseRecord) (lists : Lists) (w : Weights) (first second : ℕ) (tables : List PairTable) : Type 0 where
  pub good : All (λ t. IsLeastTable c lists w t.first t.second t.cells) tables
  pub done : (s t : ℕ) → s < t → t < length c.book → (s < first) ⊎ ((s ≡ first) × (t < second)) → list_any (is_table_of s t) tables ≡ true
