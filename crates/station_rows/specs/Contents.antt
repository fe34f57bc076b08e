-- The cells of each kind of row. Where the value is 0 there is none.
use Rattle.std.specs.Prelude.{ℕ, List, [], ◌∷◌, ◌++◌, flat_map, if◌then◌else◌, length, ℤ, pos, neg_ℤ}
use Rattle.std.specs.Ordering.{int_eq}
use Rattle.station.specs.Allowed.{numbers}
use Rattle.exact_lp.specs.declared.row.RowCell.{RowCell}
use Rattle.transport.specs.Coupling.{at}
use Rattle.pair_prices.specs.Case.{CaseRecord}
use Rattle.pair_prices.specs.Fraction.{holds_there, pattern_of}
use Rattle.leaf_bounds.specs.Total.{only_if}
use Rattle.pair_cuts.specs.declared.cut.PairCut.{PairCut}
use Rattle.pattern_pricing.specs.declared.column.Column.{Column}
use Rattle.pattern_pricing.specs.declared.column.Column.TheVariants.{LeftOut, PlatformUse}
use Rattle.pattern_pricing.specs.Layout.{LayoutRecord, weight_column}
use Rattle.pattern_pricing.specs.Positions.{list_size, position}
use Rattle.station_rows.specs.Points.{value_column}

abbrev pub kept_cell : RowCell → List RowCell
kept_cell cell = if int_eq cell.value (pos 0) then [] else cell ∷ []

-- the cell of a column, where its value isn't 0
abbrev pub cell_at : LayoutRecord → Column → ℤ → List RowCell
cell_at l column value = kept_cell (record { column = position l column; value = value })

-- the cells of a train's first patterns, with a value for each
abbrev pub train_cells : LayoutRecord → ℕ → (ℕ → ℤ) → ℕ → List RowCell
train_cells l train value count = flat_map (λ place. cell_at l (weight_column train place) (value place)) (numbers count)

abbrev pub opening_cells : LayoutRecord → ℕ → List RowCell
opening_cells l train = train_cells l train (λ place. pos 1) (list_size l train) ++ cell_at l (LeftOut train) (pos 1)

abbrev pub use_cells : LayoutRecord → ℕ → List RowCell
use_cells l platform = cell_at l (PlatformUse platform) (neg_ℤ (pos 1))

-- -1 where the pattern at a place of a train's list holds the platform at that minute
abbrev pub held_value : CaseRecord → LayoutRecord → ℕ → ℤ → ℕ → ℕ → ℤ
held_value c l platform minute train place = only_if (holds_there c platform minute (pattern_of c l.lists train place)) (neg_ℤ (pos 1))

-- the cells of the patterns of the first trains that hold the platform at that minute
abbrev pub held_cells : CaseRecord → LayoutRecord → ℕ → ℤ → ℕ → List RowCell
held_cells c l platform minute trains =
    flat_map (λ train. train_cells l train (held_value c l platform minute train) (list_size l train)) (numbers trains)

abbrev pub clique_cells : CaseRecord → LayoutRecord → ℕ → ℤ → List RowCell
clique_cells c l platform minute = held_cells c l platform minute (length l.lists) ++ cell_at l (PlatformUse platform) (pos 1)

abbrev pub pair_cells : LayoutRecord → PairCut → List RowCell
pair_cells l cut =
    train_cells l cut.first (λ place. neg_ℤ (at cut.alpha place)) (list_size l cut.first)
    ++ train_cells l cut.second (λ place. neg_ℤ (at cut.beta place)) (list_size l cut.second)
    ++ cell_at l (LeftOut cut.first) (neg_ℤ cut.alpha_left) ++ cell_at l (LeftOut cut.second) (neg_ℤ cut.beta_left)
    ++ cell_at l (value_column cut.first cut.second) (pos 1)
