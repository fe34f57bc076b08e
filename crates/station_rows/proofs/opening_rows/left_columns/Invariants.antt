use Rattle.std.proofs.Common.{◌≡◌, ℕ, ◌<◌, length, get_or, Some}
use Rattle.std.specs.Prelude.{slice_get}
use Rattle.pattern_pricing.specs.Layout.{columns_of}
use Rattle.pattern_pricing.specs.declared.column.Column.TheVariants.{LeftOut}
use Rattle.station_rows.proofs.opening_rows.left_columns.Given as goal

abbrev pub invariant-loop-train : goal.invariant-loop-train
invariant-loop-train l = record {
  long : length l.columns.items ≡ l.train;
  each : (t d : ℕ) → t < l.train → slice_get (columns_of l.layout) (get_or l.columns.items t d) ≡ Some (LeftOut t);
}
