use Rattle.std.proofs.Common.{◌≡◌, ℕ, ◌<◌, length, get_or}
use Rattle.exact_lp.specs.declared.row.Row.{Row}
use Rattle.station_rows.specs.Rows.{IsTrainRow}
use Rattle.station_rows.proofs.opening_rows.train_rows.Given as goal

abbrev pub invariant-loop-train : goal.invariant-loop-train
invariant-loop-train l = record {
  long : length l.rows.items ≡ l.train;
  each : (t : ℕ) (d : Row) → t < l.train → IsTrainRow l.layout t (get_or l.rows.items t d);
}
