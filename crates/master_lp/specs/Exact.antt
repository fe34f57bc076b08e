-- What an exact answer of the engine says over the columns and rows of a node.
use Rattle.std.specs.Prelude.{ℕ, List, length}
use Rattle.exact_lp.specs.declared.answer.Solved.{Solved}
use Rattle.exact_lp.specs.declared.answer.WeakCause.{WeakCause}
use Rattle.exact_lp.specs.declared.answer.WeakCause.TheVariants.{Left, Pivots, Rounds, Cells, Scale}
use Rattle.ratio.specs.Ledger.{Raised}
use Rattle.master_lp.specs.Bounds.{IsTooGreat}
use Rattle.exact_lp.specs.declared.point.Point.{Point}
use Rattle.exact_lp.specs.declared.row.Row.{Row}
use Rattle.exact_lp.specs.Outcomes.{AreScalesBounded}
use Rattle.exact_lp.specs.Programs.{IsLeast, ShowsLeast}
use Rattle.pair_prices.specs.Case.{CaseRecord}
use Rattle.pattern_pricing.specs.Layout.{LayoutRecord, columns_of}
use Rattle.station_rows.specs.Laws.{prices}
use Rattle.station_rows.specs.Points.{MeetsRows}
use Rattle.station_rows.specs.Rows.{AreTrainRows, StandsIn}

-- Opening rows of all trains and all rows that stand hold at the point.
pub record MeetsAll (c : CaseRecord) (l : LayoutRecord) (point : Point) : Type 0 where
  pub opening : List Row
  pub trains : AreTrainRows l opening
  pub meets : MeetsRows c l opening point

-- a least point, and duals that show it
pub record IsSolved (c : CaseRecord) (l : LayoutRecord) (s : Solved) : Type 0 where
  pub opening : List Row
  pub trains : AreTrainRows l opening
  pub shows : ShowsLeast (prices c l) (length (columns_of l)) opening (StandsIn c l) s.point s.duals
  pub least : IsLeast (prices c l) (length (columns_of l)) opening (StandsIn c l) s.point
  pub scales : AreScalesBounded s

-- why an exact answer of the engine may give a weak bound
abbrev pub IsEndCause : ℕ → ℕ → WeakCause → Type 0
IsEndCause old new Left = Raised old new
IsEndCause old new (Pivots n) = ⊥
IsEndCause old new (Rounds n) = ⊥
IsEndCause old new (Cells n) = ⊥
IsEndCause old new (Scale n) = IsTooGreat n
