-- The source of the rows of a node.
use Rattle.std.specs.Prelude.{◌≡◌, ℕ, List, All}
use Rattle.exact_lp.specs.declared.row.Row.{Row}
use Rattle.exact_lp.specs.declared.point.Point.{Point}
use Rattle.exact_lp.specs.Programs.{Holds}
use Rattle.exact_lp.specs.Sources.{IsOpening, OpeningMeets}
use Rattle.patterns.specs.Allowed.{Lists}
use Rattle.pair_prices.specs.Case.{CaseRecord}
use Rattle.pair_classes.specs.Meetings.{AreMeetings, MeetingList}
use Rattle.pattern_pricing.specs.Layout.{LayoutRecord}
use Rattle.pattern_pricing.specs.Prices.{IsLayoutOf}
use Rattle.station_rows.specs.Rows.{AreTrainRows, StandsIn}

-- a case with the columns of its lists, and the opening rows over them
pub record SourceRecord : Type 0 where
  pub case : CaseRecord
  pub layout : LayoutRecord
  pub opening : List Row

-- The opening rows are the trains' own, and with their own columns they are an opening that meets each row that stands.
pub record IsOpened (c : CaseRecord) (l : LayoutRecord) (opening : List Row) (own : List ℕ) : Type 0 where
  pub trains : AreTrainRows l opening
  pub opens : IsOpening opening own
  pub meets : (row : Row) → StandsIn c l row → OpeningMeets opening own row

-- The layout is of these lists, the meetings are the case's, and the rows open.
pub record IsSource (c : CaseRecord) (lists : Lists) (l : LayoutRecord) (m : MeetingList) (opening : List Row) (own : List ℕ) : Type 0 where
  pub layout : IsLayoutOf c l
  pub same : l.lists ≡ lists
  pub meetings : AreMeetings c m
  pub opened : IsOpened c l opening own

-- Opening rows of all trains hold at the point.
abbrev pub MeetsOpening : LayoutRecord → Point → Type 0
MeetsOpening l point = (rows : List Row) × AreTrainRows l rows × All (λ row. Holds row point) rows
