-- What a search reads prices from: a case, and its pairs of trains that can meet.
use Rattle.pair_prices.specs.Case.{CaseRecord}
use Rattle.pair_classes.specs.Meetings.{AreMeetings, MeetingList}

pub record CaseMeetings : Type 0 where
  pub case : CaseRecord
  pub meetings : MeetingList

-- the pairs are those of the case
abbrev pub AreOfCase : CaseMeetings → Type 0
AreOfCase m = AreMeetings m.case m.meetings
