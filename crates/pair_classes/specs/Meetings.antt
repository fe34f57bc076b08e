-- The pairs of trains that can meet.
use Rattle.std.specs.Prelude.{◌≡◌, ℕ, ◌+◌, ◌*◌, ◌<◌, Bool, false, ◌&&◌, ◌||◌, ◌==◌, List, length, filter, find, slice_get, Option, Some, None, All, AllPairs}
use Rattle.station.specs.Allowed.{numbers}
use Rattle.patterns.specs.Book.{offers_of}
use Rattle.pair_prices.specs.Case.{CaseRecord}
use Rattle.pair_classes.specs.Classes.{ClassTable, ArePriced, sealed_at}
use Rattle.pair_classes.specs.declared.meeting.Meeting.{Meeting}

-- all patterns of the two trains have the sealed price 0
abbrev pub AreFree : CaseRecord → ℕ → ℕ → Type 0
AreFree c s t = (i j : ℕ) → i < length (offers_of c.book s) → j < length (offers_of c.book t) → sealed_at c s t i j ≡ 0

-- two trains of the case, the first before the second, and their classes where there are some
pub record IsMeeting (c : CaseRecord) (m : Meeting) : Type 0 where
  pub order : m.first < m.second
  pub there : m.second < length c.book
  pub classes : (k : ClassTable) → m.classes ≡ Some k → ArePriced c m.first m.second k
  -- two trains with classes don't cost nothing together
  pub meets : (k : ClassTable) → m.classes ≡ Some k → AreFree c m.first m.second → ⊥

abbrev pub is_of : ℕ → ℕ → Meeting → Bool
is_of s t m = m.first == s && m.second == t

-- the entry of two trains, if there is one
abbrev pub meeting_of : List Meeting → ℕ → ℕ → Option Meeting
meeting_of meetings s t = find (is_of s t) meetings

-- one of the two trains is this one
abbrev pub is_with : ℕ → Option Meeting → Bool
is_with train None = false
is_with train (Some m) = m.first == train || m.second == train

-- the places of the entries of one train, ascending
abbrev pub places_with : List Meeting → ℕ → List ℕ
places_with meetings train = filter (λ k. is_with train (slice_get meetings k)) (numbers (length meetings))

-- A number for each two trains that rises with the first, and then with the second: there are at most 200 trains.
abbrev pub pair_key : ℕ → ℕ → ℕ
pair_key s t = 200 * s + t

abbrev pub AreAscending : List Meeting → Type 0
AreAscending meetings = AllPairs (λ x y. pair_key x.first x.second < pair_key y.first y.second) meetings

-- the number of trains, and the pairs that can meet
pub record MeetingList : Type 0 where
  pub trains : ℕ
  pub pairs : List Meeting

-- The listed pairs are pairs of the case, ascending, and each pair that isn't listed has sealed price 0 at all patterns.
pub record AreMeetings (c : CaseRecord) (l : MeetingList) : Type 0 where
  pub trains : l.trains ≡ length c.book
  pub listed : All (IsMeeting c) l.pairs
  pub ascending : AreAscending l.pairs
  pub unlisted : (s t : ℕ) → s < t → t < length c.book → meeting_of l.pairs s t ≡ None → AreFree c s t

-- The same of the pairs whose key is below the bound.
pub record AreListedTo (c : CaseRecord) (bound : ℕ) (meetings : List Meeting) : Type 0 where
  pub listed : All (IsMeeting c) meetings
  pub below : All (λ m. pair_key m.first m.second < bound) meetings
  pub ascending : AreAscending meetings
  pub unlisted : (s t : ℕ) → s < t → t < length c.book → pair_key s t < bound → meeting_of meetings s t ≡ None → AreFree c s t

-- an entry of the two trains, or none where all sealed prices are 0
abbrev pub IsFound : CaseRecord → ℕ → ℕ → Option Meeting → Type 0
IsFound c s t None = AreFree c s t
IsFound c s t (Some m) = (m.first ≡ s) × (m.second ≡ t) × IsMeeting c m
