-- Where each pair stands in the list of those that can meet.
use Rattle.std.specs.Prelude.{◌≡◌, ℕ, ◌<◌, List, drop, Option, Some, None, slice_get, slice_index_or}
use Rattle.pair_classes.specs.declared.meeting.Meeting.{Meeting}
use Rattle.pair_classes.specs.Meetings.{meeting_of, pair_key}

-- the place that is kept for two trains, with a row of 200 for each first train
abbrev pub place_of : List (Option ℕ) → ℕ → ℕ → Option ℕ
place_of places s t = slice_index_or places (pair_key s t) None

-- what stands at a place
abbrev pub meeting_at : List Meeting → Option ℕ → Option Meeting
meeting_at meetings None = None
meeting_at meetings (Some k) = slice_get meetings k

-- The place kept for each two trains is that of their entry, if it is from `start` on.
abbrev pub ArePlacesFrom : List Meeting → ℕ → List (Option ℕ) → Type 0
ArePlacesFrom meetings start places =
    (s t : ℕ) → s < 200 → t < 200 → meeting_at meetings (place_of places s t) ≡ meeting_of (drop start meetings) s t
