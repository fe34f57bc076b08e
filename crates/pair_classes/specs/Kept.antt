-- What the pairs that can meet keep beside their list.
use Rattle.std.specs.Prelude.{◌≡◌, ℕ, ◌<◌, ◌≤◌, List, [], length, slice_index_or, Option}
use Rattle.pair_classes.specs.declared.meeting.Meeting.{Meeting}
use Rattle.pair_classes.specs.Meetings.{places_with}
use Rattle.pair_classes.specs.Places.{ArePlacesFrom}

pub record IsKept (trains : ℕ) (pairs : List Meeting) (table : List (Option ℕ)) (lists : List (List ℕ)) : Type 0 where
  pub trains_most : trains ≤ 200
  pub places : ArePlacesFrom pairs 0 table
  pub count : length lists ≡ trains
  pub each : (t : ℕ) → t < trains → slice_index_or lists t [] ≡ places_with pairs t
