-- Marks of pairs of paths, 500 in a row: the mark of i and j has the place 500 i + j.
use Rattle.std.specs.Prelude.{◌≡◌, ℕ, ◌+◌, ◌*◌, ◌<◌, List, Bool, false, slice_index_or}
use Rattle.std.specs.List.{list_any}
use Rattle.station.specs.declared.part.PathPair.{PathPair}
use Rattle.station_reader.specs.Reading.{same_pair}

abbrev pub is_marked : List Bool → PathPair → Bool
is_marked marks x = slice_index_or marks (500 * x.first + x.second) false

abbrev pub AreUnmarked : List Bool → Type 0
AreUnmarked marks = (k : ℕ) → slice_index_or marks k false ≡ false

-- both numbers are below the most paths
pub record IsNumbered (x : PathPair) : Type 0 where
  pub first : x.first < 500
  pub second : x.second < 500

-- a pair is marked exactly where it is among the listed ones, in either order
abbrev pub MarksListed : List Bool → List PathPair → Type 0
MarksListed marks listed = (x : PathPair) → IsNumbered x → is_marked marks x ≡ list_any (same_pair x) listed
