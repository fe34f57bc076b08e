-- What a text is read as: a station's record, or the first refusal with its place.
use Rattle.std.specs.Prelude.{ℕ, ◌+◌, ◌-◌, List, [], ◌∷◌, map, filter, flat_map, length, Bool, ◌&&◌, ◌||◌, ◌==◌, nat_le, if◌then◌else◌, Option, Some, None, option_map, unwrap_or, position, codes, bytes_eq}
use Rattle.std.specs.List.{list_any, range_with_len, cons_option}
use Rattle.std.specs.Str.{is_utf8}
use Rattle.serde_json.specs.Data.{Data}
use Rattle.serde_json.specs.Read.{read}
use Rattle.station_reader.specs.declared.member.Member.TheVariants.{Threshold, ConflictPrice, BufferPrice, Platforms, Paths, Incompatible, Trains, Name, Dummy, Price, Headway, Buffer, Direction, Platform as PlatformMember, Way, Minutes, From, To, Arrive, Depart, Dwell, ArriveEarly, ArriveLate, DepartEarly, DepartLate, Prefer, OffPrice, ShiftPrice, Surcharges}
use Rattle.station_reader.specs.declared.place.Spot.{Spot}
use Rattle.station_reader.specs.declared.place.Spot.TheVariants.{Top, Entry}
use Rattle.station_reader.specs.declared.refusal.RefusedKind.{RefusedKind}
use Rattle.station_reader.specs.declared.refusal.RefusedKind.TheVariants.{Long, NotJson, Version, Shape, Count, Name as NameKind, Double, Unknown, Range, Patterns}
use Rattle.station.specs.declared.part.Platform.{Platform}
use Rattle.station.specs.declared.part.Path.{Path}
use Rattle.station.specs.declared.part.PathWay.{PathWay}
use Rattle.station.specs.declared.part.PathWay.TheVariants.{In, Out}
use Rattle.station.specs.declared.part.PathPair.{PathPair}
use Rattle.station.specs.declared.part.Surcharge.{Surcharge}
use Rattle.station.specs.declared.part.Train.{Train}
use Rattle.station_reader.specs.declared.form.Edition.{Edition}
use Rattle.station_reader.specs.PlaceText.{spot_text}
use Rattle.station_reader.specs.Tree.{entries, entries_at, text, texts, text_at, text_if, integer_at, natural, natural_at, truth_at}
use Rattle.station_reader.specs.First.{unless, each, occurs}
use Rattle.station_reader.specs.Shape.{edition, shape}
use Rattle.station_reader.specs.Classes.{count, name, double, unknown, range, direction_names, platform_names, path_names, first_text, charged_name, charged_price}
use Rattle.station.specs.Allowed.{StationRecord, allowed_list}

-- ---- the record, with names replaced by their numbers

-- the number of a declared name
abbrev pub number_of : List (List ℕ) → List ℕ → ℕ
number_of names n = unwrap_or (position (bytes_eq n) names) 0

unfoldable pub platform_record : Data → Platform
platform_record d = record {
  name = text_at Name d;
  dummy = truth_at Dummy d;
  price = natural_at Price d;
  headway = natural_at Headway d;
  buffer = natural_at Buffer d;
}

abbrev pub way_of : List ℕ → PathWay
way_of s = if bytes_eq s (codes "out") then Out else In

unfoldable pub path_record : Data → Data → Path
path_record tree d = record {
  name = text_at Name d;
  direction = number_of (direction_names tree) (text_at Direction d);
  platform = number_of (platform_names tree) (text_at PlatformMember d);
  way = way_of (text_at Way d);
  minutes = natural_at Minutes d;
  price = natural_at Price d;
}

abbrev pub second_text : List Data → List ℕ
second_text [] = []
second_text (a ∷ []) = []
second_text (a ∷ b ∷ ds) = text b

-- the numbers that the two paths of a listed pair have among the declared paths
abbrev pub listed_pair : List (List ℕ) → Data → PathPair
listed_pair paths d = record {
  first = number_of paths (first_text (entries d));
  second = number_of paths (second_text (entries d));
}

-- the same two paths, in either order
abbrev pub same_pair : PathPair → PathPair → Bool
same_pair x y = (y.first == x.first && y.second == x.second) || (y.first == x.second && y.second == x.first)

abbrev pub is_listed : Data → PathPair → Bool
is_listed tree x = list_any (same_pair x) (map (listed_pair (path_names tree)) (entries_at Incompatible tree))

-- all pairs of two of n numbers, the first below the second, ascending; those with the first number i
abbrev pub pairs_with : ℕ → ℕ → List PathPair
pairs_with n i = map (λ j. record { first = i; second = j }) (range_with_len (i + 1) (n - (i + 1)))

abbrev pub pairs_below : ℕ → List PathPair
pairs_below n = flat_map (pairs_with n) (range_with_len 0 n)

unfoldable pub incompatible_pairs : Data → List PathPair
incompatible_pairs tree = filter (is_listed tree) (pairs_below (length (path_names tree)))

-- the numbers, ascending, of the declared names that are among the used ones
abbrev pub numbers_from : ℕ → List (List ℕ) → List (List ℕ) → List ℕ
numbers_from n [] used = []
numbers_from n (name ∷ names) used = if occurs name used then n ∷ numbers_from (n + 1) names used else numbers_from (n + 1) names used

-- what the charges ask for the name
abbrev pub charge_of : List ℕ → List Data → Option ℕ
charge_of name [] = None
charge_of name (d ∷ ds) = if bytes_eq name (charged_name d) then Some (natural (charged_price d)) else charge_of name ds

abbrev pub surcharges_from : ℕ → List (List ℕ) → List Data → List Surcharge
surcharges_from n [] ds = []
surcharges_from n (name ∷ names) ds =
    cons_option (option_map (λ p. record { platform = n; price = p }) (charge_of name ds)) (surcharges_from (n + 1) names ds)

unfoldable pub train_record : Data → Data → Train
train_record tree d = record {
  name = text_at Name d;
  «from» = option_map (number_of (direction_names tree)) (text_if From d);
  to = option_map (number_of (direction_names tree)) (text_if To d);
  arrive = integer_at Arrive d;
  depart = integer_at Depart d;
  dwell = natural_at Dwell d;
  arrive_early = natural_at ArriveEarly d;
  arrive_late = natural_at ArriveLate d;
  depart_early = natural_at DepartEarly d;
  depart_late = natural_at DepartLate d;
  platforms = numbers_from 0 (platform_names tree) (texts (entries_at Platforms d));
  prefer = numbers_from 0 (platform_names tree) (texts (entries_at Prefer d));
  off_price = natural_at OffPrice d;
  shift_price = natural_at ShiftPrice d;
  surcharges = surcharges_from 0 (platform_names tree) (entries_at Surcharges d);
}

unfoldable pub station_record : Data → StationRecord
station_record tree = record {
  threshold = natural_at Threshold tree;
  conflict_price = natural_at ConflictPrice tree;
  buffer_price = natural_at BufferPrice tree;
  directions = direction_names tree;
  platforms = map platform_record (entries_at Platforms tree);
  paths = map (path_record tree) (entries_at Paths tree);
  incompatible = incompatible_pairs tree;
  trains = map (train_record tree) (entries_at Trains tree);
}

-- a train with more than 4,096 allowed patterns
unfoldable pub patterns : StationRecord → Option Spot
patterns r = each (λ i t. unless (nat_le (length (allowed_list r t)) 4096) (Entry Trains i)) r.trains

-- ---- the classes in their order

pub data Reading : Type 0 where
  taken : StationRecord → Reading
  refused : RefusedKind → List ℕ → Reading

-- the first class that has a failing place, and otherwise the record
abbrev pub judged : List (RefusedKind × Option Spot) → StationRecord → Reading
judged [] r = taken r
judged ((kind, None) ∷ classes) r = judged classes r
judged ((kind, Some spot) ∷ classes) r = refused kind (spot_text spot)

abbrev pub classes : Edition → Data → List (RefusedKind × Option Spot)
classes e tree =
    (Shape, shape e tree) ∷ (Count, count tree) ∷ (NameKind, name tree) ∷ (Double, double tree)
    ∷ (Unknown, unknown tree) ∷ (Range, range tree) ∷ (Patterns, patterns (station_record tree)) ∷ []

abbrev pub reading_in : Data → Option Edition → Reading
reading_in tree None = refused Version (spot_text Top)
reading_in tree (Some e) = judged (classes e tree) (station_record tree)

abbrev pub reading_of : Option Data → Reading
reading_of None = refused NotJson (spot_text Top)
reading_of (Some tree) = reading_in tree (edition tree)

-- the value of the bytes, which are UTF-8
abbrev pub tree_of : List ℕ → Option Data
tree_of bytes = if is_utf8 bytes then read bytes else None

abbrev pub reading : List ℕ → Reading
reading bytes = if nat_le (length bytes) 16_777_216 then reading_of (tree_of bytes) else refused Long (spot_text Top)
