-- The tests on lengths, names and numbers, each over the whole tree of a text that has the form.
use Rattle.std.specs.Prelude.{ℕ, List, [], ◌∷◌, map, length, take, Bool, false, ◌&&◌, ◌||◌, not, nat_le, Option, Some, None, option_map, codes, bytes_eq, ℤ, pos, negsuc}
use Rattle.std.specs.List.{list_any}
use Rattle.serde_json.specs.Data.{Data}
use Rattle.station_reader.specs.declared.member.Member.{Member}
use Rattle.station_reader.specs.declared.member.Member.TheVariants.{Threshold, ConflictPrice, BufferPrice, Directions, Platforms, Paths, Incompatible, Trains, Name, Dummy, Price, Headway, Buffer, Direction, Platform, Way, Minutes, From, To, Arrive, Depart, Dwell, ArriveEarly, ArriveLate, DepartEarly, DepartLate, Prefer, OffPrice, ShiftPrice, Surcharges}
use Rattle.station_reader.specs.declared.place.Spot.{Spot}
use Rattle.station_reader.specs.declared.place.Spot.TheVariants.{Of, Entry, Part, Field, Item, ItemPart}
use Rattle.station.specs.Named.{is_name}
use Rattle.station_reader.specs.Tree.{entries, entries_at, text, texts, text_at, text_if, integer, integer_at, truth_at}
use Rattle.station_reader.specs.First.{first, unless, each, occurs}

-- ---- lengths of lists

abbrev pub length_within : ℕ → ℕ → List Data → Bool
length_within low high ds = nat_le low (length ds) && nat_le (length ds) high

-- a list of the station
abbrev pub list_count : Member → ℕ → ℕ → Data → Option Spot
list_count m low high tree = unless (length_within low high (entries_at m tree)) (Of m)

-- a list of train i, of at most 64 entries
abbrev pub train_list_count : ℕ → Member → Data → Option Spot
train_list_count i m d = unless (length_within 0 64 (entries_at m d)) (Field Trains i m)

abbrev pub train_count : ℕ → Data → Option Spot
train_count i d =
    first (train_list_count i Platforms d ∷ train_list_count i Prefer d ∷ train_list_count i Surcharges d ∷ [])

unfoldable pub count : Data → Option Spot
count tree =
    first (list_count Directions 1 64 tree
    ∷ list_count Platforms 1 64 tree
    ∷ list_count Paths 0 500 tree
    ∷ list_count Incompatible 0 250_000 tree
    ∷ list_count Trains 0 200 tree
    ∷ each train_count (entries_at Trains tree) ∷ [])

-- ---- declared names

abbrev pub direction_name : ℕ → Data → Option Spot
direction_name i d = unless (is_name (text d)) (Entry Directions i)

-- the name of entry i of the list
abbrev pub entry_name : Member → ℕ → Data → Option Spot
entry_name list i d = unless (is_name (text_at Name d)) (Field list i Name)

unfoldable pub name : Data → Option Spot
name tree =
    first (each direction_name (entries_at Directions tree)
    ∷ each (entry_name Platforms) (entries_at Platforms tree)
    ∷ each (entry_name Paths) (entries_at Paths tree)
    ∷ each (entry_name Trains) (entries_at Trains tree) ∷ [])

-- ---- names that stand again

-- the names of a list's entries, in order
abbrev pub names : List Data → List (List ℕ)
names = map (text_at Name)

-- the place in the list of the first name that stands before it already
unfoldable pub repeat : List (List ℕ) → Option ℕ
repeat ns = each (λ i n. unless (not (occurs n (take i ns))) i) ns

abbrev pub again : (ℕ → Spot) → List (List ℕ) → Option Spot
again spot ns = option_map spot (repeat ns)

abbrev pub first_text : List Data → List ℕ
first_text [] = []
first_text (a ∷ ds) = text a

-- what a charge names
abbrev pub charged_name : Data → List ℕ
charged_name d = first_text (entries d)

abbrev pub charged_names : List Data → List (List ℕ)
charged_names = map charged_name

-- the name of train i, where an earlier train has it
abbrev pub name_again : List (List ℕ) → ℕ → Data → Option Spot
name_again ns i d = unless (not (occurs (text_at Name d) (take i ns))) (Field Trains i Name)

abbrev pub list_again : ℕ → Member → Data → Option Spot
list_again i m d = again (Item Trains i m) (texts (entries_at m d))

abbrev pub charge_again : ℕ → Data → Option Spot
charge_again i d = again (λ j. ItemPart Trains i Surcharges j 0) (charged_names (entries_at Surcharges d))

-- train i: its name beside all trains' names, and then the names in its lists
abbrev pub train_double : List (List ℕ) → ℕ → Data → Option Spot
train_double ns i d =
    first (name_again ns i d ∷ list_again i Platforms d ∷ list_again i Prefer d ∷ charge_again i d ∷ [])

unfoldable pub double : Data → Option Spot
double tree =
    first (again (Entry Directions) (texts (entries_at Directions tree))
    ∷ again (λ i. Field Platforms i Name) (names (entries_at Platforms tree))
    ∷ again (λ i. Field Paths i Name) (names (entries_at Paths tree))
    ∷ each (train_double (names (entries_at Trains tree))) (entries_at Trains tree) ∷ [])

-- ---- names that are used

abbrev pub direction_names : Data → List (List ℕ)
direction_names tree = texts (entries_at Directions tree)

abbrev pub platform_names : Data → List (List ℕ)
platform_names tree = names (entries_at Platforms tree)

abbrev pub path_names : Data → List (List ℕ)
path_names tree = names (entries_at Paths tree)

-- a platform of this name that may have paths
abbrev pub is_regular_named : List ℕ → Data → Bool
is_regular_named n d = not (truth_at Dummy d) && bytes_eq n (text_at Name d)

abbrev pub is_regular : List ℕ → Data → Bool
is_regular n tree = list_any (is_regular_named n) (entries_at Platforms tree)

abbrev pub is_way : List ℕ → Bool
is_way s = bytes_eq s (codes "in") || bytes_eq s (codes "out")

abbrev pub direction_unknown : Data → ℕ → Data → Option Spot
direction_unknown tree i d = unless (occurs (text_at Direction d) (direction_names tree)) (Field Paths i Direction)

abbrev pub platform_unknown : Data → ℕ → Data → Option Spot
platform_unknown tree i d = unless (is_regular (text_at Platform d) tree) (Field Paths i Platform)

abbrev pub way_unknown : ℕ → Data → Option Spot
way_unknown i d = unless (is_way (text_at Way d)) (Field Paths i Way)

abbrev pub path_unknown : Data → ℕ → Data → Option Spot
path_unknown tree i d = first (direction_unknown tree i d ∷ platform_unknown tree i d ∷ way_unknown i d ∷ [])

-- a path of pair i, beside the declared paths
abbrev pub part_unknown : List (List ℕ) → ℕ → ℕ → Data → Option Spot
part_unknown paths i j d = unless (occurs (text d) paths) (Part Incompatible i j)

abbrev pub pair_unknown : List (List ℕ) → ℕ → Data → Option Spot
pair_unknown paths i d = each (part_unknown paths i) (entries d)

-- a direction of train i, where it has one
abbrev pub end_unknown : Data → ℕ → Member → Option (List ℕ) → Option Spot
end_unknown tree i m None = None
end_unknown tree i m (Some s) = unless (occurs s (direction_names tree)) (Field Trains i m)

-- the platforms in a list of train i
abbrev pub item_unknown : Data → ℕ → Member → ℕ → Data → Option Spot
item_unknown tree i m j d = unless (occurs (text d) (platform_names tree)) (Item Trains i m j)

abbrev pub listed_unknown : Data → ℕ → Member → Data → Option Spot
listed_unknown tree i m d = each (item_unknown tree i m) (entries_at m d)

abbrev pub charge_unknown : Data → ℕ → ℕ → Data → Option Spot
charge_unknown tree i j d = unless (occurs (charged_name d) (platform_names tree)) (ItemPart Trains i Surcharges j 0)

abbrev pub charges_unknown : Data → ℕ → Data → Option Spot
charges_unknown tree i d = each (charge_unknown tree i) (entries_at Surcharges d)

abbrev pub train_unknown : Data → ℕ → Data → Option Spot
train_unknown tree i d =
    first (end_unknown tree i From (text_if From d)
    ∷ end_unknown tree i To (text_if To d)
    ∷ listed_unknown tree i Platforms d
    ∷ listed_unknown tree i Prefer d
    ∷ charges_unknown tree i d ∷ [])

unfoldable pub unknown : Data → Option Spot
unknown tree =
    first (each (path_unknown tree) (entries_at Paths tree)
    ∷ each (pair_unknown (path_names tree)) (entries_at Incompatible tree)
    ∷ each (train_unknown tree) (entries_at Trains tree) ∷ [])

-- ---- integers

abbrev pub least : Member → ℕ
least Minutes = 1
least Dwell = 1
least _ = 0

abbrev pub most : Member → ℕ
most Threshold = 60
most ConflictPrice = 1_000_000
most BufferPrice = 1_000_000
most Headway = 60
most Buffer = 60
most Minutes = 60
most Arrive = 2879
most Depart = 2879
most Dwell = 2879
most ArriveEarly = 30
most ArriveLate = 30
most DepartEarly = 30
most DepartLate = 30
most ShiftPrice = 1_000_000
most _ = 1_000_000_000

abbrev pub within : Member → ℤ → Bool
within m (pos n) = nat_le (least m) n && nat_le n (most m)
within m (negsuc n) = false

abbrev pub station_range : Member → Data → Option Spot
station_range m tree = unless (within m (integer_at m tree)) (Of m)

abbrev pub entry_range : Member → ℕ → Member → Data → Option Spot
entry_range list i m d = unless (within m (integer_at m d)) (Field list i m)

abbrev pub platform_range : ℕ → Data → Option Spot
platform_range i d =
    first (entry_range Platforms i Price d ∷ entry_range Platforms i Headway d ∷ entry_range Platforms i Buffer d ∷ [])

abbrev pub path_range : ℕ → Data → Option Spot
path_range i d = first (entry_range Paths i Minutes d ∷ entry_range Paths i Price d ∷ [])

abbrev pub second_integer : List Data → ℤ
second_integer [] = pos 0
second_integer (a ∷ []) = pos 0
second_integer (a ∷ b ∷ ds) = integer b

-- what a charge costs
abbrev pub charged_price : Data → ℤ
charged_price d = second_integer (entries d)

abbrev pub charge_range : ℕ → ℕ → Data → Option Spot
charge_range i j d = unless (within Surcharges (charged_price d)) (ItemPart Trains i Surcharges j 1)

abbrev pub charges_range : ℕ → Data → Option Spot
charges_range i d = each (charge_range i) (entries_at Surcharges d)

abbrev pub train_times : ℕ → Data → Option Spot
train_times i d =
    first (entry_range Trains i Arrive d ∷ entry_range Trains i Depart d ∷ entry_range Trains i Dwell d ∷ [])

abbrev pub train_shifts : ℕ → Data → Option Spot
train_shifts i d =
    first (entry_range Trains i ArriveEarly d ∷ entry_range Trains i ArriveLate d
    ∷ entry_range Trains i DepartEarly d ∷ entry_range Trains i DepartLate d ∷ [])

abbrev pub train_prices : ℕ → Data → Option Spot
train_prices i d = first (entry_range Trains i OffPrice d ∷ entry_range Trains i ShiftPrice d ∷ [])

abbrev pub train_range : ℕ → Data → Option Spot
train_range i d = first (train_times i d ∷ train_shifts i d ∷ train_prices i d ∷ charges_range i d ∷ [])

unfoldable pub range : Data → Option Spot
range tree =
    first (station_range Threshold tree ∷ station_range ConflictPrice tree ∷ station_range BufferPrice tree
    ∷ each platform_range (entries_at Platforms tree)
    ∷ each path_range (entries_at Paths tree)
    ∷ each train_range (entries_at Trains tree) ∷ [])
