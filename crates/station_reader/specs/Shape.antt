-- The form of a station's text: the members of its objects and their kinds.
use Rattle.std.specs.Prelude.{ℕ, List, [], ◌∷◌, map, Bool, true, false, ◌&&◌, ◌||◌, ◌==◌, if◌then◌else◌, Option, Some, None, is_some, option_and_then, codes, bytes_eq, ℤ, pos, negsuc}
use Rattle.std.specs.List.{list_all}
use Rattle.serde_json.specs.Data.{Data}
use Rattle.serde_json.specs.Find.{as_null, as_bool, as_str, as_array, as_object}
use Rattle.station_reader.specs.declared.member.Member.{Member}
use Rattle.station_reader.specs.declared.member.Member.TheVariants.{Format, Version, Threshold, ConflictPrice, BufferPrice, Directions, Platforms, Paths, Incompatible, Trains, Name, Dummy, Price, Headway, Buffer, Direction, Platform, Way, Minutes, From, To, Arrive, Depart, Dwell, ArriveEarly, ArriveLate, DepartEarly, DepartLate, Prefer, OffPrice, ShiftPrice, Surcharges}
use Rattle.station_reader.specs.declared.place.Spot.{Spot}
use Rattle.station_reader.specs.declared.place.Spot.TheVariants.{Top, Of, Entry, Field, Item}
use Rattle.station_reader.specs.declared.form.Edition.{Edition}
use Rattle.station_reader.specs.declared.form.Edition.TheVariants.{One, Two}
use Rattle.station_reader.specs.declared.form.Kind.{Kind}
use Rattle.station_reader.specs.declared.form.Kind.TheVariants.{Text, TextOrNull, Truth, Integer, Texts, Charges}
use Rattle.station_reader.specs.MemberText.{member_text}
use Rattle.station_reader.specs.Tree.{at, entries, entries_at, member_names, text_at, whole, integer_at}
use Rattle.station_reader.specs.First.{or_else, first, unless, each, occurs}

-- ---- the version

abbrev pub edition_of : ℤ → Option Edition
edition_of (pos n) = if n == 1 then Some One else (if n == 2 then Some Two else None)
edition_of (negsuc n) = None

-- An object whose `format` is this text and whose `version` is the integer 1 or 2; no other tree has an edition.
abbrev pub edition : Data → Option Edition
edition tree =
    if bytes_eq (text_at Format tree) (codes "tpp-station") then edition_of (integer_at Version tree) else None

-- ---- the members of each object, in order

abbrev pub platform_members : Edition → List Member
platform_members One = Name ∷ Dummy ∷ Price ∷ Headway ∷ []
platform_members Two = Name ∷ Dummy ∷ Price ∷ Headway ∷ Buffer ∷ []

abbrev pub path_members : List Member
path_members = Name ∷ Direction ∷ Platform ∷ Way ∷ Minutes ∷ Price ∷ []

abbrev pub train_members : List Member
train_members =
    Name ∷ From ∷ To ∷ Arrive ∷ Depart ∷ Dwell ∷ ArriveEarly ∷ ArriveLate ∷ DepartEarly ∷ DepartLate
    ∷ Platforms ∷ Prefer ∷ OffPrice ∷ ShiftPrice ∷ Surcharges ∷ []

abbrev pub station_members : Edition → List Member
station_members One =
    Format ∷ Version ∷ Threshold ∷ ConflictPrice ∷ Directions ∷ Platforms ∷ Paths ∷ Incompatible ∷ Trains ∷ []
station_members Two =
    Format ∷ Version ∷ Threshold ∷ ConflictPrice ∷ BufferPrice ∷ Directions ∷ Platforms ∷ Paths ∷ Incompatible ∷ Trains ∷ []

-- ---- the kinds of the members of platforms, paths and trains

-- a train's `from` and `to`
abbrev pub end_kind : Edition → Kind
end_kind One = Text
end_kind Two = TextOrNull

abbrev pub kind_of : Edition → Member → Kind
kind_of e Name = Text
kind_of e Dummy = Truth
kind_of e Direction = Text
kind_of e Platform = Text
kind_of e Way = Text
kind_of e From = end_kind e
kind_of e To = end_kind e
kind_of e Platforms = Texts
kind_of e Prefer = Texts
kind_of e Surcharges = Charges
kind_of e _ = Integer

-- ---- the values of a kind

abbrev pub is_text : Data → Bool
is_text d = is_some (as_str d)

abbrev pub is_integer : Data → Bool
is_integer d = is_some (whole d)

abbrev pub is_list : Data → Bool
is_list d = is_some (as_array d)

abbrev pub is_object : Data → Bool
is_object d = is_some (as_object d)

abbrev pub has_kind : Kind → Data → Bool
has_kind Text d = is_text d
has_kind TextOrNull d = is_text d || is_some (as_null d)
has_kind Truth d = is_some (as_bool d)
has_kind Integer d = is_integer d
has_kind Texts d = is_list d
has_kind Charges d = is_list d

-- exactly two texts
abbrev pub are_two_texts : List Data → Bool
are_two_texts [] = false
are_two_texts (a ∷ []) = false
are_two_texts (a ∷ b ∷ []) = is_text a && is_text b
are_two_texts (a ∷ b ∷ c ∷ ds) = false

-- exactly one text and one integer
abbrev pub is_charge : List Data → Bool
is_charge [] = false
is_charge (a ∷ []) = false
is_charge (a ∷ b ∷ []) = is_text a && is_integer b
is_charge (a ∷ b ∷ c ∷ ds) = false

-- what each entry of a member's list must be
abbrev pub is_entry_of : Kind → Data → Bool
is_entry_of Text d = true
is_entry_of TextOrNull d = true
is_entry_of Truth d = true
is_entry_of Integer d = true
is_entry_of Texts d = is_text d
is_entry_of Charges d = is_charge (entries d)

-- ---- the first place of another form

-- entry j of a list that is a member of entry i
abbrev pub item_shape : Member → ℕ → Member → Kind → ℕ → Data → Option Spot
item_shape list i m kind j d = unless (is_entry_of kind d) (Item list i m j)

-- a member of entry i of the list, which must be there and of the kind
abbrev pub member_shape : Member → ℕ → Member → Kind → Option Data → Option Spot
member_shape list i m kind None = Some (Field list i m)
member_shape list i m kind (Some d) =
    or_else (unless (has_kind kind d) (Field list i m)) (each (item_shape list i m kind) (entries d))

abbrev pub members_shape : Edition → Member → ℕ → Data → List Member → Option Spot
members_shape e list i d [] = None
members_shape e list i d (m ∷ ms) = or_else (member_shape list i m (kind_of e m) (at m d)) (members_shape e list i d ms)

-- no member beside these
unfoldable pub has_only : List Member → Data → Bool
has_only ms d = list_all (λ name. occurs name (map member_text ms)) (member_names d)

-- entry i of the list, an object with exactly these members
abbrev pub object_shape : Edition → List Member → Member → ℕ → Data → Option Spot
object_shape e members list i d =
    first (unless (is_object d) (Entry list i)
    ∷ members_shape e list i d members
    ∷ unless (has_only members d) (Entry list i) ∷ [])

-- a member of the station that must be an integer
abbrev pub integer_shape : Member → Data → Option Spot
integer_shape m tree = unless (is_some (option_and_then whole (at m tree))) (Of m)

-- a member of the station that must be a list, each entry of it by its own rule
abbrev pub list_shape : Member → (ℕ → Data → Option Spot) → Data → Option Spot
list_shape m entry_shape tree =
    or_else (unless (is_some (option_and_then as_array (at m tree))) (Of m)) (each entry_shape (entries_at m tree))

abbrev pub buffer_price_shape : Edition → Data → Option Spot
buffer_price_shape One tree = None
buffer_price_shape Two tree = integer_shape BufferPrice tree

abbrev pub direction_shape : ℕ → Data → Option Spot
direction_shape i d = unless (is_text d) (Entry Directions i)

abbrev pub pair_shape : ℕ → Data → Option Spot
pair_shape i d = unless (are_two_texts (entries d)) (Entry Incompatible i)

unfoldable pub shape : Edition → Data → Option Spot
shape e tree =
    first (integer_shape Threshold tree
    ∷ integer_shape ConflictPrice tree
    ∷ buffer_price_shape e tree
    ∷ list_shape Directions direction_shape tree
    ∷ list_shape Platforms (object_shape e (platform_members e) Platforms) tree
    ∷ list_shape Paths (object_shape e path_members Paths) tree
    ∷ list_shape Incompatible pair_shape tree
    ∷ list_shape Trains (object_shape e train_members Trains) tree
    ∷ unless (has_only (station_members e) tree) Top ∷ [])
