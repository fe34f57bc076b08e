-- Looking into the tree of a text. What isn't there, or is of another kind, reads as nothing, 0, false or no entries.
use Rattle.std.specs.Prelude.{ℕ, List, [], ◌∷◌, map, Bool, false, Option, Some, None, option_and_then, unwrap_or, ℤ, pos, negsuc}
use Rattle.serde_json.specs.Data.{Data, Items, no_items, item, Members, no_members, member}
use Rattle.serde_json.specs.Find.{get, as_bool, as_number, as_str, as_array, as_object, as_integer}
use Rattle.station_reader.specs.declared.member.Member.{Member}
use Rattle.station_reader.specs.MemberText.{member_text}

-- the member of an object
abbrev pub at : Member → Data → Option Data
at m d = get (member_text m) d

abbrev pub list_of : Items → List Data
list_of no_items = []
list_of (item d ds) = d ∷ list_of ds

abbrev pub entries_if : Option Items → List Data
entries_if None = []
entries_if (Some ds) = list_of ds

-- the entries of a list
abbrev pub entries : Data → List Data
entries d = entries_if (as_array d)

abbrev pub entries_at : Member → Data → List Data
entries_at m d = entries_if (option_and_then as_array (at m d))

-- the names of an object's members
abbrev pub names_of : Members → List (List ℕ)
names_of no_members = []
names_of (member k d ms) = k ∷ names_of ms

abbrev pub member_names_if : Option Members → List (List ℕ)
member_names_if None = []
member_names_if (Some ms) = names_of ms

abbrev pub member_names : Data → List (List ℕ)
member_names d = member_names_if (as_object d)

abbrev pub text : Data → List ℕ
text d = unwrap_or (as_str d) []

abbrev pub texts : List Data → List (List ℕ)
texts = map text

-- the text of a member, where it is one
abbrev pub text_if : Member → Data → Option (List ℕ)
text_if m d = option_and_then as_str (at m d)

abbrev pub text_at : Member → Data → List ℕ
text_at m d = unwrap_or (text_if m d) []

-- an integer, where the number is one
abbrev pub whole : Data → Option ℤ
whole d = option_and_then as_integer (as_number d)

abbrev pub integer : Data → ℤ
integer d = unwrap_or (whole d) (pos 0)

abbrev pub integer_at : Member → Data → ℤ
integer_at m d = unwrap_or (option_and_then whole (at m d)) (pos 0)

abbrev pub natural : ℤ → ℕ
natural (pos n) = n
natural (negsuc n) = 0

abbrev pub natural_at : Member → Data → ℕ
natural_at m d = natural (integer_at m d)

abbrev pub truth_at : Member → Data → Bool
truth_at m d = unwrap_or (option_and_then as_bool (at m d)) false
