-- The members that an object may have.
use Rattle.std.proofs.Common.{◌≡◌, ℕ, List, [], ◌∷◌, map, refl, ap, ◌||◌, ◌&&◌, bytes_eq, Bool, true, String, Global, string_bytes, Some, None}
use Rattle.std.specs.List.{list_any, list_all}
use Rattle.std.specs.Map.{keys_of}
use Rattle.serde_json.specs.Data.{Data}
use Rattle.serde_json.specs.Find.{as_object}
use Rattle.serde_json.specs.View.{members_view}
use Rattle.serde_json.specs.declared.value.Value.{Value}
use Rattle.station_reader.specs.declared.member.Member.{Member}
use Rattle.station_reader.specs.MemberText.{member_text}
use Rattle.station_reader.specs.First.{occurs}
use Rattle.station_reader.specs.Tree.{names_of}
use Rattle.station_reader.specs.Shape.{has_only}

pub occurs-member_text : (name : List ℕ) (ms : List Member) → list_any (λ m. bytes_eq name (member_text m)) ms ≡ occurs name (map member_text ms)
unfolding occurs
occurs-member_text name [] = refl
occurs-member_text name (m ∷ ms) = ap (λ b. bytes_eq name (member_text m) || b) (occurs-member_text name ms)

-- each key is the name of one of the members
abbrev pub are_listed : List Member → List (String Global) → Bool
are_listed ms keys = list_all (λ k. occurs (string_bytes k) (map member_text ms)) keys

pub has_only-no_object : (ms : List Member) (d : Data) → None ≡ as_object d → true ≡ has_only ms d
unfolding has_only
has_only-no_object ms d none = rw (← none)

names_listed : (ms : List Member) (es : List (String Global × Value)) → list_all (λ name. occurs name (map member_text ms)) (names_of (members_view es)) ≡ are_listed ms (keys_of es)
names_listed ms [] = refl
names_listed ms (e ∷ es) = ap (λ b. occurs (string_bytes e.0) (map member_text ms) && b) (names_listed ms es)

pub has_only-object : (ms : List Member) (d : Data) (es : List (String Global × Value)) → Some (members_view es) ≡ as_object d → has_only ms d ≡ are_listed ms (keys_of es)
unfolding has_only
has_only-object ms d es is = rw (← is) (names_listed ms es)
