-- What a text is read as, by its value.
use Rattle.std.proofs.Common.{◌≡◌, ℕ, ◌≤◌, List, length, Bool, true, false, Option, Some, None, refl, sym, ap, ◌∙◌, arith, nat_le, cond, true≢false}
use Rattle.std.specs.Prelude.{Err, IsUtf8}
use Rattle.std.specs.Str.{is_utf8}
use Rattle.std.proofs.lemmas.Str.{IsUtf8-from_is_utf8, is_utf8-from_IsUtf8}
use Rattle.std.proofs.lemmas.Bool.Decides.{nat_tests}
use Rattle.serde_json.specs.Data.{Data}
use Rattle.serde_json.specs.Read.{read}
use Rattle.station_reader.specs.declared.refusal.RefusedKind.{RefusedKind}
use Rattle.station_reader.specs.declared.refusal.RefusedKind.TheVariants.{NotJson}
use Rattle.station_reader.specs.declared.refusal.StationFault.{StationFault}
use Rattle.station_reader.specs.declared.refusal.StationFault.TheVariants.{Memory, Refused as RefusedFault}
use Rattle.station_reader.specs.declared.place.Spot.TheVariants.{Top}
use Rattle.station_reader.specs.PlaceText.{spot_text}
use Rattle.station_reader.specs.Shape.{edition}
use Rattle.station_reader.specs.Reading.{Reading, refused, reading, reading_in, reading_of, tree_of}
use Rattle.station_reader.specs.Answers.{Answers, IsRefusal}

not_long : (bytes : List ℕ) → length bytes ≤ 16_777_216 → nat_le (length bytes) 16_777_216 ≡ true
not_long bytes h = grind (arith, nat_tests)

chosen_then : (b : Bool) (x y : Reading) → b ≡ true → cond b x y ≡ x
chosen_then true x y e = refl
chosen_then false x y e = absurd (true≢false (sym e))

picked_then : (b : Bool) (x y : Option Data) → b ≡ true → x ≡ y → cond b x None ≡ y
picked_then true x y e is = is
picked_then false x y e is = absurd (true≢false (sym e))

tree_is : (bytes : List ℕ) (d : Data) → IsUtf8 bytes → read bytes ≡ Some d → tree_of bytes ≡ Some d
tree_is bytes d utf8 is = picked_then (is_utf8 bytes) (read bytes) (Some d) (is_utf8-from_IsUtf8 bytes utf8) is

pub reading-tree : (bytes : List ℕ) (d : Data) → length bytes ≤ 16_777_216 → IsUtf8 bytes → read bytes ≡ Some d → reading bytes ≡ reading_in d (edition d)
reading-tree bytes d h utf8 is = chosen_then _ _ _ (not_long bytes h) ∙ ap reading_of (tree_is bytes d utf8 is)

no_tree : (bytes : List ℕ) (b : Bool) → is_utf8 bytes ≡ b → (IsUtf8 bytes → read bytes ≡ None) → cond b (read bytes) None ≡ None
no_tree bytes true is none = none (IsUtf8-from_is_utf8 bytes is)
no_tree bytes false is none = refl

pub reading-none : (bytes : List ℕ) → length bytes ≤ 16_777_216 → (IsUtf8 bytes → read bytes ≡ None) → reading bytes ≡ refused NotJson (spot_text Top)
reading-none bytes h none = chosen_then _ _ _ (not_long bytes h) ∙ ap reading_of (no_tree bytes (is_utf8 bytes) refl none)

pub answers-refusal : (r : Reading) (kind : RefusedKind) (place : List ℕ) (f : StationFault) → r ≡ refused kind place → IsRefusal kind place f → Answers r (Err f)
answers-refusal r kind place Memory is same = tt
answers-refusal r kind place (RefusedFault g) is same = rw (same.0, same.1) is
