-- The front of a text that is long enough is read as the whole text.
use Rattle.std.proofs.Common.{◌≡◌, ℕ, ◌<◌, Bool, cond, List, length, take, IfSome, None, Some, inl, inr, sym, ◌∙◌, ap, arith, length-take}
use Rattle.std.specs.declared.option.Option.{Option}
use Rattle.std.proofs.lemmas.Bool.{lt-leb}
use Rattle.std.proofs.lemmas.Bool.Decides.{leb_tells}
use Rattle.std.proofs.lemmas.List.{take_all}
use Rattle.station_reader.specs.declared.refusal.RefusedKind.TheVariants.{Long}
use Rattle.station_reader.specs.declared.place.Spot.TheVariants.{Top}
use Rattle.station_reader.specs.PlaceText.{spot_text}
use Rattle.station_reader.specs.Reading.{Reading, refused, reading, reading_of, tree_of}
use Rattle.platform_cli.specs.Instance.{Held, IsInput, IsInstance}

longer : (bytes : List ℕ) → 16_777_216 < length bytes → reading bytes ≡ refused Long (spot_text Top)
longer bytes above =
    ap (λ (b : Bool). cond b (reading_of (tree_of bytes)) (refused Long (spot_text Top))) (lt-leb (length bytes) 16_777_216 above)

pub reading_front : (most : ℕ) (whole : List ℕ) → 16_777_216 < most → reading (take most whole) ≡ reading whole
reading_front most whole room = elim (leb_tells (length whole) 16_777_216) [
  | inl short ↦ ap reading (take_all most whole (omega (arith, short.1)))
  | inr long ↦ longer (take most whole) (omega (arith, length-take most whole, long.1)) ∙ sym (longer whole long.1)
]

front_reading : (known : Option (List ℕ)) (most : ℕ) (bytes : List ℕ) (is : Reading) → 16_777_216 < most → IfSome known (λ whole. bytes ≡ take most whole) → reading bytes ≡ is → IfSome known (λ whole. reading whole ≡ is)
front_reading None most bytes is room front read = tt
front_reading (Some whole) most bytes is room front read = sym (reading_front most whole room) ∙ ap reading (sym front) ∙ read

-- what was read of an input is what the instance is read as
pub instance_read : (tells : Bool) (held : Held) (name : List ℕ) (most : ℕ) (bytes : List ℕ) (is : Reading) → 16_777_216 < most → IsInput tells held name most bytes → reading bytes ≡ is → IsInstance tells held name is
instance_read tells held name most bytes is room input read = record {
  whole = front_reading (held name) most bytes is room input.front read;
  told = input.told;
  bytes = bytes;
  read = read;
}
