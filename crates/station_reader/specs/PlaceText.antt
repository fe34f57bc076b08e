-- The text of a place: its members and numbers from the top, each after a `/`.
use Rattle.std.specs.Prelude.{ℕ, List, ◌++◌, decimal, codes}
use Rattle.station_reader.specs.declared.place.Spot.{Spot}
use Rattle.station_reader.specs.declared.place.Spot.TheVariants.{Top, Of, Entry, Part, Field, Item, ItemPart}
use Rattle.station_reader.specs.MemberText.{member_text}

abbrev slash : List ℕ → List ℕ
slash part = codes "/" ++ part

abbrev pub spot_text : Spot → List ℕ
spot_text Top = codes "/"
spot_text (Of m) = slash (member_text m)
spot_text (Entry m i) = slash (member_text m) ++ slash (decimal i)
spot_text (Part m i j) = slash (member_text m) ++ slash (decimal i) ++ slash (decimal j)
spot_text (Field m i f) = slash (member_text m) ++ slash (decimal i) ++ slash (member_text f)
spot_text (Item m i f j) = slash (member_text m) ++ slash (decimal i) ++ slash (member_text f) ++ slash (decimal j)
spot_text (ItemPart m i f j k) =
    slash (member_text m) ++ slash (decimal i) ++ slash (member_text f) ++ slash (decimal j) ++ slash (decimal k)
