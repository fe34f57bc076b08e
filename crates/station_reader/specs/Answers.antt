-- What an answer of the reader says.
use Rattle.std.specs.Prelude.{◌≡◌, ℕ, List, Result, Ok, Err, ⊤}
use Rattle.station_reader.specs.declared.refusal.RefusedKind.{RefusedKind}
use Rattle.station_reader.specs.declared.refusal.StationFault.{StationFault}
use Rattle.station_reader.specs.declared.refusal.StationFault.TheVariants.{Memory, Refused as RefusedFault}
use Rattle.station.specs.declared.station.Station.{Station}
use Rattle.station.specs.Shown.{record_of}
use Rattle.station_reader.specs.Reading.{Reading, taken, refused}

-- A station only where the text is read as it, a refusal only where the text has that kind and place. Want of memory may come at any text.
abbrev pub Answers : Reading → Result Station StationFault → Type 0
Answers r (Ok s) = r ≡ taken (record_of s)
Answers r (Err Memory) = ⊤
Answers r (Err (RefusedFault f)) = r ≡ refused f.kind f.place

-- the fault is of this kind at this place, or want of memory
abbrev pub IsRefusal : RefusedKind → List ℕ → StationFault → Type 0
IsRefusal kind place Memory = ⊤
IsRefusal kind place (RefusedFault f) = (f.kind ≡ kind) × (f.place ≡ place)
