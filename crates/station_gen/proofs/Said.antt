-- What version 1 leaves out, the station does not have.
use Rattle.std.proofs.Common.{◌≡◌, ℕ, Bool, true, false, ◌&&◌, ◌==◌, if◌then◌else◌, Option, Some, slice_get, refl, is_some}
use borrow.Author.Tests.{eqb-true}
use Rattle.std.specs.Prelude.{⊤}
use Rattle.std.specs.List.{list_all}
use Rattle.station.specs.declared.part.Platform.{Platform}
use Rattle.station.specs.declared.part.Train.{Train}
use Rattle.station.specs.Allowed.{StationRecord}
use Rattle.station.proofs.Tests.{left, right}
use Rattle.station_gen.specs.declared.version.Version.{Version}
use Rattle.station_gen.specs.declared.version.Version.TheVariants.{One, Two}
use Rattle.station_gen.specs.Json.{has_no_buffer, runs_through, version_of}
use Rattle.station_gen.proofs.Tested.{passes-at}

-- a number that only version 2 has
abbrev pub NumberSaid : Version → ℕ → Type 0
NumberSaid One n = n ≡ 0
NumberSaid Two n = ⊤

-- a direction that only version 2 may lack
abbrev pub EndSaid : Version → Option ℕ → Type 0
EndSaid One o = is_some o ≡ true
EndSaid Two o = ⊤

-- the version can say the station
pub record IsSaid (v : Version) (r : StationRecord) : Type 0 where
  pub price : NumberSaid v r.buffer_price
  pub buffer : (i : ℕ) (p : Platform) → slice_get r.platforms i ≡ Some p → NumberSaid v p.buffer
  pub comes : (i : ℕ) (t : Train) → slice_get r.trains i ≡ Some t → EndSaid v t.from
  pub goes : (i : ℕ) (t : Train) → slice_get r.trains i ≡ Some t → EndSaid v t.to

said-as : (r : StationRecord) (a b c : Bool) → (r.buffer_price == 0) ≡ a → list_all has_no_buffer r.platforms ≡ b → list_all runs_through r.trains ≡ c
    → IsSaid (if (a && b) && c then One else Two) r
said-as r false b c e f g = record { price = tt; buffer = λ i p is. tt; comes = λ i t is. tt; goes = λ i t is. tt }
said-as r true false c e f g = record { price = tt; buffer = λ i p is. tt; comes = λ i t is. tt; goes = λ i t is. tt }
said-as r true true false e f g = record { price = tt; buffer = λ i p is. tt; comes = λ i t is. tt; goes = λ i t is. tt }
said-as r true true true e f g = record {
  price = eqb-true r.buffer_price 0 e;
  buffer = λ i p is. eqb-true p.buffer 0 (passes-at has_no_buffer r.platforms i p f is);
  comes = λ i t is. left (is_some t.from) (is_some t.to) (passes-at runs_through r.trains i t g is);
  goes = λ i t is. right (is_some t.from) (is_some t.to) (passes-at runs_through r.trains i t g is);
}

pub said : (r : StationRecord) → IsSaid (version_of r) r
unfolding version_of
said r = said-as r (r.buffer_price == 0) (list_all has_no_buffer r.platforms) (list_all runs_through r.trains) refl refl refl
