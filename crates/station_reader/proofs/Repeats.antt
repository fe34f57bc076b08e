-- The first name that stands again, a step at a time.
use Rattle.std.proofs.Common.{◌≡◌, ℕ, ◌+◌, ◌<◌, List, [], ◌∷◌, length, map, take, drop, get_or, true, false, Option, Some, refl, ap, not, bytes_eq, ◌||◌, add-one, drop-cons}
use Rattle.std.specs.List.{list_any}
use Rattle.std.proofs.lemmas.List.{take-map}
use Rattle.serde_json.specs.View.{view}
use Rattle.serde_json.specs.declared.value.Value.{Value}
use Rattle.station_reader.specs.declared.form.Naming.{Naming}
use Rattle.station_reader.specs.First.{each_from, unless, occurs}
use Rattle.station_reader.specs.Naming.{named}
use Rattle.station_reader.specs.Classes.{repeat}

abbrev pub names_seen : Naming → List Value → List (List ℕ)
names_seen naming vs = map (named naming) (map view vs)

-- the search from place i on
abbrev pub repeats_from : Naming → List Value → ℕ → Option ℕ
repeats_from naming vs i = each_from (λ j n. unless (not (occurs n (take j (names_seen naming vs)))) j) i (map (named naming) (map view (drop i vs)))

pub repeats_from-start : (naming : Naming) (vs : List Value) → repeat (names_seen naming vs) ≡ repeats_from naming vs 0
unfolding repeat
repeats_from-start naming vs = refl

pub repeats_from-here : (naming : Naming) (vs : List Value) (i : ℕ) (v : Value) → i < length vs → v ≡ get_or vs i v
    → occurs (named naming (view v)) (take i (names_seen naming vs)) ≡ true → repeats_from naming vs i ≡ Some i
repeats_from-here naming vs i v h is again = rw (drop-cons vs i v, ← is, again)

pub repeats_from-later : (naming : Naming) (vs : List Value) (i : ℕ) (v : Value) → i < length vs → v ≡ get_or vs i v
    → occurs (named naming (view v)) (take i (names_seen naming vs)) ≡ false → repeats_from naming vs i ≡ repeats_from naming vs (i + 1)
repeats_from-later naming vs i v h is new = rw (add-one, drop-cons vs i v, ← is, new)

pub occurs-map : (name : List ℕ) (naming : Naming) (vs : List Value) → list_any (λ v. bytes_eq name (named naming (view v))) vs ≡ occurs name (names_seen naming vs)
unfolding occurs
occurs-map name naming [] = refl
occurs-map name naming (v ∷ vs) = ap (λ b. bytes_eq name (named naming (view v)) || b) (occurs-map name naming vs)

pub names_seen-take : (naming : Naming) (n : ℕ) (vs : List Value) → names_seen naming (take n vs) ≡ take n (names_seen naming vs)
names_seen-take naming n vs = rw (take-map (named naming) n (map view vs), take-map view n vs)
