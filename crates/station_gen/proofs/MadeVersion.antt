-- Version 1 can say each generated station.
use Rattle.std.proofs.Common.{◌≡◌, ℕ, ◌*◌, Bool, true, ◌&&◌, if◌then◌else◌, refl, ap, ◌∙◌, subst}
use Rattle.std.specs.List.{list_all}
use Rattle.station.specs.declared.part.Train.{Train}
use Rattle.station_gen.specs.declared.version.Version.TheVariants.{One, Two}
use Rattle.station_gen.specs.Json.{has_no_buffer, runs_through, version_of}
use Rattle.station_gen.specs.Made.{state_after, regular, dummy, made_platforms, made_train, made_trains, made_station}
use Rattle.station_gen.proofs.Kept.{train_at}
use Rattle.station_gen.proofs.Listed.{all-pass}

no_buffers : list_all has_no_buffer made_platforms ≡ true
unfolding made_platforms regular dummy
no_buffers = refl

train_through : (state k : ℕ) → runs_through (made_train state k) ≡ true
unfolding made_train
train_through state k = refl

all_through : (number n : ℕ) → list_all runs_through (made_trains number n) ≡ true
all_through number n =
    all-pass runs_through (made_trains number n)
    (λ i t is. let found = train_at number n i t is in subst (λ (x : Train). runs_through x ≡ true) found.1 (train_through (state_after number (5 * i)) i))

chosen : (a b c : Bool) → a ≡ true → b ≡ true → c ≡ true → (if (a && b) && c then One else Two) ≡ One
chosen a b c e f g =
    ap (λ x. if (x && b) && c then One else Two) e ∙ ap (λ x. if x && c then One else Two) f ∙ ap (λ x. if x then One else Two) g

pub made_version : (number n : ℕ) → version_of (made_station number n) ≡ One
unfolding version_of made_station
made_version number n = chosen true (list_all has_no_buffer made_platforms) (list_all runs_through (made_trains number n)) refl no_buffers (all_through number n)
