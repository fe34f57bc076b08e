-- The names in a generated station are names.
use Rattle.std.proofs.Common.{◌≡◌, ℕ, ◌+◌, ◌<◌, [], ◌++◌, Bool, true, ◌&&◌, refl, slice_index_or}
use Rattle.std.specs.Prelude.{codes, decimal}
use Rattle.std.specs.Fmt.{digits}
use Rattle.std.specs.List.{list_all}
use Rattle.station.specs.declared.part.PathWay.{PathWay}
use Rattle.station.specs.declared.part.PathWay.TheVariants.{In, Out}
use Rattle.station.specs.Named.{is_name, is_name_byte}
use Rattle.station.specs.Allowed.{numbers}
use Rattle.station.proofs.Tests.{left, right}
use Rattle.station_gen.specs.Made.{made_directions, path_name}
use Rattle.station_gen.proofs.Tested.{passes-below}

names-direction : list_all (λ d. is_name (slice_index_or made_directions d [])) (numbers 4) ≡ true
unfolding is_name is_name_byte made_directions
names-direction = refl

pub name_direction : (d : ℕ) → d < 4 → is_name (slice_index_or made_directions d []) ≡ true
name_direction d h = passes-below (λ k. is_name (slice_index_or made_directions k [])) 4 d names-direction h

names-regular : list_all (λ p. is_name (decimal (p + 1))) (numbers 5) ≡ true
unfolding is_name is_name_byte digits
names-regular = refl

pub name_regular : (p : ℕ) → p < 5 → is_name (decimal (p + 1)) ≡ true
name_regular p h = passes-below (λ k. is_name (decimal (k + 1))) 5 p names-regular h

pub name_dummy : is_name (codes "D") ≡ true
unfolding is_name is_name_byte
name_dummy = refl

abbrev path_test : ℕ → ℕ → Bool
path_test d p = is_name (path_name d p In) && is_name (path_name d p Out)

names-path : list_all (λ d. list_all (path_test d) (numbers 5)) (numbers 4) ≡ true
unfolding is_name is_name_byte made_directions digits
names-path = refl

pub name_path : (d p : ℕ) (way : PathWay) → d < 4 → p < 5 → is_name (path_name d p way) ≡ true
name_path d p In h k = left _ _ (passes-below (path_test d) 5 p (passes-below (λ e. list_all (path_test e) (numbers 5)) 4 d names-path h) k)
name_path d p Out h k = right (is_name (path_name d p In)) (is_name (path_name d p Out)) (passes-below (path_test d) 5 p (passes-below (λ e. list_all (path_test e) (numbers 5)) 4 d names-path h) k)

names-train : list_all (λ k. is_name (codes "T" ++ decimal k)) (numbers 200) ≡ true
unfolding is_name is_name_byte digits
names-train = refl

pub name_train : (k : ℕ) → k < 200 → is_name (codes "T" ++ decimal k) ≡ true
name_train k h = passes-below (λ j. is_name (codes "T" ++ decimal j)) 200 k names-train h
