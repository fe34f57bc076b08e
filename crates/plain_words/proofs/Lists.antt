-- Tests and sums of a mapped list.
use Rattle.std.proofs.Common.{◌≡◌, Bool, ◌&&◌, ◌||◌, List, [], ◌∷◌, ◌++◌, map, refl, ap}
use Rattle.std.specs.List.{list_all, list_any, flat_map}

pub all_of_mapped : {X Y : Type 0} (p : Y → Bool) (f : X → Y) (xs : List X) → list_all p (map f xs) ≡ list_all (λ x. p (f x)) xs
all_of_mapped p f [] = refl
all_of_mapped p f (x ∷ xs) = ap (λ b. p (f x) && b) (all_of_mapped p f xs)

pub any_of_mapped : {X Y : Type 0} (p : Y → Bool) (f : X → Y) (xs : List X) → list_any p (map f xs) ≡ list_any (λ x. p (f x)) xs
any_of_mapped p f [] = refl
any_of_mapped p f (x ∷ xs) = ap (λ b. p (f x) || b) (any_of_mapped p f xs)

pub mapped_twice : {X Y Z : Type 0} (g : Y → Z) (f : X → Y) (xs : List X) → map g (map f xs) ≡ map (λ x. g (f x)) xs
mapped_twice g f [] = refl
mapped_twice g f (x ∷ xs) = ap (λ zs. g (f x) ∷ zs) (mapped_twice g f xs)

pub flat_map_of_mapped : {X Y Z : Type 0} (g : Y → List Z) (f : X → Y) (xs : List X) → flat_map g (map f xs) ≡ flat_map (λ x. g (f x)) xs
flat_map_of_mapped g f [] = refl
flat_map_of_mapped g f (x ∷ xs) = ap (λ zs. g (f x) ++ zs) (flat_map_of_mapped g f xs)
