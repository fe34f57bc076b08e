-- The first failing place of several, in their order.
use Rattle.std.specs.Prelude.{ℕ, suc, List, [], ◌∷◌, Bool, true, false, Option, Some, None, bytes_eq}
use Rattle.std.specs.List.{list_any}

abbrev pub or_else : {A : Type 0} → Option A → Option A → Option A
or_else None rest = rest
or_else (Some s) rest = Some s

abbrev pub first : {A : Type 0} → List (Option A) → Option A
first [] = None
first (found ∷ rest) = or_else found (first rest)

-- the place, where the test fails
abbrev pub unless : {A : Type 0} → Bool → A → Option A
unless true s = None
unless false s = Some s

-- of each element, with its number from n
abbrev pub each_from : {X A : Type 0} → (ℕ → X → Option A) → ℕ → List X → Option A
each_from fault n [] = None
each_from fault n (x ∷ xs) = or_else (fault n x) (each_from fault (suc n) xs)

-- of each element, with its number
abbrev pub each : {X A : Type 0} → (ℕ → X → Option A) → List X → Option A
each fault xs = each_from fault 0 xs

-- the name is among the names
unfoldable pub occurs : List ℕ → List (List ℕ) → Bool
occurs name names = list_any (bytes_eq name) names
