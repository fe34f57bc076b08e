-- Lists that are made of a list's entries, one after another.
use Rattle.std.proofs.Common.{◌≡◌, ℕ, zero, suc, ◌+◌, ◌<◌, ◌≤◌, List, [], ◌∷◌, ◌++◌, length, map, take, get_or, Some, sym, ap, ◌∙◌, arith, bytes_eq, slice_get}
use Rattle.std.proofs.lemmas.List.{take_more, take_all, map-append}
use Rattle.std.specs.Prelude.{position}
use Rattle.serde_json.specs.Data.{Data}
use Rattle.serde_json.specs.View.{view}
use Rattle.serde_json.specs.declared.value.Value.{Value}
use Rattle.station_reader.specs.declared.form.Naming.{Naming}
use Rattle.station_reader.specs.Naming.{named}
use Rattle.station_reader.specs.Passes.{Each}
use Rattle.station.proofs.Lists.{position-made}

pub slice_get-view : (vs : List Value) (i : ℕ) (v : Value) → i < length vs → v ≡ get_or vs i v → slice_get (map view vs) i ≡ Some (view v)
slice_get-view [] i v h is = absurd (omega arith)
slice_get-view (x ∷ vs) zero v h is = ap (λ y. Some (view y)) (sym is)
slice_get-view (x ∷ vs) (suc i) v h is = slice_get-view vs i v (omega arith) is

-- what is known of each entry, at the entry of a turn
pub Each-at : (P : Data → Type 0) (vs : List Value) (i : ℕ) (v : Value) → Each P (map view vs) → i < length vs → v ≡ get_or vs i v → P (view v)
Each-at P vs i v all h is = all i (view v) (slice_get-view vs i v h is)

-- one more
pub made-step : {A : Type 0} (f : Data → A) (vs : List Value) (i : ℕ) (v : Value) (made : List A) → made ≡ map f (map view (take i vs)) → i < length vs → v ≡ get_or vs i v
    → made ++ f (view v) ∷ [] ≡ map f (map view (take (i + 1) vs))
made-step f vs i v made so_far h is = rw (take_more vs i v h, ← is, map-append view (take i vs) (v ∷ []), map-append f (map view (take i vs)) (view v ∷ []), so_far)

-- all
pub made-all : {A : Type 0} (f : Data → A) (vs : List Value) (n : ℕ) (made : List A) → made ≡ map f (map view (take n vs)) → length vs ≤ n → made ≡ map f (map view vs)
made-all f vs n made so_far h = so_far ∙ rw (take_all n vs h)

pub position-named : (name : List ℕ) (naming : Naming) (vs : List Value) → position (λ v. bytes_eq name (named naming (view v))) vs ≡ position (bytes_eq name) (map (named naming) (map view vs))
position-named name naming vs =
    position-made (λ d. bytes_eq name (named naming d)) view vs ∙ position-made (bytes_eq name) (named naming) (map view vs)
