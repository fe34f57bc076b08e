-- The names of a table, an entry at a time.
use Rattle.std.proofs.Common.{◌≡◌, ℕ, ◌+◌, ◌<◌, List, [], ◌∷◌, length, map, take, get_or, Bool, false, ◌∙◌, bytes_eq}
use Rattle.std.specs.Borrow.{Bor}
use Rattle.std.specs.List.{list_any}
use Rattle.std.proofs.lemmas.List.{map-append}
use Rattle.serde_json.specs.View.{view}
use Rattle.serde_json.specs.declared.value.Value.{Value}
use Rattle.indexmap.specs.IndexSet.{insert_key}
use Rattle.station_reader.specs.declared.form.Naming.{Naming}
use Rattle.station_reader.specs.First.{occurs}
use Rattle.station_reader.specs.Naming.{named}
use Rattle.station_reader.specs.Passes.{AllNew}
use Rattle.station.proofs.Lists.{any-made, map-at}
use Rattle.station_reader.proofs.Made.{slice_get-view, made-step}
use Rattle.station_reader.proofs.Repeats.{names_seen-take}

abbrev pub texts_of : List (Bor (List ℕ)) → List (List ℕ)
texts_of keys = map (λ s. s.now) keys

abbrev pub same_text : Bor (List ℕ) → Bor (List ℕ) → Bool
same_text a b = bytes_eq a.now b.now

-- the name of the entry of this turn is none of those before it
fresh : (naming : Naming) (vs : List Value) (i : ℕ) (v : Value) (keys : List (Bor (List ℕ))) (k : Bor (List ℕ)) → AllNew (map (named naming) (map view vs)) → i < length vs → v ≡ get_or vs i v
    → texts_of keys ≡ map (named naming) (map view (take i vs)) → k.now ≡ named naming (view v) → list_any (same_text k) keys ≡ false
unfolding occurs
fresh naming vs i v keys k new h is so_far name =
    any-made (bytes_eq k.now) (λ (s : Bor (List ℕ)). s.now) keys
    ∙ rw (so_far, names_seen-take naming i vs, name)
    (new i (named naming (view v)) (map-at (named naming) (map view vs) i (view v) (slice_get-view vs i v h is)))

pub inserted : (naming : Naming) (vs : List Value) (i : ℕ) (v : Value) (keys more : List (Bor (List ℕ))) (k : Bor (List ℕ)) → AllNew (map (named naming) (map view vs)) → i < length vs → v ≡ get_or vs i v
    → texts_of keys ≡ map (named naming) (map view (take i vs)) → k.now ≡ named naming (view v) → more ≡ insert_key same_text keys k
    → texts_of more ≡ map (named naming) (map view (take (i + 1) vs))
inserted naming vs i v keys more k new h is so_far name made =
    rw (made, fresh naming vs i v keys k new h is so_far name, map-append (λ (s : Bor (List ℕ)). s.now) keys (k ∷ []), name)
    (made-step (named naming) vs i v (texts_of keys) so_far h is)
