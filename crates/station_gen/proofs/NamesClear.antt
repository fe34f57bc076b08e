-- The declared names of the tree of a station are names, and none stands twice.
use Rattle.std.proofs.Common.{◌≡◌, ℕ, zero, suc, ◌<◌, List, [], ◌∷◌, map, take, length, Bool, true, false, not, Some, None, option_map, slice_get, slice_index_or, refl, sym, ap, ◌∙◌, arith, bytes_eq, ◌⊎◌, inl, inr}
use Rattle.std.specs.List.{list_any}
use Rattle.std.proofs.lemmas.Slice.Eq.{bytes_eq-Decides}
use Rattle.serde_json.specs.Data.{string}
use Rattle.station_reader.specs.declared.member.Member.TheVariants.{Directions, Platforms, Paths, Trains, Name, Prefer, Surcharges}
use Rattle.station_reader.specs.declared.place.Spot.{Spot}
use Rattle.station_reader.specs.declared.place.Spot.TheVariants.{Entry, Field, Item, ItemPart}
use Rattle.station.specs.declared.part.Platform.{Platform}
use Rattle.station.specs.declared.part.Path.{Path}
use Rattle.station.specs.declared.part.Surcharge.{Surcharge}
use Rattle.station.specs.declared.part.Train.{Train}
use Rattle.station.specs.Named.{is_name}
use Rattle.station_reader.specs.First.{unless, each, occurs}
use Rattle.station_reader.specs.Tree.{entries_at, text, texts, text_at}
use Rattle.station_reader.specs.Classes.{direction_name, entry_name, name, names, repeat, again, charged_name, charged_names, train_double, double}
use Rattle.station.specs.Allowed.{StationRecord}
use Rattle.station.specs.Station.{AllDiffer, ArePlatforms, IsStation, charged}
use Rattle.station.proofs.Lists.{any-found, mapped, map-at, length-made}
use Rattle.station_gen.specs.declared.version.Version.{Version}
use Rattle.station_gen.specs.declared.version.Version.TheVariants.{One, Two}
use Rattle.station_gen.specs.Json.{named_json, platform_names, platform_json, path_json, charge_json, train_json, station_json}
use Rattle.station_gen.proofs.Listed.{neither, held, clear, clear-made, map-map, name-at}
use Rattle.station_gen.proofs.Found.{entries-Directions, entries-Platforms, entries-Paths, entries-Trains, direction-names, platform-names, path-names, train-names, entries-train-Platforms, entries-train-Prefer, entries-train-Surcharges}

-- ---- names

platform_named : (v : Version) (i : ℕ) (p : Platform) → is_name p.name ≡ true → entry_name Platforms i (platform_json v p) ≡ None
unfolding platform_json
platform_named One i p h = held (is_name p.name) (Field Platforms i Name) h
platform_named Two i p h = held (is_name p.name) (Field Platforms i Name) h

path_named : (r : StationRecord) (i : ℕ) (p : Path) → is_name p.name ≡ true → entry_name Paths i (path_json r p) ≡ None
unfolding path_json
path_named r i p h = held (is_name p.name) (Field Paths i Name) h

train_named : (r : StationRecord) (i : ℕ) (t : Train) → is_name t.name ≡ true → entry_name Trains i (train_json r t) ≡ None
unfolding train_json
train_named r i t h = held (is_name t.name) (Field Trains i Name) h

pub name_clear : (v : Version) (r : StationRecord) → IsStation r → name (station_json v r) ≡ None
unfolding name
name_clear v r k =
    neither _ _ (ap (each direction_name) (entries-Directions v r) ∙ clear-made direction_name string r.directions (λ i n is. held (is_name n) (Entry Directions i) (k.direction i n is)))
    (neither _ _ (ap (each (entry_name Platforms)) (entries-Platforms v r) ∙ clear-made (entry_name Platforms) (platform_json v) r.platforms (λ i p is. platform_named v i p (k.platform i p is).name))
    (neither _ _ (ap (each (entry_name Paths)) (entries-Paths v r) ∙ clear-made (entry_name Paths) (path_json r) r.paths (λ i p is. path_named r i p (k.path i p is).name))
    (neither _ _ (ap (each (entry_name Trains)) (entries-Trains v r) ∙ clear-made (entry_name Trains) (train_json r) r.trains (λ i t is. train_named r i t (k.train i t is).name)) refl)))

-- ---- no name before it

take-place : {X : Type 0} (n : ℕ) (xs : List X) (i : ℕ) (x : X) → slice_get (take n xs) i ≡ Some x → (i < n) × (slice_get xs i ≡ Some x)
take-place zero xs i x is = absurd (cc)
take-place (suc n) [] i x is = absurd (cc)
take-place (suc n) (y ∷ xs) zero x is = (omega arith, is)
take-place (suc n) (y ∷ xs) (suc i) x is = let rest = take-place n xs i x is in (omega (arith, rest.0), rest.1)

new-by : (b : Bool) → (b ≡ true → ⊥) → not b ≡ true
new-by true h = absurd (h refl)
new-by false h = refl

stands-new : (ns : List (List ℕ)) → AllDiffer ns → (i : ℕ) (n : List ℕ) → slice_get ns i ≡ Some n → not (occurs n (take i ns)) ≡ true
unfolding occurs
stands-new ns apart i n is =
    new-by (list_any (bytes_eq n) (take i ns))
    (λ e.
    let found = any-found (bytes_eq n) (take i ns) e in
    let same : n ≡ found.1 = (bytes_eq-Decides n found.1).0 found.3 in
    let there = take-place i ns found.0 found.1 found.2 in
    let here : slice_get ns found.0 ≡ Some n = there.1 ∙ ap Some (sym same) in
    let clash : found.0 ≡ i = apart found.0 i n here is in
    omega (arith, clash, there.0))

pub once : (spot : ℕ → Spot) (ns : List (List ℕ)) → AllDiffer ns → again spot ns ≡ None
unfolding repeat
once spot ns apart = ap (option_map spot) (clear (λ (j : ℕ) (m : List ℕ). unless (not (occurs m (take j ns))) j) ns (λ i n is. held (not (occurs n (take i ns))) i (stands-new ns apart i n is)))

-- ---- the names of platforms that ascend

order : (i j : ℕ) → (i < j) ⊎ ((i ≡ j) ⊎ (j < i))
order zero zero = inr (inl refl)
order zero (suc j) = inl (omega arith)
order (suc i) zero = inr (inr (omega arith))
order (suc i) (suc j) = elim (order i j) [ inl h ↦ inl (omega arith) | inr (inl h) ↦ inr (inl (ap suc h)) | inr (inr h) ↦ inr (inr (omega arith)) ]

module _ (r : StationRecord) (k : IsStation r) where
  names_there : length (platform_names r) ≡ length r.platforms
  names_there = length-made (λ (p : Platform). p.name) r.platforms

  -- two numbers of the same name are one
  same-number : (p q : ℕ) → p < length r.platforms → q < length r.platforms → slice_index_or (platform_names r) p [] ≡ slice_index_or (platform_names r) q [] → p ≡ q
  same-number p q h g e =
      k.platforms_differ p q (slice_index_or (platform_names r) p []) (name-at (platform_names r) p (omega (arith, names_there)))
      (name-at (platform_names r) q (omega (arith, names_there)) ∙ ap Some (sym e))

  pub listed-differ : (ps : List ℕ) → ArePlatforms r ps → AllDiffer (map (λ p. slice_index_or (platform_names r) p []) ps)
  listed-differ ps are i j n is js =
      let x = mapped (λ p. slice_index_or (platform_names r) p []) ps i n is in
      let y = mapped (λ p. slice_index_or (platform_names r) p []) ps j n js in
      let same : x.0 ≡ y.0 = same-number x.0 y.0 (are.there i x.0 x.1) (are.there j y.0 y.1) (x.2 ∙ sym y.2) in
      elim (order i j) [
        | inl h ↦ absurd (omega (arith, are.ascending i j x.0 y.0 h x.1 y.1, same))
        | inr (inl h) ↦ h
        | inr (inr h) ↦ absurd (omega (arith, are.ascending j i y.0 x.0 h y.1 x.1, same))
      ]

pub texts-named : (names : List (List ℕ)) (ps : List ℕ) → texts (map (named_json names) ps) ≡ map (λ p. slice_index_or names p []) ps
texts-named names ps = map-map text (named_json names) ps

charge_named : (r : StationRecord) (s : Surcharge) → charged_name (charge_json r s) ≡ slice_index_or (platform_names r) s.platform []
unfolding charge_json
charge_named r s = refl

pub charged-named : (r : StationRecord) (ss : List Surcharge) → charged_names (map (charge_json r) ss) ≡ map (λ p. slice_index_or (platform_names r) p []) (charged ss)
charged-named r [] = refl
charged-named r (s ∷ ss) = ap (λ n. n ∷ charged_names (map (charge_json r) ss)) (charge_named r s) ∙ ap (λ ns. slice_index_or (platform_names r) s.platform [] ∷ ns) (charged-named r ss)

train_text : (r : StationRecord) (t : Train) → text_at Name (train_json r t) ≡ t.name
unfolding train_json
train_text r t = refl

train_once : (r : StationRecord) → IsStation r → (i : ℕ) (t : Train) → slice_get r.trains i ≡ Some t → train_double (map (λ x. x.name) r.trains) i (train_json r t) ≡ None
train_once r k i t is =
    let kept = k.train i t is in
    let ns = map (λ (x : Train). x.name) r.trains in
    let new : not (occurs t.name (take i ns)) ≡ true = stands-new ns k.trains_differ i t.name (map-at (λ (x : Train). x.name) r.trains i t is) in
    neither _ _ (ap (λ n. unless (not (occurs n (take i ns))) (Field Trains i Name)) (train_text r t) ∙ held (not (occurs t.name (take i ns))) (Field Trains i Name) new)
    (neither _ _ (ap (λ ds. again (Item Trains i Platforms) (texts ds)) (entries-train-Platforms r t) ∙ ap (again (Item Trains i Platforms)) (texts-named (platform_names r) t.platforms)
    ∙ once (Item Trains i Platforms) (map (λ p. slice_index_or (platform_names r) p []) t.platforms) (listed-differ r k t.platforms kept.platforms))
    (neither _ _ (ap (λ ds. again (Item Trains i Prefer) (texts ds)) (entries-train-Prefer r t) ∙ ap (again (Item Trains i Prefer)) (texts-named (platform_names r) t.prefer)
    ∙ once (Item Trains i Prefer) (map (λ p. slice_index_or (platform_names r) p []) t.prefer) (listed-differ r k t.prefer kept.prefer))
    (neither _ _ (ap (λ ds. again (λ j. ItemPart Trains i Surcharges j 0) (charged_names ds)) (entries-train-Surcharges r t) ∙ ap (again (λ j. ItemPart Trains i Surcharges j 0)) (charged-named r t.surcharges)
    ∙ once (λ j. ItemPart Trains i Surcharges j 0) (map (λ p. slice_index_or (platform_names r) p []) (charged t.surcharges)) (listed-differ r k (charged t.surcharges) kept.surcharges)) refl)))

pub double_clear : (v : Version) (r : StationRecord) → IsStation r → double (station_json v r) ≡ None
unfolding double
double_clear v r k =
    neither _ _ (ap (again (Entry Directions)) (direction-names v r) ∙ once (Entry Directions) r.directions k.directions_differ)
    (neither _ _ (ap (again (λ i. Field Platforms i Name)) (platform-names v r) ∙ once (λ i. Field Platforms i Name) (platform_names r) k.platforms_differ)
    (neither _ _ (ap (again (λ i. Field Paths i Name)) (path-names v r) ∙ once (λ i. Field Paths i Name) (map (λ p. p.name) r.paths) k.paths_differ)
    (neither _ _ (ap (λ ns. each (train_double ns) (entries_at Trains (station_json v r))) (train-names v r) ∙ ap (each (train_double (map (λ x. x.name) r.trains))) (entries-Trains v r)
    ∙ clear-made (train_double (map (λ x. x.name) r.trains)) (train_json r) r.trains (train_once r k)) refl)))
