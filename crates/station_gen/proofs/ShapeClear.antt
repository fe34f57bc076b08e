-- The tree of a station has the form of its version.
use Rattle.std.proofs.Common.{◌≡◌, ℕ, List, [], ◌∷◌, map, true, Option, Some, None, refl, sym, ap, ◌∙◌, is_some, option_and_then, true≢false, ℤ, pos, negsuc}
use Rattle.serde_json.specs.Data.{Data, string}
use Rattle.serde_json.specs.Find.{as_array}
use Rattle.station_reader.specs.declared.member.Member.{Member}
use Rattle.station_reader.specs.declared.member.Member.TheVariants.{Threshold, ConflictPrice, BufferPrice, Directions, Platforms, Paths, Incompatible, Trains, Prefer, Surcharges, From, To, Arrive, Depart}
use Rattle.station_reader.specs.declared.place.Spot.{Spot}
use Rattle.station_reader.specs.declared.place.Spot.TheVariants.{Of}
use Rattle.station_reader.specs.declared.form.Edition.{Edition}
use Rattle.station_reader.specs.declared.form.Kind.TheVariants.{Integer, Texts, Charges}
use Rattle.station.specs.declared.part.Platform.{Platform}
use Rattle.station.specs.declared.part.Path.{Path}
use Rattle.station.specs.declared.part.PathPair.{PathPair}
use Rattle.station.specs.declared.part.Surcharge.{Surcharge}
use Rattle.station.specs.declared.part.Train.{Train}
use Rattle.station_reader.specs.First.{unless, each, occurs}
use Rattle.station_reader.specs.Tree.{at, entries_at, whole}
use Rattle.station_reader.specs.Shape.{shape, is_object, has_only, integer_shape, list_shape, buffer_price_shape, direction_shape, pair_shape, item_shape, member_shape, members_shape, object_shape, kind_of, end_kind, platform_members, path_members, train_members}
use Rattle.station.specs.Allowed.{StationRecord}
use Rattle.station.proofs.Lists.{Every}
use Rattle.station_gen.specs.declared.version.Version.{Version}
use Rattle.station_gen.specs.declared.version.Version.TheVariants.{One, Two}
use Rattle.station_gen.specs.Json.{whole_json, minute_json, list_json, named_json, named_if_json, platform_names, platform_json, path_json, pair_json, charge_json, train_json, station_json}
use Rattle.station_gen.proofs.Listed.{list_of-items_of, neither, held, clear-made}
use Rattle.station_gen.proofs.Found.{edition_in, entries-found, at-Threshold, at-ConflictPrice, at-BufferPrice, at-Directions, at-Platforms, at-Paths, at-Incompatible, at-Trains, only-members}
use Rattle.station_gen.proofs.Said.{EndSaid, IsSaid}

-- ---- by what stands at a member

integer_clear : (m : Member) (tree : Data) (n : ℕ) → at m tree ≡ Some (whole_json n) → integer_shape m tree ≡ None
integer_clear m tree n e = ap (λ o. unless (is_some (option_and_then whole o)) (Of m)) e

list_clear : (m : Member) (fault : ℕ → Data → Option Spot) (tree : Data) (ds : List Data) → at m tree ≡ Some (list_json ds) → each fault ds ≡ None → list_shape m fault tree ≡ None
list_clear m fault tree ds e none =
    neither (unless (is_some (option_and_then as_array (at m tree))) (Of m)) (each fault (entries_at m tree))
    (ap (λ o. unless (is_some (option_and_then as_array o)) (Of m)) e)
    (ap (each fault) (entries-found m tree ds e) ∙ none)

members_clear : (e : Edition) (list : Member) (i : ℕ) (d : Data) (ms : List Member) → Every (λ m. member_shape list i m (kind_of e m) (at m d) ≡ None) ms → members_shape e list i d ms ≡ None
members_clear e list i d [] all = refl
members_clear e list i d (m ∷ ms) all = neither (member_shape list i m (kind_of e m) (at m d)) (members_shape e list i d ms) all.0 (members_clear e list i d ms all.1)

-- ---- the objects

platform_clear : (v : Version) (i : ℕ) (p : Platform) → object_shape (edition_in v) (platform_members (edition_in v)) Platforms i (platform_json v p) ≡ None
unfolding platform_json has_only occurs
platform_clear One i p = refl
platform_clear Two i p = refl

path_clear : (v : Version) (r : StationRecord) (i : ℕ) (p : Path) → object_shape (edition_in v) path_members Paths i (path_json r p) ≡ None
unfolding path_json has_only occurs
path_clear One r i p = refl
path_clear Two r i p = refl

pair_clear : (r : StationRecord) (i : ℕ) (x : PathPair) → pair_shape i (pair_json r x) ≡ None
unfolding pair_json
pair_clear r i x = refl

end_clear : (v : Version) (i : ℕ) (m : Member) (names : List (List ℕ)) (o : Option ℕ) → EndSaid v o → member_shape Trains i m (end_kind (edition_in v)) (Some (named_if_json names o)) ≡ None
end_clear One i m names None h = absurd (true≢false (sym h))
end_clear One i m names (Some n) h = refl
end_clear Two i m names None h = refl
end_clear Two i m names (Some n) h = refl

texts_clear : (i : ℕ) (m : Member) (names : List (List ℕ)) (ps : List ℕ) → member_shape Trains i m Texts (Some (list_json (map (named_json names) ps))) ≡ None
texts_clear i m names ps = ap (each (item_shape Trains i m Texts)) (list_of-items_of (map (named_json names) ps)) ∙ clear-made (item_shape Trains i m Texts) (named_json names) ps (λ j p is. refl)

charge_clear : (r : StationRecord) (i j : ℕ) (s : Surcharge) → item_shape Trains i Surcharges Charges j (charge_json r s) ≡ None
unfolding charge_json
charge_clear r i j s = refl

charges_clear : (r : StationRecord) (i : ℕ) (ss : List Surcharge) → member_shape Trains i Surcharges Charges (Some (list_json (map (charge_json r) ss))) ≡ None
charges_clear r i ss =
    ap (each (item_shape Trains i Surcharges Charges)) (list_of-items_of (map (charge_json r) ss))
    ∙ clear-made (item_shape Trains i Surcharges Charges) (charge_json r) ss (λ j s is. charge_clear r i j s)

minute_clear : (i : ℕ) (m : Member) (z : ℤ) → member_shape Trains i m Integer (Some (minute_json z)) ≡ None
minute_clear i m (pos n) = refl
minute_clear i m (negsuc n) = refl

train_members_clear : (v : Version) (r : StationRecord) (i : ℕ) (t : Train) → EndSaid v t.from → EndSaid v t.to → members_shape (edition_in v) Trains i (train_json r t) train_members ≡ None
unfolding train_json
train_members_clear v r i t comes goes =
    members_clear (edition_in v) Trains i (train_json r t) train_members (
      refl,
      (
        end_clear v i From r.directions t.from comes,
        (
          end_clear v i To r.directions t.to goes,
          (
            minute_clear i Arrive t.arrive,
            (
              minute_clear i Depart t.depart,
              (
                refl,
                (
                  refl,
                  (
                    refl,
                    (
                      refl,
                      (
                        refl,
                        (texts_clear i Platforms (platform_names r) t.platforms, (texts_clear i Prefer (platform_names r) t.prefer, (refl, (refl, (charges_clear r i t.surcharges, tt))))),
                      ),
                    ),
                  ),
                ),
              ),
            ),
          ),
        ),
      ),
    )

train_only : (r : StationRecord) (t : Train) → has_only train_members (train_json r t) ≡ true
unfolding train_json has_only occurs
train_only r t = refl

train_is_object : (r : StationRecord) (t : Train) → is_object (train_json r t) ≡ true
unfolding train_json
train_is_object r t = refl

train_clear : (v : Version) (r : StationRecord) (i : ℕ) (t : Train) → EndSaid v t.from → EndSaid v t.to → object_shape (edition_in v) train_members Trains i (train_json r t) ≡ None
train_clear v r i t comes goes =
    neither _ _ (held _ _ (train_is_object r t)) (neither _ _ (train_members_clear v r i t comes goes) (neither _ _ (held _ _ (train_only r t)) refl))

-- ---- the station

buffer_price_clear : (v : Version) (r : StationRecord) → buffer_price_shape (edition_in v) (station_json v r) ≡ None
buffer_price_clear One r = refl
buffer_price_clear Two r = integer_clear BufferPrice (station_json Two r) r.buffer_price (at-BufferPrice r)

pub shape_clear : (v : Version) (r : StationRecord) → IsSaid v r → shape (edition_in v) (station_json v r) ≡ None
unfolding shape
shape_clear v r said =
    let tree = station_json v r in
    neither _ _ (integer_clear Threshold tree r.threshold (at-Threshold v r))
    (neither _ _ (integer_clear ConflictPrice tree r.conflict_price (at-ConflictPrice v r))
    (neither _ _ (buffer_price_clear v r)
    (neither _ _ (list_clear Directions direction_shape tree (map string r.directions) (at-Directions v r) (clear-made direction_shape string r.directions (λ i n is. refl)))
    (neither _ _ (list_clear Platforms (object_shape (edition_in v) (platform_members (edition_in v)) Platforms) tree (map (platform_json v) r.platforms) (at-Platforms v r)
    (clear-made (object_shape (edition_in v) (platform_members (edition_in v)) Platforms) (platform_json v) r.platforms (λ i p is. platform_clear v i p)))
    (neither _ _ (list_clear Paths (object_shape (edition_in v) path_members Paths) tree (map (path_json r) r.paths) (at-Paths v r)
    (clear-made (object_shape (edition_in v) path_members Paths) (path_json r) r.paths (λ i p is. path_clear v r i p)))
    (neither _ _ (list_clear Incompatible pair_shape tree (map (pair_json r) r.incompatible) (at-Incompatible v r) (clear-made pair_shape (pair_json r) r.incompatible (λ i x is. pair_clear r i x)))
    (neither _ _ (list_clear Trains (object_shape (edition_in v) train_members Trains) tree (map (train_json r) r.trains) (at-Trains v r)
    (clear-made (object_shape (edition_in v) train_members Trains) (train_json r) r.trains (λ i t is. train_clear v r i t (said.comes i t is) (said.goes i t is))))
    (neither _ _ (held _ _ (only-members v r)) refl))))))))
