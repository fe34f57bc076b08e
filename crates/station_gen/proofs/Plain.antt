-- The tree of a station has no float and nests no deeper than it may.
use Rattle.std.proofs.Common.{◌≡◌, ℕ, suc, ◌≤◌, List, [], ◌∷◌, map, Bool, false, ◌||◌, Option, Some, None, refl, ap, ◌∙◌, arith, ℤ, pos, negsuc, slice_index_or}
use Rattle.std.specs.Prelude.{codes}
use Rattle.serde_json.specs.Data.{Data, string, boolean, depth, items_depth, members_depth}
use Rattle.serde_json.specs.View.{items_of}
use Rattle.serde_json.specs.Written.{has_float, items_have_float, members_have_float}
use Rattle.station.specs.declared.part.Platform.{Platform}
use Rattle.station.specs.declared.part.Path.{Path}
use Rattle.station.specs.declared.part.PathPair.{PathPair}
use Rattle.station.specs.declared.part.Surcharge.{Surcharge}
use Rattle.station.specs.declared.part.Train.{Train}
use Rattle.station.specs.Allowed.{StationRecord}
use Rattle.station.proofs.Lists.{Every}
use Rattle.station_gen.specs.declared.version.Version.{Version}
use Rattle.station_gen.specs.declared.version.Version.TheVariants.{One, Two}
use Rattle.station_gen.specs.Json.{members_of_platform, members_of_path, members_of_train, main_members, members_of_station, version_number, way_text, whole_json, minute_json, list_json, members_json, object_json, named_json, named_if_json, platform_names, path_names, platforms_json, platform_json, path_json, pair_json, charge_json, train_json, station_json}

pub record IsPlain (n : ℕ) (d : Data) : Type 0 where
  pub float : has_float d ≡ false
  pub nests : depth d ≤ n

neither_has : (a b : Bool) → a ≡ false → b ≡ false → (a || b) ≡ false
neither_has a b e f = ap (λ c. c || b) e ∙ f

items_plain : {X : Type 0} (n : ℕ) (f : X → Data) → ((x : X) → IsPlain n (f x)) → (xs : List X) → (items_have_float (items_of (map f xs)) ≡ false) × (items_depth (items_of (map f xs)) ≤ n)
items_plain n f each [] = (refl, omega arith)
items_plain n f each (x ∷ xs) =
    let rest = items_plain n f each xs in
    (neither_has (has_float (f x)) (items_have_float (items_of (map f xs))) (each x).float rest.0, omega (arith, (each x).nests, rest.1))

list_plain : {X : Type 0} (n : ℕ) (f : X → Data) → ((x : X) → IsPlain n (f x)) → (xs : List X) → IsPlain (suc n) (list_json (map f xs))
list_plain n f each xs = let all = items_plain n f each xs in record { float = all.0; nests = omega (arith, all.1) }

members_plain : (n : ℕ) (ms : List (List ℕ × Data)) → Every (λ m. IsPlain n m.1) ms → (members_have_float (members_json ms) ≡ false) × (members_depth (members_json ms) ≤ n)
members_plain n [] all = (refl, omega arith)
members_plain n ((name, d) ∷ ms) all =
    let rest = members_plain n ms all.1 in
    (neither_has (has_float d) (members_have_float (members_json ms)) all.0.float rest.0, omega (arith, all.0.nests, rest.1))

object_plain : (n : ℕ) (ms : List (List ℕ × Data)) → Every (λ m. IsPlain n m.1) ms → IsPlain (suc n) (object_json ms)
object_plain n ms all = let parts = members_plain n ms all in record { float = parts.0; nests = omega (arith, parts.1) }

-- ---- values

whole_plain : (n k : ℕ) → IsPlain n (whole_json k)
whole_plain n k = record { float = refl; nests = omega arith }

minute_plain : (n : ℕ) (z : ℤ) → IsPlain n (minute_json z)
minute_plain n (pos k) = record { float = refl; nests = omega arith }
minute_plain n (negsuc k) = record { float = refl; nests = omega arith }

text_plain : (n : ℕ) (s : List ℕ) → IsPlain n (string s)
text_plain n s = record { float = refl; nests = omega arith }

truth_plain : (n : ℕ) (b : Bool) → IsPlain n (boolean b)
truth_plain n b = record { float = refl; nests = omega arith }

end_plain : (n : ℕ) (names : List (List ℕ)) (o : Option ℕ) → IsPlain n (named_if_json names o)
end_plain n names None = record { float = refl; nests = omega arith }
end_plain n names (Some d) = record { float = refl; nests = omega arith }

-- ---- parts

platform_plain : (v : Version) (p : Platform) → IsPlain 1 (platform_json v p)
unfolding platform_json
platform_plain One p = object_plain 0 (members_of_platform One p) (truth_plain 0 p.dummy, (whole_plain 0 p.headway, (text_plain 0 p.name, (whole_plain 0 p.price, tt))))
platform_plain Two p =
    object_plain 0 (members_of_platform Two p) (whole_plain 0 p.buffer, (truth_plain 0 p.dummy, (whole_plain 0 p.headway, (text_plain 0 p.name, (whole_plain 0 p.price, tt)))))

named_plain : (n : ℕ) (names : List (List ℕ)) (k : ℕ) → IsPlain n (named_json names k)
named_plain n names k = text_plain n (slice_index_or names k [])

path_plain : (r : StationRecord) (p : Path) → IsPlain 1 (path_json r p)
unfolding path_json
path_plain r p =
    object_plain 0 (members_of_path r p) (
      named_plain 0 r.directions p.direction,
      (whole_plain 0 p.minutes, (text_plain 0 p.name, (named_plain 0 (platform_names r) p.platform, (whole_plain 0 p.price, (text_plain 0 (way_text p.way), tt))))),
    )

both_plain : (n : ℕ) (a b : Data) → IsPlain n a → IsPlain n b → IsPlain (suc n) (list_json (a ∷ b ∷ []))
both_plain n a b p q = record {
  float = neither_has (has_float a) (has_float b || false) p.float (neither_has (has_float b) false q.float refl);
  nests = omega (arith, p.nests, q.nests);
}

pair_plain : (r : StationRecord) (x : PathPair) → IsPlain 1 (pair_json r x)
unfolding pair_json
pair_plain r x = both_plain 0 (named_json (path_names r) x.first) (named_json (path_names r) x.second) (named_plain 0 (path_names r) x.first) (named_plain 0 (path_names r) x.second)

charge_plain : (r : StationRecord) (s : Surcharge) → IsPlain 1 (charge_json r s)
unfolding charge_json
charge_plain r s = both_plain 0 (named_json (platform_names r) s.platform) (whole_json s.price) (named_plain 0 (platform_names r) s.platform) (whole_plain 0 s.price)

numbers_plain : (r : StationRecord) (ps : List ℕ) → IsPlain 2 (platforms_json r ps)
numbers_plain r ps = list_plain 1 (named_json (platform_names r)) (named_plain 1 (platform_names r)) ps

train_plain : (r : StationRecord) (t : Train) → IsPlain 3 (train_json r t)
unfolding train_json
train_plain r t =
    object_plain 2 (members_of_train r t) (
      minute_plain 2 t.arrive,
      (
        whole_plain 2 t.arrive_early,
        (
          whole_plain 2 t.arrive_late,
          (
            minute_plain 2 t.depart,
            (
              whole_plain 2 t.depart_early,
              (
                whole_plain 2 t.depart_late,
                (
                  whole_plain 2 t.dwell,
                  (
                    end_plain 2 r.directions t.from,
                    (
                      text_plain 2 t.name,
                      (
                        whole_plain 2 t.off_price,
                        (
                          numbers_plain r t.platforms,
                          (
                            numbers_plain r t.prefer,
                            (
                              whole_plain 2 t.shift_price,
                              (
                                list_plain 1 (charge_json r) (charge_plain r) t.surcharges,
                                (end_plain 2 r.directions t.to, tt),
                              ),
                            ),
                          ),
                        ),
                      ),
                    ),
                  ),
                ),
              ),
            ),
          ),
        ),
      ),
    )

-- ---- the station

deeper : (m n : ℕ) (d : Data) → m ≤ n → IsPlain m d → IsPlain n d
deeper m n d h p = record { float = p.float; nests = omega (arith, p.nests) }

lists_plain : {X : Type 0} (m : ℕ) (f : X → Data) → m ≤ 3 → ((x : X) → IsPlain m (f x)) → (xs : List X) → IsPlain 4 (list_json (map f xs))
lists_plain m f h each xs = list_plain 3 f (λ x. deeper m 3 (f x) h (each x)) xs

main_plain : (v : Version) (r : StationRecord) → Every (λ m. IsPlain 4 m.1) (main_members v r)
main_plain v r = (
  whole_plain 4 r.conflict_price,
  (
    lists_plain 0 string (omega arith) (text_plain 0) r.directions,
    (
      text_plain 4 (codes "tpp-station"),
      (
        lists_plain 1 (pair_json r) (omega arith) (pair_plain r) r.incompatible,
        (
          lists_plain 1 (path_json r) (omega arith) (path_plain r) r.paths,
          (
            lists_plain 1 (platform_json v) (omega arith) (platform_plain v) r.platforms,
            (
              whole_plain 4 r.threshold,
              (lists_plain 3 (train_json r) (omega arith) (train_plain r) r.trains, (whole_plain 4 (version_number v), tt)),
            ),
          ),
        ),
      ),
    ),
  ),
)

pub station_plain : (v : Version) (r : StationRecord) → IsPlain 5 (station_json v r)
unfolding station_json
station_plain One r = object_plain 4 (members_of_station One r) (main_plain One r)
station_plain Two r = object_plain 4 (members_of_station Two r) (whole_plain 4 r.buffer_price, main_plain Two r)
