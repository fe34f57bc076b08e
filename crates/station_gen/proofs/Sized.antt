-- The text of a station is no longer than a text may be.
use Rattle.std.proofs.Common.{◌≡◌, ℕ, zero, suc, ◌+◌, ◌*◌, ◌≤◌, List, [], ◌∷◌, ◌++◌, map, length, Bool, true, false, Option, Some, None, slice_get, refl, ap, subst, arith, ℤ, pos, negsuc, ◌≤ℤ◌, length-append, lit≤}
use Rattle.std.specs.Prelude.{codes, ⊤}
use Rattle.std.proofs.Math.Nat.{mul-le-mul_left}
use Rattle.std.proofs.lemmas.Fmt.{length-decimal-le}
use Rattle.std.proofs.lemmas.Int.{ints}
use Rattle.json.specs.Print.{quoted}
use Rattle.serde_json.specs.Data.{Data, string, boolean}
use Rattle.serde_json.specs.View.{items_of}
use Rattle.serde_json.specs.Written.{compact_text, comma_if, items_text, members_text}
use Rattle.station.specs.declared.part.Platform.{Platform}
use Rattle.station.specs.declared.part.Path.{Path}
use Rattle.station.specs.declared.part.PathWay.{PathWay}
use Rattle.station.specs.declared.part.PathWay.TheVariants.{In, Out}
use Rattle.station.specs.declared.part.PathPair.{PathPair}
use Rattle.station.specs.declared.part.Surcharge.{Surcharge}
use Rattle.station.specs.declared.part.Train.{Train}
use Rattle.station.specs.Named.{is_name, is_name_byte}
use Rattle.station.specs.Allowed.{StationRecord}
use Rattle.station.specs.Station.{IsPlatform, IsPath, IsTrain, IsStation}
use Rattle.station.proofs.Lists.{mapped, length-made}
use Rattle.station_gen.specs.declared.version.Version.{Version}
use Rattle.station_gen.specs.declared.version.Version.TheVariants.{One, Two}
use Rattle.station_gen.specs.Json.{whole_json, minute_json, list_json, members_json, object_json, named_json, named_if_json, platform_names, path_names, platforms_json, way_text, version_number, members_of_platform, platform_json, members_of_path, path_json, pair_json, charge_json, members_of_train, train_json, main_members, members_of_station, station_json}
use Rattle.station_gen.proofs.NameText.{name-most, quoted-name}

abbrev size : Data → ℕ
size d = length (compact_text d)

-- ---- values

name-size : (s : List ℕ) → is_name s ≡ true → length (quoted s) ≤ 26
name-size s h = omega (arith, ap length (quoted-name s h), length-append s (34 ∷ []), name-most s h)

whole-size : (n : ℕ) → n ≤ 1_000_000_000 → size (whole_json n) ≤ 10
whole-size n h = length-decimal-le 10 n (omega arith) (omega arith) (omega arith)

minute-size : (z : ℤ) → pos 0 ≤ℤ z → z ≤ℤ pos 2879 → size (minute_json z) ≤ 10
minute-size (pos n) l h = whole-size n (omega (arith, ints))
minute-size (negsuc n) l h = absurd (omega (arith, ints))

truth-size : (b : Bool) → size (boolean b) ≤ 10
truth-size true = lit≤ tt
truth-size false = lit≤ tt

abbrev AreNames : List (List ℕ) → Type 0
AreNames names = (i : ℕ) (n : List ℕ) → slice_get names i ≡ Some n → is_name n ≡ true

named-size : (names : List (List ℕ)) → AreNames names → (k : ℕ) → size (named_json names k) ≤ 26
named-size [] all k = lit≤ tt
named-size (n ∷ names) all zero = name-size n (all 0 n refl)
named-size (n ∷ names) all (suc k) = named-size names (λ i m is. all (suc i) m is) k

end-size : (names : List (List ℕ)) → AreNames names → (o : Option ℕ) → size (named_if_json names o) ≤ 26
end-size names all None = lit≤ tt
end-size names all (Some k) = named-size names all k

-- ---- lists

comma-size : (later : Bool) → length (comma_if later) ≤ 1
comma-size true = lit≤ tt
comma-size false = lit≤ tt

item-size : (c x rest : List ℕ) (b n : ℕ) → length c ≤ 1 → length x ≤ b → length rest ≤ 1 + (b + 1) * n → length (c ++ (x ++ rest)) ≤ 1 + (b + 1) * suc n
item-size c x rest b n h g f = omega (arith, length-append c (x ++ rest), length-append x rest)

items-size : {X : Type 0} (later : Bool) (f : X → Data) (b : ℕ) (xs : List X) → ((i : ℕ) (x : X) → slice_get xs i ≡ Some x → size (f x) ≤ b) → length (items_text later (items_of (map f xs))) ≤ 1 + (b + 1) * length xs
items-size later f b [] each = omega arith
items-size later f b (x ∷ xs) each =
    item-size (comma_if later) (compact_text (f x)) (items_text true (items_of (map f xs))) b (length xs) (comma-size later) (each 0 x refl) (items-size true f b xs (λ i y is. each (suc i) y is))

list-size : {X : Type 0} (f : X → Data) (b n : ℕ) (xs : List X) → ((i : ℕ) (x : X) → slice_get xs i ≡ Some x → size (f x) ≤ b) → length xs ≤ n → size (list_json (map f xs)) ≤ 2 + (b + 1) * n
list-size f b n xs each few =
    let most : (b + 1) * length xs ≤ (b + 1) * n = mul-le-mul_left (b + 1) few in
    omega (arith, items-size false f b xs each, most)

two-size : (x y : Data) → size x ≤ 26 → size y ≤ 26 → size (list_json (x ∷ y ∷ [])) ≤ 56
two-size x y h g = omega (arith, length-append (compact_text x) (44 ∷ (compact_text y ++ 93 ∷ [])), length-append (compact_text y) (93 ∷ []))

-- ---- objects

-- each member with its name is within the bound at its place
abbrev Fits : List (List ℕ × Data) → List ℕ → Type 0
Fits [] [] = ⊤
Fits [] (b ∷ bs) = ⊥
Fits (m ∷ ms) [] = ⊥
Fits (m ∷ ms) (b ∷ bs) = (length (quoted m.0) + size m.1 ≤ b) × Fits ms bs

-- with a comma and a colon for each, and the closing bracket
abbrev whole : List ℕ → ℕ
whole [] = 1
whole (b ∷ bs) = b + 2 + whole bs

member-size : (c q x rest : List ℕ) (b n : ℕ) → length c ≤ 1 → length q + length x ≤ b → length rest ≤ n → length (c ++ (q ++ 58 ∷ (x ++ rest))) ≤ b + 2 + n
member-size c q x rest b n h g f = omega (arith, length-append c (q ++ 58 ∷ (x ++ rest)), length-append q (58 ∷ (x ++ rest)), length-append x rest)

members-size : (later : Bool) (ms : List (List ℕ × Data)) (bs : List ℕ) → Fits ms bs → length (members_text later (members_json ms)) ≤ whole bs
members-size later [] [] fits = omega arith
members-size later [] (b ∷ bs) fits = absurd fits
members-size later (m ∷ ms) [] fits = absurd fits
members-size later ((name, d) ∷ ms) (b ∷ bs) fits =
    member-size (comma_if later) (quoted name) (compact_text d) (members_text true (members_json ms)) b (whole bs) (comma-size later) fits.0 (members-size true ms bs fits.1)

object-size : (ms : List (List ℕ × Data)) (bs : List ℕ) → Fits ms bs → size (object_json ms) ≤ 1 + whole bs
object-size ms bs fits = omega (arith, members-size false ms bs fits)

-- a member whose name is one of those that a station may declare too
fit : (name : List ℕ) (d : Data) (b : ℕ) → is_name name ≡ true → size d ≤ b → length (quoted name) + size d ≤ 26 + b
fit name d b h g = omega (arith, name-size name h)

-- ---- parts

way-size : (w : PathWay) → size (string (way_text w)) ≤ 26
unfolding is_name is_name_byte
way-size In = name-size (codes "in") refl
way-size Out = name-size (codes "out") refl

platform-size : (v : Version) (p : Platform) → IsPlatform p → size (platform_json v p) ≤ 300
unfolding platform_json is_name is_name_byte
platform-size One p k =
    let most = object-size (members_of_platform One p) (36 ∷ 36 ∷ 52 ∷ 36 ∷ []) (
      fit (codes "dummy") (boolean p.dummy) 10 refl (truth-size p.dummy),
      (
        fit (codes "headway") (whole_json p.headway) 10 refl (whole-size p.headway (omega (arith, k.headway))),
        (fit (codes "name") (string p.name) 26 refl (name-size p.name k.name), (fit (codes "price") (whole_json p.price) 10 refl (whole-size p.price k.price), tt)),
      ),
    ) in
    omega (arith, most)
platform-size Two p k =
    let most = object-size (members_of_platform Two p) (36 ∷ 36 ∷ 36 ∷ 52 ∷ 36 ∷ []) (
      fit (codes "buffer") (whole_json p.buffer) 10 refl (whole-size p.buffer (omega (arith, k.buffer))),
      (
        fit (codes "dummy") (boolean p.dummy) 10 refl (truth-size p.dummy),
        (
          fit (codes "headway") (whole_json p.headway) 10 refl (whole-size p.headway (omega (arith, k.headway))),
          (fit (codes "name") (string p.name) 26 refl (name-size p.name k.name), (fit (codes "price") (whole_json p.price) 10 refl (whole-size p.price k.price), tt)),
        ),
      ),
    ) in
    omega (arith, most)

module _ (r : StationRecord) (k : IsStation r) where
  platforms_named : AreNames (platform_names r)
  platforms_named i n is = let p = mapped (λ (x : Platform). x.name) r.platforms i n is in subst (λ m. is_name m ≡ true) p.2 (k.platform i p.0 p.1).name

  paths_named : AreNames (path_names r)
  paths_named i n is = let p = mapped (λ (x : Path). x.name) r.paths i n is in subst (λ m. is_name m ≡ true) p.2 (k.path i p.0 p.1).name

  path-size : (p : Path) → IsPath r p → size (path_json r p) ≤ 400
  unfolding path_json is_name is_name_byte
  path-size p kept =
      let most = object-size (members_of_path r p) (52 ∷ 36 ∷ 52 ∷ 52 ∷ 36 ∷ 52 ∷ []) (
        fit (codes "direction") (named_json r.directions p.direction) 26 refl (named-size r.directions k.direction p.direction),
        (
          fit (codes "minutes") (whole_json p.minutes) 10 refl (whole-size p.minutes (omega (arith, kept.minutes_most))),
          (
            fit (codes "name") (string p.name) 26 refl (name-size p.name kept.name),
            (
              fit (codes "platform") (named_json (platform_names r) p.platform) 26 refl (named-size (platform_names r) platforms_named p.platform),
              (fit (codes "price") (whole_json p.price) 10 refl (whole-size p.price kept.price), (fit (codes "way") (string (way_text p.way)) 26 refl (way-size p.way), tt)),
            ),
          ),
        ),
      ) in
      omega (arith, most)

  pair-size : (x : PathPair) → size (pair_json r x) ≤ 56
  unfolding pair_json
  pair-size x = two-size (named_json (path_names r) x.first) (named_json (path_names r) x.second) (named-size (path_names r) paths_named x.first) (named-size (path_names r) paths_named x.second)

  charge-size : (s : Surcharge) → s.price ≤ 1_000_000_000 → size (charge_json r s) ≤ 56
  unfolding charge_json
  charge-size s h =
      two-size (named_json (platform_names r) s.platform) (whole_json s.price) (named-size (platform_names r) platforms_named s.platform) (omega (arith, whole-size s.price h))

  numbers-size : (ps : List ℕ) → length ps ≤ 64 → size (platforms_json r ps) ≤ 2 + (26 + 1) * 64
  numbers-size ps few = list-size (named_json (platform_names r)) 26 64 ps (λ i p is. named-size (platform_names r) platforms_named p) few

  train-size : (t : Train) → IsTrain r t → size (train_json r t) ≤ 8000
  unfolding train_json is_name is_name_byte
  train-size t kept =
      let few : length t.surcharges ≤ 64 = omega (arith, kept.surcharges.count, length-made (λ (s : Surcharge). s.platform) t.surcharges) in
      let most = object-size (members_of_train r t) (36 ∷ 36 ∷ 36 ∷ 36 ∷ 36 ∷ 36 ∷ 36 ∷ 52 ∷ 52 ∷ 36 ∷ 1756 ∷ 1756 ∷ 36 ∷ 3676 ∷ 52 ∷ []) (
        fit (codes "arrive") (minute_json t.arrive) 10 refl (minute-size t.arrive kept.arrive_least kept.arrive_most),
        (
          fit (codes "arrive_early") (whole_json t.arrive_early) 10 refl (whole-size t.arrive_early (omega (arith, kept.arrive_early))),
          (
            fit (codes "arrive_late") (whole_json t.arrive_late) 10 refl (whole-size t.arrive_late (omega (arith, kept.arrive_late))),
            (
              fit (codes "depart") (minute_json t.depart) 10 refl (minute-size t.depart kept.depart_least kept.depart_most),
              (
                fit (codes "depart_early") (whole_json t.depart_early) 10 refl (whole-size t.depart_early (omega (arith, kept.depart_early))),
                (
                  fit (codes "depart_late") (whole_json t.depart_late) 10 refl (whole-size t.depart_late (omega (arith, kept.depart_late))),
                  (
                    fit (codes "dwell") (whole_json t.dwell) 10 refl (whole-size t.dwell (omega (arith, kept.dwell_most))),
                    (
                      fit (codes "from") (named_if_json r.directions t.from) 26 refl (end-size r.directions k.direction t.from),
                      (
                        fit (codes "name") (string t.name) 26 refl (name-size t.name kept.name),
                        (
                          fit (codes "off_price") (whole_json t.off_price) 10 refl (whole-size t.off_price kept.off_price),
                          (
                            fit (codes "platforms") (platforms_json r t.platforms) 1730 refl (numbers-size t.platforms kept.platforms.count),
                            (
                              fit (codes "prefer") (platforms_json r t.prefer) 1730 refl (numbers-size t.prefer kept.prefer.count),
                              (
                                fit (codes "shift_price") (whole_json t.shift_price) 10 refl (whole-size t.shift_price (omega (arith, kept.shift_price))),
                                (
                                  fit (codes "surcharges") (list_json (map (charge_json r) t.surcharges)) 3650 refl (list-size (charge_json r) 56 64 t.surcharges (λ i s is. charge-size s (kept.surcharge i s is)) few),
                                  (fit (codes "to") (named_if_json r.directions t.to) 26 refl (end-size r.directions k.direction t.to), tt),
                                ),
                              ),
                            ),
                          ),
                        ),
                      ),
                    ),
                  ),
                ),
              ),
            ),
          ),
        ),
      ) in
      omega (arith, most)

  -- ---- the station

  version-size : (v : Version) → size (whole_json (version_number v)) ≤ 10
  version-size One = whole-size 1 (omega arith)
  version-size Two = whole-size 2 (omega arith)

  abbrev main_sizes : List ℕ
  main_sizes = 36 ∷ 1756 ∷ 52 ∷ 14_250_028 ∷ 200_528 ∷ 19_292 ∷ 36 ∷ 1_600_228 ∷ 36 ∷ []

  main-fits : (v : Version) → Fits (main_members v r) main_sizes
  unfolding is_name is_name_byte
  main-fits v = (
    fit (codes "conflict_price") (whole_json r.conflict_price) 10 refl (whole-size r.conflict_price (omega (arith, k.conflict_price))),
    (
      fit (codes "directions") (list_json (map string r.directions)) 1730 refl (list-size string 26 64 r.directions (λ i n is. name-size n (k.direction i n is)) k.directions_most),
      (
        fit (codes "format") (string (codes "tpp-station")) 26 refl (name-size (codes "tpp-station") refl),
        (
          fit (codes "incompatible") (list_json (map (pair_json r) r.incompatible)) 14_250_002 refl (list-size (pair_json r) 56 250_000 r.incompatible (λ i x is. pair-size x) k.incompatible_most),
          (
            fit (codes "paths") (list_json (map (path_json r) r.paths)) 200_502 refl (list-size (path_json r) 400 500 r.paths (λ i p is. path-size p (k.path i p is)) k.paths_most),
            (
              fit (codes "platforms") (list_json (map (platform_json v) r.platforms)) 19_266 refl (list-size (platform_json v) 300 64 r.platforms (λ i p is. platform-size v p (k.platform i p is)) k.platforms_most),
              (
                fit (codes "threshold") (whole_json r.threshold) 10 refl (whole-size r.threshold (omega (arith, k.threshold))),
                (
                  fit (codes "trains") (list_json (map (train_json r) r.trains)) 1_600_202 refl (list-size (train_json r) 8000 200 r.trains (λ i t is. train-size t (k.train i t is)) k.trains_most),
                  (fit (codes "version") (whole_json (version_number v)) 10 refl (version-size v), tt),
                ),
              ),
            ),
          ),
        ),
      ),
    ),
  )

  pub station-size : (v : Version) → length (compact_text (station_json v r)) ≤ 16_777_216
  unfolding station_json is_name is_name_byte
  station-size One = let most = object-size (members_of_station One r) main_sizes (main-fits One) in omega (arith, most)
  station-size Two =
      let most = object-size (members_of_station Two r) (36 ∷ main_sizes) (fit (codes "buffer_price") (whole_json r.buffer_price) 10 refl (whole-size r.buffer_price (omega (arith, k.buffer_price))), main-fits Two) in
      omega (arith, most)
