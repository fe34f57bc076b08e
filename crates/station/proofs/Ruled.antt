-- The list of a train's patterns is what the rules allow.
use Rattle.std.proofs.Common.{◌≡◌, ℕ, zero, suc, ◌+◌, ◌<◌, List, [], ◌∷◌, length, Bool, true, false, cond, ◌&&◌, ◌==◌, Option, Some, None, is_none, slice_get, refl, sym, ap, subst, arith, true≢false, inl, inr, ℤ, pos, negsuc, ◌+ℤ◌, ◌-ℤ◌, ◌≤ℤ◌, int_le}
use Rattle.std.specs.List.{Contains, list_any}
use Rattle.std.proofs.lemmas.Int.{ints}
use Rattle.std.proofs.lemmas.Bool.Decides.{nat_tests}
use Rattle.station.specs.declared.part.Path.{Path}
use Rattle.station.specs.declared.part.PathWay.{PathWay}
use Rattle.station.specs.declared.part.PathWay.TheVariants.{In, Out}
use Rattle.station.specs.declared.part.Train.{Train}
use Rattle.station.specs.declared.part.Pattern.{Pattern}
use Rattle.station.specs.Allowed.{StationRecord, numbers, path_choices, window, tuples, same_way, is_path_of, leads, is_way_served, are_paths_allowed, is_allowed, allowed_list}
use Rattle.station.specs.Station.{IsStation, IsTrain}
use Rattle.station.specs.Rules.{IsPathBetween, TakesPath, HasPathsOf, IsAllowed, ListsAllowed}
use Rattle.station.proofs.Counts.{departs, arrives, choices, at_minutes, at_arrival, at_paths, at_path_in, at_platform}
use Rattle.station.proofs.Tests.{or_right}
use Rattle.station.proofs.Tests.{left, right}
use Rattle.station.proofs.Lists.{any-found}
use Rattle.station.proofs.Among.{Among, contains, among, among-at, place-of, into-flat_map, from-flat_map, into-map, from-map, into-filter, from-filter, into-range, from-range}

-- ---- the minutes of a window

-- by how much the second number is above the first
above : (a z : ℤ) → a ≤ℤ z → (k : ℕ) × (z ≡ (a +ℤ pos k))
above a z h = by (z -ℤ a) refl
  where
    by : (d : ℤ) → (z -ℤ a) ≡ d → (k : ℕ) × (z ≡ (a +ℤ pos k))
    by (pos k) e = (k, omega (arith, ints, e))
    by (negsuc k) e = absurd (omega (arith, ints, e))

pub into-window : (minute z : ℤ) (early late : ℕ) → (minute -ℤ pos early) ≤ℤ z → z ≤ℤ (minute +ℤ pos late) → Among (window minute early late) z
into-window minute z early late least most =
    let found = above (minute -ℤ pos early) z least in
    into-map (λ k. (minute -ℤ pos early) +ℤ pos k) (numbers (early + late + 1)) found.0 z
    (into-range 0 (early + late + 1) found.0 (omega arith) (omega (arith, ints, found.1))) (sym found.1)

pub from-window : (minute z : ℤ) (early late : ℕ) → Among (window minute early late) z → ((minute -ℤ pos early) ≤ℤ z) × (z ≤ℤ (minute +ℤ pos late))
from-window minute z early late h =
    let found = from-map (λ k. (minute -ℤ pos early) +ℤ pos k) (numbers (early + late + 1)) z h in
    let within = from-range 0 (early + late + 1) found.0 found.1 in
    (omega (arith, ints, found.2), omega (arith, ints, found.2, within.1))

-- ---- a path or none

abbrev IsChoice : ℕ → Option ℕ → Type 0
IsChoice n o = (i : ℕ) → o ≡ Some i → i < n

pub into-choices : (n : ℕ) (o : Option ℕ) → IsChoice n o → Among (path_choices n) o
into-choices n None h = inl refl
into-choices n (Some i) h = inr (into-map Some (numbers n) i (Some i) (into-range 0 n i (omega arith) (omega (arith, h i refl))) refl)

-- ---- all tuples

into-tuples : (r : StationRecord) (t : Train) (x : Pattern) → x.platform < length r.platforms → IsChoice (length r.paths) x.path_in → IsChoice (length r.paths) x.path_out
    → Among (window t.arrive t.arrive_early t.arrive_late) x.arrive → Among (window t.depart t.depart_early t.depart_late) x.depart → Among (tuples r t) x
into-tuples r t x platform path_in path_out arrive depart =
    into-flat_map (at_platform r t) (numbers (length r.platforms)) x.platform x (into-range 0 (length r.platforms) x.platform (omega arith) (omega arith))
    (into-flat_map (at_path_in r t x.platform) (choices r t) x.path_in x (into-choices (length r.paths) x.path_in path_in)
    (into-flat_map (at_paths r t x.platform x.path_in) (choices r t) x.path_out x (into-choices (length r.paths) x.path_out path_out)
    (into-flat_map (at_arrival r t x.platform x.path_in x.path_out) (arrives r t) x.arrive x arrive
    (into-map (at_minutes r t x.platform x.path_in x.path_out x.arrive) (departs r t) x.depart x depart refl))))

minutes-made : (r : StationRecord) (t : Train) (x : Pattern) (p : ℕ) (i o : Option ℕ) (a d : ℤ) → Among (arrives r t) a → Among (departs r t) d → at_minutes r t p i o a d ≡ x
    → Among (arrives r t) x.arrive × Among (departs r t) x.depart
minutes-made r t x p i o a d arrive depart made = (
  subst (Among (arrives r t)) (ap (λ (y : Pattern). y.arrive) made) arrive,
  subst (Among (departs r t)) (ap (λ (y : Pattern). y.depart) made) depart,
)

from-tuples : (r : StationRecord) (t : Train) (x : Pattern) → Among (tuples r t) x → Among (arrives r t) x.arrive × Among (departs r t) x.depart
from-tuples r t x h =
    let p = from-flat_map (at_platform r t) (numbers (length r.platforms)) x h in
    let i = from-flat_map (at_path_in r t p.0) (choices r t) x p.2 in
    let o = from-flat_map (at_paths r t p.0 i.0) (choices r t) x i.2 in
    let a = from-flat_map (at_arrival r t p.0 i.0 o.0) (arrives r t) x o.2 in
    let d = from-map (at_minutes r t p.0 i.0 o.0 a.0) (departs r t) x a.2 in
    minutes-made r t x p.0 i.0 o.0 a.0 d.0 a.1 d.1 d.2

-- ---- paths

same_way-is : (a b : PathWay) → same_way a b ≡ true → b ≡ a
same_way-is In In e = refl
same_way-is In Out e = absurd (true≢false (sym e))
same_way-is Out In e = absurd (true≢false (sym e))
same_way-is Out Out e = refl

same_way-self : (a : PathWay) → same_way a a ≡ true
same_way-self In = refl
same_way-self Out = refl

equal : (a b : ℕ) → (a == b) ≡ true → a ≡ b
equal a b e = grind (arith, nat_tests)

equal-self : (a b : ℕ) → a ≡ b → (a == b) ≡ true
equal-self a b e = grind (arith, nat_tests)

all_three : (a b c : Bool) → a ≡ true → b ≡ true → c ≡ true → (a && b && c) ≡ true
all_three true true true e f g = refl
all_three true true false e f g = g
all_three true false c e f g = absurd (true≢false (sym f))
all_three false b c e f g = absurd (true≢false (sym e))

path_between : (r : StationRecord) (way : PathWay) (direction platform i : ℕ) (o : Option Path) → slice_get r.paths i ≡ o → is_path_of way direction platform o ≡ true → IsPathBetween r way direction platform i
path_between r way direction platform i None is e = absurd (true≢false (sym e))
path_between r way direction platform i (Some p) is e = record {
  path = p;
  there = is;
  runs = same_way-is way p.way (left _ _ (left _ _ e));
  at_direction = equal p.direction direction (right _ _ (left _ _ e));
  at_platform = equal p.platform platform (right _ _ e);
}

none_there : (o : Option ℕ) → is_none o ≡ true → o ≡ None
none_there None e = refl
none_there (Some i) e = absurd (true≢false (sym e))

takes : (r : StationRecord) (way : PathWay) (end : Option ℕ) (platform : ℕ) (path : Option ℕ) → is_way_served r way end platform path ≡ true → TakesPath r way end platform path
takes r way None platform path e = none_there path e
takes r way (Some direction) platform None e = absurd (true≢false (sym e))
takes r way (Some direction) platform (Some i) e = (i, refl, path_between r way direction platform i (slice_get r.paths i) refl e)

leads-between : (r : StationRecord) (way : PathWay) (direction platform i : ℕ) → IsPathBetween r way direction platform i → leads r way direction platform (Some i) ≡ true
leads-between r way direction platform i b =
    rw b.there
    (all_three _ _ _ (subst (λ w. same_way way w ≡ true) (sym b.runs) (same_way-self way)) (equal-self _ _ b.at_direction) (equal-self _ _ b.at_platform))

served : (r : StationRecord) (way : PathWay) (end : Option ℕ) (platform : ℕ) (path : Option ℕ) → TakesPath r way end platform path → is_way_served r way end platform path ≡ true
served r way None platform path e = rw e
served r way (Some direction) platform path h = rw h.1 (leads-between r way direction platform h.0 h.2)

some_within : {X : Type 0} (xs : List X) (i : ℕ) (x : X) → slice_get xs i ≡ Some x → i < length xs
some_within [] i x is = absurd (cc)
some_within (y ∷ ys) zero x is = omega arith
some_within (y ∷ ys) (suc i) x is = omega (arith, some_within ys i x is)

some_at : {X : Type 0} (xs : List X) (i : ℕ) → i < length xs → (x : X) × (slice_get xs i ≡ Some x)
some_at [] i h = absurd (omega arith)
some_at (x ∷ xs) zero h = (x, refl)
some_at (x ∷ xs) (suc i) h = some_at xs i (omega arith)

choice-taken : (r : StationRecord) (way : PathWay) (end : Option ℕ) (platform : ℕ) (path : Option ℕ) → TakesPath r way end platform path → IsChoice (length r.paths) path
choice-taken r way None platform path e i is = absurd (cc)
choice-taken r way (Some direction) platform path h i is =
    let same : h.0 ≡ i = cc in
    subst (λ k. k < length r.paths) same (some_within r.paths h.0 h.2.path h.2.there)

choice-none : (n : ℕ) (path : Option ℕ) → path ≡ None → IsChoice n path
choice-none n path e i is = absurd (cc)

-- ---- a pattern's paths on a platform

abbrev passes : StationRecord → Train → Pattern → Bool → Bool
passes r t x b = cond b (is_none x.path_in && is_none x.path_out) (is_way_served r In t.from x.platform x.path_in && is_way_served r Out t.to x.platform x.path_out)

paths-from : (r : StationRecord) (t : Train) (x : Pattern) (b : Bool) → passes r t x b ≡ true → HasPathsOf r t x b
paths-from r t x true e = (none_there _ (left _ _ e), none_there _ (right _ _ e))
paths-from r t x false e = (takes r In t.from x.platform x.path_in (left _ _ e), takes r Out t.to x.platform x.path_out (right _ _ e))

both_hold : (a b : Bool) → a ≡ true → b ≡ true → (a && b) ≡ true
both_hold true b e f = f
both_hold false b e f = absurd (true≢false (sym e))

paths-into : (r : StationRecord) (t : Train) (x : Pattern) (b : Bool) → HasPathsOf r t x b → passes r t x b ≡ true
paths-into r t x true h = both_hold _ _ (ap is_none h.0) (ap is_none h.1)
paths-into r t x false h = both_hold _ _ (served r In t.from x.platform x.path_in h.0) (served r Out t.to x.platform x.path_out h.1)

both_choices : (r : StationRecord) (t : Train) (x : Pattern) (b : Bool) → HasPathsOf r t x b → IsChoice (length r.paths) x.path_in × IsChoice (length r.paths) x.path_out
both_choices r t x true h = (choice-none _ _ h.0, choice-none _ _ h.1)
both_choices r t x false h = (choice-taken r In t.from x.platform x.path_in h.0, choice-taken r Out t.to x.platform x.path_out h.1)

-- ---- the list

any-listed : (ps : List ℕ) (p : ℕ) → Among ps p → list_any (λ q. q == p) ps ≡ true
any-listed [] p h = absurd h
any-listed (q ∷ qs) p (inl e) = rw (equal-self q p e)
any-listed (q ∷ qs) p (inr h) = or_right (q == p) _ (any-listed qs p h)

listed-any : (ps : List ℕ) (p : ℕ) → list_any (λ q. q == p) ps ≡ true → Contains ps p
listed-any ps p e =
    let found = any-found (λ q. q == p) ps e in
    contains ps p (subst (Among ps) (equal found.1 p found.3) (among-at ps found.0 found.1 found.2))

at_most : (a d : ℤ) → int_le a d ≡ true → a ≤ℤ d
at_most a d e = grind (arith, ints, nat_tests)

at_most-is : (a d : ℤ) → a ≤ℤ d → int_le a d ≡ true
at_most-is a d h = grind (arith, ints, nat_tests)

allowed-from : (r : StationRecord) (t : Train) (x : Pattern) → Among (allowed_list r t) x → IsAllowed r t x
unfolding allowed_list
allowed-from r t x h =
    let kept = from-filter (is_allowed r t) (tuples r t) x h in
    let within = from-tuples r t x kept.0 in
    let arrive = from-window t.arrive x.arrive t.arrive_early t.arrive_late within.0 in
    let depart = from-window t.depart x.depart t.depart_early t.depart_late within.1 in
    let listed : Bool = list_any (λ p. p == x.platform) t.platforms in
    let by_paths : Bool = are_paths_allowed r t x.platform x.path_in x.path_out in
    let dwells : Bool = int_le (x.arrive +ℤ pos t.dwell) x.depart in
    let first : (listed && by_paths) ≡ true = left (listed && by_paths) dwells kept.1 in
    let paths : by_paths ≡ true = right listed by_paths first in
    record {
      platform = listed-any t.platforms x.platform (left listed by_paths first);
      paths = λ p is. paths-from r t x p.dummy (rw is at paths);
      arrive_least = arrive.0;
      arrive_most = arrive.1;
      depart_least = depart.0;
      depart_most = depart.1;
      dwell = at_most (x.arrive +ℤ pos t.dwell) x.depart (right (listed && by_paths) dwells kept.1);
    }

into-allowed : (r : StationRecord) (t : Train) (x : Pattern) → IsTrain r t → IsAllowed r t x → Among (allowed_list r t) x
unfolding allowed_list
into-allowed r t x train a =
    let listed = among t.platforms x.platform a.platform in
    let place = place-of t.platforms x.platform listed in
    let inside : x.platform < length r.platforms = train.platforms.there place.0 x.platform place.1 in
    let here = some_at r.platforms x.platform inside in
    let paths = a.paths here.0 here.1 in
    let chosen = both_choices r t x here.0.dummy paths in
    let served : are_paths_allowed r t x.platform x.path_in x.path_out ≡ true = rw here.1 (paths-into r t x here.0.dummy paths) in
    into-filter (is_allowed r t) (tuples r t) x
    (into-tuples r t x inside chosen.0 chosen.1
    (into-window t.arrive x.arrive t.arrive_early t.arrive_late a.arrive_least a.arrive_most)
    (into-window t.depart x.depart t.depart_early t.depart_late a.depart_least a.depart_most))
    (all_three _ _ _ (any-listed t.platforms x.platform listed) served (at_most-is _ _ a.dwell))

pub lists_allowed : (r : StationRecord) → IsStation r → ListsAllowed r
lists_allowed r kept t x is =
    let place = place-of r.trains t (among r.trains t is) in
    (λ h. allowed-from r t x (among (allowed_list r t) x h), λ a. contains (allowed_list r t) x (into-allowed r t x (kept.train place.0 t place.1) a))
