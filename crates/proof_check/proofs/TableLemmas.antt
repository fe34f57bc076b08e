-- Tables: a further potential that is due leaves a table a table.
use Rattle.std.proofs.Common.{◌≡◌, ℕ, zero, suc, ◌+◌, ◌<◌, ◌≤◌, ◌++◌, ◌&&◌, Bool, true, false, List, [], ◌∷◌, Option, Some, None, Result, Ok, Err, ap, ◌∙◌, get_or, if◌then◌else◌, refl, subst, sym, arith, ℤ, pos, ◌<ℤ◌}
use Rattle.std.specs.Prelude.{nat_lt, int_lt, unsigned_abs, length, map, slice_get, slice_set, ◌-◌}
use Rattle.std.specs.Option.{option_map}
use Rattle.std.proofs.lemmas.Option.{slice_get_within, slice_get-get_or}
use Rattle.std.proofs.lemmas.Int.{ints}
use Rattle.std.proofs.lemmas.Bool.Decides.{nat_tests}
use Rattle.station.proofs.Lists.{Every, every-at, every-append, rising-append}
use Rattle.patterns.specs.Book.{Offers, offers_of}
use Rattle.leaf_bounds.specs.declared.number.NumberValue.{NumberValue}
use Rattle.leaf_bounds.specs.Group.{Group}
use Rattle.leaf_bounds.specs.Listed.{Ascends, IsTable}
use Rattle.leaf_bounds.proofs.BoundedLemmas.{Each}
use Rattle.leaf_bounds.proofs.RisingLemmas.{Before, ascends_from, every_from, rising_from}
use Rattle.proof_rules.specs.Fault.{is_none, is_above, is_some_value, with_last}
use Rattle.proof_check.specs.declared.stop.Stop.{Stop}
use Rattle.proof_check.specs.declared.stop.Stop.TheVariants.{Memory, Refused}
use Rattle.proof_check.specs.declared.table.Table.{Table}
use Rattle.proof_check.specs.Going.{IsFound, placed}
use Rattle.proof_check.specs.Tables.{AreThere, group_of, is_alpha_due, is_beta_due}

less : (a b : ℤ) → int_lt a b ≡ true → a <ℤ b
less a b e = grind (arith, ints)

first_true : (a b : Bool) → (a && b) ≡ true → a ≡ true
first_true true b h = refl
first_true false b h = h

second_true : (a b : Bool) → (a && b) ≡ true → b ≡ true
second_true true b h = h
second_true false b h = absurd cc

above_each : {X : Type 0} (key : X → ℤ) (xs : List X) (x : X) → is_above key xs x ≡ true → Every (λ y. Every (Before key y) (x ∷ [])) xs
above_each key [] x h = tt
above_each key (y ∷ xs) x h = (
  (less (key y) (key x) (first_true (int_lt (key y) (key x)) (is_above key xs x) h), tt),
  above_each key xs x (second_true (int_lt (key y) (key x)) (is_above key xs x) h),
)

pub ascends_more : {X : Type 0} (key : X → ℤ) (xs : List X) (x : X) → Ascends key xs → is_above key xs x ≡ true → Ascends key (xs ++ x ∷ [])
ascends_more key xs x up h = ascends_from key (xs ++ x ∷ []) (rising-append (Before key) xs (x ∷ []) (rising_from key xs up) (tt, tt) (above_each key xs x h))

pub each_more : {X : Type 0} (P : X → Type 0) (xs : List X) (x : X) → Each P xs → P x → Each P (xs ++ x ∷ [])
each_more P xs x h p = every-at P (xs ++ x ∷ []) (every-append P xs (x ∷ []) (every_from P xs h) (p, tt))

some : (z : ℤ) → is_some_value z ≡ true → 1 ≤ unsigned_abs z
some z e = grind (arith, nat_tests)

pub alpha_kept : (book : Offers) (x : NumberValue) (first second : ℕ) (alpha beta new : List NumberValue) (r : Bool)
    → is_alpha_due book x (record { first = first; second = second; alpha = alpha; beta = beta }) ≡ true
    → new ≡ (if r then alpha ++ x ∷ [] else alpha) → IsTable first second alpha beta → IsTable first second new beta
alpha_kept book x first second alpha beta new false due e h = subst (λ (l : List NumberValue). IsTable first second l beta) (sym e) h
alpha_kept book x first second alpha beta new true due e h =
    let ahead = is_none beta && is_above (λ y. pos y.number) alpha x in
    let front = first_true (ahead && is_some_value x.value) (nat_lt x.number (length (offers_of book first))) due in
    let above = second_true (is_none beta) (is_above (λ y. pos y.number) alpha x) (first_true ahead (is_some_value x.value) front) in
    let valued = second_true ahead (is_some_value x.value) front in
    subst (λ (l : List NumberValue). IsTable first second l beta) (sym e)
    (record {
      order = h.order;
      beta_some = h.beta_some;
      beta_ascends = h.beta_ascends;
      alpha_some = each_more (λ y. 1 ≤ unsigned_abs y.value) alpha x h.alpha_some (some x.value valued);
      alpha_ascends = ascends_more (λ y. pos y.number) alpha x h.alpha_ascends above;
    })

pub beta_kept : (book : Offers) (x : NumberValue) (first second : ℕ) (alpha beta new : List NumberValue) (r : Bool)
    → is_beta_due book x (record { first = first; second = second; alpha = alpha; beta = beta }) ≡ true
    → new ≡ (if r then beta ++ x ∷ [] else beta) → IsTable first second alpha beta → IsTable first second alpha new
beta_kept book x first second alpha beta new false due e h = subst (λ (l : List NumberValue). IsTable first second alpha l) (sym e) h
beta_kept book x first second alpha beta new true due e h =
    let ahead = is_above (λ y. pos y.number) beta x in
    let front = first_true (ahead && is_some_value x.value) (nat_lt x.number (length (offers_of book second))) due in
    let above = first_true ahead (is_some_value x.value) front in
    let valued = second_true ahead (is_some_value x.value) front in
    subst (λ (l : List NumberValue). IsTable first second alpha l) (sym e)
    (record {
      order = h.order;
      alpha_some = h.alpha_some;
      alpha_ascends = h.alpha_ascends;
      beta_some = each_more (λ y. 1 ≤ unsigned_abs y.value) beta x h.beta_some (some x.value valued);
      beta_ascends = ascends_more (λ y. pos y.number) beta x h.beta_ascends above;
    })

-- what was placed was due
pub was_due : (b : Bool) (r : Result (Unit {0}) Stop) (u : Unit {0}) → r ≡ placed b → r ≡ Ok u → b ≡ true
was_due true r u e f = refl
was_due false r u e f = absurd cc

-- the last of the tables, changed

pub last_one : (f : Group → Option Group) (g : Group) → with_last f (g ∷ []) ≡ option_map (λ h. h ∷ []) (f g)
last_one f g = by (f g) refl
  where
    by : (o : Option Group) → f g ≡ o → with_last f (g ∷ []) ≡ option_map (λ h. h ∷ []) (f g)
    by None e = rw e refl
    by (Some h) e = rw e refl

pub last_more : (f : Group → Option Group) (g h : Group) (gs : List Group) → with_last f (g ∷ h ∷ gs) ≡ option_map (λ hs. g ∷ hs) (with_last f (h ∷ gs))
last_more f g h gs = by (with_last f (h ∷ gs)) refl
  where
    by : (o : Option (List Group)) → with_last f (h ∷ gs) ≡ o → with_last f (g ∷ h ∷ gs) ≡ option_map (λ hs. g ∷ hs) (with_last f (h ∷ gs))
    by None e = rw e refl
    by (Some hs) e = rw e refl

found_map : {X Y : Type 0} (f : X → Y) (o : Option X) (x : X) (r : Result (Unit {0}) Stop) → IsFound o x r → IsFound (option_map f o) (f x) r
found_map f o x (Ok done) h = ap (option_map f) h
found_map f o x (Err Memory) h = tt
found_map f o x (Err (Refused kind)) h = (ap (option_map f) h.0, h.1)

found_at : (f : Group → Option Group) (ts : List Table) (k : ℕ) (t new : Table) (r : Result (Unit {0}) Stop) → k + 1 ≡ length ts
    → slice_get ts k ≡ Some t → IsFound (f (group_of t)) (group_of new) r → IsFound (with_last f (map group_of ts)) (map group_of (slice_set ts k new)) r
found_at f [] k t new r n e h = absurd (cc)
found_at f (s ∷ []) zero t new r n e h =
    let same : s ≡ t = cc in
    subst (λ (o : Option (List Group)). IsFound o (group_of new ∷ []) r) (sym (last_one f (group_of s)))
    (found_map (λ g. g ∷ []) (f (group_of s)) (group_of new) r (subst (λ (u : Table). IsFound (f (group_of u)) (group_of new) r) (sym same) h))
found_at f (s ∷ []) (suc k) t new r n e h = absurd (omega (arith, n))
found_at f (s ∷ u ∷ ts) zero t new r n e h = absurd (omega (arith, n))
found_at f (s ∷ u ∷ ts) (suc k) t new r n e h =
    subst (λ (o : Option (List Group)). IsFound o (group_of s ∷ map group_of (slice_set (u ∷ ts) k new)) r) (sym (last_more f (group_of s) (group_of u) (map group_of ts)))
    (found_map (λ gs. group_of s ∷ gs) (with_last f (map group_of (u ∷ ts))) (map group_of (slice_set (u ∷ ts) k new)) r
    (found_at f (u ∷ ts) k t new r (omega (arith, n)) e h))

pub found_last : (f : Group → Option Group) (ts : List Table) (t new : Table) (r : Result (Unit {0}) Stop) → slice_get ts (length ts - 1) ≡ Some t
    → IsFound (f (group_of t)) (group_of new) r → IsFound (with_last f (map group_of ts)) (map group_of (slice_set ts (length ts - 1) new)) r
found_last f ts t new r e h = found_at f ts (length ts - 1) t new r (omega (arith, slice_get_within ts (length ts - 1) t e)) e h

-- the last table's trains are there
pub last_is_there : (trains : ℕ) (ts : List Table) (t : Table) → AreThere trains (map group_of ts) → slice_get ts (length ts - 1) ≡ Some t → t.second < trains
last_is_there trains ts t h e =
    let within = slice_get_within ts (length ts - 1) t e in
    at ts (length ts - 1) h e
  where
    at : (ts : List Table) (k : ℕ) → AreThere trains (map group_of ts) → slice_get ts k ≡ Some t → t.second < trains
    at [] k h e = absurd (cc)
    at (s ∷ ts) zero h e =
        let same : s ≡ t = cc in
        subst (λ (u : Table). u.second < trains) same (h 0 (group_of s) (omega arith))
    at (s ∷ ts) (suc k) h e = at ts k (λ j d l. h (suc j) d (omega (arith, l))) e

-- the same by the list's length, as a `Vec` has it
module _ (n : ℕ) (ts : List Table) (t : Table) (size : n ≡ length ts) (some : 0 < n) (it : t ≡ get_or ts (n - 1) t) where
  last_got : slice_get ts (n - 1) ≡ Some t
  last_got = slice_get-get_or ts (n - 1) t (omega (arith, size, some)) ∙ ap (λ u. Some u) (sym it)

  pub vec_last_there : (trains : ℕ) → AreThere trains (map group_of ts) → t.second < trains
  vec_last_there trains h = last_is_there trains ts t h (ap (λ m. slice_get ts (m - 1)) (sym size) ∙ last_got)

  pub vec_last_found : (f : Group → Option Group) (new : Table) (r : Result (Unit {0}) Stop) → IsFound (f (group_of t)) (group_of new) r
      → IsFound (with_last f (map group_of ts)) (map group_of (slice_set ts (n - 1) new)) r
  vec_last_found f new r h = found_at f ts (n - 1) t new r (omega (arith, size, some)) last_got h
