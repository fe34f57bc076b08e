-- What is listed for a platform in a span of minutes stands together in the list.
use Rattle.std.proofs.Common.{◌≡◌, ℕ, zero, suc, ◌+◌, ◌-◌, ◌*◌, ◌<◌, ◌≤◌, ◌==◌, ◌&&◌, Bool, true, false, List, [], ◌∷◌, length, get_or, take, drop, length-drop, refl, sym, ap, ◌∙◌, subst, arith, inl, inr, ◌⊎◌, ℤ, pos, neg_ℤ, ◌+ℤ◌, ◌≤ℤ◌, ◌<ℤ◌}
use Rattle.std.specs.Prelude.{unsigned_abs, int_le, int_lt, ◌^◌}
use Rattle.std.proofs.lemmas.Int.{ints}
use Rattle.std.proofs.lemmas.Bool.{cases_lt, eq-eqb, ne_eqb}
use Rattle.std.proofs.lemmas.List.{take_all}
use Rattle.std.proofs.lemmas.Option.{slice_get-get_or, slice_get_within, get_or_from_slice_get}
use Rattle.std.specs.List.Sorted.{IsPartitionedBy, IsPartitionPoint}
use Rattle.path_conflicts.specs.Minutes.{is_within}
use Rattle.leaf_bounds.specs.declared.number.MinuteValue.{MinuteValue}
use Rattle.leaf_bounds.specs.declared.leaf.Leaf.{Leaf}
use Rattle.leaf_bounds.specs.Total.{only_if, total}
use Rattle.leaf_bounds.specs.Listed.{IsMinuteValue, IsSmall, minute_key}
use Rattle.leaf_bounds.specs.Places.{AreMinuteValues, IsMinutePlace, value_below, value_within}
use Rattle.leaf_bounds.proofs.PlaceLemmas.{ascending_at}
use Rattle.leaf_bounds.proofs.BoundedLemmas.{Each, ascends_drop, bounded, each_drop, slice_get-drop}

pub minute_values : (l : Leaf) → AreMinuteValues l.v
minute_values l = record { each = l.kept.v_each; ascends = l.kept.v_ascends }

-- what stands for an entry where there is none
abbrev pub no_entry : MinuteValue
no_entry = record { platform = 0; minute = pos 0; value = pos 0 }

-- the rest of a list, as the code takes it
pub rest_taken : (k : ℕ) (xs : List MinuteValue) → take (length xs - k) (drop k xs) ≡ drop k xs
rest_taken k xs = let e = length-drop k xs in take_all (length xs - k) (drop k xs) (omega (arith, e))

pub minute_values_drop : (k : ℕ) (xs : List MinuteValue) → AreMinuteValues xs → AreMinuteValues (drop k xs)
minute_values_drop k xs h = record { each = each_drop IsMinuteValue k xs h.each; ascends = ascends_drop minute_key k xs h.ascends }

passes_less : (a b : ℤ) → int_lt a b ≡ true → a <ℤ b
passes_less a b e = grind (arith, ints)

not_below : (a b : ℤ) → b ≤ℤ a → int_lt a b ≡ false
not_below a b h = grind (arith, ints)

le_true : (a b : ℤ) → a ≤ℤ b → int_le a b ≡ true
le_true a b h = grind (arith, ints)

shifted_by : (a b : Bool) → (a ≡ true → b ≡ true) → (b ≡ true → a ≡ true) → a ≡ b
shifted_by true b f g = sym (f refl)
shifted_by false true f g = g refl
shifted_by false false f g = refl

lt_true : (a b : ℤ) → a <ℤ b → int_lt a b ≡ true
lt_true a b h = grind (arith, ints)

-- a test of two numbers that are moved alike
shifted : (d a b : ℤ) → int_lt a b ≡ int_lt (d +ℤ a) (d +ℤ b)
shifted d a b =
    shifted_by (int_lt a b) (int_lt (d +ℤ a) (d +ℤ b))
    (λ e. let h = passes_less a b e in lt_true (d +ℤ a) (d +ℤ b) (omega (arith, ints, h)))
    (λ e. let h = passes_less (d +ℤ a) (d +ℤ b) e in lt_true a b (omega (arith, ints, h)))

-- the tests by minutes and by keys
module _ (p q : ℕ) (m s e : ℤ) (first : neg_ℤ (pos 30) ≤ℤ m) (last : m ≤ℤ pos 2968) (start : neg_ℤ (pos 90) ≤ℤ s) (end : e ≤ℤ pos 2969) where
  same_by : (pos (10_000 * p) +ℤ s) ≤ℤ (pos (10_000 * q) +ℤ m) → (q < p) ⊎ (p ≤ q) → (p < q) ⊎ (q ≤ p)
      → (q == p && is_within s e m) ≡ int_lt (pos (10_000 * q) +ℤ m) (pos (10_000 * p) +ℤ e)
  same_by h (inl l) b = absurd (omega (arith, ints))
  same_by h (inr l) (inl g) =
      ap (λ b. b && is_within s e m) (ne_eqb q p (λ f. omega arith)) ∙ sym (behind (omega (arith, ints)))
    where
      behind : (pos (10_000 * p) +ℤ e) ≤ℤ (pos (10_000 * q) +ℤ m) → int_lt (pos (10_000 * q) +ℤ m) (pos (10_000 * p) +ℤ e) ≡ false
      behind f = not_below (pos (10_000 * q) +ℤ m) (pos (10_000 * p) +ℤ e) f
  same_by h (inr l) (inr g) =
      let k : q ≡ p = omega arith in
      let there : s ≤ℤ m = omega (arith, ints, h, k) in
      ap (λ b. b && is_within s e m) (eq-eqb q p k) ∙ here there ∙ ap (λ n. int_lt (pos (10_000 * q) +ℤ m) (pos (10_000 * n) +ℤ e)) k
    where
      here : s ≤ℤ m → (int_le s m && int_lt m e) ≡ int_lt (pos (10_000 * q) +ℤ m) (pos (10_000 * q) +ℤ e)
      here t = ap (λ b. b && int_lt m e) (le_true s m t) ∙ shifted (pos (10_000 * q)) m e

  pub same_tests : (pos (10_000 * p) +ℤ s) ≤ℤ (pos (10_000 * q) +ℤ m)
      → (q == p && is_within s e m) ≡ int_lt (pos (10_000 * q) +ℤ m) (pos (10_000 * p) +ℤ e)
  same_tests h = same_by h (cases_lt q p) (cases_lt p q)

  before_by : (pos (10_000 * q) +ℤ m) <ℤ (pos (10_000 * p) +ℤ s) → (q == p) ≡ true → int_le s m ≡ false
  before_by h t = grind (arith, ints)

  before_cases : (a : Bool) → (q == p) ≡ a → (pos (10_000 * q) +ℤ m) <ℤ (pos (10_000 * p) +ℤ s) → (a && is_within s e m) ≡ false
  before_cases true t h = ap (λ b. b && int_lt m e) (before_by h t)
  before_cases false t h = refl

  pub not_before : (pos (10_000 * q) +ℤ m) <ℤ (pos (10_000 * p) +ℤ s) → (q == p && is_within s e m) ≡ false
  not_before h = before_cases (q == p) refl h

module _ (p : ℕ) (s e : ℤ) (start : neg_ℤ (pos 90) ≤ℤ s) (end : e ≤ℤ pos 2969) where
  -- what lies in the span is what is below its end, from the place of its start on
  pub within_from : (xs : List MinuteValue) (place : ℕ) → Each IsMinuteValue xs → IsMinutePlace xs (pos (10_000 * p) +ℤ s) place
      → total (value_within p s e) xs ≡ total (value_below (pos (10_000 * p) +ℤ e)) (drop place xs)
  within_from [] zero each h = refl
  within_from [] (suc k) each h = refl
  within_from (x ∷ xs) zero each h =
      let limits = each 0 x refl in
      let here = ap (λ b. only_if b x.value) (same_tests p x.platform x.minute s e limits.first limits.last start end (h.rest 0 x (omega arith) refl)) in
      let rest = within_from xs zero (λ k y g. each (suc k) y g)
      (record { below = λ k y l g. absurd (omega arith); rest = λ k y l g. h.rest (suc k) y (omega arith) g }) in
      omega (arith, ints, here, rest)
  within_from (x ∷ xs) (suc k) each h =
      let limits = each 0 x refl in
      let here : value_within p s e x ≡ pos 0 =
      ap (λ b. only_if b x.value) (not_before p x.platform x.minute s e limits.first limits.last start end (h.below 0 x (omega arith) refl)) in
      let rest = within_from xs k (λ j y g. each (suc j) y g)
      (record { below = λ j y l g. h.below (suc j) y (omega arith) g; rest = λ j y l g. h.rest (suc j) y (omega arith) g }) in
      omega (arith, ints, here, rest)

key_up : (key : ℤ) (x y : MinuteValue) → int_lt (minute_key x) key ≡ true → int_lt (minute_key y) key ≡ true
    → minute_key x <ℤ minute_key y → minute_key x <ℤ minute_key y
key_up key x y e f l = l

-- what is left is at most 10^36
pub minutes_bounded : (key : ℤ) (k : ℕ) (xs : List MinuteValue) → AreMinuteValues xs → unsigned_abs (total (value_below key) (drop k xs)) ≤ 10 ^ 36
minutes_bounded key k xs h =
    let most = bounded minute_key minute_key (λ x. x.value) (λ x. int_lt (minute_key x) key) (pos 632_969) (key_up key) 632_999
    (drop k xs) (ascends_drop minute_key k xs h.ascends)
    (each_drop (λ x. IsSmall x.value) k xs (λ j x e. small x (h.each j x e)))
    (λ j x e t. let f = each_drop IsMinuteValue k xs h.each j x e in
    let a = f.platform in let b = f.first in let d = f.last in
    record { below = omega (arith, ints, a, d); above = omega (arith, ints, b) }) in
    omega (arith, most)
  where
    small : (x : MinuteValue) → IsMinuteValue x → IsSmall x.value
    small x f = let a = f.value in let b = f.some in omega (arith, ints, a, b)

zero_each : (f : MinuteValue → ℤ) (xs : List MinuteValue) → Each (λ x. f x ≡ pos 0) xs → total f xs ≡ pos 0
zero_each f [] h = refl
zero_each f (x ∷ xs) h =
    let here = h 0 x refl in
    let rest = zero_each f xs (λ k y e. h (suc k) y e) in
    omega (arith, ints, here, rest)

-- nothing is below a key that an entry reaches, from that entry on
pub none_below : (key : ℤ) (k : ℕ) (d : MinuteValue) (xs : List MinuteValue) → AreMinuteValues xs → k < length xs → key ≤ℤ minute_key (get_or xs k d)
    → total (value_below key) (drop k xs) ≡ pos 0
none_below key k d xs h l g =
    zero_each (value_below key) (drop k xs) (λ j x e.
    let order = ascending_at minute_key xs h.ascends k (k + j) (get_or xs k d) x (omega arith) (slice_get-get_or xs k d l)
    (sym (slice_get-drop k j xs) ∙ e) in
    ap (λ b. only_if b x.value) (not_below (minute_key x) key (omega (arith, ints, order, g))))

pub value_there : (key : ℤ) (x : MinuteValue) → minute_key x <ℤ key → x.value ≡ value_below key x
value_there key x h = sym (ap (λ b. only_if b x.value) (below h))
  where
    below : minute_key x <ℤ key → int_lt (minute_key x) key ≡ true
    below l = grind (arith, ints)

pub less_at : (a b : ℤ) → int_le a b ≡ false → b <ℤ a
less_at a b e = grind (arith, ints)

pub at_least : (a b : ℤ) → int_le a b ≡ true → a ≤ℤ b
at_least a b e = grind (arith, ints)

fails_least : (a b : ℤ) → int_lt a b ≡ false → b ≤ℤ a
fails_least a b e = grind (arith, ints)

less_passes : (a b c : ℤ) → a ≤ℤ b → int_lt b c ≡ true → int_lt a c ≡ true
less_passes a b c h e = grind (arith, ints)

-- the entries before a key stand in front
pub parted : (key : ℤ) (xs : List MinuteValue) → AreMinuteValues xs → IsPartitionedBy (λ x. int_lt (minute_key x) key) xs
parted key xs h = λ i j d l m e.
    less_passes (minute_key (get_or xs i d)) (minute_key (get_or xs j d)) key
    (ascending_at minute_key xs h.ascends i j (get_or xs i d) (get_or xs j d) l (slice_get-get_or xs i d (omega arith)) (slice_get-get_or xs j d m)) e

pub place_of_point : (key : ℤ) (xs : List MinuteValue) (place : ℕ)
    → IsPartitionPoint (λ x. int_lt (minute_key x) key ≡ true) (λ x. int_lt (minute_key x) key ≡ false) xs place → IsMinutePlace xs key place
place_of_point key xs place h = record {
  below = λ k x l e. subst (λ (y : MinuteValue). minute_key y <ℤ key) (get_or_from_slice_get xs k x x e)
      (passes_less (minute_key (get_or xs k x)) key (h.0 k x (omega arith) l));
  rest = λ k x l e. let within = slice_get_within xs k x e in
      subst (λ (y : MinuteValue). key ≤ℤ minute_key y) (get_or_from_slice_get xs k x x e)
      (fails_least (minute_key (get_or xs k x)) key (h.1 k x l within));
}
