-- What the row of a platform at a minute does to an account.
use Rattle.std.proofs.Common.{◌≡◌, ◌≢◌, ℕ, ◌<◌, ◌==◌, ◌&&◌, Bool, true, false, List, length, refl, sym, ap, ◌∙◌, arith, ℤ, pos, neg_ℤ, ◌+ℤ◌, ◌-ℤ◌, ◌*ℤ◌, ◌≤ℤ◌, ◌<ℤ◌}
use Rattle.std.specs.Prelude.{slice_index, int_le, int_lt}
use Rattle.std.proofs.lemmas.Int.{ints}
use Rattle.std.proofs.lemmas.Bool.{eq-eqb}
use borrow.Author.Tests.{eqb-true}
use Rattle.exact_lp.specs.declared.row.Row.{Row}
use Rattle.station.specs.declared.part.Pattern.{Pattern}
use Rattle.path_conflicts.specs.Minutes.{free_from, holds_platform}
use Rattle.patterns.specs.Allowed.{list_of, FitsBook}
use Rattle.pair_prices.specs.Case.{CaseRecord, IsCase}
use Rattle.pair_prices.specs.Fraction.{holds_there, pattern_of}
use Rattle.pair_prices.specs.Top.{sealed_price}
use Rattle.pair_prices.proofs.CaseLemmas.{sound_at}
use Rattle.pattern_pricing.specs.declared.column.Column.TheVariants.{PlatformUse}
use Rattle.pattern_pricing.specs.Layout.{LayoutRecord, weight_column, pair_column}
use Rattle.pattern_pricing.specs.Positions.{position}
use Rattle.leaf_bounds.specs.Total.{only_if}
use Rattle.station_rows.specs.Rows.{IsCliqueRow}
use Rattle.dual_leaves.specs.declared.key.MinuteKey.{MinuteKey}
use Rattle.dual_leaves.specs.declared.key.Side.TheVariants.{First, Second}
use Rattle.dual_leaves.specs.Account.{Totals, IsMinuteKey, Reads, given_at, given_on, held_by, number_in, of_number, of_pair, on_platform, sum_of}
use Rattle.dual_leaves.specs.Kinds.{cell_of}
use Rattle.dual_leaves.specs.Latest.{IsLatest}
use Rattle.dual_leaves.specs.Sums.{summed, IsAdded}
use Rattle.dual_leaves.proofs.Entries.{added_sum, added_keys, added_least}
use Rattle.dual_leaves.specs.Orders.{minute_order}
use Rattle.dual_leaves.proofs.Orders.{minute_total, minute_exact}
use Rattle.dual_leaves.proofs.Steps.{given_more, more_less, none_more, times_if, times_none, same_still, cell_is, worth}

le_is : (a b : ℤ) → int_le a b ≡ true → a ≤ℤ b
le_is a b e = grind (arith, ints)

lt_is : (a b : ℤ) → int_lt a b ≡ true → a <ℤ b
lt_is a b e = grind (arith, ints)

is_le : (a b : ℤ) → a ≤ℤ b → int_le a b ≡ true
is_le a b h = grind (arith, ints)

is_lt : (a b : ℤ) → a <ℤ b → int_lt a b ≡ true
is_lt a b h = grind (arith, ints)

two : (a b : Bool) → (a && b) ≡ true → (a ≡ true) × (b ≡ true)
two true true e = (refl, refl)
two true false e = cc
two false b e = cc

-- what a pattern that holds a platform at a minute keeps to
record IsThere (c : CaseRecord) (p : ℕ) (m : ℤ) (x : Pattern) : Type 0 where
  platform : x.platform ≡ p
  arrived : x.arrive ≤ℤ m
  gone : m <ℤ free_from c.station x

is_there : (c : CaseRecord) (p : ℕ) (m : ℤ) (x : Pattern) → holds_there c p m x ≡ true → IsThere c p m x
is_there c p m x e =
    let parts = two (x.platform == p) (holds_platform c.station x m) e in
    let span = two (int_le x.arrive m) (int_lt m (free_from c.station x)) parts.1 in
    record { platform = eqb-true x.platform p parts.0; arrived = le_is x.arrive m span.0; gone = lt_is m (free_from c.station x) span.1 }

-- the same, as an account asks it
holds_then : (c : CaseRecord) (p : ℕ) (m : ℤ) (x : Pattern) → IsThere c p m x → (p == x.platform && holds_platform c.station x m) ≡ true
holds_then c p m x h =
    ap (λ b. b && holds_platform c.station x m) (eq-eqb p x.platform (sym h.platform))
    ∙ ap (λ b. b && int_lt m (free_from c.station x)) (is_le x.arrive m h.arrived)
    ∙ is_lt m (free_from c.station x) h.gone

minus_if : (b : Bool) (z : ℤ) → pos 0 ≤ℤ z → neg_ℤ (only_if b z) ≤ℤ pos 0
minus_if true z h = omega (arith, ints, h)
minus_if false z h = omega (arith, ints)

times_minus_one : (z : ℤ) → z *ℤ neg_ℤ (pos 1) ≡ neg_ℤ z
times_minus_one z = omega (arith, ints)

module _ (c : CaseRecord) (case : IsCase c) (l : LayoutRecord) (lists : FitsBook l.lists c.book) (row : Row) (value : ℤ) (least : pos 0 ≤ℤ value)
    (p : ℕ) (inside : p < l.platforms) (m : ℤ) (is : IsCliqueRow c l p m row) (minute : ℤ) (latest : IsLatest c l row minute) where
  -- a pattern at which the row has a value
  held_once : (train place : ℕ) → train < length l.lists → place < length (list_of l.lists train) → cell_of l row (weight_column train place) ≢ pos 0
      → IsThere c p m (pattern_of c l.lists train place)
  held_once train place i k some = by (holds_there c p m (pattern_of c l.lists train place)) refl (cell_is c l row value _ _ _ is (weight_column train place) (i, k))
    where
      by : (b : Bool) → holds_there c p m (pattern_of c l.lists train place) ≡ b
          → cell_of l row (weight_column train place) ≡ only_if b (neg_ℤ (pos 1)) → IsThere c p m (pattern_of c l.lists train place)
      by true e f = is_there c p m (pattern_of c l.lists train place) e
      by false e f = absurd (some f)

  -- it holds the platform when the last of them arrives
  held_still : (train place : ℕ) → train < length l.lists → place < length (list_of l.lists train) → cell_of l row (weight_column train place) ≢ pos 0
      → IsThere c p minute (pattern_of c l.lists train place)
  held_still train place i k some =
      let here = held_once train place i k some in
      let arrived = here.arrived in
      let gone = here.gone in
      let there = lists.there train i place 0 k in
      let sound = sound_at c case train (slice_index (list_of l.lists train) place) (omega (arith, lists.trains, i)) there in
      let early = sound.arrive_least in
      let before = latest.least m (omega (arith, ints, early, arrived)) (λ t n j q other. (held_once t n j q other).arrived) in
      record {
        platform = here.platform;
        arrived = latest.most train place i k some;
        gone = omega (arith, ints, before, gone);
      }

  -- what the pattern is given covers what the row pays there
  covered : (train place : ℕ) → train < length l.lists → place < length (list_of l.lists train)
      → neg_ℤ (only_if (p == (pattern_of c l.lists train place).platform && holds_platform c.station (pattern_of c l.lists train place) minute) value)
      ≤ℤ (value *ℤ cell_of l row (weight_column train place))
  covered train place i k =
      by (holds_there c p m (pattern_of c l.lists train place)) (cell_is c l row value _ _ _ is (weight_column train place) (i, k))
    where
      x : Pattern
      x = pattern_of c l.lists train place

      paid : ℤ
      paid = value *ℤ cell_of l row (weight_column train place)

      full : cell_of l row (weight_column train place) ≡ neg_ℤ (pos 1) → cell_of l row (weight_column train place) ≢ pos 0
      full e f = minus_apart (sym e ∙ f)
        where
          minus_apart : neg_ℤ (pos 1) ≡ pos 0 → ⊥
          minus_apart e = cc

      by : (b : Bool) → cell_of l row (weight_column train place) ≡ only_if b (neg_ℤ (pos 1))
          → neg_ℤ (only_if (p == (pattern_of c l.lists train place).platform && holds_platform c.station (pattern_of c l.lists train place) minute) value)
          ≤ℤ (value *ℤ cell_of l row (weight_column train place))
      by true e =
          let test = ap (λ b. only_if b value) (holds_then c p minute (pattern_of c l.lists train place) (held_still train place i k (full e))) in
          let paid = ap (λ z. value *ℤ z) e ∙ times_minus_one value in
          omega (arith, ints, test, paid)
      by false e =
          let most = minus_if (p == (pattern_of c l.lists train place).platform && holds_platform c.station (pattern_of c l.lists train place) minute) value least in
          let paid = ap (λ z. value *ℤ z) e ∙ times_none value in
          omega (arith, ints, most, paid)

  pub clique_read : (a : Totals) (v : List (MinuteKey × ℤ)) → IsAdded minute_order a.v (record { platform = p; minute = minute }) value v
      → Reads c l row value a (record { u = a.u; uses = a.uses; v = v; alpha = a.alpha; beta = a.beta })
  clique_read a v added paid leasts h = record {
    weights = λ train place i k.
        given_more (of_number a.u train) (given_at c a train (number_in l train place))
        ((given_on First a.alpha train (number_in l train place) +ℤ given_on Second a.beta train (number_in l train place)) +ℤ held_by c v (pattern_of c l.lists train place))
        (paid (position l (weight_column train place)))
        (only_if (p == (pattern_of c l.lists train place).platform && holds_platform c.station (pattern_of c l.lists train place) minute) value)
        (value *ℤ cell_of l row (weight_column train place)) (h.weights train place i k)
        (last_more (given_on First a.alpha train (number_in l train place) +ℤ given_on Second a.beta train (number_in l train place))
        (held_by c a.v (pattern_of c l.lists train place)) (held_by c v (pattern_of c l.lists train place))
        (only_if (p == (pattern_of c l.lists train place).platform && holds_platform c.station (pattern_of c l.lists train place) minute) value)
        (sum (λ k. k.platform == (pattern_of c l.lists train place).platform && holds_platform c.station (pattern_of c l.lists train place) k.minute)))
        (covered train place i k);
    uses = λ platform i.
        more_less (on_platform a.v platform) (on_platform v platform) (of_number a.uses platform) (paid (position l (PlatformUse platform)))
        (only_if (p == platform) value) (value *ℤ cell_of l row (PlatformUse platform)) (h.uses platform i) (sum (λ k. k.platform == platform))
        (worth c l row value _ _ _ is (PlatformUse platform) i ∙ times_if (p == platform) value);
    pairs = λ first second i j o s k q.
        none_more (of_pair a.alpha first second (number_in l first i) +ℤ of_pair a.beta first second (number_in l second j))
        (paid (position l (pair_column (record { first = first; second = second }))))
        (value *ℤ cell_of l row (pair_column (record { first = first; second = second })))
        (pos (sealed_price c (pattern_of c l.lists first i) (pattern_of c l.lists second j))) (h.pairs first second i j o s k q)
        (worth c l row value _ _ _ is (pair_column (record { first = first; second = second })) (o, s) ∙ times_none value);
    cost = same_still (sum_of a.u -ℤ sum_of a.uses) leasts (value *ℤ row.least) h.cost (ap (λ z. value *ℤ z) is.least_is ∙ times_none value);
    kept = record {
      u = h.kept.u;
      uses = h.kept.uses;
      uses_least = h.kept.uses_least;
      v = added_keys minute_order (IsMinuteKey l) a.v v (record { platform = p; minute = minute }) value added
          (let last = latest.last in record { there = inside; first = latest.first; last = omega (arith, ints, last) }) h.kept.v;
      v_least = added_least minute_order a.v v (record { platform = p; minute = minute }) value added least h.kept.v_least;
      alpha = h.kept.alpha;
      beta = h.kept.beta;
    };
  }
    where
      sum : (test : MinuteKey → Bool) → summed test v ≡ summed test a.v +ℤ only_if (test (record { platform = p; minute = minute })) value
      sum test = added_sum minute_order minute_total minute_exact test a.v v (record { platform = p; minute = minute }) value added

      last_more : (f g g' d : ℤ) → g' ≡ g +ℤ d → f +ℤ g' ≡ (f +ℤ g) +ℤ d
      last_more f g g' d e = omega (arith, ints, e)
