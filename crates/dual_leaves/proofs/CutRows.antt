-- What the row of a cut on two trains does to an account.
use Rattle.std.proofs.Common.{◌≡◌, ℕ, ◌<◌, ◌==◌, ◌&&◌, Bool, true, false, List, [], ◌∷◌, length, refl, sym, ap, ◌∙◌, subst, arith, ℤ, pos, negsuc, neg_ℤ, if◌then◌else◌, ◌+ℤ◌, ◌-ℤ◌, ◌*ℤ◌, ◌≤ℤ◌}
use Rattle.std.specs.Prelude.{nat_lt}
use Rattle.std.proofs.lemmas.Int.{ints}
use Rattle.std.proofs.lemmas.Bool.{eq-eqb, ne_eqb}
use Rattle.std.proofs.lemmas.List.{get_or_append_left}
use borrow.Author.Tests.{eqb-true, lt-ltb}
use Rattle.exact_lp.specs.declared.row.Row.{Row}
use Rattle.station.specs.Allowed.{numbers}
use Rattle.patterns.specs.Allowed.{list_of, FitsBook}
use Rattle.pair_prices.specs.Case.{CaseRecord}
use Rattle.pair_prices.specs.Fraction.{left_out, pattern_of}
use Rattle.pair_prices.specs.Top.{sealed_price}
use Rattle.pair_cuts.specs.declared.cut.PairCut.{PairCut}
use Rattle.pair_cuts.specs.Cut.{IsPairCut, pair_costs, alphas, betas}
use Rattle.transport.specs.Coupling.{at}
use Rattle.pattern_pricing.specs.declared.column.Column.TheVariants.{PlatformUse}
use Rattle.pattern_pricing.specs.declared.column.PairAt.{PairAt}
use Rattle.pattern_pricing.specs.Layout.{LayoutRecord, weight_column, pair_column}
use Rattle.pattern_pricing.specs.Positions.{position}
use Rattle.leaf_bounds.specs.Total.{only_if, total}
use Rattle.leaf_bounds.proofs.Totals.{mul-add_ℤ}
use Rattle.ratio.proofs.Ring.{mul-neg_ℤ}
use Rattle.station_rows.specs.Rows.{IsPairRow}
use Rattle.dual_leaves.specs.declared.key.PairKey.{PairKey}
use Rattle.dual_leaves.specs.declared.key.Side.TheVariants.{First, Second}
use Rattle.dual_leaves.specs.Account.{Totals, Reads, given_at, given_on, held_by, number_in, of_number, of_pair, on_platform, sum_of}
use Rattle.dual_leaves.specs.Kinds.{cell_of}
use Rattle.dual_leaves.specs.Shares.{IsSideRead}
use Rattle.dual_leaves.proofs.Shares.{one_place_if, one_place_of}
use Rattle.dual_leaves.proofs.Steps.{given_more, both_more, times_if, times_none, same_still, cell_is, worth}

minus_zero : (z : ℤ) → z *ℤ neg_ℤ (pos 0 +ℤ pos 0) ≡ pos 0
minus_zero z = omega (arith, ints)

first_alone : (a b : Bool) (x y : ℤ) → a ≡ true → b ≡ false → neg_ℤ (only_if a x +ℤ only_if b y) ≡ neg_ℤ x
first_alone true false x y e f = omega (arith, ints)
first_alone true true x y e f = cc
first_alone false b x y e f = cc

second_alone : (a b : Bool) (x y : ℤ) → a ≡ false → b ≡ true → neg_ℤ (only_if a x +ℤ only_if b y) ≡ neg_ℤ y
second_alone false true x y e f = omega (arith, ints)
second_alone false false x y e f = cc
second_alone true b x y e f = cc

-- the value times minus a number, with the other sign
turned : (v x y : ℤ) → x ≡ neg_ℤ y → neg_ℤ (v *ℤ x) ≡ v *ℤ y
turned v x y e = ap (λ (z : ℤ). neg_ℤ (v *ℤ z)) e ∙ ap neg_ℤ (mul-neg_ℤ v y) ∙ twice (v *ℤ y)
  where
    twice : (z : ℤ) → neg_ℤ (neg_ℤ z) ≡ z
    twice z = omega (arith, ints)

pub scaled_le : (v x y : ℤ) → pos 0 ≤ℤ v → x ≤ℤ y → (v *ℤ x) ≤ℤ (v *ℤ y)
scaled_le v x y h k =
    let rest : pos 0 ≤ℤ (v *ℤ (y -ℤ x)) = product v (y -ℤ x) h (omega (arith, ints, k)) in
    let sum : v *ℤ (x +ℤ (y -ℤ x)) ≡ v *ℤ x +ℤ v *ℤ (y -ℤ x) = mul-add_ℤ v x (y -ℤ x) in
    let same : v *ℤ (x +ℤ (y -ℤ x)) ≡ v *ℤ y = ap (λ (z : ℤ). v *ℤ z) (back x y) in
    omega (arith, ints, rest, sum, same)
  where
    back : (x y : ℤ) → x +ℤ (y -ℤ x) ≡ y
    back x y = omega (arith, ints)

    product : (a b : ℤ) → pos 0 ≤ℤ a → pos 0 ≤ℤ b → pos 0 ≤ℤ (a *ℤ b)
    product (pos a) (pos b) h k = omega (arith, ints)
    product (pos a) (negsuc b) h k = absurd (omega (arith, ints, k))
    product (negsuc a) b h k = absurd (omega (arith, ints, h))

first_true : (a b : Bool) → (a && b) ≡ true → a ≡ true
first_true true b e = refl
first_true false b e = cc

second_true : (a b : Bool) → (a && b) ≡ true → b ≡ true
second_true true b e = e
second_true false b e = cc

module _ (c : CaseRecord) (l : LayoutRecord) (lists : FitsBook l.lists c.book) (row : Row) (value : ℤ) (least : pos 0 ≤ℤ value)
    (p : PairAt) (order : p.first < p.second) (there : p.second < length l.lists) (cut : PairCut) (holds : IsPairCut c l.lists p.first p.second cut)
    (is : IsPairRow l cut row) where
  -- what the pattern of the pair's first train has
  first_cell : (i : ℕ) → i < length (list_of l.lists p.first) → cell_of l row (weight_column p.first i) ≡ neg_ℤ (at cut.alpha i)
  first_cell i h =
      let f = holds.is_first in
      let s = holds.is_second in
      cell_is c l row value _ _ _ is (weight_column p.first i) (omega (arith, order, there), h)
      ∙ first_alone (cut.first == p.first) (cut.second == p.first) (at cut.alpha i) (at cut.beta i)
      (eq-eqb cut.first p.first f) (ne_eqb cut.second p.first (λ e. absurd (omega (arith, order, s, e))))

  second_cell : (j : ℕ) → j < length (list_of l.lists p.second) → cell_of l row (weight_column p.second j) ≡ neg_ℤ (at cut.beta j)
  second_cell j h =
      let f = holds.is_first in
      let s = holds.is_second in
      cell_is c l row value _ _ _ is (weight_column p.second j) (there, h)
      ∙ second_alone (cut.first == p.second) (cut.second == p.second) (at cut.alpha j) (at cut.beta j)
      (ne_eqb cut.first p.second (λ e. absurd (omega (arith, order, f, e)))) (eq-eqb cut.second p.second s)

  -- at patterns of other trains the row has nothing
  other_cell : (train place : ℕ) → train < length l.lists → place < length (list_of l.lists train) → (p.first == train) ≡ false → (p.second == train) ≡ false
      → value *ℤ cell_of l row (weight_column train place) ≡ pos 0
  other_cell train place i k e f =
      worth c l row value _ _ _ is (weight_column train place) (i, k)
      ∙ (λ j. value *ℤ neg_ℤ (only_if ((ap (λ n. n == train) holds.is_first ∙ e) j) (at cut.alpha place) +ℤ only_if ((ap (λ n. n == train) holds.is_second ∙ f) j) (at cut.beta place)))
      ∙ minus_zero value

  -- what the row pays at a pattern is what it is given there, with the other sign
  given_here : (train place : ℕ) → train < length l.lists → place < length (list_of l.lists train)
      → neg_ℤ (only_if (p.first == train) (neg_ℤ (value *ℤ cell_of l row (weight_column train place)))
      +ℤ only_if (p.second == train) (neg_ℤ (value *ℤ cell_of l row (weight_column train place)))) ≤ℤ (value *ℤ cell_of l row (weight_column train place))
  given_here train place i k = by (p.first == train) (p.second == train) refl refl
    where
      once : (z : ℤ) → neg_ℤ (neg_ℤ z +ℤ pos 0) ≤ℤ z
      once z = omega (arith, ints)

      also : (z : ℤ) → neg_ℤ (pos 0 +ℤ neg_ℤ z) ≤ℤ z
      also z = omega (arith, ints)

      none : (z : ℤ) → z ≡ pos 0 → neg_ℤ (pos 0 +ℤ pos 0) ≤ℤ z
      none z e = omega (arith, ints, e)

      by : (a b : Bool) → (p.first == train) ≡ a → (p.second == train) ≡ b
          → neg_ℤ (only_if a (neg_ℤ (value *ℤ cell_of l row (weight_column train place))) +ℤ only_if b (neg_ℤ (value *ℤ cell_of l row (weight_column train place))))
          ≤ℤ (value *ℤ cell_of l row (weight_column train place))
      by true true e f = let x = eqb-true p.first train e in let y = eqb-true p.second train f in absurd (omega (arith, order, x, y))
      by true false e f = once (value *ℤ cell_of l row (weight_column train place))
      by false true e f = also (value *ℤ cell_of l row (weight_column train place))
      by false false e f = none (value *ℤ cell_of l row (weight_column train place)) (other_cell train place i k e f)

  -- the cut's numbers keep to the sealed price
  within : (i j : ℕ) → i < length (list_of l.lists p.first) → j < length (list_of l.lists p.second)
      → (at cut.alpha i +ℤ at cut.beta j) ≤ℤ pos (sealed_price c (pattern_of c l.lists p.first i) (pattern_of c l.lists p.second j))
  unfolding pair_costs
  within i j h k =
      let below = holds.holds i j (omega (arith, h)) (omega (arith, k)) in
      let long = holds.alpha in
      let wide = holds.beta in
      let a = get_or_append_left cut.alpha (cut.alpha_left ∷ []) (pos 0) i (omega (arith, h, long)) in
      let b = get_or_append_left cut.beta (cut.beta_left ∷ []) (pos 0) j (omega (arith, k, wide)) in
      let price = if_both (nat_lt i (left_out l.lists p.first)) (nat_lt j (left_out l.lists p.second))
      (sealed_price c (pattern_of c l.lists p.first i) (pattern_of c l.lists p.second j)) (lt-ltb i (left_out l.lists p.first) h) (lt-ltb j (left_out l.lists p.second) k) in
      sized (at (alphas cut) i) (at (betas cut) j) (at cut.alpha i) (at cut.beta j) (pair_costs c l.lists p.first p.second i j)
      (sealed_price c (pattern_of c l.lists p.first i) (pattern_of c l.lists p.second j)) below a b price
    where
      sized : (x y a b : ℤ) (m n : ℕ) → (x +ℤ y) ≤ℤ pos m → x ≡ a → y ≡ b → m ≡ n → (a +ℤ b) ≤ℤ pos n
      sized x y a b m n h e f g = omega (arith, ints, h, e, f, g)

      if_both : (a b : Bool) (n : ℕ) → a ≡ true → b ≡ true → (if a && b then n else 0) ≡ n
      if_both true true n e f = refl
      if_both true false n e f = cc
      if_both false b n e f = cc

  -- so the pair's numbers at two patterns are more by no more than the row pays at the pair's value, times their sealed price
  pair_here : (first second i j : ℕ) → first < second → second < length l.lists → i < length (list_of l.lists first) → j < length (list_of l.lists second)
      → (only_if (p.first == first && p.second == second) (neg_ℤ (value *ℤ cell_of l row (weight_column first i)))
      +ℤ only_if (p.first == first && p.second == second) (neg_ℤ (value *ℤ cell_of l row (weight_column second j))))
      ≤ℤ ((value *ℤ cell_of l row (pair_column (record { first = first; second = second })))
      *ℤ pos (sealed_price c (pattern_of c l.lists first i) (pattern_of c l.lists second j)))
  pair_here first second i j o s h k =
      by (p.first == first) (p.second == second) refl refl
      (worth c l row value _ _ _ is (pair_column (record { first = first; second = second })) (o, s)
      ∙ (λ n. value *ℤ only_if (ap (λ m. m == first) holds.is_first n && ap (λ m. m == second) holds.is_second n) (pos 1))
      ∙ times_if (p.first == first && p.second == second) value)
    where
      zero_le : (e s : ℤ) → e ≡ pos 0 → (pos 0 +ℤ pos 0) ≤ℤ (e *ℤ s)
      zero_le e s f = subst (λ (z : ℤ). (pos 0 +ℤ pos 0) ≤ℤ (z *ℤ s)) (sym f) (omega (arith, ints))

      by : (a b : Bool) → (p.first == first) ≡ a → (p.second == second) ≡ b
          → value *ℤ cell_of l row (pair_column (record { first = first; second = second })) ≡ only_if (a && b) value
          → (only_if (a && b) (neg_ℤ (value *ℤ cell_of l row (weight_column first i))) +ℤ only_if (a && b) (neg_ℤ (value *ℤ cell_of l row (weight_column second j))))
          ≤ℤ ((value *ℤ cell_of l row (pair_column (record { first = first; second = second })))
          *ℤ pos (sealed_price c (pattern_of c l.lists first i) (pattern_of c l.lists second j)))
      by true true e f g =
          let x = eqb-true p.first first e in
          let y = eqb-true p.second second f in
          let P : ℕ → ℕ → Type 0 = λ s t. (n m : ℕ) → n < length (list_of l.lists s) → m < length (list_of l.lists t)
          → (neg_ℤ (value *ℤ cell_of l row (weight_column s n)) +ℤ neg_ℤ (value *ℤ cell_of l row (weight_column t m)))
          ≤ℤ (value *ℤ pos (sealed_price c (pattern_of c l.lists s n) (pattern_of c l.lists t m))) in
          let all = subst (λ (t : ℕ). P first t) y (subst (λ (s : ℕ). P s p.second) x (λ n m q r.
          let a = turned value (cell_of l row (weight_column p.first n)) (at cut.alpha n) (first_cell n q) in
          let b = turned value (cell_of l row (weight_column p.second m)) (at cut.beta m) (second_cell m r) in
          let sum = mul-add_ℤ value (at cut.alpha n) (at cut.beta m) in
          let most = scaled_le value (at cut.alpha n +ℤ at cut.beta m) (pos (sealed_price c (pattern_of c l.lists p.first n) (pattern_of c l.lists p.second m))) least (within n m q r) in
          joined (neg_ℤ (value *ℤ cell_of l row (weight_column p.first n))) (neg_ℤ (value *ℤ cell_of l row (weight_column p.second m)))
          (value *ℤ at cut.alpha n) (value *ℤ at cut.beta m) (value *ℤ (at cut.alpha n +ℤ at cut.beta m))
          (value *ℤ pos (sealed_price c (pattern_of c l.lists p.first n) (pattern_of c l.lists p.second m))) a b sum most)) in
          subst (λ (z : ℤ). (neg_ℤ (value *ℤ cell_of l row (weight_column first i)) +ℤ neg_ℤ (value *ℤ cell_of l row (weight_column second j)))
          ≤ℤ (z *ℤ pos (sealed_price c (pattern_of c l.lists first i) (pattern_of c l.lists second j)))) (sym g) (all i j h k)
        where
          joined : (x y a b s t : ℤ) → x ≡ a → y ≡ b → s ≡ a +ℤ b → s ≤ℤ t → (x +ℤ y) ≤ℤ t
          joined x y a b s t e f g h = omega (arith, ints, e, f, g, h)
      by true false e f g = zero_le _ _ g
      by false true e f g = zero_le _ _ g
      by false false e f g = zero_le _ _ g

  pub pair_read : (a : Totals) (alpha beta : List (PairKey × ℤ)) → IsSideRead l row p First value a.alpha alpha → IsSideRead l row p Second value a.beta beta
      → Reads c l row value a (record { u = a.u; uses = a.uses; v = a.v; alpha = alpha; beta = beta })
  pair_read a alpha beta x y paid leasts h = record {
    weights = λ train place i k.
        given_more (of_number a.u train) (given_at c a train (number_in l train place))
        ((given_on First alpha train (number_in l train place) +ℤ given_on Second beta train (number_in l train place)) +ℤ held_by c a.v (pattern_of c l.lists train place))
        (paid (position l (weight_column train place)))
        (only_if (p.first == train) (neg_ℤ (value *ℤ cell_of l row (weight_column train place)))
        +ℤ only_if (p.second == train) (neg_ℤ (value *ℤ cell_of l row (weight_column train place))))
        (value *ℤ cell_of l row (weight_column train place)) (h.weights train place i k)
        (both (given_on First a.alpha train (number_in l train place)) (given_on First alpha train (number_in l train place))
        (given_on Second a.beta train (number_in l train place)) (given_on Second beta train (number_in l train place))
        (held_by c a.v (pattern_of c l.lists train place))
        (only_if (p.first == train) (neg_ℤ (value *ℤ cell_of l row (weight_column train place))))
        (only_if (p.second == train) (neg_ℤ (value *ℤ cell_of l row (weight_column train place))))
        (x.sums (λ n. n.first == train && n.number == number_in l train place)
        ∙ ap (λ z. given_on First a.alpha train (number_in l train place) +ℤ z)
        (one_place_of l.lists p.first train (lists.ascending train i) place k (λ t n. neg_ℤ (value *ℤ cell_of l row (weight_column t n)))))
        (y.sums (λ n. n.second == train && n.number == number_in l train place)
        ∙ ap (λ z. given_on Second a.beta train (number_in l train place) +ℤ z)
        (one_place_of l.lists p.second train (lists.ascending train i) place k (λ t n. neg_ℤ (value *ℤ cell_of l row (weight_column t n))))))
        (given_here train place i k);
    uses = λ platform i.
        same_still (on_platform a.v platform -ℤ of_number a.uses platform) (paid (position l (PlatformUse platform)))
        (value *ℤ cell_of l row (PlatformUse platform)) (h.uses platform i) (worth c l row value _ _ _ is (PlatformUse platform) i ∙ times_none value);
    pairs = λ first second i j o s n m.
        both_more (of_pair a.alpha first second (number_in l first i)) (of_pair alpha first second (number_in l first i))
        (of_pair a.beta first second (number_in l second j)) (of_pair beta first second (number_in l second j))
        (paid (position l (pair_column (record { first = first; second = second }))))
        (value *ℤ cell_of l row (pair_column (record { first = first; second = second })))
        (pos (sealed_price c (pattern_of c l.lists first i) (pattern_of c l.lists second j)))
        (only_if (p.first == first && p.second == second) (neg_ℤ (value *ℤ cell_of l row (weight_column first i))))
        (only_if (p.first == first && p.second == second) (neg_ℤ (value *ℤ cell_of l row (weight_column second j))))
        (h.pairs first second i j o s n m)
        (x.sums (λ k. k.first == first && k.second == second && k.number == number_in l first i)
        ∙ ap (λ z. of_pair a.alpha first second (number_in l first i) +ℤ z) (first_place first second i n (omega (arith, o, s))))
        (y.sums (λ k. k.first == first && k.second == second && k.number == number_in l second j)
        ∙ ap (λ z. of_pair a.beta first second (number_in l second j) +ℤ z) (second_place first second j m s))
        (pair_here first second i j o s n m);
    cost = same_still (sum_of a.u -ℤ sum_of a.uses) leasts (value *ℤ row.least) h.cost (ap (λ z. value *ℤ z) is.least_is ∙ times_none value);
    kept = record {
      u = h.kept.u;
      uses = h.kept.uses;
      uses_least = h.kept.uses_least;
      v = h.kept.v;
      v_least = h.kept.v_least;
      alpha = x.keys h.kept.alpha;
      beta = y.keys h.kept.beta;
    };
  }
    where
      both : (f f' g g' m d e : ℤ) → f' ≡ f +ℤ d → g' ≡ g +ℤ e → (f' +ℤ g') +ℤ m ≡ ((f +ℤ g) +ℤ m) +ℤ (d +ℤ e)
      both f f' g g' m d e h k = omega (arith, ints, h, k)

      first_place : (first second i : ℕ) → i < length (list_of l.lists first) → first < length l.lists
          → total (λ n. only_if (p.first == first && p.second == second && (number_in l p.first n == number_in l first i))
          (neg_ℤ (value *ℤ cell_of l row (weight_column p.first n)))) (numbers (length (list_of l.lists p.first)))
          ≡ only_if (p.first == first && p.second == second) (neg_ℤ (value *ℤ cell_of l row (weight_column first i)))
      first_place first second i h k =
          one_place_if l.lists (p.first == first && p.second == second) p.first first
          (λ e. eqb-true p.first first (first_true (p.first == first) (p.second == second) e)) (lists.ascending first k) i h
          (λ t n. neg_ℤ (value *ℤ cell_of l row (weight_column t n)))

      second_place : (first second j : ℕ) → j < length (list_of l.lists second) → second < length l.lists
          → total (λ n. only_if (p.first == first && p.second == second && (number_in l p.second n == number_in l second j))
          (neg_ℤ (value *ℤ cell_of l row (weight_column p.second n)))) (numbers (length (list_of l.lists p.second)))
          ≡ only_if (p.first == first && p.second == second) (neg_ℤ (value *ℤ cell_of l row (weight_column second j)))
      second_place first second j h k =
          one_place_if l.lists (p.first == first && p.second == second) p.second second
          (λ e. eqb-true p.second second (second_true (p.first == first) (p.second == second) e)) (lists.ascending second k) j h
          (λ t n. neg_ℤ (value *ℤ cell_of l row (weight_column t n)))
