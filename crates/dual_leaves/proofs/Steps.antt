-- What a row of each kind does to an account.
use Rattle.std.proofs.Common.{◌≡◌, ℕ, ◌<◌, ◌==◌, Bool, true, false, List, length, sym, ap, ◌∙◌, subst, arith, ℤ, pos, neg_ℤ, ◌+ℤ◌, ◌-ℤ◌, ◌*ℤ◌, ◌≤ℤ◌}
use Rattle.std.specs.Ordering.{nat_cmp}
use Rattle.std.proofs.lemmas.Int.{ints}
use Rattle.std.proofs.lemmas.Cmp.{nat_cmp_total}
use Rattle.std.proofs.lemmas.Map.Lookups.{exact_unsigned}
use Rattle.exact_lp.specs.declared.row.Row.{Row}
use Rattle.pair_prices.specs.Case.{CaseRecord}
use Rattle.pair_prices.specs.Fraction.{pattern_of}
use Rattle.pair_prices.specs.Top.{sealed_price}
use Rattle.pattern_pricing.specs.declared.column.Column.{Column}
use Rattle.pattern_pricing.specs.declared.column.Column.TheVariants.{PlatformUse}
use Rattle.pattern_pricing.specs.Layout.{LayoutRecord, IsColumn, weight_column, pair_column}
use Rattle.pattern_pricing.specs.Positions.{position}
use Rattle.pattern_pricing.proofs.Places.{at_position}
use Rattle.leaf_bounds.specs.Total.{only_if}
use Rattle.ratio.proofs.Ring.{add-mul_ℤ}
use Rattle.station_rows.specs.Rows.{IsRow, IsTrainRow, IsUseRow}
use Rattle.dual_leaves.specs.Account.{Totals, Reads, given_at, number_in, of_number, of_pair, on_platform, sum_of}
use Rattle.dual_leaves.specs.Kinds.{cell_of}
use Rattle.dual_leaves.specs.Sums.{summed, IsAdded}
use Rattle.dual_leaves.proofs.Entries.{added_sum, added_keys, added_least}

-- ---- sums with a part more
pub weights_more : (x x' g p d e : ℤ) → (x -ℤ g) ≤ℤ p → x' ≡ x +ℤ d → e ≡ d → (x' -ℤ g) ≤ℤ (p +ℤ e)
weights_more x x' g p d e h a b = omega (arith, ints, h, a, b)

pub given_more : (x g g' p d e : ℤ) → (x -ℤ g) ≤ℤ p → g' ≡ g +ℤ d → neg_ℤ d ≤ℤ e → (x -ℤ g') ≤ℤ (p +ℤ e)
given_more x g g' p d e h a b = omega (arith, ints, h, a, b)

pub at_most_same : (x p e : ℤ) → x ≤ℤ p → e ≡ pos 0 → x ≤ℤ (p +ℤ e)
at_most_same x p e h a = omega (arith, ints, h, a)

pub same_still : (x p e : ℤ) → x ≡ p → e ≡ pos 0 → x ≡ p +ℤ e
same_still x p e h a = omega (arith, ints, h, a)

pub less_more : (v x x' p d e : ℤ) → v -ℤ x ≡ p → x' ≡ x +ℤ d → e ≡ neg_ℤ d → v -ℤ x' ≡ p +ℤ e
less_more v x x' p d e h a b = omega (arith, ints, h, a, b)

pub more_less : (v v' x p d e : ℤ) → v -ℤ x ≡ p → v' ≡ v +ℤ d → e ≡ d → v' -ℤ x ≡ p +ℤ e
more_less v v' x p d e h a b = omega (arith, ints, h, a, b)

pub times_if : (b : Bool) (z : ℤ) → z *ℤ only_if b (pos 1) ≡ only_if b z
times_if true z = omega (arith, ints)
times_if false z = omega (arith, ints)

pub times_minus_if : (b : Bool) (z : ℤ) → z *ℤ only_if b (neg_ℤ (pos 1)) ≡ neg_ℤ (only_if b z)
times_minus_if true z = omega (arith, ints)
times_minus_if false z = omega (arith, ints)

pub times_none : (z : ℤ) → z *ℤ pos 0 ≡ pos 0
times_none z = omega (arith, ints)

pub times_one : (z : ℤ) → z *ℤ pos 1 ≡ z
times_one z = omega (arith, ints)

pub times_minus_one : (z : ℤ) → z *ℤ neg_ℤ (pos 1) ≡ neg_ℤ z
times_minus_one z = omega (arith, ints)

-- the product with nothing more in the first factor
pub none_more : (x p e s : ℤ) → x ≤ℤ (p *ℤ s) → e ≡ pos 0 → x ≤ℤ ((p +ℤ e) *ℤ s)
none_more x p e s h a =
    let same : p +ℤ e ≡ p = plus p e a in
    subst (λ (y : ℤ). x ≤ℤ (y *ℤ s)) (sym same) h
  where
    plus : (p e : ℤ) → e ≡ pos 0 → p +ℤ e ≡ p
    plus p e a = omega (arith, ints, a)

pub both_more : (a a' b b' p e s d f : ℤ) → (a +ℤ b) ≤ℤ (p *ℤ s) → a' ≡ a +ℤ d → b' ≡ b +ℤ f → (d +ℤ f) ≤ℤ (e *ℤ s) → (a' +ℤ b') ≤ℤ ((p +ℤ e) *ℤ s)
both_more a a' b b' p e s d f h x y z =
    let product = add-mul_ℤ p e s in
    omega (arith, ints, h, x, y, z, product)

module _ (c : CaseRecord) (l : LayoutRecord) (row : Row) (value : ℤ) where
  -- the value of a row at a column that is there
  module _ (number : Column → ℤ) (least : ℤ) (equal : Bool) (h : IsRow l number least equal row) where
    pub cell_is : (column : Column) → IsColumn l column → cell_of l row column ≡ number column
    cell_is column there = h.values (position l column) column (at_position l column there)

    pub worth : (column : Column) → IsColumn l column → value *ℤ cell_of l row column ≡ value *ℤ number column
    worth column there = ap (λ z. value *ℤ z) (cell_is column there)

  -- the row of a train
  pub train_read : (a : Totals) (t : ℕ) (u : List (ℕ × ℤ)) → t < length l.lists → IsTrainRow l t row → IsAdded nat_cmp a.u t value u
      → Reads c l row value a (record { u = u; uses = a.uses; v = a.v; alpha = a.alpha; beta = a.beta })
  train_read a t u inside is added paid leasts h = record {
    weights = λ train place i k.
        weights_more (of_number a.u train) (of_number u train) (given_at c a train (number_in l train place)) (paid (position l (weight_column train place)))
        (only_if (t == train) value) (value *ℤ cell_of l row (weight_column train place)) (h.weights train place i k) (sum (λ n. n == train))
        (worth _ _ _ is (weight_column train place) (i, k) ∙ times_if (t == train) value);
    uses = λ platform i.
        same_still (on_platform a.v platform -ℤ of_number a.uses platform) (paid (position l (PlatformUse platform)))
        (value *ℤ cell_of l row (PlatformUse platform)) (h.uses platform i) (worth _ _ _ is (PlatformUse platform) i ∙ times_none value);
    pairs = λ first second i j o s p q.
        none_more (of_pair a.alpha first second (number_in l first i) +ℤ of_pair a.beta first second (number_in l second j))
        (paid (position l (pair_column (record { first = first; second = second }))))
        (value *ℤ cell_of l row (pair_column (record { first = first; second = second })))
        (pos (sealed_price c (pattern_of c l.lists first i) (pattern_of c l.lists second j))) (h.pairs first second i j o s p q)
        (worth _ _ _ is (pair_column (record { first = first; second = second })) (o, s) ∙ times_none value);
    cost = costs (sum_of a.u) (sum_of u) (sum_of a.uses) leasts (value *ℤ row.least) h.cost (sum (λ n. true)) (ap (λ z. value *ℤ z) is.least_is ∙ times_one value);
    kept = record {
      u = added_keys nat_cmp (λ n. n < length l.lists) a.u u t value added inside h.kept.u;
      uses = h.kept.uses;
      uses_least = h.kept.uses_least;
      v = h.kept.v;
      v_least = h.kept.v_least;
      alpha = h.kept.alpha;
      beta = h.kept.beta;
    };
  }
    where
      sum : (test : ℕ → Bool) → summed test u ≡ summed test a.u +ℤ only_if (test t) value
      sum test = added_sum nat_cmp nat_cmp_total exact_unsigned test a.u u t value added

      costs : (x x' y s e : ℤ) → x -ℤ y ≡ s → x' ≡ x +ℤ value → e ≡ value → x' -ℤ y ≡ s +ℤ e
      costs x x' y s e f g k = omega (arith, ints, f, g, k)

  -- the row of a platform's use
  pub use_read : (a : Totals) (p : ℕ) (uses : List (ℕ × ℤ)) → p < l.platforms → pos 0 ≤ℤ value → IsUseRow l p row → IsAdded nat_cmp a.uses p value uses
      → Reads c l row value a (record { u = a.u; uses = uses; v = a.v; alpha = a.alpha; beta = a.beta })
  use_read a p uses inside least is added paid leasts h = record {
    weights = λ train place i k.
        at_most_same (of_number a.u train -ℤ given_at c a train (number_in l train place)) (paid (position l (weight_column train place)))
        (value *ℤ cell_of l row (weight_column train place)) (h.weights train place i k) (worth _ _ _ is (weight_column train place) (i, k) ∙ times_none value);
    uses = λ platform i.
        less_more (on_platform a.v platform) (of_number a.uses platform) (of_number uses platform) (paid (position l (PlatformUse platform)))
        (only_if (p == platform) value) (value *ℤ cell_of l row (PlatformUse platform)) (h.uses platform i) (sum (λ n. n == platform))
        (worth _ _ _ is (PlatformUse platform) i ∙ times_minus_if (p == platform) value);
    pairs = λ first second i j o s k q.
        none_more (of_pair a.alpha first second (number_in l first i) +ℤ of_pair a.beta first second (number_in l second j))
        (paid (position l (pair_column (record { first = first; second = second }))))
        (value *ℤ cell_of l row (pair_column (record { first = first; second = second })))
        (pos (sealed_price c (pattern_of c l.lists first i) (pattern_of c l.lists second j))) (h.pairs first second i j o s k q)
        (worth _ _ _ is (pair_column (record { first = first; second = second })) (o, s) ∙ times_none value);
    cost = costs (sum_of a.u) (sum_of a.uses) (sum_of uses) leasts (value *ℤ row.least) h.cost (sum (λ n. true))
        (ap (λ z. value *ℤ z) is.least_is ∙ times_minus_one value);
    kept = record {
      u = h.kept.u;
      uses = added_keys nat_cmp (λ n. n < l.platforms) a.uses uses p value added inside h.kept.uses;
      uses_least = added_least nat_cmp a.uses uses p value added least h.kept.uses_least;
      v = h.kept.v;
      v_least = h.kept.v_least;
      alpha = h.kept.alpha;
      beta = h.kept.beta;
    };
  }
    where
      sum : (test : ℕ → Bool) → summed test uses ≡ summed test a.uses +ℤ only_if (test p) value
      sum test = added_sum nat_cmp nat_cmp_total exact_unsigned test a.uses uses p value added

      costs : (x y y' s e : ℤ) → x -ℤ y ≡ s → y' ≡ y +ℤ value → e ≡ neg_ℤ value → x -ℤ y' ≡ s +ℤ e
      costs x y y' s e f g k = omega (arith, ints, f, g, k)
