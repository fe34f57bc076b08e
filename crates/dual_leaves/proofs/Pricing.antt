-- Where no column has a negative reduced price, an account keeps to prices.
use Rattle.std.proofs.Common.{◌≡◌, ℕ, ◌<◌, ◌==◌, ◌&&◌, List, length, ap, subst, arith, ℤ, pos, ◌+ℤ◌, ◌-ℤ◌, ◌*ℤ◌, ◌≤ℤ◌}
use Rattle.std.proofs.lemmas.Int.{ints}
use Rattle.std.proofs.lemmas.Option.{slice_get_within}
use Rattle.path_conflicts.specs.Minutes.{holds_platform}
use Rattle.patterns.specs.Book.{pattern_at, price_at}
use Rattle.pair_prices.specs.Case.{CaseRecord}
use Rattle.pair_prices.specs.Fraction.{pattern_of}
use Rattle.pair_prices.specs.Top.{sealed_price}
use Rattle.pattern_pricing.specs.declared.column.Column.{Column}
use Rattle.pattern_pricing.specs.declared.column.Column.TheVariants.{PlatformUse}
use Rattle.pattern_pricing.specs.Layout.{LayoutRecord, IsColumn, columns_of, pair_column, weight_column}
use Rattle.pattern_pricing.specs.Positions.{position}
use Rattle.pattern_pricing.specs.Prices.{column_price, price_of_column}
use Rattle.pattern_pricing.proofs.Places.{at_position, price_here}
use Rattle.ratio.proofs.Ring.{mul_comm_ℤ}
use Rattle.dual_leaves.specs.declared.key.MinuteKey.{MinuteKey}
use Rattle.dual_leaves.specs.declared.key.Side.TheVariants.{First, Second}
use Rattle.dual_leaves.specs.Account.{Totals, IsAccount, given_at, given_on, held_by, number_in, of_number, of_pair, on_platform}
use Rattle.dual_leaves.specs.Made.{IsDualAccount}
use Rattle.dual_leaves.specs.Priced.{AreUsesPaid, AreUsesPriced, IsPriced, use_price}
use Rattle.dual_leaves.proofs.CutRows.{scaled_le}

-- a product with a number that is not below 0
pub le_times : (x y : ℤ) (n : ℕ) → x ≤ℤ y → (x *ℤ pos n) ≤ℤ (y *ℤ pos n)
le_times x y n h =
    subst (λ (z : ℤ). z ≤ℤ (y *ℤ pos n)) (mul_comm_ℤ (pos n) x)
    (subst (λ (z : ℤ). (pos n *ℤ x) ≤ℤ z) (mul_comm_ℤ (pos n) y) (scaled_le (pos n) x y (omega (arith, ints)) h))

module _ (c : CaseRecord) (l : LayoutRecord) (scale leasts : ℤ) (paid : ℕ → ℤ)
    (least : (column : ℕ) → column < length (columns_of l) → pos 0 ≤ℤ (scale *ℤ pos (column_price (record { case = c; layout = l }) column) -ℤ paid column)) where
  -- no column is paid more than its price
  paid_most : (column : Column) → IsColumn l column → paid (position l column) ≤ℤ (scale *ℤ pos (price_of_column c l column))
  paid_most column there =
      let e = at_position l column there in
      let within = slice_get_within (columns_of l) (position l column) column e in
      below (scale *ℤ pos (column_price (record { case = c; layout = l }) (position l column))) (paid (position l column))
      (scale *ℤ pos (price_of_column c l column)) (least (position l column) within)
      (ap (λ n. scale *ℤ pos n) (price_here l c (position l column) column e))
    where
      below : (x p y : ℤ) → pos 0 ≤ℤ (x -ℤ p) → x ≡ y → p ≤ℤ y
      below x p y h e = omega (arith, ints, h, e)

  pub priced : (a : Totals) → IsAccount c l paid leasts a → IsPriced c l scale leasts a
  priced a h = record {
    weights = λ train place i k.
        at_most (of_number a.u train) (given_at c a train (number_in l train place)) (paid (position l (weight_column train place)))
        (scale *ℤ pos (price_at c.book train (number_in l train place))) (h.weights train place i k) (paid_most (weight_column train place) (i, k));
    pairs = λ first second i j o s n m.
        through (of_pair a.alpha first second (number_in l first i) +ℤ of_pair a.beta first second (number_in l second j))
        (paid (position l (pair_column (record { first = first; second = second })))
        *ℤ pos (sealed_price c (pattern_of c l.lists first i) (pattern_of c l.lists second j)))
        (scale *ℤ pos (sealed_price c (pattern_of c l.lists first i) (pattern_of c l.lists second j)))
        (h.pairs first second i j o s n m)
        (le_times (paid (position l (pair_column (record { first = first; second = second })))) scale
        (sealed_price c (pattern_of c l.lists first i) (pattern_of c l.lists second j))
        (one (paid (position l (pair_column (record { first = first; second = second })))) (paid_most (pair_column (record { first = first; second = second })) (o, s))));
    cost = h.cost;
    kept = h.kept;
  }
    where
      at_most : (u g p s : ℤ) → (u -ℤ g) ≤ℤ p → p ≤ℤ s → u ≤ℤ (s +ℤ g)
      at_most u g p s h k = omega (arith, ints, h, k)

      through : (x y z : ℤ) → x ≤ℤ y → y ≤ℤ z → x ≤ℤ z
      through x y z h k = omega (arith, ints, h, k)

      one : (p : ℤ) → p ≤ℤ (scale *ℤ pos 1) → p ≤ℤ scale
      one p h = let e = once scale in omega (arith, ints, h, e)
        where
          once : (s : ℤ) → s *ℤ pos 1 ≡ s
          once s = omega (arith, ints)

  pub uses_priced : (a : Totals) → IsAccount c l paid leasts a → AreUsesPriced c l scale a
  uses_priced a h platform i =
      at_most (on_platform a.v platform) (of_number a.uses platform) (paid (position l (PlatformUse platform))) (use_price c scale platform)
      (h.uses platform i) (paid_most (PlatformUse platform) i)
    where
      at_most : (v u p s : ℤ) → v -ℤ u ≡ p → p ≤ℤ s → v ≤ℤ (s +ℤ u)
      at_most v u p s h k = omega (arith, ints, h, k)

-- an account for whose platforms more is paid, beyond their prices just what holds down their uses
pub dual_account : (c : CaseRecord) (l : LayoutRecord) (scale leasts : ℤ) (a : Totals) (v : List (MinuteKey × ℤ)) → l.platforms ≡ length c.station.platforms
    → IsPriced c l scale leasts a → AreUsesPaid c scale a.uses a.v v
    → IsDualAccount c l scale leasts (record { u = a.u; uses = a.uses; v = v; alpha = a.alpha; beta = a.beta })
dual_account c l scale leasts a v same h paid = record {
  priced = record {
    weights = λ train place i k.
        grown (of_number a.u train) (scale *ℤ pos (price_at c.book train (number_in l train place)))
        (given_on First a.alpha train (number_in l train place) +ℤ given_on Second a.beta train (number_in l train place))
        (held_by c a.v (pattern_at c.book train (number_in l train place))) (held_by c v (pattern_at c.book train (number_in l train place)))
        (h.weights train place i k)
        (paid.more (λ k. k.platform == (pattern_at c.book train (number_in l train place)).platform
        && holds_platform c.station (pattern_at c.book train (number_in l train place)) k.minute));
    pairs = h.pairs;
    cost = h.cost;
    kept = record {
      u = h.kept.u;
      uses = h.kept.uses;
      uses_least = h.kept.uses_least;
      v = paid.keys l same h.kept.v;
      v_least = paid.least h.kept.v_least;
      alpha = h.kept.alpha;
      beta = h.kept.beta;
    };
  };
  excess = paid.excess;
}
  where
    grown : (u s f x y : ℤ) → u ≤ℤ (s +ℤ (f +ℤ x)) → x ≤ℤ y → u ≤ℤ (s +ℤ (f +ℤ y))
    grown u s f x y h k = omega (arith, ints, h, k)
