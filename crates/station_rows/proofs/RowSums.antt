-- What each kind of row has at a point.
use Rattle.std.proofs.Common.{◌≡◌, ℕ, ◌+◌, ◌<◌, ◌==◌, ◌&&◌, Bool, true, false, List, length, refl, ap, ◌∙◌, arith, ℤ, pos, neg_ℤ, ◌+ℤ◌, ◌-ℤ◌, ◌*ℤ◌}
use Rattle.std.specs.Prelude.{slice_index}
use Rattle.std.proofs.lemmas.Int.{ints}
use Rattle.station.specs.Allowed.{numbers}
use Rattle.ratio.proofs.Ring.{add-mul_ℤ, mul_comm_ℤ, mul-neg_ℤ}
use Rattle.transport.specs.Coupling.{at}
use Rattle.patterns.specs.Allowed.{list_of}
use Rattle.patterns.specs.Book.{price_at}
use Rattle.pair_prices.specs.Case.{CaseRecord}
use Rattle.pair_prices.specs.Fraction.{holds_there, pattern_of, places}
use Rattle.pair_prices.specs.Plan.{platform_price}
use Rattle.pair_prices.specs.Top.{top_of}
use Rattle.pair_prices.specs.Trains.{train_pairs}
use Rattle.leaf_bounds.specs.Total.{only_if, total}
use Rattle.leaf_bounds.proofs.Totals.{total_add, total_at}
use Rattle.leaf_bounds.proofs.SwapLemmas.{pair_at}
use Rattle.pair_cuts.specs.declared.cut.PairCut.{PairCut}
use Rattle.pattern_pricing.specs.declared.column.Column.{Column}
use Rattle.pattern_pricing.specs.declared.column.Column.TheVariants.{LeftOut, PlatformUse}
use Rattle.pattern_pricing.specs.Layout.{LayoutRecord, weight_column, pair_column}
use Rattle.pattern_pricing.specs.Prices.{price_of_column}
use Rattle.station_rows.specs.Rows.{train_value, use_value, clique_value, pair_row_value}
use Rattle.station_rows.specs.Points.{value_column}
use Rattle.station_rows.proofs.Spread.{spread, by_kinds, zero-mul_ℤ, one-mul_ℤ, minus-mul_ℤ, scaled_if, pulled, total_all_same, all_none, total_neg}

one_if : (b : Bool) (z : ℤ) → only_if b (pos 1) *ℤ z ≡ only_if b z
one_if b z = scaled_if b (pos 1) z ∙ ap (only_if b) (one-mul_ℤ z)

minus_if : (b : Bool) (z : ℤ) → only_if b (neg_ℤ (pos 1)) *ℤ z ≡ only_if b (neg_ℤ z)
minus_if b z = scaled_if b (neg_ℤ (pos 1)) z ∙ ap (only_if b) (minus-mul_ℤ z)

minus_out : (b : Bool) (z : ℤ) → only_if b (neg_ℤ (pos 1)) *ℤ z ≡ neg_ℤ (only_if b z)
minus_out true z = minus-mul_ℤ z
minus_out false z = zero-mul_ℤ z

neg-mul_ℤ : (a z : ℤ) → neg_ℤ a *ℤ z ≡ neg_ℤ (a *ℤ z)
neg-mul_ℤ a z = mul_comm_ℤ (neg_ℤ a) z ∙ mul-neg_ℤ z a ∙ ap neg_ℤ (mul_comm_ℤ z a)

two_if : (a b : Bool) (u v z : ℤ) → neg_ℤ (only_if a u +ℤ only_if b v) *ℤ z ≡ neg_ℤ (only_if a (u *ℤ z) +ℤ only_if b (v *ℤ z))
two_if a b u v z =
    neg-mul_ℤ (only_if a u +ℤ only_if b v) z
    ∙ ap neg_ℤ (add-mul_ℤ (only_if a u) (only_if b v) z ∙ ap (λ (y : ℤ). y +ℤ only_if b v *ℤ z) (scaled_if a u z) ∙ ap (λ (y : ℤ). only_if a (u *ℤ z) +ℤ y) (scaled_if b v z))

-- two tests that are the same for all
two_pulled : {X : Type 0} (a b : Bool) (f g : X → ℤ) (xs : List X)
    → total (λ x. neg_ℤ (only_if a (f x) +ℤ only_if b (g x))) xs ≡ neg_ℤ (only_if a (total f xs) +ℤ only_if b (total g xs))
two_pulled a b f g xs =
    total_neg (λ x. only_if a (f x) +ℤ only_if b (g x)) xs
    ∙ ap neg_ℤ (total_add (λ x. only_if a (f x)) (λ x. only_if b (g x)) xs ∙ ap (λ (y : ℤ). y +ℤ total (λ x. only_if b (g x)) xs) (pulled a f xs)
    ∙ ap (λ (y : ℤ). only_if a (total f xs) +ℤ y) (pulled b g xs))

-- what stands at two numbers alone
pub two_at : (f g : ℕ → ℤ) (a b n : ℕ) → a < n → b < n
    → total (λ s. neg_ℤ (only_if (a == s) (f s) +ℤ only_if (b == s) (g s))) (numbers n) ≡ neg_ℤ (f a +ℤ g b)
two_at f g a b n h k =
    total_neg (λ s. only_if (a == s) (f s) +ℤ only_if (b == s) (g s)) (numbers n)
    ∙ ap neg_ℤ (total_add (λ s. only_if (a == s) (f s)) (λ s. only_if (b == s) (g s)) (numbers n)
    ∙ ap (λ (y : ℤ). y +ℤ total (λ s. only_if (b == s) (g s)) (numbers n)) (total_at f a n h)
    ∙ ap (λ (y : ℤ). f a +ℤ y) (total_at g b n k))

module _ (l : LayoutRecord) (x : Column → ℤ) where
  -- the weights of a train's patterns
  abbrev pub patterns_weight : ℕ → ℤ
  patterns_weight t = total (λ i. x (weight_column t i)) (places l.lists t)

  pub train_spread : (t : ℕ) → t < length l.lists → spread l (train_value t) x ≡ patterns_weight t +ℤ x (LeftOut t)
  train_spread t h =
      let trains = length l.lists in
      let f : Column → ℤ = λ col. train_value t col *ℤ x col in
      let k = by_kinds l f (patterns_weight t) (x (LeftOut t)) (pos 0) (pos 0)
      (total_all_same (λ s. total (λ i. f (weight_column s i)) (places l.lists s)) (λ s. only_if (t == s) (patterns_weight s)) (numbers trains)
      (λ s. total_all_same (λ i. f (weight_column s i)) (λ i. only_if (t == s) (x (weight_column s i))) (places l.lists s) (λ i. one_if (t == s) (x (weight_column s i)))
      ∙ pulled (t == s) (λ i. x (weight_column s i)) (places l.lists s))
      ∙ total_at patterns_weight t trains h)
      (total_all_same (λ s. f (LeftOut s)) (λ s. only_if (t == s) (x (LeftOut s))) (numbers trains) (λ s. one_if (t == s) (x (LeftOut s)))
      ∙ total_at (λ s. x (LeftOut s)) t trains h)
      (all_none (λ p. f (PlatformUse p)) (numbers l.platforms) (λ p. zero-mul_ℤ (x (PlatformUse p))))
      (all_none (λ p. f (pair_column p)) (train_pairs trains) (λ p. zero-mul_ℤ (x (pair_column p)))) in
      omega (arith, ints, k)

  pub use_spread : (p : ℕ) → p < l.platforms → spread l (use_value p) x ≡ neg_ℤ (x (PlatformUse p))
  use_spread p h =
      let trains = length l.lists in
      let f : Column → ℤ = λ col. use_value p col *ℤ x col in
      let k = by_kinds l f (pos 0) (pos 0) (neg_ℤ (x (PlatformUse p))) (pos 0)
      (all_none (λ s. total (λ i. f (weight_column s i)) (places l.lists s)) (numbers trains)
      (λ s. all_none (λ i. f (weight_column s i)) (places l.lists s) (λ i. zero-mul_ℤ (x (weight_column s i)))))
      (all_none (λ s. f (LeftOut s)) (numbers trains) (λ s. zero-mul_ℤ (x (LeftOut s))))
      (total_all_same (λ q. f (PlatformUse q)) (λ q. only_if (p == q) (neg_ℤ (x (PlatformUse q)))) (numbers l.platforms) (λ q. minus_if (p == q) (x (PlatformUse q)))
      ∙ total_at (λ q. neg_ℤ (x (PlatformUse q))) p l.platforms h)
      (all_none (λ q. f (pair_column q)) (train_pairs trains) (λ q. zero-mul_ℤ (x (pair_column q)))) in
      omega (arith, ints, k)

  -- the weights of a train's patterns that hold the platform at that minute
  abbrev pub train_held : CaseRecord → ℕ → ℤ → ℕ → ℤ
  train_held c p m t = total (λ i. only_if (holds_there c p m (pattern_of c l.lists t i)) (x (weight_column t i))) (places l.lists t)

  pub clique_spread : (c : CaseRecord) (p : ℕ) (m : ℤ) → p < l.platforms
      → spread l (clique_value c l.lists p m) x ≡ x (PlatformUse p) -ℤ total (train_held c p m) (numbers (length l.lists))
  clique_spread c p m h =
      let trains = length l.lists in
      let f : Column → ℤ = λ col. clique_value c l.lists p m col *ℤ x col in
      let k = by_kinds l f (neg_ℤ (total (train_held c p m) (numbers trains))) (pos 0) (x (PlatformUse p)) (pos 0)
      (total_all_same (λ s. total (λ i. f (weight_column s i)) (places l.lists s)) (λ s. neg_ℤ (train_held c p m s)) (numbers trains)
      (λ s. total_all_same (λ i. f (weight_column s i)) (λ i. neg_ℤ (only_if (holds_there c p m (pattern_of c l.lists s i)) (x (weight_column s i)))) (places l.lists s)
      (λ i. minus_out (holds_there c p m (pattern_of c l.lists s i)) (x (weight_column s i)))
      ∙ total_neg (λ i. only_if (holds_there c p m (pattern_of c l.lists s i)) (x (weight_column s i))) (places l.lists s))
      ∙ total_neg (train_held c p m) (numbers trains))
      (all_none (λ s. f (LeftOut s)) (numbers trains) (λ s. zero-mul_ℤ (x (LeftOut s))))
      (total_all_same (λ q. f (PlatformUse q)) (λ q. only_if (p == q) (x (PlatformUse q))) (numbers l.platforms) (λ q. one_if (p == q) (x (PlatformUse q)))
      ∙ total_at (λ q. x (PlatformUse q)) p l.platforms h)
      (all_none (λ q. f (pair_column q)) (train_pairs trains) (λ q. zero-mul_ℤ (x (pair_column q)))) in
      omega (arith, ints, k)

  -- what numbers at a train's choices are worth
  abbrev pub train_worth : List ℤ → ℤ → ℕ → ℤ
  train_worth numbers left t = total (λ i. at numbers i *ℤ x (weight_column t i)) (places l.lists t) +ℤ left *ℤ x (LeftOut t)

  pub pair_spread : (cut : PairCut) → cut.first < cut.second → cut.second < length l.lists
      → spread l (pair_row_value cut) x
      ≡ x (value_column cut.first cut.second) -ℤ (train_worth cut.alpha cut.alpha_left cut.first +ℤ train_worth cut.beta cut.beta_left cut.second)
  pair_spread cut h n =
      let trains = length l.lists in
      let a = cut.first in
      let b = cut.second in
      let below : a < trains = omega (arith, h, n) in
      let f : Column → ℤ = λ col. pair_row_value cut col *ℤ x col in
      let one : ℕ → ℕ → ℤ = λ s i. at cut.alpha i *ℤ x (weight_column s i) in
      let two : ℕ → ℕ → ℤ = λ s i. at cut.beta i *ℤ x (weight_column s i) in
      let ones : ℕ → ℤ = λ s. total (one s) (places l.lists s) in
      let twos : ℕ → ℤ = λ s. total (two s) (places l.lists s) in
      let left : ℕ → ℤ = λ s. cut.alpha_left *ℤ x (LeftOut s) in
      let right : ℕ → ℤ = λ s. cut.beta_left *ℤ x (LeftOut s) in
      let k = by_kinds l f (neg_ℤ (ones a +ℤ twos b)) (neg_ℤ (left a +ℤ right b)) (pos 0) (x (value_column a b))
      (total_all_same (λ s. total (λ i. f (weight_column s i)) (places l.lists s)) (λ s. neg_ℤ (only_if (a == s) (ones s) +ℤ only_if (b == s) (twos s))) (numbers trains)
      (λ s. total_all_same (λ i. f (weight_column s i)) (λ i. neg_ℤ (only_if (a == s) (one s i) +ℤ only_if (b == s) (two s i))) (places l.lists s)
      (λ i. two_if (a == s) (b == s) (at cut.alpha i) (at cut.beta i) (x (weight_column s i)))
      ∙ two_pulled (a == s) (b == s) (one s) (two s) (places l.lists s))
      ∙ two_at ones twos a b trains below n)
      (total_all_same (λ s. f (LeftOut s)) (λ s. neg_ℤ (only_if (a == s) (left s) +ℤ only_if (b == s) (right s))) (numbers trains)
      (λ s. two_if (a == s) (b == s) cut.alpha_left cut.beta_left (x (LeftOut s)))
      ∙ two_at left right a b trains below n)
      (all_none (λ q. f (PlatformUse q)) (numbers l.platforms) (λ q. zero-mul_ℤ (x (PlatformUse q))))
      (total_all_same (λ q. f (pair_column q)) (λ q. only_if (a == q.first && b == q.second) (x (pair_column q))) (train_pairs trains)
      (λ q. one_if (a == q.first && b == q.second) (x (pair_column q)))
      ∙ pair_at (λ q. x (pair_column q)) a b trains h n) in
      omega (arith, ints, k)

  -- what the weights of a train's patterns cost
  abbrev pub patterns_price : CaseRecord → ℕ → ℤ
  patterns_price c t = total (λ i. pos (price_at c.book t (slice_index (list_of l.lists t) i)) *ℤ x (weight_column t i)) (places l.lists t)

  pub price_spread : (c : CaseRecord) → spread l (λ col. pos (price_of_column c l col)) x
      ≡ total (patterns_price c) (numbers (length l.lists)) +ℤ total (λ t. pos (top_of c) *ℤ x (LeftOut t)) (numbers (length l.lists))
      +ℤ total (λ p. pos (platform_price c p) *ℤ x (PlatformUse p)) (numbers l.platforms)
      +ℤ total (λ p. x (pair_column p)) (train_pairs (length l.lists))
  price_spread c =
      let trains = length l.lists in
      by_kinds l (λ col. pos (price_of_column c l col) *ℤ x col)
      (total (patterns_price c) (numbers trains)) (total (λ t. pos (top_of c) *ℤ x (LeftOut t)) (numbers trains))
      (total (λ p. pos (platform_price c p) *ℤ x (PlatformUse p)) (numbers l.platforms)) (total (λ p. x (pair_column p)) (train_pairs trains))
      refl refl refl (total_all_same (λ p. pos 1 *ℤ x (pair_column p)) (λ p. x (pair_column p)) (train_pairs trains) (λ p. one-mul_ℤ (x (pair_column p))))
