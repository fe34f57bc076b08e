-- Sums over all columns, by what the columns stand for.
use Rattle.std.proofs.Common.{◌≡◌, ℕ, ◌+◌, Bool, true, false, List, [], ◌∷◌, ◌++◌, length, map, refl, ap, ◌∙◌, arith, Some, ℤ, pos, neg_ℤ, ◌+ℤ◌, ◌*ℤ◌}
use Rattle.std.specs.Prelude.{slice_get}
use Rattle.std.proofs.lemmas.Int.{ints}
use Rattle.station.specs.Allowed.{numbers}
use Rattle.ratio.proofs.Ring.{mul_comm_ℤ}
use Rattle.exact_lp.specs.declared.point.Point.{Point}
use Rattle.exact_lp.specs.declared.row.Row.{Row}
use Rattle.exact_lp.specs.Columns.{weighed_sum}
use Rattle.exact_lp.specs.Programs.{IsWithin, row_sum}
use Rattle.pair_prices.specs.Fraction.{places}
use Rattle.pair_prices.specs.Trains.{train_pairs}
use Rattle.leaf_bounds.specs.Total.{only_if, total}
use Rattle.leaf_bounds.proofs.Totals.{mul-none_ℤ, total-append, total_none, total_same}
use Rattle.leaf_bounds.proofs.MadeLemmas.{all_same}
use Rattle.leaf_bounds.proofs.SwapLemmas.{total_map, total_flat_map}
use Rattle.pattern_pricing.specs.declared.column.Column.{Column}
use Rattle.pattern_pricing.specs.declared.column.Column.TheVariants.{LeftOut, PlatformUse}
use Rattle.pattern_pricing.specs.Layout.{LayoutRecord, columns_of, weight_columns, weight_columns_of, weight_column, pair_column}
use Rattle.pattern_pricing.specs.Positions.{position}
use Rattle.pattern_pricing.proofs.Places.{position_of}
use Rattle.station_rows.specs.Points.{weight_at}
use Rattle.station_rows.specs.Rows.{IsRow}
use Rattle.station_rows.proofs.Weighed.{weighed_all, total_places}

-- the sum over all columns of a value times a weight
abbrev pub spread : LayoutRecord → (Column → ℤ) → (Column → ℤ) → ℤ
spread l value weight = total (λ col. value col *ℤ weight col) (columns_of l)

-- The point's sums are those over all columns with these weights.
abbrev pub IsSpread : LayoutRecord → (Column → ℤ) → Point → Type 0
IsSpread l weight point =
    (g : ℕ → ℤ) (value : Column → ℤ) → ((number : ℕ) (col : Column) → slice_get (columns_of l) number ≡ Some col → g number ≡ value col)
    → weighed_sum g point.weights ≡ spread l value weight

-- the point's weight of a column
abbrev pub point_weight : LayoutRecord → Point → Column → ℤ
point_weight l point col = weight_at point.weights (position l col)

pub point_spread : (l : LayoutRecord) (point : Point) → IsWithin (length (columns_of l)) point.weights → IsSpread l (point_weight l point) point
point_spread l point within g value h =
    weighed_all g (length (columns_of l)) point.weights point.ascending within
    ∙ total_places (λ n. g n *ℤ weight_at point.weights n) (λ col. value col *ℤ point_weight l point col) (columns_of l)
    (λ n col e. ap (λ z. z *ℤ weight_at point.weights n) (h n col e) ∙ ap (λ k. value col *ℤ weight_at point.weights k) (position_of l n col e))

-- what a row has at a point
pub row_spread : (l : LayoutRecord) (weight : Column → ℤ) (point : Point) → IsSpread l weight point → (value : Column → ℤ) (least : ℤ) (equal : Bool) (row : Row)
    → IsRow l value least equal row → row_sum row point ≡ spread l value weight
row_spread l weight point s value least equal row is = s _ value is.values

-- the sum over all columns, from the sums over each kind
pub by_kinds : (l : LayoutRecord) (f : Column → ℤ) (weights lefts uses pairs : ℤ)
    → total (λ t. total (λ i. f (weight_column t i)) (places l.lists t)) (numbers (length l.lists)) ≡ weights
    → total (λ t. f (LeftOut t)) (numbers (length l.lists)) ≡ lefts
    → total (λ p. f (PlatformUse p)) (numbers l.platforms) ≡ uses
    → total (λ p. f (pair_column p)) (train_pairs (length l.lists)) ≡ pairs
    → total f (columns_of l) ≡ weights +ℤ lefts +ℤ uses +ℤ pairs
unfolding columns_of weight_columns
by_kinds l f weights lefts uses pairs a b c d =
    let trains = length l.lists in
    let first = weight_columns l.lists in
    let second = map LeftOut (numbers trains) in
    let third = map PlatformUse (numbers l.platforms) in
    let fourth = map pair_column (train_pairs trains) in
    let three = total-append f (first ++ second ++ third) fourth in
    let two = total-append f (first ++ second) third in
    let one = total-append f first second in
    let flat = total_flat_map f (weight_columns_of l.lists) (numbers trains) in
    let each = total_same (λ t. total f (weight_columns_of l.lists t)) (λ t. total (λ i. f (weight_column t i)) (places l.lists t)) (numbers trains)
    (all_same (λ t. total f (weight_columns_of l.lists t)) (λ t. total (λ i. f (weight_column t i)) (places l.lists t)) (numbers trains)
    (λ t. total_map f (weight_column t) (places l.lists t))) in
    let e = total_map f LeftOut (numbers trains) in
    let g = total_map f PlatformUse (numbers l.platforms) in
    let h = total_map f pair_column (train_pairs trains) in
    omega (arith, ints, three, two, one, flat, each, e, g, h, a, b, c, d)

pub zero-mul_ℤ : (z : ℤ) → pos 0 *ℤ z ≡ pos 0
zero-mul_ℤ z = mul_comm_ℤ (pos 0) z ∙ mul-none_ℤ z

pub one-mul_ℤ : (z : ℤ) → pos 1 *ℤ z ≡ z
one-mul_ℤ z = omega (arith, ints)

pub minus-mul_ℤ : (z : ℤ) → neg_ℤ (pos 1) *ℤ z ≡ neg_ℤ z
minus-mul_ℤ z = omega (arith, ints)

-- a value that stands only where a test holds
pub scaled_if : (b : Bool) (v z : ℤ) → only_if b v *ℤ z ≡ only_if b (v *ℤ z)
scaled_if true v z = refl
scaled_if false v z = zero-mul_ℤ z

-- a test that is the same for all
pub pulled : {X : Type 0} (b : Bool) (f : X → ℤ) (xs : List X) → total (λ x. only_if b (f x)) xs ≡ only_if b (total f xs)
pulled true f xs = refl
pulled false f xs = total_none xs

pub total_all_same : {X : Type 0} (f g : X → ℤ) (xs : List X) → ((x : X) → f x ≡ g x) → total f xs ≡ total g xs
total_all_same f g xs h = total_same f g xs (all_same f g xs h)

pub all_none : {X : Type 0} (f : X → ℤ) (xs : List X) → ((x : X) → f x ≡ pos 0) → total f xs ≡ pos 0
all_none f xs h = total_all_same f (λ x. pos 0) xs h ∙ total_none xs

pub total_neg : {X : Type 0} (f : X → ℤ) (xs : List X) → total (λ x. neg_ℤ (f x)) xs ≡ neg_ℤ (total f xs)
total_neg f [] = refl
total_neg f (x ∷ xs) = let rest = total_neg f xs in omega (arith, ints, rest)
