-- Sums over the columns that a point lists, as sums over all columns.
use Rattle.std.proofs.Common.{◌≡◌, ℕ, suc, ◌+◌, ◌<◌, ◌==◌, if◌then◌else◌, Bool, true, false, eqb, List, [], ◌∷◌, length, get_or, refl, sym, ap, ◌∙◌, subst, arith, Some, ℤ, pos, ◌+ℤ◌, ◌*ℤ◌, ◌≤ℤ◌, ◌<ℤ◌}
use Rattle.std.specs.Prelude.{slice_get}
use Rattle.std.specs.List.{range_with_len}
use Rattle.std.proofs.lemmas.Int.{ints}
use Rattle.std.proofs.lemmas.Bool.{eqb-true}
use Rattle.std.proofs.lemmas.Bool.Decides.{nat_tests}
use Rattle.std.proofs.lemmas.List.Elements.{All-head, All-tail}
use Rattle.station.specs.Allowed.{numbers}
use Rattle.exact_lp.specs.declared.point.ColumnWeight.{ColumnWeight}
use Rattle.exact_lp.specs.Columns.{AreAscendingWeights, ArePositive, weighed_sum}
use Rattle.exact_lp.specs.Programs.{IsWithin}
use Rattle.leaf_bounds.specs.Total.{only_if, total}
use Rattle.leaf_bounds.proofs.Totals.{mul-none_ℤ, total_add, total_none, total_same, total_at}
use Rattle.leaf_bounds.proofs.MadeLemmas.{all_same}
use Rattle.station_rows.specs.Points.{weight_at}

passed : (a n : ℕ) (v r : ℤ) → (a ≡ n → ⊥) → (if a == n then v else r) ≡ r
passed a n v r ne = grind (arith, nat_tests)

tail_rises : (w : ColumnWeight) (ws : List ColumnWeight) → AreAscendingWeights (w ∷ ws) → AreAscendingWeights ws
tail_rises w ws up k d l =
    let next : suc k + 1 ≡ suc (k + 1) = omega arith in
    subst (λ (m : ℕ). (get_or ws k d).column < (get_or (w ∷ ws) m d).column) next (up (suc k) d (omega arith))

-- a column before all that are listed
absent : (n : ℕ) (ws : List ColumnWeight) → AreAscendingWeights ws → ((d : ColumnWeight) → 0 < length ws → n < (get_or ws 0 d).column)
    → weight_at ws n ≡ pos 0
absent n [] up b = refl
absent n (w ∷ ws) up b =
    let here : n < w.column = b w (omega arith) in
    passed w.column n w.weight (weight_at ws n) (λ e. omega arith)
    ∙ absent n ws (tail_rises w ws up) (λ d l. let next = up 0 d (omega arith) in omega arith)

pub weight_least : (ws : List ColumnWeight) (n : ℕ) → ArePositive ws → pos 0 ≤ℤ weight_at ws n
weight_least [] n h = omega (arith, ints)
weight_least (w ∷ ws) n h =
    by (w.column == n) (All-head (λ (v : ColumnWeight). pos 0 <ℤ v.weight) w ws h) (weight_least ws n (All-tail (λ (v : ColumnWeight). pos 0 <ℤ v.weight) w ws h))
  where
    by : (b : Bool) → pos 0 <ℤ w.weight → pos 0 ≤ℤ weight_at ws n → pos 0 ≤ℤ (if b then w.weight else weight_at ws n)
    by true h r = omega (arith, ints, h)
    by false h r = r

-- what one listed column adds
one_more : (g : ℕ → ℤ) (w : ColumnWeight) (ws : List ColumnWeight) (n : ℕ) → weight_at ws w.column ≡ pos 0 → (b : Bool) → eqb w.column n ≡ b
    → g n *ℤ (if b then w.weight else weight_at ws n) ≡ only_if b (g n *ℤ w.weight) +ℤ g n *ℤ weight_at ws n
one_more g w ws n none true t =
    let same = ap (weight_at ws) (eqb-true w.column n t) in
    let gone : g n *ℤ weight_at ws n ≡ pos 0 = ap (λ z. g n *ℤ z) (sym same ∙ none) ∙ mul-none_ℤ (g n) in
    omega (arith, ints, gone)
one_more g w ws n none false t = omega (arith, ints)

-- a sum over the listed columns is a sum over all
pub weighed_all : (g : ℕ → ℤ) (count : ℕ) (ws : List ColumnWeight) → AreAscendingWeights ws → IsWithin count ws
    → weighed_sum g ws ≡ total (λ n. g n *ℤ weight_at ws n) (numbers count)
weighed_all g count [] up within =
    sym (total_same (λ n. g n *ℤ pos 0) (λ n. pos 0) (numbers count) (all_same (λ n. g n *ℤ pos 0) (λ n. pos 0) (numbers count) (λ n. mul-none_ℤ (g n)))
    ∙ total_none (numbers count))
weighed_all g count (w ∷ ws) up within =
    let rest = weighed_all g count ws (tail_rises w ws up) (All-tail (λ (v : ColumnWeight). v.column < count) w ws within) in
    let none = absent w.column ws (tail_rises w ws up) (λ d l. up 0 d (omega arith)) in
    let f : ℕ → ℤ = λ n. g n *ℤ w.weight in
    let each : ℕ → ℤ = λ n. only_if (eqb w.column n) (f n) +ℤ g n *ℤ weight_at ws n in
    let split = total_same (λ n. g n *ℤ weight_at (w ∷ ws) n) each (numbers count)
    (all_same (λ n. g n *ℤ weight_at (w ∷ ws) n) each (numbers count) (λ n. one_more g w ws n none (eqb w.column n) refl)) in
    let add = total_add (λ n. only_if (eqb w.column n) (f n)) (λ n. g n *ℤ weight_at ws n) (numbers count) in
    let here = total_at f w.column count (All-head (λ (v : ColumnWeight). v.column < count) w ws within) in
    omega (arith, ints, rest, split, add, here)

-- a sum over the places from a on is a sum over the elements
places_from : {X : Type 0} (f : ℕ → ℤ) (g : X → ℤ) (a : ℕ) (xs : List X) → ((i : ℕ) (x : X) → slice_get xs i ≡ Some x → f (a + i) ≡ g x)
    → total f (range_with_len a (length xs)) ≡ total g xs
places_from f g a [] h = refl
places_from f g a (x ∷ xs) h =
    let here : f a ≡ g x = ap f (zero_more a) ∙ h 0 x refl in
    let rest = places_from f g (a + 1) xs (λ i y e. ap f (next a i) ∙ h (suc i) y e) in
    omega (arith, ints, here, rest)
  where
    zero_more : (n : ℕ) → n ≡ n + 0
    zero_more n = omega arith

    next : (n i : ℕ) → n + 1 + i ≡ n + suc i
    next n i = omega arith

pub total_places : {X : Type 0} (f : ℕ → ℤ) (g : X → ℤ) (xs : List X) → ((i : ℕ) (x : X) → slice_get xs i ≡ Some x → f i ≡ g x)
    → total f (numbers (length xs)) ≡ total g xs
total_places f g xs h = places_from f g 0 xs (λ i x e. ap f (plain i) ∙ h i x e)
  where
    plain : (n : ℕ) → 0 + n ≡ n
    plain n = omega arith
