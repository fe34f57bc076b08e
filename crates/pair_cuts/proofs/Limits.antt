-- No two choices cost more than 10^13.
use Rattle.std.proofs.Common.{◌≡◌, ℕ, ◌<◌, ◌≤◌, Bool, true, false, cond, ◌&&◌, min, refl, arith}
use Rattle.std.specs.Prelude.{nat_lt}
use borrow.Author.Tests.{lt-ltb, le-ltb}
use Rattle.station.specs.declared.part.Pattern.{Pattern}
use Rattle.patterns.specs.Allowed.{Lists}
use Rattle.pair_prices.specs.Case.{CaseRecord, IsCase}
use Rattle.pair_prices.specs.Pair.{are_forbidden, pair_price}
use Rattle.pair_prices.specs.Top.{sealed_price, top_of}
use Rattle.pair_prices.specs.Fraction.{left_out, pattern_of}
use Rattle.pair_prices.proofs.Above.{pair_below}
use Rattle.pair_prices.proofs.TopLemmas.{top_most, dearest_most}
use Rattle.pair_cuts.specs.Cut.{pair_costs}
use Rattle.pair_cuts.specs.Table.{TwoTrains, cost_at}

pub sealed_most : (c : CaseRecord) → IsCase c → (x y : Pattern) → sealed_price c x y ≤ 10_000_000_000_000
unfolding sealed_price
sealed_most c h x y = by (are_forbidden c.station x y) refl
  where
    by : (b : Bool) → are_forbidden c.station x y ≡ b → cond b (top_of c) (pair_price c.station x y) ≤ 10_000_000_000_000
    by true e = let t = top_most c h in omega (arith, t)
    by false e =
        let p = pair_below c.station x y e in
        let d = dearest_most c.station h.station in
        omega (arith, p, d)

pub costs_most : (c : CaseRecord) → IsCase c → (lists : Lists) (s t i j : ℕ) → pair_costs c lists s t i j ≤ 10_000_000_000_000
unfolding pair_costs
costs_most c h lists s t i j = by (nat_lt i (left_out lists s) && nat_lt j (left_out lists t))
  where
    by : (b : Bool) → cond b (sealed_price c (pattern_of c lists s i) (pattern_of c lists t j)) 0 ≤ 10_000_000_000_000
    by true = sealed_most c h (pattern_of c lists s i) (pattern_of c lists t j)
    by false = omega arith

min_small : (n m : ℕ) → n ≤ m → min n m ≡ n
min_small n m h = omega arith

pub cost_at_is : (v : TwoTrains) → IsCase v.case → (i j : ℕ) → cost_at v i j ≡ pair_costs v.case v.lists v.first v.second i j
cost_at_is v h i j = min_small (pair_costs v.case v.lists v.first v.second i j) 10_000_000_000_000 (costs_most v.case h v.lists v.first v.second i j)

-- the limit changes no cost
pub table_is : (v : TwoTrains) → IsCase v.case → cost_at v ≡ pair_costs v.case v.lists v.first v.second
table_is v h = λ k i j. cost_at_is v h i j k

pub cost_inside : (c : CaseRecord) (lists : Lists) (s t i j : ℕ) → i < left_out lists s → j < left_out lists t
    → sealed_price c (pattern_of c lists s i) (pattern_of c lists t j) ≡ pair_costs c lists s t i j
unfolding pair_costs
cost_inside c lists s t i j h k = by (nat_lt i (left_out lists s)) (nat_lt j (left_out lists t)) (lt-ltb _ _ h) (lt-ltb _ _ k)
  where
    by : (a b : Bool) → a ≡ true → b ≡ true
        → sealed_price c (pattern_of c lists s i) (pattern_of c lists t j)
        ≡ cond (a && b) (sealed_price c (pattern_of c lists s i) (pattern_of c lists t j)) 0
    by true true e f = refl
    by true false e f = cc
    by false b e f = cc

pub cost_of_left_row : (c : CaseRecord) (lists : Lists) (s t i j : ℕ) → left_out lists s ≤ i → pair_costs c lists s t i j ≡ 0
unfolding pair_costs
cost_of_left_row c lists s t i j h = by (nat_lt i (left_out lists s)) (nat_lt j (left_out lists t)) (le-ltb _ _ h)
  where
    by : (a b : Bool) → a ≡ false → cond (a && b) (sealed_price c (pattern_of c lists s i) (pattern_of c lists t j)) 0 ≡ 0
    by true b e = cc
    by false b e = refl

pub cost_of_left_column : (c : CaseRecord) (lists : Lists) (s t i j : ℕ) → left_out lists t ≤ j → pair_costs c lists s t i j ≡ 0
unfolding pair_costs
cost_of_left_column c lists s t i j h = by (nat_lt i (left_out lists s)) (nat_lt j (left_out lists t)) (le-ltb _ _ h)
  where
    by : (a b : Bool) → b ≡ false → cond (a && b) (sealed_price c (pattern_of c lists s i) (pattern_of c lists t j)) 0 ≡ 0
    by true true e = cc
    by true false e = refl
    by false b e = refl
