-- The bound of a tree is in the range of a proof file's last number.
use Rattle.std.proofs.Common.{◌≡◌, ℕ, zero, suc, ◌*◌, ◌≤◌, ◌==◌, ◌&&◌, Bool, true, false, cond, length, refl, sym, subst, arith, ℤ, pos, negsuc, neg_ℤ, ◌-ℤ◌, ◌*ℤ◌, ◌≤ℤ◌, ◌<ℤ◌}
use Rattle.std.specs.Prelude.{unsigned_abs, int_le, ◌^◌, IsTrue}
use Rattle.std.specs.Int.{int_max}
use Rattle.std.proofs.lemmas.Int.{ints, clamps}
use Rattle.std.proofs.lemmas.Bool.{eqb-true}
use Rattle.std.proofs.lemmas.Bool.Decides.{nat_tests}
use Rattle.std.proofs.Math.IntN.{*ℤ_comm}
use Rattle.std.proofs.Math.Nat.{div-le_self}
use Rattle.station.specs.Allowed.{numbers}
use Rattle.path_conflicts.specs.Minutes.{is_within, minutes}
use Rattle.patterns.specs.Allowed.{Lists}
use Rattle.pair_prices.specs.Case.{CaseRecord, IsCase}
use Rattle.pair_prices.specs.Plan.{platform_price}
use Rattle.pair_prices.specs.Top.{top_of}
use Rattle.pair_prices.proofs.TopLemmas.{top_most}
use Rattle.leaf_bounds.specs.declared.leaf.Leaf.{Leaf}
use Rattle.leaf_bounds.specs.declared.number.MinuteValue.{MinuteValue}
use Rattle.leaf_bounds.specs.declared.tree.Bound.{Bound}
use Rattle.leaf_bounds.specs.declared.tree.Bound.TheVariants.{AtLeast, Nothing}
use Rattle.leaf_bounds.specs.Leaf.{ceiling, excess, is_empty, scaled, value_of}
use Rattle.leaf_bounds.specs.Listed.{IsMinuteValue, IsSmall, minute_key, u_listed, v_listed}
use Rattle.leaf_bounds.specs.Shown.{bound_of_tree, numbers_of}
use Rattle.leaf_bounds.specs.Total.{total}
use Rattle.leaf_bounds.specs.Tree.{SplitTree, end, split, lesser, lists_below, lists_from}
use Rattle.leaf_bounds.proofs.BoundedLemmas.{bounded, u_bounded}
use Rattle.leaf_bounds.proofs.CeilingLemmas.{ceiling_least}
use Rattle.leaf_bounds.proofs.RowLemmas.{price_least}
use Rattle.leaf_bounds.proofs.SwapLemmas.{all_is}
use Rattle.leaf_bounds.proofs.Totals.{total_numbers_more}
use Rattle.proof_file.specs.Kind.{is_in_range}
use Rattle.proof_file.specs.Text.{end_of}

-- ---- sums of numbers of one limit

total_size : (f : ℕ → ℤ) (most n : ℕ) → ((k : ℕ) → unsigned_abs (f k) ≤ most) → unsigned_abs (total f (numbers n)) ≤ n * most
total_size f most zero h = omega arith
total_size f most (suc n) h =
    let more = total_numbers_more f n in
    let rest = total_size f most n h in
    let last = h n in
    omega (arith, ints, more, rest, last)

-- ---- a platform's minutes

tests : (p : ℕ) (x : MinuteValue) → (x.platform == p && is_within (neg_ℤ (pos 90)) (pos 2969) x.minute) ≡ true → x.platform ≡ p
tests p x e = eqb-true x.platform p (first_true (x.platform == p) (is_within (neg_ℤ (pos 90)) (pos 2969) x.minute) e)
  where
    first_true : (a b : Bool) → (a && b) ≡ true → a ≡ true
    first_true true b f = refl
    first_true false b f = cc

up : (p : ℕ) (x y : MinuteValue) → (x.platform == p && is_within (neg_ℤ (pos 90)) (pos 2969) x.minute) ≡ true
    → (y.platform == p && is_within (neg_ℤ (pos 90)) (pos 2969) y.minute) ≡ true → minute_key x <ℤ minute_key y → x.minute <ℤ y.minute
up p x y e f l =
    let a = tests p x e in
    let b = tests p y f in
    omega (arith, ints, l, a, b)

value_small : (x : MinuteValue) → IsMinuteValue x → IsSmall x.value
value_small x f = let a = f.value in let b = f.some in omega (arith, ints, a, b)

-- what is listed for a platform is at most 2,999 numbers in size
minutes_size : (l : Leaf) (p : ℕ) → unsigned_abs (total (v_listed l.v p) minutes) ≤ 2999 * 10 ^ 30
minutes_size l p =
    let most = bounded minute_key (λ x. x.minute) (λ x. x.value) (λ x. x.platform == p && is_within (neg_ℤ (pos 90)) (pos 2969) x.minute)
    (pos 2969) (up p) 2999 l.v l.kept.v_ascends (λ k x e. value_small x (l.kept.v_each k x e))
    (λ k x e t.
    let f = l.kept.v_each k x e in
    let a = f.first in
    let b = f.last in
    record { below = omega (arith, ints, b); above = omega (arith, ints, a) }) in
    subst (λ (z : ℤ). unsigned_abs z ≤ 2999 * 10 ^ 30) (sym (all_is l p)) most

above_size : (s p : ℤ) (most : ℕ) → unsigned_abs s ≤ most → pos 0 ≤ℤ p → unsigned_abs (int_max (s -ℤ p) (pos 0)) ≤ most
above_size s p most h l = omega (arith, ints, clamps, h, l)

excess_size : (c : CaseRecord) (l : Leaf) (p : ℕ) → unsigned_abs (excess c (numbers_of l) p) ≤ 2999 * 10 ^ 30
unfolding excess
excess_size c l p =
    above_size (total (v_listed l.v p) minutes) (scaled (numbers_of l) (platform_price c p)) (2999 * 10 ^ 30) (minutes_size l p)
    (price_least l.q (platform_price c p) l.kept.q_least)

-- ---- the value of a leaf

train_size : (l : Leaf) (t : ℕ) → unsigned_abs (u_listed l.u t) ≤ 200 * 10 ^ 30
train_size l t = u_bounded l 0 t

product_most : (n most a : ℕ) → n ≤ most → n * a ≤ most * a
product_most zero most a h = omega arith
product_most (suc n) zero a h = absurd (omega arith)
product_most (suc n) (suc most) a h = let rest = product_most n most a (omega arith) in omega (arith, rest)

value_least : (c : CaseRecord) → IsCase c → (l : Leaf) → neg_ℤ (pos (10 ^ 36)) ≤ℤ value_of c (numbers_of l)
unfolding value_of
value_least c case l =
    let u = total_size (u_listed l.u) (200 * 10 ^ 30) (length c.book) (train_size l) in
    let v = total_size (excess c (numbers_of l)) (2999 * 10 ^ 30) (length c.station.platforms) (excess_size c l) in
    let trains = product_most (length c.book) 200 (200 * 10 ^ 30) case.book.trains in
    let platforms = product_most (length c.station.platforms) 64 (2999 * 10 ^ 30) case.station.platforms_most in
    omega (arith, ints, u, v, trains, platforms)

-- ---- the bound of a leaf

-- the range of a proof file's last number
abbrev pub IsBoundInRange : Bound → Type 0
IsBoundInRange (AtLeast n) = (neg_ℤ (pos (10 ^ 36)) ≤ℤ n) × (n ≤ℤ pos (10 ^ 13))
IsBoundInRange Nothing = Unit {0}

ceiling_low : (z d least : ℤ) → pos 0 ≤ℤ (pos 0 -ℤ least) → least ≤ℤ z → least ≤ℤ ceiling z d
ceiling_low (pos n) d least h l = omega (arith, ints, h)
ceiling_low (negsuc n) d least h l = let most = div-le_self (suc n) (unsigned_abs d) in omega (arith, ints, l, most)

ceiling_high : (q z : ℤ) (top : ℕ) → pos 1 ≤ℤ q → int_le (q *ℤ pos top) z ≡ false → ceiling z q ≤ℤ pos top
ceiling_high q z top h e = ceiling_least z q (pos top) h (subst (λ (y : ℤ). z ≤ℤ y) (*ℤ_comm q (pos top)) (less (q *ℤ pos top) z e))
  where
    less : (a b : ℤ) → int_le a b ≡ false → b ≤ℤ a
    less a b f = grind (arith, ints)

leaf_by : (c : CaseRecord) → IsCase c → (l : Leaf) (b : Bool) → is_empty c (numbers_of l) ≡ b
    → IsBoundInRange (cond b Nothing (AtLeast (ceiling (value_of c (numbers_of l)) l.q)))
leaf_by c case l true e = tt
leaf_by c case l false e =
    let high = ceiling_high l.q (value_of c (numbers_of l)) (top_of c) l.kept.q_least e in
    let top = top_most c case in
    (ceiling_low (value_of c (numbers_of l)) l.q (neg_ℤ (pos (10 ^ 36))) (omega (arith, ints)) (value_least c case l), omega (arith, ints, high, top))

lesser_in_range : (a b : Bound) → IsBoundInRange a → IsBoundInRange b → IsBoundInRange (lesser a b)
lesser_in_range Nothing b h g = g
lesser_in_range (AtLeast n) Nothing h g = h
lesser_in_range (AtLeast n) (AtLeast m) h g = by_test (int_le n m)
  where
    by_test : (t : Bool) → IsBoundInRange (cond t (AtLeast n) (AtLeast m))
    by_test true = h
    by_test false = g

tree_in_range : (c : CaseRecord) → IsCase c → (lists : Lists) (tree : SplitTree Leaf) → IsBoundInRange (bound_of_tree c lists tree)
tree_in_range c case lists (end l) = leaf_by c case l (is_empty c (numbers_of l)) refl
tree_in_range c case lists (split cut a b) =
    lesser_in_range (bound_of_tree c (lists_below lists cut) a) (bound_of_tree c (lists_from lists cut) b)
    (tree_in_range c case (lists_below lists cut) a) (tree_in_range c case (lists_from lists cut) b)

both : (a b : Bool) → a ≡ true → b ≡ true → (a && b && true) ≡ true
both true true e f = refl
both true false e f = cc
both false b e f = cc

fits : (least most z : ℤ) → least ≤ℤ z → z ≤ℤ most → (int_le least z && int_le z most && true) ≡ true
fits least most z h i = both (int_le least z) (int_le z most) (le_true least z h) (le_true z most i)
  where
    le_true : (a b : ℤ) → a ≤ℤ b → int_le a b ≡ true
    le_true a b l = grind (arith, ints, nat_tests)

end_in_range : (bound : Bound) → IsBoundInRange bound → IsTrue (is_in_range (end_of bound))
unfolding is_in_range
end_in_range (AtLeast n) h = fits (neg_ℤ (pos (10 ^ 36))) (pos (10 ^ 13)) n h.0 h.1
end_in_range Nothing h = refl

pub last_in_range : (c : CaseRecord) → IsCase c → (lists : Lists) (tree : SplitTree Leaf) (bound : Bound) → bound ≡ bound_of_tree c lists tree
    → IsTrue (is_in_range (end_of bound))
last_in_range c case lists tree bound e = end_in_range bound (subst IsBoundInRange (sym e) (tree_in_range c case lists tree))
