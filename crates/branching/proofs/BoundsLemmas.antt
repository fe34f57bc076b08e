-- Bounds of the leaves that are made without a search.
use Rattle.std.proofs.Common.{◌≡◌, ℕ, ◌+◌, ◌-◌, ◌/◌, ◌<◌, Bool, true, false, cond, List, [], length, get_or, refl, sym, ap, ◌∙◌, subst, arith, ℤ, pos, ◌*ℤ◌, Option, Some, None}
use Rattle.std.specs.Prelude.{Contains, int_le, slice_index, sum_by, MatchOption, IsTrue}
use Rattle.std.proofs.lemmas.Int.{ints}
use Rattle.std.proofs.lemmas.List.Elements.{Contains-get_or}
use Rattle.station.specs.Allowed.{numbers}
use Rattle.patterns.specs.Allowed.{Lists, list_of, FitsBook}
use Rattle.pair_prices.specs.Case.{CaseRecord, IsCase}
use Rattle.pair_prices.specs.Plan.{IsFeasible, cost}
use Rattle.pair_prices.specs.Top.{top_of}
use Rattle.pair_prices.proofs.Above.{cost_below}
use Rattle.pair_prices.proofs.CaseLemmas.{get_or_map}
use Rattle.plan_cost.specs.declared.plan.Plan.{Plan}
use Rattle.leaf_bounds.specs.declared.leaf.Leaf.{Leaf}
use Rattle.leaf_bounds.specs.declared.tree.Bound.{Bound}
use Rattle.leaf_bounds.specs.declared.tree.Bound.TheVariants.{AtLeast, Nothing}
use Rattle.leaf_bounds.specs.Laws.{IsWithin, KeepsTo}
use Rattle.leaf_bounds.specs.Leaf.{LeafRecord, bound_of, ceiling, is_empty, value_of}
use Rattle.leaf_bounds.specs.Made.{ArePartOf, HasOnePlan, IsFixedLeaf, IsPlainLeaf, least_price, plan_of}
use Rattle.leaf_bounds.specs.Shown.{bound_of_leaf, numbers_of, LeafStands}
use Rattle.leaf_bounds.proofs.BoundLemmas.{leaf_bounds}
use Rattle.branching.specs.declared.found.Priced.{Priced}
use Rattle.branching.specs.Bounds.{IsAtLeast, IsNoLess, least_sum}
use Rattle.branching.specs.Known.{is_settled, IsPricedIfAny}
use Rattle.branching.specs.Node.{cost_bound}

-- what a leaf of this scale and value says
abbrev pub bound_by : CaseRecord → ℤ → ℤ → Bound
bound_by c q value = cond (int_le (q *ℤ pos (top_of c)) value) Nothing (AtLeast (ceiling value q))

pub same_bound : (c : CaseRecord) (l n : LeafRecord) → n.q ≡ l.q → value_of c n ≡ value_of c l → bound_of c n ≡ bound_of c l
same_bound c l n e f = ap (λ q. bound_by c q (value_of c n)) e ∙ ap (bound_by c l.q) f

one_times : (n : ℕ) → (pos 1 *ℤ pos n) ≡ pos n
one_times n = omega (arith, ints)

ceiling_one : (n : ℕ) → ceiling (pos n) (pos 1) ≡ pos n
ceiling_one n = ap pos (whole n)
  where
    whole : (m : ℕ) → (m + (1 - 1)) / 1 ≡ m
    whole m = omega arith

at_one : (c : CaseRecord) (n : ℕ) → bound_by c (pos 1) (pos n) ≡ cond (int_le (pos (top_of c)) (pos n)) Nothing (AtLeast (pos n))
at_one c n =
    ap (λ z. cond (int_le z (pos n)) Nothing (AtLeast (ceiling (pos n) (pos 1)))) (one_times (top_of c))
    ∙ ap (λ z. cond (int_le (pos (top_of c)) (pos n)) Nothing (AtLeast z)) (ceiling_one n)

unit_bound : (c : CaseRecord) (l : LeafRecord) (n : ℕ) → l.q ≡ pos 1 → value_of c l ≡ pos n
    → bound_of c l ≡ cond (int_le (pos (top_of c)) (pos n)) Nothing (AtLeast (pos n))
unit_bound c l n e f = ap (λ q. bound_by c q (value_of c l)) e ∙ ap (bound_by c (pos 1)) f ∙ at_one c n

-- ---- the plain leaf

least_by : (b : Bool) (n : ℕ) → IsAtLeast (pos n) (cond b Nothing (AtLeast (pos n)))
least_by true n = tt
least_by false n = omega (arith, ints)

pub plain_above : (c : CaseRecord) (lists : Lists) (l : Leaf) → IsPlainLeaf c lists l → IsAtLeast (pos (least_sum c lists)) (bound_of_leaf c lists l)
unfolding least_sum
plain_above c lists l h =
    subst (IsAtLeast (pos (sum_by (least_price c lists) (numbers (length c.book)))))
    (sym (unit_bound c (numbers_of l) (sum_by (least_price c lists) (numbers (length c.book))) h.leaf.q h.value))
    (least_by (int_le (pos (top_of c)) (pos (sum_by (least_price c lists) (numbers (length c.book))))) (sum_by (least_price c lists) (numbers (length c.book))))

pub at_least_step : (n : ℤ) (a b : Bound) → IsAtLeast n a → IsNoLess a b → IsAtLeast n b
at_least_step n Nothing Nothing h g = tt
at_least_step n Nothing (AtLeast m) h g = absurd g
at_least_step n (AtLeast k) Nothing h g = tt
at_least_step n (AtLeast k) (AtLeast m) h g = omega (arith, ints, h, g)

-- ---- an empty leaf

nothing_by : (b : Bool) (x : Bound) → b ≡ true → cond b Nothing x ≡ Nothing
nothing_by true x e = refl
nothing_by false x e = cc

true_is : (b : Bool) → IsTrue b → b ≡ true
true_is b h = grind arith

pub empty_bound : (c : CaseRecord) (l : LeafRecord) → IsTrue (is_empty c l) → bound_of c l ≡ Nothing
empty_bound c l h = nothing_by (is_empty c l) (AtLeast (ceiling (value_of c l) l.q)) (true_is (is_empty c l) h)

-- ---- the leaf of one plan

value_by : (t n : ℕ) → n < t → cond (int_le (pos t) (pos n)) Nothing (AtLeast (pos n)) ≡ AtLeast (pos n)
value_by t n h = by_test (int_le (pos t) (pos n)) (above t n h)
  where
    above : (a b : ℕ) → b < a → int_le (pos a) (pos b) ≡ false
    above a b l = grind (arith, ints)

    by_test : (b : Bool) → b ≡ false → cond b Nothing (AtLeast (pos n)) ≡ AtLeast (pos n)
    by_test true e = cc
    by_test false e = refl

pub fixed_is : (c : CaseRecord) (lists : Lists) (l : Leaf) (o : Option Priced) (plan : Plan) → IsFixedLeaf c lists l → plan.choice ≡ plan_of lists
    → IsPricedIfAny c o → MatchOption o (IsFeasible c plan.choice → ⊥) (λ p. p.plan ≡ plan) → cost_bound o ≡ bound_of_leaf c lists l
fixed_is c lists l None plan h e priced no_plan =
    sym (empty_bound c (numbers_of l) (h.empty (λ f. no_plan (subst (IsFeasible c) (sym e) f))))
fixed_is c lists l (Some p) plan h e priced same =
    let own : p.plan.choice ≡ plan_of lists = ap (λ (q : Plan). q.choice) same ∙ e in
    let feasible = subst (IsFeasible c) own priced.feasible in
    ap (λ z. AtLeast z) (priced.value ∙ ap (λ ns. pos (cost c ns)) own)
    ∙ sym (unit_bound c (numbers_of l) (cost c (plan_of lists)) h.leaf.q (h.value feasible)
    ∙ value_by (top_of c) (cost c (plan_of lists)) (cost_below c (plan_of lists) feasible))

pub own_settled : (o : Option Priced) → is_settled o (cost_bound o) ≡ true
own_settled None = refl
own_settled (Some p) = same p.cost
  where
    same : (z : ℤ) → int_le z z ≡ true
    same z = grind (arith, ints)

plan_at : (lists : Lists) (t : ℕ) → slice_index (plan_of lists) t ≡ get_or (list_of lists t) 0 0
plan_at lists t = get_or_map (λ ns. slice_index ns 0) lists t []

-- the one plan of lists is a plan of wider lists
plan_within : (c : CaseRecord) (lists wide : Lists) → FitsBook lists c.book → HasOnePlan lists → ArePartOf lists wide → IsWithin c wide (plan_of lists)
plan_within c lists wide fits one part = λ t h.
    let single = one t (omega (arith, h, fits.trains)) in
    part t (slice_index (plan_of lists) t)
    (subst (λ (n : ℕ). Contains (list_of lists t) n) (sym (plan_at lists t)) (Contains-get_or (list_of lists t) 0 0 (omega (arith, single))))

pub keeps_below : (c : CaseRecord) (plan : List ℕ) (b : Bound) (z : ℤ) → z ≡ pos (cost c plan) → KeepsTo c plan b → IsNoLess b (AtLeast z)
keeps_below c plan Nothing z e h = h
keeps_below c plan (AtLeast n) z e h = omega (arith, ints, e, h)

pub none_below : (b : Bound) → IsNoLess b Nothing
none_below Nothing = tt
none_below (AtLeast n) = tt

-- no leaf of wider lists says more than the plan's cost
pub fixed_above : (c : CaseRecord) (lists wide : Lists) (l : Leaf) (o : Option Priced) (plan : Plan) → IsCase c → FitsBook lists c.book → HasOnePlan lists
    → ArePartOf lists wide → LeafStands c wide l → plan.choice ≡ plan_of lists → IsPricedIfAny c o
    → MatchOption o (IsFeasible c plan.choice → ⊥) (λ p. p.plan ≡ plan) → IsNoLess (bound_of_leaf c wide l) (cost_bound o)
fixed_above c lists wide l None plan case fits one part stands e priced no_plan = none_below (bound_of_leaf c wide l)
fixed_above c lists wide l (Some p) plan case fits one part stands e priced same =
    let own : p.plan.choice ≡ plan_of lists = ap (λ (q : Plan). q.choice) same ∙ e in
    let feasible = subst (IsFeasible c) own priced.feasible in
    keeps_below c (plan_of lists) (bound_of_leaf c wide l) p.cost (priced.value ∙ ap (λ ns. pos (cost c ns)) own)
    (leaf_bounds c case wide (numbers_of l) stands.stands (plan_of lists) feasible (plan_within c lists wide fits one part))
