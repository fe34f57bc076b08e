use Rattle.std.proofs.Common.{◌≡◌, ℤ, pos, ◌<ℤ◌, ◌*ℤ◌, inl, inr, sym, ap, ◌∙◌, subst, rules, FitsSigned, to_z, of_z, unsigned_abs, int_div}
use Rattle.std.specs.Int.{w128}
use Rattle.std.proofs.lemmas.Int.{to_z-of_z}
use Rattle.exact_lp.specs.Programs.{valued_leasts}
use Rattle.leaf_bounds.specs.Leaf.{value_of}
use Rattle.leaf_bounds.specs.Shown.{LeafStands, numbers_of}
use Rattle.dual_leaves.specs.Account.{totals_of}
use Rattle.dual_leaves.specs.Made.{IsDividedLeaf, IsTooWide, IsTooWideOver}
use Rattle.dual_leaves.proofs.Divisors.{IsQuotient, quotient_is}
use Rattle.dual_leaves.proofs.Standing.{leaf_stands, value_is}
use Rattle.dual_leaves.proofs.leaf.leaf_of_duals.Goals as goal
use Rattle.dual_leaves.proofs.leaf.leaf_of_duals.Goals.{After-drop-account-6, After-quotient-scale}

quotient_of : (c : After-quotient-scale) → IsQuotient c.args.duals.now.scale c.divisor_of-divisor.result c.quotient-scale.result
quotient_of c =
    let fd : FitsSigned w128 c.divisor_of-divisor.result = search rules in
    let fs : FitsSigned w128 c.args.duals.now.scale = search rules in
    let is : c.quotient-scale.result ≡ int_div c.args.duals.now.scale c.divisor_of-divisor.result = simp to_z-of_z at c.quotient-scale.ensures in
    quotient_is c.args.duals.now.scale c.divisor_of-divisor.result c.quotient-scale.result c.args.duals.now.above c.divisor_of-divisor.ensures.positive
    c.divisor_of-divisor.ensures.scale is

too_wide : (scale divisor q n : ℤ) → q *ℤ divisor ≡ scale → IsTooWideOver q n → IsTooWide scale n
too_wide scale divisor q n e (inl w) = inl (divisor, ap (λ z. z *ℤ divisor) w.0 ∙ e, w.1)
too_wide scale divisor q n e (inr w) = inr w

pub returns-in-Some-clause-scale : goal.returns-in-Some-clause-scale
returns-in-Some-clause-scale c = λ n e.
    let fits : FitsSigned w128 c.in-Some.number = search rules in
    let fq : FitsSigned w128 c.quotient-scale.result = search rules in
    let quotient = quotient_of (goal.at.returns-in-Some-clause-scale c).After-quotient-scale in
    let wide = subst (λ (z : ℤ). IsTooWideOver z c.in-Some.number) (to_z-of_z w128 c.quotient-scale.result fq) c.in-Some.ensures.some in
    let same : to_z w128 (of_z w128 c.in-Some.number) ≡ n = cc in
    let is : c.in-Some.number ≡ n = sym (to_z-of_z w128 c.in-Some.number fits) ∙ same in
    subst (λ (z : ℤ). IsTooWide c.args.duals.now.scale z) is
    (too_wide c.args.duals.now.scale c.divisor_of-divisor.result c.quotient-scale.result c.in-Some.number quotient.parts wide)

pub divided_leaf-requires-clause-scale : goal.divided_leaf-requires-clause-scale
divided_leaf-requires-clause-scale c =
    let fits : FitsSigned w128 c.quotient-scale.result = search rules in
    subst (λ (z : ℤ). pos 0 <ℤ z) (sym (to_z-of_z w128 c.quotient-scale.result fits))
    (quotient_of (goal.at.divided_leaf-requires-clause-scale c).After-quotient-scale).positive

-- the leaf of the quotients
record IsLeafOfDuals (c : After-drop-account-6) : Type 0 where
  stands : LeafStands c.args.case.now c.args.allowed.now.lists c.in_ok-leaf.leaf
  value : value_of c.args.case.now (numbers_of c.in_ok-leaf.leaf) *ℤ c.args.duals.now.scale
      ≡ valued_leasts c.args.duals.now.rows c.args.duals.now.values *ℤ c.in_ok-leaf.leaf.q

leaf_is : (c : After-drop-account-6) → IsQuotient c.args.duals.now.scale c.divisor_of-divisor.result c.quotient-scale.result → IsLeafOfDuals c
leaf_is c quotient =
    let fq : FitsSigned w128 c.quotient-scale.result = search rules in
    let fd : FitsSigned w128 c.divisor_of-divisor.result = search rules in
    let g = unsigned_abs c.divisor_of-divisor.result in
    let totals = totals_of c.in_ok-account.account in
    let by_scale = subst (λ (z : ℤ). IsDividedLeaf z (to_z w128 (of_z w128 c.divisor_of-divisor.result)) totals c.in_ok-leaf.leaf)
    (to_z-of_z w128 c.quotient-scale.result fq) c.in_ok-leaf.ensures in
    let made = subst (λ (z : ℤ). IsDividedLeaf c.quotient-scale.result z totals c.in_ok-leaf.leaf)
    (to_z-of_z w128 c.divisor_of-divisor.result fd ∙ quotient.size) by_scale in
    let parts = ap (λ z. c.quotient-scale.result *ℤ z) (sym quotient.size) ∙ quotient.parts in
    record {
      stands = leaf_stands c.args.case.now c.args.layout.now c.requires.layout c.args.duals.now.scale (valued_leasts c.args.duals.now.rows c.args.duals.now.values)
          c.quotient-scale.result g quotient.some parts totals c.in_ok-account.ensures.account c.divisor_of-divisor.ensures.u c.divisor_of-divisor.ensures.v
          c.divisor_of-divisor.ensures.alpha c.divisor_of-divisor.ensures.beta c.in_ok-leaf.leaf made c.args.allowed.now.lists c.requires.same;
      value = value_is c.args.case.now c.args.layout.now c.requires.layout c.args.duals.now.scale (valued_leasts c.args.duals.now.rows c.args.duals.now.values)
          c.quotient-scale.result g quotient.some parts totals c.in_ok-account.ensures.account c.divisor_of-divisor.ensures.u c.divisor_of-divisor.ensures.v
          c.divisor_of-divisor.ensures.alpha c.divisor_of-divisor.ensures.beta c.in_ok-leaf.leaf made;
    }

pub returns-clause-stands : goal.returns-clause-stands
returns-clause-stands c =
    (leaf_is (goal.at.returns-clause-stands c).After-drop-account-6 (quotient_of (goal.at.returns-clause-stands c).After-quotient-scale)).stands

pub returns-clause-value : goal.returns-clause-value
returns-clause-value c =
    (leaf_is (goal.at.returns-clause-value c).After-drop-account-6 (quotient_of (goal.at.returns-clause-value c).After-quotient-scale)).value
