-- An exact bound, from a least point, duals that show it, a leaf of their value and a plan of the point.
use Rattle.std.proofs.Common.{◌≡◌, ℕ, ◌*◌, ◌<◌, ◌≤◌, sym, ap, ◌∙◌, subst, arith, ℤ, pos, ◌*ℤ◌, ◌≤ℤ◌, ◌<ℤ◌}
use Rattle.std.specs.Prelude.{unsigned_abs}
use Rattle.std.proofs.lemmas.Int.{ints}
use Rattle.exact_lp.specs.declared.answer.Solved.{Solved}
use Rattle.exact_lp.specs.declared.point.Point.{Point}
use Rattle.exact_lp.specs.Programs.{valued_leasts}
use Rattle.patterns.specs.declared.weights.Weights.{Weights}
use Rattle.patterns.specs.Allowed.{Lists}
use Rattle.patterns.specs.Weights.{FitsLists}
use Rattle.pair_prices.specs.Case.{CaseRecord}
use Rattle.pair_prices.specs.Fraction.{Fraction, IsFraction, IsLeastCost, scaled_cost}
use Rattle.clique_cuts.specs.Over.{HasUses}
use Rattle.leaf_bounds.specs.Leaf.{value_of}
use Rattle.leaf_bounds.specs.Shown.{LeafStands, numbers_of}
use Rattle.pattern_pricing.specs.Layout.{LayoutRecord}
use Rattle.pattern_pricing.specs.Prices.{IsLayoutOf}
use Rattle.station_rows.specs.Laws.{IsPlanWithin, LeastPointsBoundPlans, point_cost}
use Rattle.master_lp.specs.declared.answer.ExactBound.{ExactBound}
use Rattle.master_lp.specs.Bounds.{IsExact, IsWorth, IsWritten}
use Rattle.master_lp.specs.Exact.{IsSolved}
use Rattle.station_rows.specs.declared.fraction.FractionPlan.{FractionPlan}
use Rattle.station_rows.specs.Plans.{AreLeastTables, fraction_of_plan}
use Rattle.station_rows.specs.Points.{IsPlanPoint}
use Rattle.master_lp.proofs.SameValue.{below_plan, same_cost, same_value, whole}

-- the plan of the weights of a point at which all rows hold
pub written_of : (c : CaseRecord) (l : LayoutRecord) (lists : Lists) → l.lists ≡ lists → (point : Point) (w : Weights) → IsPlanPoint c l point w
    → (plan : FractionPlan) → plan.weights ≡ w → AreLeastTables c lists w plan.tables → IsWritten c lists plan
written_of c l lists same point w is plan e tables =
    let P : Lists → Type 0 = λ x. FitsLists x w in
    let Q : Weights → Type 0 = λ x. FitsLists lists x in
    let R : Weights → Type 0 = λ x. HasUses c x in
    let S : Weights → Type 0 = λ x. AreLeastTables c lists x plan.tables in
    record {
      weights = subst Q (sym e) (subst P same is.fits);
      uses = subst R (sym e) is.uses.there;
      tables = subst S (sym e) tables;
    }

module _ (law : LeastPointsBoundPlans) (c : CaseRecord) (l : LayoutRecord) (is : IsLayoutOf c l) (s : Solved) (solved : IsSolved c l s)
    (e : ExactBound) (lists : Lists) (same : l.lists ≡ lists) (stands : LeafStands c lists e.leaf) (worth : IsWorth c e.leaf e.value)
    (value : value_of c (numbers_of e.leaf) *ℤ s.duals.scale ≡ valued_leasts s.duals.rows s.duals.values *ℤ e.leaf.q)
    (plan : IsPlanWithin c l s.point (fraction_of_plan e.fraction)) (written : IsWritten c lists e.fraction) where
  abbrev f : Fraction
  f = fraction_of_plan e.fraction

  abbrev cost : ℤ
  cost = point_cost c l s.point

  bounds : (g : Fraction) → IsFraction c l.lists g → (cost *ℤ pos g.scale) ≤ℤ (pos (scaled_cost c l.lists g) *ℤ s.point.scale)
  bounds = law c l is solved.opening solved.trains s.point solved.least

  leaf_scale : pos 0 <ℤ e.leaf.q
  leaf_scale = let h = e.leaf.kept.q_least in omega (arith, ints, h)

  plan_cost : pos (scaled_cost c l.lists f) ≡ cost
  plan_cost =
      let own = bounds f plan.plan in
      let P : ℤ → Type 0 = λ z. (cost *ℤ z) ≤ℤ (pos (scaled_cost c l.lists f) *ℤ s.point.scale) in
      same_cost cost (pos (scaled_cost c l.lists f)) s.point.scale s.point.above plan.cost (subst P plan.scale own)

  value_is : e.value.num *ℤ s.point.scale ≡ cost *ℤ e.value.den
  value_is =
      same_value e.value.num e.value.den (value_of c (numbers_of e.leaf)) e.leaf.q (valued_leasts s.duals.rows s.duals.values) s.duals.scale cost s.point.scale
      leaf_scale s.duals.above worth value solved.shows.same_cost

  plan_value : e.value.num *ℤ s.point.scale ≡ pos (scaled_cost c l.lists f) *ℤ e.value.den
  plan_value = value_is ∙ ap (λ (z : ℤ). z *ℤ e.value.den) (sym plan_cost)

  num_is : pos (unsigned_abs e.value.num) ≡ e.value.num
  num_is = whole e.value.num e.value.den s.point.scale (scaled_cost c l.lists f) e.value.positive s.point.above plan_value

  den_is : pos (unsigned_abs e.value.den) ≡ e.value.den
  den_is = let h = e.value.positive in omega (arith, ints, h)

  cost_is : e.value.num *ℤ pos f.scale ≡ pos (scaled_cost c l.lists f) *ℤ e.value.den
  cost_is = ap (λ (z : ℤ). e.value.num *ℤ z) plan.scale ∙ plan_value

  -- products of numbers of at least 0
  natural : (a b k m : ℕ) → pos a *ℤ pos k ≡ pos b *ℤ pos m → b * m ≡ a * k
  natural a b k m h = omega (arith, ints, h)

  natural_le : (a b k m : ℕ) → (pos a *ℤ pos k) ≤ℤ (pos b *ℤ pos m) → a * k ≤ b * m
  natural_le a b k m h = omega (arith, ints, h)

  least : IsLeastCost c l.lists (unsigned_abs e.value.num) (unsigned_abs e.value.den)
  least = record {
    positive = let h = e.value.positive in let k = den_is in omega (arith, ints, h, k);
    reached =
        let h : pos (unsigned_abs e.value.num) *ℤ pos f.scale ≡ pos (scaled_cost c l.lists f) *ℤ pos (unsigned_abs e.value.den) =
        ap (λ (z : ℤ). z *ℤ pos f.scale) num_is ∙ cost_is ∙ ap (λ (z : ℤ). pos (scaled_cost c l.lists f) *ℤ z) (sym den_is) in
        (f, plan.plan, natural (unsigned_abs e.value.num) (scaled_cost c l.lists f) f.scale (unsigned_abs e.value.den) h);
    least = λ g is_plan.
        let below = below_plan e.value.num e.value.den cost s.point.scale (pos (scaled_cost c l.lists g)) (pos g.scale) e.value.positive s.point.above
        value_is (bounds g is_plan) in
        let P : ℤ → Type 0 = λ z. (z *ℤ pos g.scale) ≤ℤ (pos (scaled_cost c l.lists g) *ℤ e.value.den) in
        let Q : ℤ → Type 0 = λ z. (pos (unsigned_abs e.value.num) *ℤ pos g.scale) ≤ℤ (pos (scaled_cost c l.lists g) *ℤ z) in
        natural_le (unsigned_abs e.value.num) (scaled_cost c l.lists g) g.scale (unsigned_abs e.value.den)
        (subst Q (sym den_is) (subst P (sym num_is) below));
  }

  is_exact_here : IsExact c l.lists e
  is_exact_here = record {
    bound = record { stands = let P : Lists → Type 0 = λ x. LeafStands c x e.leaf in subst P (sym same) stands; worth = worth };
    written = let P : Lists → Type 0 = λ x. IsWritten c x e.fraction in subst P (sym same) written;
    plan = plan.plan;
    whole = num_is;
    cost = cost_is;
    least = least;
  }

  pub is_exact : IsExact c lists e
  is_exact = let P : Lists → Type 0 = λ x. IsExact c x e in subst P same is_exact_here
