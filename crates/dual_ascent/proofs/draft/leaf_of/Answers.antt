use Rattle.std.proofs.Common.{◌∙◌, sym, refl, subst, ℤ, rules}
use Rattle.std.proofs.lemmas.Int.{to_z-of_z}
use Rattle.std.specs.Int.{w128}
use mir.Val.{SFits}
use Rattle.leaf_bounds.specs.Building.{AreTrainValues}
use Rattle.leaf_bounds.specs.Listed.{AreLeafLists}
use Rattle.leaf_bounds.specs.Places.{AreMinuteValues, ArePairValues}
use Rattle.dual_ascent.proofs.OrderLemmas.{leaf_lists}
use Rattle.dual_ascent.proofs.draft.leaf_of.Goals as goal

pub invariant_of-result : goal.invariant_of-result
invariant_of-result c =
    let fits : SFits w128 c.args.draft.q = search rules in
    let lists : AreLeafLists c.args.draft.q c.from_vec.result c.from_vec-2.result c.from_vec-3.result c.from_vec-4.result =
    leaf_lists c.args.draft.q c.from_vec.result c.from_vec-2.result c.from_vec-3.result c.from_vec-4.result
    (c.is_scale.ensures.least c.if-not-is_scale.false) (c.is_scale.ensures.most c.if-not-is_scale.false)
    (subst AreTrainValues (c.deref.ensures.value ∙ sym c.from_vec.ensures) (c.if-not-are_train_values.ensures refl))
    (subst AreMinuteValues (c.deref-2.ensures.value ∙ sym c.from_vec-2.ensures) (c.if-not-are_minute_values.ensures refl))
    (subst ArePairValues (c.deref-3.ensures.value ∙ sym c.from_vec-3.ensures) (c.if-not-are_pair_values.ensures refl))
    (subst ArePairValues (c.deref-4.ensures.value ∙ sym c.from_vec-4.ensures) (c.if-not-are_pair_values-2.ensures refl)) in
    record {
      kept = subst (λ (q : ℤ). AreLeafLists q c.from_vec.result c.from_vec-2.result c.from_vec-3.result c.from_vec-4.result)
          (sym (to_z-of_z w128 c.args.draft.q fits)) lists;
    }
