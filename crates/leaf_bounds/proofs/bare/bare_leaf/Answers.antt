use Rattle.std.proofs.Common.{◌∙◌}
use Rattle.leaf_bounds.proofs.BareLemmas.{bare_lists}
use Rattle.leaf_bounds.proofs.bare.bare_leaf.Goals as goal

pub invariant_of-result : goal.invariant_of-result
invariant_of-result c = record {
  kept = bare_lists c.args.u.items c.from_vec.result c.from_vec-2.result c.from_vec-3.result c.from_vec-4.result c.requires c.from_vec.ensures
      (c.from_vec-2.ensures ∙ c.new.ensures.items) (c.from_vec-3.ensures ∙ c.new-2.ensures.items) (c.from_vec-4.ensures ∙ c.new-3.ensures.items);
}
