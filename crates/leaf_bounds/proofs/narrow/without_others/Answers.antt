use Rattle.std.proofs.Common.{refl, ap, ◌∙◌}
use Rattle.leaf_bounds.specs.declared.potentials.Side.TheVariants.{First, Second}
use Rattle.leaf_bounds.specs.Sides.{is_kept, kept_entries}
use Rattle.leaf_bounds.proofs.NarrowLemmas.{kept_lists}
use Rattle.leaf_bounds.proofs.narrow.without_others.Goals as goal

pub invariant_of-result : goal.invariant_of-result
invariant_of-result c = record {
  kept = kept_lists c.args.leaf.now (is_kept c.args.allowed.now.lists First) (is_kept c.args.allowed.now.lists Second) _ c.in_ok-copy_plain.field-0 c.in_ok-copy_plain-2.field-0 c.in_ok-kept_of.field-0
      c.in_ok-kept_of-2.field-0 refl (c.in_ok-copy_plain.ensures ∙ c.as_slice.ensures) (c.in_ok-copy_plain-2.ensures ∙ c.as_slice-2.ensures)
      (c.in_ok-kept_of.ensures ∙ ap (kept_entries c.args.allowed.now.lists First) c.as_slice-3.ensures)
      (c.in_ok-kept_of-2.ensures ∙ ap (kept_entries c.args.allowed.now.lists Second) c.as_slice-4.ensures);
}
