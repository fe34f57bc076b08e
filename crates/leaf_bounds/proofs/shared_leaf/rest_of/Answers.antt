use Rattle.std.proofs.Common.{not, refl, ap, ◌∙◌}
use Rattle.std.specs.List.{filter}
use Rattle.leaf_bounds.specs.Sharing.{is_entry_of}
use Rattle.leaf_bounds.proofs.NarrowLemmas.{kept_lists}
use Rattle.leaf_bounds.proofs.shared_leaf.rest_of.Goals as goal

pub invariant_of-result : goal.invariant_of-result
invariant_of-result c = record {
  kept = kept_lists c.args.leaf.now (λ x. not (is_entry_of c.args.pairs.now x)) (λ x. not (is_entry_of c.args.pairs.now x)) _
      c.in_ok-copy_plain.field-0 c.in_ok-copy_plain-2.field-0 c.in_ok-others_of.field-0 c.in_ok-others_of-2.field-0
      refl (c.in_ok-copy_plain.ensures ∙ c.as_slice.ensures) (c.in_ok-copy_plain-2.ensures ∙ c.as_slice-2.ensures)
      (c.in_ok-others_of.ensures ∙ ap (filter (λ x. not (is_entry_of c.args.pairs.now x))) c.as_slice-3.ensures)
      (c.in_ok-others_of-2.ensures ∙ ap (filter (λ x. not (is_entry_of c.args.pairs.now x))) c.as_slice-4.ensures);
}
