use Rattle.std.proofs.Common.{ap, ◌∙◌}
use Rattle.patterns.specs.Allowed.{full_lists}
use Rattle.shared_trees.proofs.OneLeafLemmas.{one_leaf_shown}
use Rattle.tests_proofs.proofs.tests.shared.plain_proof.Goals as goal

pub written_proof-requires : goal.written_proof-requires
written_proof-requires c =
    one_leaf_shown c.args.case.now c.in_ok-all.all.lists c.in_ok-leaf.leaf c.in-Ok.value c.bound_of-bound.result c.from_vec.result
    (c.in_ok-all.ensures.lists ∙ ap full_lists c.book.ensures) c.in_ok-leaf.ensures.leaf.stands c.in-Ok.ensures.verdict c.bound_of-bound.ensures
    (c.from_vec.ensures ∙ c.in_ok-vec.ensures.items)
