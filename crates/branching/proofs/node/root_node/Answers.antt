use Rattle.std.proofs.Common.{◌≡◌, ap, ◌∙◌, pos, sym, subst}
use Rattle.patterns.specs.Allowed.{full_lists, FitsBook, Lists}
use Rattle.leaf_bounds.specs.declared.tree.Bound.{Bound}
use Rattle.leaf_bounds.specs.Shown.{bound_of_leaf, LeafStands}
use Rattle.branching.specs.Bounds.{least_sum, IsAtLeast, IsNoLess}
use Rattle.branching.specs.Node.{IsNode}
use Rattle.branching.proofs.RootLemmas.{root_bound_is, root_plain}
use Rattle.branching.proofs.node.root_node.Goals as goal

pub root_leaf-requires-clause-fits : goal.root_leaf-requires-clause-fits
root_leaf-requires-clause-fits c = subst (FitsBook c.in_ok-allowed.allowed.lists) c.book.ensures c.in_ok-allowed.ensures.fits

pub root_leaf-requires-clause-all : goal.root_leaf-requires-clause-all
root_leaf-requires-clause-all c = c.in_ok-allowed.ensures.lists ∙ ap full_lists c.book.ensures

pub first_node-requires-clause-fits : goal.first_node-requires-clause-fits
first_node-requires-clause-fits c = subst (FitsBook c.in_ok-allowed.allowed.lists) c.book.ensures c.in_ok-allowed.ensures.fits

pub first_node-requires-clause-stands : goal.first_node-requires-clause-stands
first_node-requires-clause-stands c =
    let case = c.args.case.now in
    let all : c.in_ok-allowed.allowed.lists ≡ full_lists case.book = c.in_ok-allowed.ensures.lists ∙ ap full_lists c.book.ensures in
    subst (λ (ls : Lists). LeafStands case ls c.in_ok-root.field-0.leaf) (sym all) c.in_ok-root.ensures.root.bound.stands

pub first_node-requires-clause-plain : goal.first_node-requires-clause-plain
first_node-requires-clause-plain c =
    let case = c.args.case.now in
    let found = c.in_ok-root.field-0 in
    let all : c.in_ok-allowed.allowed.lists ≡ full_lists case.book = c.in_ok-allowed.ensures.lists ∙ ap full_lists c.book.ensures in
    subst (λ (ls : Lists). IsAtLeast (pos (least_sum case ls)) (bound_of_leaf case ls found.leaf)) (sym all)
    (root_plain case found.leaf found.root c.in_ok-root.ensures.root)

pub returns-clause-node : goal.returns-clause-node
returns-clause-node c =
    let case = c.args.case.now in
    let all : c.in_ok-allowed.allowed.lists ≡ full_lists case.book = c.in_ok-allowed.ensures.lists ∙ ap full_lists c.book.ensures in
    subst (λ (ls : Lists). IsNode case ls c.in_ok-node.node) all c.in_ok-node.ensures.node

pub returns-clause-root : goal.returns-clause-root
returns-clause-root c = (c.in_ok-root.field-0.leaf, c.in_ok-root.ensures.root)

pub returns-clause-above : goal.returns-clause-above
returns-clause-above c =
    let case = c.args.case.now in
    let found = c.in_ok-root.field-0 in
    subst (λ (b : Bound). IsNoLess b c.in_ok-node.node.bound)
    (sym (root_bound_is case (full_lists case.book) found.leaf found.root.value c.in_ok-root.ensures.root.bound.worth)) c.in_ok-node.ensures.above
