use Rattle.std.proofs.Common.{List, sym, subst}
use Rattle.std.specs.Prelude.{All, Contains, IfOk}
use Rattle.std.proofs.lemmas.List.Elements.{All-push, Contains-push}
use Rattle.leaf_bounds.specs.declared.leaf.Leaf.{Leaf}
use Rattle.leaf_bounds.specs.declared.tree.Bound.{Bound}
use Rattle.leaf_bounds.specs.Shown.{numbers_of, LeafStands}
use Rattle.branching.specs.Bounds.{IsNoLess}
use Rattle.branching.proofs.BoundsLemmas.{same_bound}
use Rattle.branching.proofs.node.narrower_node.Goals as goal

pub returns-clause-above : goal.returns-clause-above
returns-clause-above c =
    let leaf = c.in_ok-inherited.inherited in
    subst (λ (b : Bound). IfOk c.open_node.result (λ n. IsNoLess b n.bound))
    (same_bound c.args.case.now (numbers_of c.args.parent.now.leaf) (numbers_of leaf) c.in_ok-inherited.ensures.narrowed.q c.in_ok-inherited.ensures.value)
    (c.open_node.ensures.above leaf
    (subst (λ (ls : List Leaf). Contains ls leaf) (sym c.in_ok-push.ensures.items) (Contains-push c.in_ok-leaves.leaves.items leaf)))

pub open_node-requires-clause-leaves : goal.open_node-requires-clause-leaves
open_node-requires-clause-leaves c =
    let case = c.args.case.now in
    let lists = c.args.allowed.lists in
    subst (All (LeafStands case lists)) (sym c.in_ok-push.ensures.items)
    (All-push (LeafStands case lists) c.in_ok-leaves.leaves.items c.in_ok-inherited.inherited c.in_ok-leaves.ensures c.in_ok-inherited.ensures.stands)
