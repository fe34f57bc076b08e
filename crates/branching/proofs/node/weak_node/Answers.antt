use Rattle.std.proofs.Common.{List, sym, subst}
use Rattle.std.specs.Prelude.{All, Contains}
use Rattle.std.proofs.lemmas.List.Elements.{All-nil, All-push, Contains-push}
use Rattle.leaf_bounds.specs.declared.leaf.Leaf.{Leaf}
use Rattle.leaf_bounds.specs.Shown.{LeafStands}
use Rattle.branching.proofs.node.weak_node.Goals as goal

pub open_node-requires-clause-leaves : goal.open_node-requires-clause-leaves
open_node-requires-clause-leaves c =
    let P : Leaf → Type 0 = LeafStands c.args.case.now c.args.allowed.lists in
    let empty = subst (All P) (sym c.new-leaves.ensures.items) (All-nil P) in
    subst (All P) (sym c.in_ok-push.ensures.items) (All-push P _ c.args.leaf empty c.requires.stands)

pub returns-clause-above : goal.returns-clause-above
returns-clause-above c =
    c.open_node.ensures.above c.args.leaf
    (subst (λ (ls : List Leaf). Contains ls c.args.leaf) (sym c.in_ok-push.ensures.items) (Contains-push _ c.args.leaf))
