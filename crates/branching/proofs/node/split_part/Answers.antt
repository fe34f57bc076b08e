use Rattle.std.proofs.Common.{sym, subst}
use Rattle.patterns.specs.Allowed.{Lists}
use Rattle.leaf_bounds.specs.Made.{ArePartOf}
use Rattle.branching.proofs.ListsLemmas.{below_within, from_within}
use Rattle.branching.proofs.node.split_part.Goals as goal

pub child-requires-clause-within : goal.child-requires-clause-within
child-requires-clause-within c =
    let lists = c.args.part.now.allowed.lists in
    subst (λ (ns : Lists). ArePartOf ns lists) (sym c.in-Ok.ensures.parts.below) (below_within lists c.in_ok-cut.cut c.in_ok-cut.ensures.there)

pub child-requires-2-clause-within : goal.child-requires-2-clause-within
child-requires-2-clause-within c =
    let lists = c.args.part.now.allowed.lists in
    subst (λ (ns : Lists). ArePartOf ns lists) (sym c.in-Ok.ensures.parts.rest) (from_within lists c.in_ok-cut.cut c.in_ok-cut.ensures.there)
