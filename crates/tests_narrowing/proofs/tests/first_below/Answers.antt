use Rattle.std.proofs.Common.{sym, subst}
use Rattle.patterns.specs.Allowed.{Lists}
use Rattle.leaf_bounds.specs.Made.{ArePartOf}
use Rattle.branching.proofs.ListsLemmas.{below_within}
use Rattle.tests_narrowing.proofs.tests.first_below.Goals as goal

pub returns-in-Ok-clause-part : goal.returns-in-Ok-clause-part
returns-in-Ok-clause-part c =
    let lists = c.args.all.now.lists in
    subst (λ (ns : Lists). ArePartOf ns lists) (sym c.in-Ok.ensures.parts.below) (below_within lists (record { train = 0; at = 1 }) c.requires)
