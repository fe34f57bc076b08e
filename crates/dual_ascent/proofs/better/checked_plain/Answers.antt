use Rattle.std.proofs.Common.{ap, ◌∙◌, sym}
use Rattle.leaf_bounds.specs.Shown.{numbers_of}
use Rattle.dual_ascent.proofs.WorthLemmas.{worth_is}
use Rattle.dual_ascent.proofs.better.checked_plain.Goals as goal

pub returns-clause-worth : goal.returns-clause-worth
returns-clause-worth c =
    worth_is c.args.case.now c.args.allowed.now.lists (numbers_of c.in_ok-leaf.leaf) c.in-Ok.worth (sym c.in-Ok.is ∙ c.leaf_check.ensures.verdict)

pub returns-clause-plain : goal.returns-clause-plain
returns-clause-plain c =
    ap (λ w. w.value)
    (worth_is c.args.case.now c.args.allowed.now.lists (numbers_of c.in_ok-leaf.leaf) c.in-Ok.worth (sym c.in-Ok.is ∙ c.leaf_check.ensures.verdict))
    ∙ c.in_ok-leaf.ensures.value
