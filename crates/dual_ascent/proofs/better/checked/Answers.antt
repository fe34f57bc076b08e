use Rattle.std.proofs.Common.{◌∙◌, sym}
use Rattle.leaf_bounds.specs.Shown.{numbers_of}
use Rattle.dual_ascent.proofs.WorthLemmas.{worth_is}
use Rattle.dual_ascent.proofs.better.checked.Goals as goal

pub returns-in-Ok-clause-worth : goal.returns-in-Ok-clause-worth
returns-in-Ok-clause-worth c =
    worth_is c.args.case.now c.args.allowed.now.lists (numbers_of c.args.leaf) c.in-Ok.worth (sym c.in-Ok.is ∙ c.leaf_check.ensures.verdict)
