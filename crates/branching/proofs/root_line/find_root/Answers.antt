use Rattle.std.proofs.Common.{ap, ◌∙◌, subst}
use Rattle.patterns.specs.Allowed.{full_lists, FitsBook}
use Rattle.branching.proofs.root_line.find_root.Goals as goal

pub root_leaf-requires-clause-fits : goal.root_leaf-requires-clause-fits
root_leaf-requires-clause-fits c = subst (FitsBook c.in_ok-allowed.allowed.lists) c.book.ensures c.in_ok-allowed.ensures.fits

pub root_leaf-requires-clause-all : goal.root_leaf-requires-clause-all
root_leaf-requires-clause-all c = c.in_ok-allowed.ensures.lists ∙ ap full_lists c.book.ensures

pub returns-clause-root : goal.returns-clause-root
returns-clause-root c = (c.in_ok-found.found.leaf, c.in_ok-found.ensures.root)
