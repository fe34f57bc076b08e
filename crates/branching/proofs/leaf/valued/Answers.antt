use Rattle.std.proofs.Common.{sym, ◌∙◌}
use Rattle.leaf_bounds.specs.Shown.{numbers_of}
use Rattle.branching.proofs.LeafLemmas.{checked}
use Rattle.branching.proofs.leaf.valued.Goals as goal

pub returns-clause-valued : goal.returns-clause-valued
returns-clause-valued c = record {
  stands = c.requires.stands;
  value = c.bound_by-bound.ensures c.args.case.now c.args.leaf
      (checked c.args.case.now c.args.allowed.now.lists (numbers_of c.args.leaf) c.unwrap-value.result
      (sym c.leaf_check.ensures.verdict ∙ c.unwrap-value.ensures));
}
