use Rattle.std.proofs.Common.{pos}
use Rattle.leaf_bounds.specs.Shown.{bound_of_leaf}
use Rattle.branching.specs.Bounds.{least_sum}
use Rattle.branching.proofs.BoundsLemmas.{at_least_step, plain_above}
use Rattle.branching.proofs.node.open_node.Goals as goal

pub returns-clause-node : goal.returns-clause-node
returns-clause-node c =
    let case = c.args.case.now in
    let lists = c.args.allowed.lists in
    record {
      own = λ i. lists;
      stands = c.best_leaf-leaf.ensures.valued.stands;
      value = c.best_leaf-leaf.ensures.valued.value;
      priced = tt;
      open_part = λ e. record {
        fits = c.requires.fits;
        undecided = c.requires.undecided;
        plain = at_least_step (pos (least_sum case lists)) (bound_of_leaf case lists c.in_ok-plain.plain) c.best_leaf-leaf.result.bound
            (plain_above case lists c.in_ok-plain.plain c.in_ok-plain.ensures) c.best_leaf-leaf.ensures.first;
      };
    }
