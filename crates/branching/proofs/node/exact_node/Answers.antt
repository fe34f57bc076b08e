use Rattle.std.proofs.Common.{pos, sym, ap, ◌∙◌, subst}
use Rattle.leaf_bounds.specs.Shown.{bound_of_leaf}
use Rattle.branching.specs.Bounds.{least_sum, IsAtLeast, IsNoLess}
use Rattle.branching.proofs.LeafLemmas.{no_less_same}
use Rattle.branching.proofs.node.exact_node.Goals as goal

pub returns-clause-node : goal.returns-clause-node
returns-clause-node c =
    let case = c.args.case.now in
    let lists = c.args.allowed.lists in
    let given = c.valued-leaf.ensures in
    record {
      own = λ i. lists;
      stands = given.valued.stands;
      value = given.valued.value;
      priced = tt;
      open_part = λ e. record {
        fits = c.requires.fits;
        undecided = c.requires.undecided;
        plain = subst (IsAtLeast (pos (least_sum case lists))) (sym (given.valued.value ∙ ap (bound_of_leaf case lists) given.same)) c.requires.plain;
      };
    }

pub returns-clause-above : goal.returns-clause-above
returns-clause-above c =
    let case = c.args.case.now in
    let lists = c.args.allowed.lists in
    let given = c.valued-leaf.ensures in
    subst (IsNoLess (bound_of_leaf case lists c.args.leaf)) (sym (given.valued.value ∙ ap (bound_of_leaf case lists) given.same))
    (no_less_same (bound_of_leaf case lists c.args.leaf))
