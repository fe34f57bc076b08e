use Rattle.leaf_bounds.specs.Shown.{bound_of_leaf}
use Rattle.branching.proofs.node.first_node.Goals as goal

pub returns-in-Missing-clause-above : goal.returns-in-Missing-clause-above
returns-in-Missing-clause-above c = c.missing_node.ensures.above (bound_of_leaf c.args.case.now c.args.allowed.lists c.args.leaf)

pub returns-in-Fixed-clause-above : goal.returns-in-Fixed-clause-above
returns-in-Fixed-clause-above c = c.fixed_node.ensures.above c.args.allowed.lists c.args.leaf (λ t i h. h) c.requires.stands
