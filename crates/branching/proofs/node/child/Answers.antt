use Rattle.branching.proofs.node.child.Goals as goal

pub returns-in-Fixed-clause-above : goal.returns-in-Fixed-clause-above
returns-in-Fixed-clause-above c = c.fixed_node.ensures.above c.args.parent.now.allowed.lists c.args.parent.now.leaf c.requires.within c.requires.stands
