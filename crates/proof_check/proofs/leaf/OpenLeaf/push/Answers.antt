use Rattle.proof_check.specs.Tables.{groups_of}
use Rattle.proof_check.proofs.LeafFacts.{are_lists}
use Rattle.proof_check.proofs.LeafSteps.{a_step, b_step, u_step, use_step, v_step}
use Rattle.proof_check.proofs.leaf.OpenLeaf.push.Goals as goal

pub returns-in-U : goal.returns-in-U
returns-in-U c =
    u_step c.args.case.now (groups_of c.args.tables.now) c.args.splits.now.lists.lists c.args.self.now c.requires.leaf c.args.read.now c.in-U.x c.push_u.new.self
    c.push_u.result c.in-U.is c.requires.range c.push_u.ensures

pub returns-in-V : goal.returns-in-V
returns-in-V c =
    v_step c.args.case.now (groups_of c.args.tables.now) c.args.splits.now.lists.lists c.args.self.now c.requires.leaf c.args.read.now c.in-V.x c.push_v.new.self
    c.push_v.result c.in-V.is c.requires.range c.push_v.ensures

pub returns-in-A : goal.returns-in-A
returns-in-A c =
    a_step c.args.case.now (groups_of c.args.tables.now) c.args.splits.now.lists.lists c.args.self.now c.requires.leaf c.requires.fits c.requires.book c.args.read.now
    c.in-A.x c.push_a.new.self c.push_a.result c.in-A.is c.requires.range c.push_a.ensures

pub returns-in-B : goal.returns-in-B
returns-in-B c =
    b_step c.args.case.now (groups_of c.args.tables.now) c.args.splits.now.lists.lists c.args.self.now c.requires.leaf c.requires.fits c.requires.book c.args.read.now
    c.in-B.x c.push_b.new.self c.push_b.result c.in-B.is c.requires.range c.push_b.ensures

pub push_use-requires-clause-lists : goal.push_use-requires-clause-lists
push_use-requires-clause-lists c = are_lists c.args.splits.now.lists.lists c.args.case.now.book c.requires.fits c.requires.book

pub returns-in-Use : goal.returns-in-Use
returns-in-Use c =
    use_step c.args.case.now (groups_of c.args.tables.now) c.args.splits.now.lists.lists c.args.self.now c.requires.leaf c.requires.fits c.requires.book c.args.read.now
    c.in-Use.x c.push_use.new.self c.push_use.result c.in-Use.is c.requires.tables c.push_use.ensures
