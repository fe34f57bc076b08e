use Rattle.master_lp.specs.declared.answer.ExactBound.{ExactBound}
use Rattle.master_lp.proofs.ExactBounds.{is_exact}
use Rattle.master_lp.proofs.ends.exact_bound.Goals as goal

pub returns : goal.returns
returns c =
    let e : ExactBound = record { value = c.worth_of-value.result; leaf = c.args.leaf; fraction = c.args.fraction } in
    is_exact c.least_points_bound_plans.ensures c.args.case.now c.args.layout.now c.requires.layout c.args.solved.now c.requires.solved e
    c.args.allowed.now.lists c.requires.same c.requires.stands c.worth_of-value.ensures c.requires.value c.requires.plan c.requires.written
