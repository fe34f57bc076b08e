use Rattle.exact_lp.proofs.round.plan_priced.Goals as goal

pub returns-in-Some-clause-plan : goal.returns-in-Some-clause-plan
returns-in-Some-clause-plan g c = c.plan_column.ensures c.args.width.now c.improving.new.width
