use Rattle.master_lp.proofs.EngineEnds.{opening_below, solved_in, standing_below, weak_in}
use Rattle.master_lp.proofs.relaxing.solved.Goals as goal

-- The columns and rows that the engine is given are those of the layout.
pub optimise-requires-clause-opening : goal.optimise-requires-clause-opening
optimise-requires-clause-opening c =
    opening_below c.args.case.now c.args.layout.now c.new-pricing.result c.in_ok-source.source c.new-pricing.ensures.case c.new-pricing.ensures.layout
    c.in_ok-source.ensures.case c.in_ok-source.ensures.layout c.in_ok-source.ensures.trains

pub optimise-requires-clause-standing : goal.optimise-requires-clause-standing
optimise-requires-clause-standing c =
    standing_below c.args.case.now c.args.layout.now c.new-pricing.result c.in_ok-source.source c.new-pricing.ensures.case c.new-pricing.ensures.layout
    c.in_ok-source.ensures.case c.in_ok-source.ensures.layout

pub returns-clause-exact : goal.returns-clause-exact
returns-clause-exact c =
    solved_in c.args.case.now c.args.layout.now c.new-pricing.result c.in_ok-source.source c.new-pricing.ensures.case c.new-pricing.ensures.layout
    c.in_ok-source.ensures.case c.in_ok-source.ensures.layout c.in_ok-source.ensures.trains c.in_ok-outcome.outcome c.in_ok-outcome.ensures.exact
    c.in_ok-outcome.ensures.least c.in_ok-outcome.ensures.scales

pub returns-clause-weak : goal.returns-clause-weak
returns-clause-weak c =
    weak_in c.args.case.now c.args.layout.now c.new-pricing.result c.in_ok-source.source c.new-pricing.ensures.case c.new-pricing.ensures.layout
    c.in_ok-source.ensures.case c.in_ok-source.ensures.layout c.requires.layout c.in_ok-source.ensures.trains c.args.limits.now c.args.width.now
    c.optimise.new.width c.in_ok-outcome.outcome c.in_ok-outcome.ensures.weak
