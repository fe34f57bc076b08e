use Rattle.pattern_pricing.specs.Positions.{start_of}
use Rattle.pattern_pricing.proofs.layout.Layout.start.Goals as goal

pub returns-clause-value : goal.returns-clause-value
unfolding start_of
returns-clause-value c = c.starts.ensures.each c.args.train c.requires
