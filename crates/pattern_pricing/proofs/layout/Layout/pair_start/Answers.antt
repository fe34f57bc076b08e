use Rattle.pattern_pricing.specs.Positions.{pair_start}
use Rattle.pattern_pricing.proofs.layout.Layout.pair_start.Goals as goal

pub returns-clause-value : goal.returns-clause-value
unfolding pair_start
returns-clause-value c = c.starts_of_pairs.ensures.each c.args.train c.requires
