use Rattle.patterns.specs.Book.{pattern_at}
use Rattle.pair_classes.proofs.PricedLemmas.{sealed_most}
use Rattle.pair_classes.proofs.meeting.Meeting.price.Goals as goal

pub returns-in-None-clause-most : goal.returns-in-None-clause-most
returns-in-None-clause-most c =
    sealed_most c.args.case.now c.station-station.ensures.limits (pattern_at c.args.case.now.book c.args.self.now.first c.args.first)
    (pattern_at c.args.case.now.book c.args.self.now.second c.args.second)
