use Rattle.pair_classes.specs.Meetings.{AreListedTo, pair_key}
use Rattle.pair_classes.proofs.meetings.add_pairs.Given as goal

abbrev pub invariant-loop-second : goal.invariant-loop-second
invariant-loop-second l = AreListedTo l.case (pair_key l.first l.second) l.pairs.items
