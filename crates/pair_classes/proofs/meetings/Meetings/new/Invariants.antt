use Rattle.std.proofs.Common.{◌+◌, ◌*◌}
use Rattle.pair_classes.specs.Meetings.{AreListedTo}
use Rattle.pair_classes.proofs.meetings.Meetings.new.Given as goal

abbrev pub invariant-loop-first : goal.invariant-loop-first
invariant-loop-first l = AreListedTo l.case (201 * l.first + 1) l.pairs.items
