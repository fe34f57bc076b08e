use Rattle.std.proofs.Common.{take, MatchOption}
use Rattle.std.specs.List.{All}
use Rattle.master_lp.specs.Looks.{IsAbove, IsMetAt}
use Rattle.master_lp.proofs.pairs.worst_pair.Given as goal

abbrev pub invariant-loop-meeting : goal.invariant-loop-meeting
invariant-loop-meeting l =
    MatchOption l.worst (All (IsMetAt l.case l.layout l.point l.weights) (take l.meeting-index l.pairs))
    (λ a. IsAbove l.case l.layout l.point l.weights a.cut)
