use Rattle.std.proofs.Common.{List, MatchOption, sym, subst, arith, ◌∙◌}
use Rattle.std.specs.List.{All}
use Rattle.std.proofs.lemmas.List.{take_all}
use Rattle.std.proofs.lemmas.List.Elements.{All-get_or}
use Rattle.pair_classes.specs.declared.meeting.Meeting.{Meeting}
use Rattle.pair_classes.specs.Meetings.{IsMeeting}
use Rattle.master_lp.specs.declared.pairs.Excess.{Excess}
use Rattle.master_lp.specs.Looks.{IsAbove, IsMetAt}
use Rattle.master_lp.proofs.PairsLooked.{worse_step}
use Rattle.master_lp.proofs.pairs.worst_pair.Goals as goal

pub cut_above-requires-clause-order : goal.cut_above-requires-clause-order
cut_above-requires-clause-order c =
    let P : List Meeting → Type 0 = λ xs. All (IsMeeting c.args.case.now) xs in
    let Q : Meeting → Type 0 = λ m. IsMeeting c.args.case.now m in
    let all = subst P (sym c.pairs-pairs.ensures) c.requires.meetings.listed in
    (subst Q (sym c.meeting-item.is)
    (All-get_or (IsMeeting c.args.case.now) c.pairs-pairs.result.now c.loop-meeting.meeting-index c.meeting-item.result c.loop-meeting-test.true all)).order

pub cut_above-requires-clause-there : goal.cut_above-requires-clause-there
cut_above-requires-clause-there c =
    let P : List Meeting → Type 0 = λ xs. All (IsMeeting c.args.case.now) xs in
    let Q : Meeting → Type 0 = λ m. IsMeeting c.args.case.now m in
    let all = subst P (sym c.pairs-pairs.ensures) c.requires.meetings.listed in
    (subst Q (sym c.meeting-item.is)
    (All-get_or (IsMeeting c.args.case.now) c.pairs-pairs.result.now c.loop-meeting.meeting-index c.meeting-item.result c.loop-meeting-test.true all)).there

pub loop-meeting-preserved : goal.loop-meeting-preserved
loop-meeting-preserved c =
    worse_step (IsMetAt c.args.case.now c.args.layout.now c.args.point.now c.args.weights.now)
    (λ (a : Excess). IsAbove c.args.case.now c.args.layout.now c.args.point.now c.args.weights.now a.cut)
    c.pairs-pairs.result.now c.loop-meeting.meeting-index c.meeting-item.result c.loop-meeting-test.true c.meeting-item.is
    c.loop-meeting.worst c.in_ok-found.found c.worse-worst.result c.worse-worst.ensures c.loop-meeting.invariant c.in_ok-found.ensures

pub returns : goal.returns
returns c =
    let P : List Meeting → Type 0 = λ xs. MatchOption c.loop-meeting.worst (All (IsMetAt c.args.case.now c.args.layout.now c.args.point.now c.args.weights.now) xs)
    (λ (a : Excess). IsAbove c.args.case.now c.args.layout.now c.args.point.now c.args.weights.now a.cut) in
    let ended = c.loop-meeting-test.false in
    subst P (take_all c.loop-meeting.meeting-index c.pairs-pairs.result.now (omega (arith, ended)) ∙ c.pairs-pairs.ensures) c.loop-meeting.invariant
