use Rattle.std.proofs.Common.{◌≡◌, ◌∙◌, sym, ap, subst, arith, length, Some}
use Rattle.primal_heuristic.specs.Greedy.{greedy_plan, number_taken}
use Rattle.primal_heuristic.specs.Looks.{AreEarlier}
use Rattle.primal_heuristic.proofs.Taken.{earlier_taken, none_taken, all_taken, feasible_taken}
use Rattle.primal_heuristic.proofs.greedy_plan.greedy.Goals as goal

pub number_taken-requires : goal.number_taken-requires
number_taken-requires c =
    let trains = c.trains-trains.ensures.value ∙ ap length c.book.ensures in
    subst (AreEarlier c.args.case.now) (sym c.deref.ensures.value)
    (earlier_taken c.args.case.now c.loop-train._train c.loop-train.choice.items c.loop-train.invariant (omega (arith, trains)))

pub returns-in_default-clause-value : goal.returns-in_default-clause-value
returns-in_default-clause-value c =
    let trains = c.trains-trains.ensures.value ∙ ap length c.book.ensures in
    none_taken c.args.case.now c.loop-train._train c.loop-train.choice.items c.loop-train.invariant
    (sym c.in_default.is ∙ c.number_taken.ensures ∙ ap (number_taken c.args.case.now) c.deref.ensures.value) (omega (arith, trains))

whole : (c : goal.After-from_vec) → Some c.from_vec.result ≡ greedy_plan c.args.case.now
whole c =
    let trains = c.trains-trains.ensures.value ∙ ap length c.book.ensures in
    ap Some c.from_vec.ensures ∙ all_taken c.args.case.now c.loop-train._train c.loop-train.choice.items c.loop-train.invariant (omega (arith, trains))

pub returns-clause-value : goal.returns-clause-value
returns-clause-value c = whole c

pub returns-clause-feasible : goal.returns-clause-feasible
returns-clause-feasible c = feasible_taken c.args.case.now c.from_vec.result (whole c)
