use Rattle.std.proofs.Common.{◌≡◌, ◌∙◌, ℕ, ◌<◌, true, false, nat_eq, ap, length, sym, arith}
use Rattle.std.proofs.lemmas.Bool.Decides.{nat_tests}
use Rattle.plan_cost.specs.PlanReading.{plan_reading}
use Rattle.plan_cost.proofs.PlanTexts.{answers_refused, header_refused, choices_fault, end_fault_is, trail_is, plan_is}
use Rattle.plan_cost.proofs.reading.read_records.Goals as goal

something : (n : ℕ) → nat_eq n 0 ≡ false → 0 < n
something n e = grind (arith, nat_tests)

nothing : (n : ℕ) → nat_eq n 0 ≡ true → n ≡ 0
nothing n e = grind (arith, nat_tests)

pub returns-in_err-choices : goal.returns-in_err-choices
returns-in_err-choices c =
    answers_refused (plan_reading c.args.case.now c.args.bytes.now) c.in_err-choices.field-0.0 c.from_residual.result c.from_residual.ensures.1
    (header_refused c.args.case.now c.args.bytes.now c.trains-trains.result c.in_err-choices.field-0.0
    (c.trains-trains.ensures.value ∙ ap length c.book.ensures) c.in_err-choices.ensures)

pub returns-in_err-choice : goal.returns-in_err-choice
returns-in_err-choice c =
    choices_fault c.args.case.now c.args.bytes.now c.trains-trains.result c.in_ok-choices.choices.now
    (c.trains-trains.ensures.value ∙ ap length c.book.ensures) c.in_ok-choices.ensures.0 c.in_ok-choices.ensures.1
    c.in_err-choice.field-0.0 c.from_residual-in_err-choice.result c.from_residual-in_err-choice.ensures.1 c.in_err-choice.ensures

pub returns-in_err-rest : goal.returns-in_err-rest
returns-in_err-rest c =
    answers_refused (plan_reading c.args.case.now c.args.bytes.now) c.in_err-rest.field-0.0 c.from_residual-in_err-rest.result c.from_residual-in_err-rest.ensures.1
    (end_fault_is c.args.case.now c.args.bytes.now c.trains-trains.result c.in_ok-choices.choices.now
    (c.trains-trains.ensures.value ∙ ap length c.book.ensures) c.in_ok-choices.ensures.0 c.in_ok-choices.ensures.1
    c.in_ok-choice.end.now c.in_ok-choice.ensures.0 c.in_ok-choice.ensures.2 c.in_err-rest.field-0.0 c.in_err-rest.ensures)

pub returns-then-not-is_empty : goal.returns-then-not-is_empty
returns-then-not-is_empty c =
    trail_is c.args.case.now c.args.bytes.now c.trains-trains.result c.in_ok-choices.choices.now
    (c.trains-trains.ensures.value ∙ ap length c.book.ensures) c.in_ok-choices.ensures.0 c.in_ok-choices.ensures.1
    c.in_ok-choice.end.now c.in_ok-choice.ensures.0 c.in_ok-choice.ensures.2
    c.in_ok-rest.rest.now c.in_ok-rest.ensures.0 c.in_ok-rest.ensures.1 (something (length c.in_ok-rest.rest.now) (sym c.if-not-is_empty.ensures))

pub returns : goal.returns
returns c =
    plan_is c.args.case.now c.args.bytes.now c.trains-trains.result c.in_ok-choices.choices.now
    (c.trains-trains.ensures.value ∙ ap length c.book.ensures) c.in_ok-choices.ensures.0 c.in_ok-choices.ensures.1
    c.in_ok-choice.end.now c.in_ok-choice.ensures.0 c.in_ok-choice.ensures.2
    c.in_ok-rest.rest.now c.in_ok-rest.ensures.0 c.in_ok-rest.ensures.1
    c.from_vec.result (c.from_vec.ensures ∙ c.in_ok-choice.ensures.1) (nothing (length c.in_ok-rest.rest.now) (sym c.if-not-is_empty.ensures))
