use Rattle.std.proofs.Common.{◌∙◌, ◌∷◌, ◌++◌, [], ap, sym, refl}
use Rattle.plan_cost.specs.PlanLine.{after_line, record_at}
use Rattle.plan_cost.specs.PlanReading.{behind, choice_refusal, choice_refusals, first_refusal, number_of}
use Rattle.plan_cost.proofs.PlanTexts.{behind_more, first_found, first_passed, hands_on, numbers_more_read}
use Rattle.plan_cost.proofs.reading.take_choices.Goals as goal

pub returns-in_err-number : goal.returns-in_err-number
returns-in_err-number c =
    let first = first_refusal (choice_refusals c.args.case.now c.args.bytes.now) in
    hands_on _ first c.in_err-number.field-0.0 c.from_residual.result c.from_residual.ensures.1
    (first_found c.args.case.now c.args.bytes.now c.args.trains c.loop-train.train c.loop-train.rest.now c.in_err-number.field-0.0
    c.loop-train.invariant.first c.loop-train.invariant.rest c.loop-train-test.true c.in_err-number.ensures)

pub loop-train-preserved : goal.loop-train-preserved
loop-train-preserved c = record {
  first = first_passed c.args.case.now c.args.bytes.now c.args.trains c.loop-train.train c.loop-train.rest.now
      c.loop-train.invariant.first c.loop-train.invariant.rest c.loop-train-test.true c.in_ok-number.ensures.0;
  numbers = numbers_more_read c.args.bytes.now c.loop-train.train c.loop-train.rest.now c.loop-train.choice.items c.push.new.self.items c.in_ok-number.number
      c.loop-train.invariant.numbers c.loop-train.invariant.rest c.in_ok-number.ensures.1 c.in_ok-push.ensures.items;
  rest = c.in_ok-number.ensures.2 ∙ ap after_line c.loop-train.invariant.rest ∙ sym (behind_more c.loop-train.train c.args.bytes.now);
}
