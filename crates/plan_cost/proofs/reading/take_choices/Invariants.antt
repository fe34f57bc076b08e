use Rattle.std.proofs.Common.{◌≡◌, ◌-◌, map}
use Rattle.std.specs.List.{range_with_len}
use Rattle.plan_cost.specs.First.{first_of}
use Rattle.plan_cost.specs.PlanReading.{behind, choice_refusal, choice_refusals, first_refusal, numbers_read}
use Rattle.plan_cost.proofs.reading.take_choices.Given as goal

abbrev pub invariant-loop-train : goal.invariant-loop-train
invariant-loop-train l = record {
  first : first_refusal (choice_refusals l.case l.bytes)
      ≡ first_of (λ r. r) (map (λ t. choice_refusal l.case t (behind t l.bytes)) (range_with_len l.train (l.trains - l.train)));
  numbers : l.choice.items ≡ numbers_read l.train l.bytes;
  rest : l.rest ≡ behind l.train l.bytes;
}
