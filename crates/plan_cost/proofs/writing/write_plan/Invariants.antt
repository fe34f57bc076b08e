use Rattle.std.proofs.Common.{◌≡◌, ◌++◌, length}
use Rattle.std.specs.Prelude.{flat_map, slice_index}
use Rattle.station.specs.Allowed.{numbers}
use Rattle.plan_cost.specs.declared.record.PlanRecord.TheVariants.{Header}
use Rattle.plan_cost.specs.PlanText.{record_line}
use Rattle.plan_cost.proofs.PlanTexts.{choice_line}
use Rattle.plan_cost.proofs.writing.write_plan.Given as goal

abbrev pub invariant-loop-train : goal.invariant-loop-train
invariant-loop-train l =
    l.text.items ≡ record_line (Header (length l.plan.choice)) ++ flat_map (choice_line (slice_index l.plan.choice)) (numbers l.train)
