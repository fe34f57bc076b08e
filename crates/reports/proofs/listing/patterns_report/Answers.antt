use Rattle.std.proofs.Common.{◌∙◌, ◌++◌, ap, sym}
use Rattle.patterns.proofs.Steps.{flat_map_numbers_more}
use Rattle.reports.specs.Text.{train_patterns}
use Rattle.reports.proofs.listing.patterns_report.Goals as goal

pub loop-train-preserved : goal.loop-train-preserved
loop-train-preserved c =
    let lines = train_patterns c.args.case.now in
    c.in_ok-push_train.ensures ∙ ap (λ s. s ++ lines c.loop-train.train) c.loop-train.invariant ∙ sym (flat_map_numbers_more lines c.loop-train.train)
