use Rattle.std.proofs.Common.{◌≡◌, ◌∙◌, [], ◌++◌, ap}
use Rattle.std.specs.Prelude.{codes}
use Rattle.diagram.specs.Text.{timetable_text}
use Rattle.diagram.proofs.Rows.{five_appended}
use Rattle.reports.specs.Text.{amount_line, cost_lines, cost_text}
use Rattle.reports.proofs.cost.cost_report.Goals as goal

pub returns : goal.returns
unfolding cost_text
returns c =
    let costs = c.args.costs.now in
    let trains = timetable_text c.args.case.now c.args.plan.now.choice in
    let total = amount_line (codes "cost") costs.total in
    five_appended [] total (amount_line (codes "platforms") costs.platforms) (amount_line (codes "patterns") costs.patterns)
    (amount_line (codes "pairs") costs.pairs) trains
    c.push_amount.new.into.items c.push_amount-2.new.into.items c.push_amount-3.new.into.items c.push_amount-4.new.into.items c.extend_from_slice.new.self.items
    (c.in_ok-push_amount.ensures ∙ ap (λ l. l ++ total) c.new-text.ensures.items)
    c.in_ok-push_amount-2.ensures c.in_ok-push_amount-3.ensures c.in_ok-push_amount-4.ensures
    (c.in_ok-extend_from_slice.ensures.items ∙ ap (λ l. c.push_amount-4.new.into.items ++ l) (c.deref.ensures.value ∙ c.in_ok-trains.ensures))
    ∙ ap (λ k. cost_lines k ++ trains) c.requires.own
