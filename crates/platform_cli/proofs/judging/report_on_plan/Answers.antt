use Rattle.std.proofs.Common.{◌≡◌, rules, None, sym, ◌∙◌, ap, arith}
use Rattle.station.specs.Shown.{record_of}
use Rattle.platform_cli.specs.Asked.{bad_window}
use Rattle.platform_cli.specs.Given.{text_outcome}
use Rattle.platform_cli.specs.View.{asked_view, outcome_of, reading_of}
use Rattle.platform_cli.proofs.Answering.{window_answer, judged_result, reads_plan, asked_instance, asked_when, unread_answer}
use Rattle.platform_cli.proofs.judging.report_on_plan.Goals as goal

pub returns-in-Some-clause-outcome : goal.returns-in-Some-clause-outcome
returns-in-Some-clause-outcome g c = λ command words.
    window_answer g.S.Shelf.tells (g.S.Shelf.held c.args.shelf.now) command (asked_view c.args.asked.now) c.in-Some.window (outcome_of c.of_text.result) words (sym c.in-Some.ensures)
    (c.of_text.ensures ∙ ap (λ t. text_outcome 12 t) c.in_ok-text.ensures)

pub returns-in-Taken-clause-outcome : goal.returns-in-Taken-clause-outcome
returns-in-Taken-clause-outcome g c = λ command words.
    let drawn : bad_window c.args.asked.now.report ≡ None = search rules in
    judged_result g.S.Shelf.tells (g.S.Shelf.held c.args.shelf.now) (g.S.Shelf.held c.read_instance.new.shelf) command (asked_view c.args.asked.now) (reading_of c.in_ok-station.field-0) (record_of c.in-Taken.station) c.judge_file.result
    c.read_instance.ensures.held words drawn c.in_ok-station.ensures.read (ap reading_of c.in-Taken.is) c.judge_file.ensures.outcome

pub returns-in-Taken-clause-cause : goal.returns-in-Taken-clause-cause
returns-in-Taken-clause-cause g c = λ command words stopped.
    let drawn : bad_window c.args.asked.now.report ≡ None = search rules in (
      c.args.asked.now.plan.now,
      reads_plan g.S.Shelf.tells (g.S.Shelf.held c.args.shelf.now) command (asked_view c.args.asked.now) (reading_of c.in_ok-station.field-0) (record_of c.in-Taken.station) words drawn c.in_ok-station.ensures.read (ap reading_of c.in-Taken.is),
      omega (arith, c.judge_file.ensures.cause stopped, c.read_instance.ensures.later c.args.asked.now.plan.now),
    )

pub returns-in_ok-refused_output-in-Refused-clause-outcome : goal.returns-in_ok-refused_output-in-Refused-clause-outcome
returns-in_ok-refused_output-in-Refused-clause-outcome g c = λ command words.
    let drawn : bad_window c.args.asked.now.report ≡ None = search rules in
    unread_answer g.S.Shelf.tells (g.S.Shelf.held c.args.shelf.now) command c.args.asked.now.instance.now (reading_of c.in_ok-station.field-0) c.in-Refused.refused.kind c.in-Refused.refused.place
    (outcome_of c.in_ok-refused_output-in-Refused.field-0) (asked_instance command (asked_view c.args.asked.now) (asked_when command (asked_view c.args.asked.now) words drawn))
    c.in_ok-station.ensures.read (ap reading_of c.in-Refused.is) c.in_ok-refused_output-in-Refused.ensures
