use Rattle.std.proofs.Common.{Some, refl, ap, arith}
use Rattle.command_words.specs.Command.{check}
use Rattle.station.specs.Shown.{record_of}
use Rattle.platform_cli.specs.View.{check_view, outcome_of, reading_of}
use Rattle.platform_cli.proofs.Answering.{unread_answer}
use Rattle.platform_cli.proofs.CheckSteps.{checked_result, reads_behind}
use Rattle.platform_cli.proofs.checking.check.Goals as goal

pub returns-in-Taken-clause-outcome : goal.returns-in-Taken-clause-outcome
returns-in-Taken-clause-outcome g c =
    checked_result c.accepted_exactly.ensures c.texts_of_trees.ensures g.S.Shelf.tells (g.S.Shelf.held c.args.shelf.now) (g.S.Shelf.held c.read_instance.new.shelf) (check_view c.args.words.now)
    (reading_of c.in_ok-station.field-0) (record_of c.in-Taken.station) c.check_file.result c.read_instance.ensures.held c.in_ok-station.ensures.read (ap reading_of c.in-Taken.is) c.check_file.ensures.outcome

pub returns-in-Taken-clause-cause : goal.returns-in-Taken-clause-cause
returns-in-Taken-clause-cause g c = λ stopped.
    let at = c.check_file.ensures.cause stopped in (
      at.0,
      reads_behind g.S.Shelf.tells (g.S.Shelf.held c.args.shelf.now) (check_view c.args.words.now) (reading_of c.in_ok-station.field-0) (record_of c.in-Taken.station) at.0 c.in_ok-station.ensures.read
          (ap reading_of c.in-Taken.is) at.1,
      omega (arith, at.2, c.read_instance.ensures.later at.0),
    )

pub returns-in_ok-refused_output-in-Refused-clause-outcome : goal.returns-in_ok-refused_output-in-Refused-clause-outcome
returns-in_ok-refused_output-in-Refused-clause-outcome g c =
    unread_answer g.S.Shelf.tells (g.S.Shelf.held c.args.shelf.now) (Some (check (check_view c.args.words.now))) c.args.words.now.instance.now (reading_of c.in_ok-station.field-0) c.in-Refused.refused.kind
    c.in-Refused.refused.place (outcome_of c.in_ok-refused_output-in-Refused.field-0) refl c.in_ok-station.ensures.read (ap reading_of c.in-Refused.is) c.in_ok-refused_output-in-Refused.ensures
