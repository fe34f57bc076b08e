use Rattle.std.proofs.Common.{Some, refl, ap}
use Rattle.command_words.specs.Command.{patterns}
use Rattle.station.specs.Shown.{record_of}
use Rattle.platform_cli.specs.View.{outcome_of, reading_of}
use Rattle.platform_cli.proofs.Answering.{listed_answer, unread_answer}
use Rattle.platform_cli.proofs.listing.list_patterns.Goals as goal

pub returns-in_ok-listed_output-in-Taken-clause-outcome : goal.returns-in_ok-listed_output-in-Taken-clause-outcome
returns-in_ok-listed_output-in-Taken-clause-outcome g c =
    listed_answer g.S.Shelf.tells (g.S.Shelf.held c.args.shelf.now) c.args.instance.now (reading_of c.in_ok-station.field-0) (record_of c.in-Taken.station) (outcome_of c.in_ok-listed_output-in-Taken.field-0)
    c.in_ok-station.ensures.read (ap reading_of c.in-Taken.is) c.in_ok-listed_output-in-Taken.ensures

pub returns-in_ok-refused_output-in-Refused-clause-outcome : goal.returns-in_ok-refused_output-in-Refused-clause-outcome
returns-in_ok-refused_output-in-Refused-clause-outcome g c =
    unread_answer g.S.Shelf.tells (g.S.Shelf.held c.args.shelf.now) (Some (patterns c.args.instance.now)) c.args.instance.now (reading_of c.in_ok-station.field-0) c.in-Refused.refused.kind c.in-Refused.refused.place
    (outcome_of c.in_ok-refused_output-in-Refused.field-0) refl c.in_ok-station.ensures.read (ap reading_of c.in-Refused.is) c.in_ok-refused_output-in-Refused.ensures
