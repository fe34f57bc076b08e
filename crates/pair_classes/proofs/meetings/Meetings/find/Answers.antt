use Rattle.std.specs.Option.{option_copied}
use Rattle.pair_classes.proofs.ListedLemmas.{found_by}
use Rattle.pair_classes.proofs.meetings.Meetings.find.Goals as goal

pub returns-clause-found : goal.returns-clause-found
returns-clause-found c case are order =
    found_by case c.args.self.now c.args.first c.args.second (option_copied c.entry.result) are order c.requires.second c.entry.ensures
