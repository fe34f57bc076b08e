use Rattle.patterns.specs.Allowed.{list_of, part_below, part_from}
use Rattle.std.proofs.Common.{◌∙◌, ap}
use Rattle.proof_check.proofs.DueLemmas.{divided, some_there}
use Rattle.proof_check.proofs.splits.Splits.split.Goals as goal

-- src/splits.rt:79:5
pub returns-clause-divided : goal.returns-clause-divided
returns-clause-divided c =
    let b = c.in_ok-below.ensures ∙ ap (part_below c.args.cut.now.at) c.numbers-numbers.ensures in
    let r = c.in_ok-rest.ensures ∙ ap (part_from c.args.cut.now.at) c.numbers-numbers.ensures in (
      record {
        below = some_there c.len.result c.in_ok-below.below (part_below c.args.cut.now.at (list_of c.args.self.now.lists.lists c.args.cut.now.train)) c.if-len-eq0.false c.len.ensures b;
        rest = some_there c.len-else-len-eq0.result c.in_ok-rest.rest (part_from c.args.cut.now.at (list_of c.args.self.now.lists.lists c.args.cut.now.train)) c.if-len-eq0-2.false c.len-else-len-eq0.ensures r;
      },
      divided c.args.self.now.lists.lists c.args.cut.now c.exchange.new.lists.lists c.args.self.now.above.items c.push.new.self.items
          c.in_ok-below.below c.in_ok-rest.rest c.requires.train c.requires.ascends b r c.exchange.ensures.new c.in_ok-push.ensures.items,
    )
