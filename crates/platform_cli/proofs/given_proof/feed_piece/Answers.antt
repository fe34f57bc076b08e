use Rattle.std.proofs.Common.{rules, ◌≤◌, length, IfSome}
use Rattle.shelf.specs.Outside.{ReadsAt}
use Rattle.proof_check.specs.Check.{case_in}
use Rattle.platform_cli.proofs.FedSteps.{fed_more, fed_refused}
use Rattle.platform_cli.proofs.given_proof.feed_piece.Goals as goal

pub returns-in-Ok-clause-fed : goal.returns-in-Ok-clause-fed
returns-in-Ok-clause-fed g c =
    let read : IfSome (g.S.Shelf.held c.args.shelf.now c.args.name.now) (λ whole. ReadsAt whole c.args.from c.read.new.into c.in_ok-count.count) = search rules in
    let room : c.in_ok-count.count ≤ length c.read.new.into = search rules in
    let some : 1 ≤ c.in_ok-count.count = search rules in
    fed_more (g.S.Shelf.held c.args.shelf.now c.args.name.now) (case_in c.args.checker.now) c.args.checker.now c.args.from c.in_ok-count.count c.read.new.into c.requires.fed room read c.feed.new.self some
    c.in-Ok.ensures.case c.in-Ok.ensures.stands c.in-Ok.ensures.answer

pub returns-in-Err-Refused-clause-fed : goal.returns-in-Err-Refused-clause-fed
returns-in-Err-Refused-clause-fed g c =
    let read : IfSome (g.S.Shelf.held c.args.shelf.now c.args.name.now) (λ whole. ReadsAt whole c.args.from c.read.new.into c.in_ok-count.count) = search rules in
    let room : c.in_ok-count.count ≤ length c.read.new.into = search rules in
    fed_refused (g.S.Shelf.held c.args.shelf.now c.args.name.now) (case_in c.args.checker.now) c.args.checker.now c.args.from c.in_ok-count.count c.read.new.into c.requires.fed room read c.in-Err-Refused.refused
    c.in-Err-Refused.field-0 c.in-Err-Refused.field-0-is c.in-Err-Refused.ensures.answer
