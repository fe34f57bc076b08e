use Rattle.std.proofs.Common.{List, ℕ, subst}
use Rattle.std.specs.Prelude.{IsSome}
use Rattle.std.specs.declared.option.Option.{Option}
use Rattle.proof_check.specs.Check.{case_in}
use Rattle.platform_cli.specs.declared.given_proof.Fed.{Fed}
use Rattle.platform_cli.specs.Fed.{IsFedOn}
use Rattle.platform_cli.proofs.FedSteps.{fed_back, proof_ended, proof_refused}
use Rattle.platform_cli.proofs.given_proof.check_by_pieces.Goals as goal

pub returns-in-End-clause-read : goal.returns-in-End-clause-read
returns-in-End-clause-read g c =
    let fed =
    fed_back (g.S.Shelf.held c.args.shelf.now c.args.name.now) (g.S.Shelf.held c.loop-from.shelf c.args.name.now) (case_in c.args.checker) c.loop-from.checker c.feed_piece.new.checker c.loop-from.from
    c.in_ok-count.field-0 (c.loop-from.invariant.held c.args.name.now) c.loop-from.invariant.fed.case c.in_ok-count.ensures.fed in
    proof_ended g.S.Shelf.tells (g.S.Shelf.held c.args.shelf.now) c.args.name.now (case_in c.args.checker) c.feed_piece.new.checker c.loop-from.from c.finished.result
    (subst (λ (f : Fed). IsFedOn (g.S.Shelf.held c.args.shelf.now c.args.name.now) (case_in c.args.checker) c.feed_piece.new.checker c.loop-from.from f) c.in-End.is fed)
    (λ told. subst (λ (o : Option (List ℕ)). IsSome o) (c.loop-from.invariant.held c.args.name.now) (c.in_ok-count.ensures.told told)) c.finished.ensures.answer

pub returns-in-Refused-clause-read : goal.returns-in-Refused-clause-read
returns-in-Refused-clause-read g c =
    let fed =
    fed_back (g.S.Shelf.held c.args.shelf.now c.args.name.now) (g.S.Shelf.held c.loop-from.shelf c.args.name.now) (case_in c.args.checker) c.loop-from.checker c.feed_piece.new.checker c.loop-from.from
    c.in_ok-count.field-0 (c.loop-from.invariant.held c.args.name.now) c.loop-from.invariant.fed.case c.in_ok-count.ensures.fed in
    proof_refused g.S.Shelf.tells (g.S.Shelf.held c.args.shelf.now) c.args.name.now (case_in c.args.checker) c.in-Refused.refused
    (subst (λ (f : Fed). IsFedOn (g.S.Shelf.held c.args.shelf.now c.args.name.now) (case_in c.args.checker) c.feed_piece.new.checker c.loop-from.from f) c.in-Refused.is fed)
    (λ told. subst (λ (o : Option (List ℕ)). IsSome o) (c.loop-from.invariant.held c.args.name.now) (c.in_ok-count.ensures.told told))
