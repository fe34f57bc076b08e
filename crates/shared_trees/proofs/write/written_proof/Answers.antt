use Rattle.std.proofs.Common.{◌≡◌, ◌∙◌, ap, length}
use Rattle.std.proofs.lemmas.Result.{IfOk-weaker}
use Rattle.proof_file.specs.Accepted.{IsAccepted}
use Rattle.proof_file.specs.Text.{shared_text}
use Rattle.shared_trees.specs.Written.{IsWrittenOf}
use Rattle.shared_trees.proofs.WrittenLemmas.{accepted, numbers_in_range, pairs_in_order, written}
use Rattle.shared_trees.proofs.write.written_proof.Goals as goal

pub share-requires : goal.share-requires
share-requires c = pairs_in_order c.args.case.now c.args.tree.now.nodes c.args.bound.now c.requires

pub write_shared-requires : goal.write_shared-requires
write_shared-requires c =
    numbers_in_range c.args.case.now c.station-station.ensures.limits c.args.tree.now.nodes c.in_ok-shared.shared.tables c.in_ok-shared.shared.nodes
    c.args.bound.now c.requires c.in_ok-shared.ensures c.trains-trains.result (c.trains-trains.ensures.value ∙ ap length c.book.ensures)

pub returns-clause-accepted : goal.returns-clause-accepted
returns-clause-accepted c =
    IfOk-weaker c.write_shared.result
    (λ text. text.items ≡ shared_text c.trains-trains.result c.in_ok-shared.shared.tables c.in_ok-shared.shared.nodes c.args.bound.now)
    (λ text. IsAccepted c.args.case.now c.args.bound.now text.items)
    (λ text e.
    accepted c.args.case.now c.station-station.ensures.limits c.args.tree.now.nodes c.in_ok-shared.shared.tables c.in_ok-shared.shared.nodes
    c.args.bound.now c.requires c.in_ok-shared.ensures c.trains-trains.result (c.trains-trains.ensures.value ∙ ap length c.book.ensures) text.items e)
    c.write_shared.ensures

pub returns-clause-written : goal.returns-clause-written
returns-clause-written c =
    IfOk-weaker c.write_shared.result
    (λ text. text.items ≡ shared_text c.trains-trains.result c.in_ok-shared.shared.tables c.in_ok-shared.shared.nodes c.args.bound.now)
    (λ text. IsWrittenOf c.args.case.now c.args.tree.now.nodes c.args.bound.now text.items)
    (λ text e.
    written c.args.case.now c.station-station.ensures.limits c.args.tree.now.nodes c.in_ok-shared.shared.tables c.in_ok-shared.shared.nodes
    c.args.bound.now c.requires c.in_ok-shared.ensures c.trains-trains.result (c.trains-trains.ensures.value ∙ ap length c.book.ensures) text.items e)
    c.write_shared.ensures
