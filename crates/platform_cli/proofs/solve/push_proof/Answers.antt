use Rattle.std.proofs.Common.{rules, ◌≡◌, string_bytes, refl, ap}
use Rattle.std.specs.Option.{option_map}
use Rattle.platform_cli.proofs.SolveSteps.{proof_pushed}
use Rattle.platform_cli.proofs.solve.push_proof.Goals as goal

pub returns-in_ok-push : goal.returns-in_ok-push
returns-in_ok-push c = λ shown order.
    let named : string_bytes c.in_ok-from_str.field-0 ≡ c.in-Some.name.now = search rules in
    proof_pushed c.args.case.now c.args.bound.now shown c.args.tree.now.nodes (option_map (λ name. name.now) c.args.file) c.in-Some.name.now c.in_ok-written_proof.field-0.items c.args.files.now.items c.push.new.self.items
    (record { name = c.in_ok-from_str.field-0; bytes = c.in_ok-written_proof.field-0 }) (ap (option_map (λ name. name.now)) c.in-Some.is) order c.in_ok-written_proof.ensures.accepted c.in_ok-written_proof.ensures.written
    c.in_ok-push.ensures.items named refl
