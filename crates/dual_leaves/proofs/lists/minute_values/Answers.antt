use Rattle.std.proofs.Common.{◌++◌, ap, ◌∙◌, rules, FitsSigned}
use Rattle.std.specs.Int.{w128}
use Rattle.std.specs.Map.Iter.{deref_pair}
use Rattle.std.proofs.lemmas.Int.{to_z-of_z}
use Rattle.std.proofs.lemmas.Map.Iter.{rest_more}
use Rattle.dual_leaves.specs.Divided.{listed, minute_value}
use Rattle.dual_leaves.proofs.Quotients.{quotients_more}
use Rattle.dual_leaves.proofs.lists.minute_values.Goals as goal

pub loop-key-preserved : goal.loop-key-preserved
loop-key-preserved c =
    let fq : FitsSigned w128 c.quotient.result = search rules in
    let fs : FitsSigned w128 c.in-Some.sum.now = search rules in
    let fd : FitsSigned w128 c.args.divisor.now = search rules in
    let is = simp to_z-of_z at c.quotient.ensures in
    let pushed = simp to_z-of_z at c.in_ok-push_minute.ensures in
    let next = rest_more deref_pair c.loop-key.key-iterator c.next.new.self c.next.result (c.in-Some.key, c.in-Some.sum) c.in-Some.is c.next.ensures.steps in
    quotients_more minute_value c.args.divisor.now c.in-Some.key.now c.in-Some.sum.now c.loop-key.key-iterator c.next.new.self c.loop-key.values.items c.push_minute.new.values.items
    _ next (pushed ∙ ap (λ z. c.loop-key.values.items ++ listed minute_value c.in-Some.key.now z) is) c.loop-key.invariant
