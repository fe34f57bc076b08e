use Rattle.std.proofs.Common.{◌≡◌, ◌++◌, ap, ◌∙◌, pos, replicate}
use Rattle.transport.specs.Coupling.{total}
use Rattle.transport.proofs.Totals.{total_ones_first}
use Rattle.tests_programs.proofs.tests.coupling.ones_first.Goals as goal

pub returns-clause-total : goal.returns-clause-total
returns-clause-total c =
    let ones : c.in_ok-weights.weights.items ≡ replicate c.args.ones (pos 1) = c.in_ok-weights.ensures.items_if_clones_equal (λ y e. e) in
    let zeros : c.deref.result.now ≡ replicate c.args.zeros (pos 0) = c.deref.ensures.value ∙ c.in_ok-none.ensures.items_if_clones_equal (λ y e. e) in
    let all : c.extend_from_slice.new.self.items ≡ replicate c.args.ones (pos 1) ++ replicate c.args.zeros (pos 0) = c.in_ok-extend_from_slice.ensures.items ∙ (λ i. ones i ++ zeros i) in
    ap total all ∙ total_ones_first c.args.ones c.args.zeros
