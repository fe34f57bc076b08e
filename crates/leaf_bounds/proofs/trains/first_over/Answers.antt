use Rattle.std.proofs.Common.{◌∙◌, sym}
use Rattle.leaf_bounds.specs.Shown.{numbers_of}
use Rattle.leaf_bounds.specs.Verdict.{pattern_fails}
use Rattle.leaf_bounds.proofs.FindLemmas.{each_passed}
use Rattle.leaf_bounds.proofs.trains.first_over.Goals as goal

pub loop-number-preserved : goal.loop-number-preserved
loop-number-preserved c =
    each_passed (pattern_fails c.args.case.now (numbers_of c.args.leaf.now)) (λ i. record { train = c.args.train; number = i }) _ c.numbers_in-numbers.result.now
    c.loop-number.number-index c.loop-number.invariant c.loop-number-test.true (sym c.is_under.ensures ∙ c.if-is_under.false)
