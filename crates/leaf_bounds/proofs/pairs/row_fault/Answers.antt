use Rattle.std.proofs.Common.{◌∙◌, sym}
use Rattle.leaf_bounds.specs.Shown.{numbers_of}
use Rattle.leaf_bounds.specs.Verdict.{pair_fails}
use Rattle.leaf_bounds.proofs.FindLemmas.{each_passed}
use Rattle.leaf_bounds.proofs.RowLemmas.{rest_more}
use Rattle.leaf_bounds.proofs.pairs.row_fault.Goals as goal

pub loop-number-preserved : goal.loop-number-preserved
loop-number-preserved c = record {
  rest = each_passed (pair_fails c.args.case.now (numbers_of c.args.leaf.now))
      (λ j. record { first = c.args.row.now.first; second = c.args.row.now.second; i = c.args.row.now.number; j = j }) _ c.numbers_in-numbers.result.now
      c.loop-number.number-index c.loop-number.invariant.rest c.loop-number-test.true (sym c.is_over.ensures ∙ c.if-is_over.false);
  below = rest_more c.args.allowed.now.lists c.args.case.now.book c.args.row.now.second c.args.leaf.now.beta c.args.row.now.first c.args.row.now.second
      c.numbers_in-numbers.result.now c.loop-number.number-index c.place_from-place.result c.requires.fits c.requires.row.there c.numbers_in-numbers.ensures
      c.place_from-place.ensures.below;
}
