use Rattle.std.proofs.Common.{◌∙◌, ◌<◌, length, sym, subst, arith}
use Rattle.patterns.specs.Book.{IsBook}
use Rattle.leaf_bounds.specs.Row.{row_places}
use Rattle.leaf_bounds.specs.Shown.{numbers_of}
use Rattle.leaf_bounds.specs.Verdict.{pair_fails}
use Rattle.leaf_bounds.proofs.FindLemmas.{list_found, list_passed}
use Rattle.leaf_bounds.proofs.RowLemmas.{none_fails, rest_more}
use Rattle.leaf_bounds.proofs.pairs.pair_fault.Goals as goal

pub returns-then-not-beta : goal.returns-then-not-beta
returns-then-not-beta c =
    none_fails c.args.case.now c.args.allowed.now.lists c.args.leaf.now c.args.first c.args.second c.requires.fits
    (subst IsBook c.book.ensures c.trains-limits.ensures.limits) c.requires.order c.requires.second
    (c.has_pair.ensures c.if-not-has_pair.true) (c.has_pair-beta.ensures c.if-not-beta.true)

pub returns-then-is_some : goal.returns-then-is_some
returns-then-is_some c =
    list_found (pair_fails c.args.case.now (numbers_of c.args.leaf.now))
    (row_places c.args.allowed.now.lists (record { first = c.args.first; second = c.args.second })) _ _ c.numbers_in-numbers.result.now
    c.loop-number.number-index c.loop-number.invariant.rest c.loop-number-test.true c.row_fault-fault.ensures (sym c.is_some.ensures ∙ c.if-is_some.true)

pub loop-number-preserved : goal.loop-number-preserved
loop-number-preserved c =
    let there : c.args.first < length c.args.case.now.book = omega (arith, c.requires.order, c.requires.second) in
    record {
      rest = list_passed (pair_fails c.args.case.now (numbers_of c.args.leaf.now))
          (row_places c.args.allowed.now.lists (record { first = c.args.first; second = c.args.second })) _ _ c.numbers_in-numbers.result.now
          c.loop-number.number-index c.loop-number.invariant.rest c.loop-number-test.true c.row_fault-fault.ensures (sym c.is_some.ensures ∙ c.if-is_some.false);
      below = rest_more c.args.allowed.now.lists c.args.case.now.book c.args.first c.args.leaf.now.alpha c.args.first c.args.second
          c.numbers_in-numbers.result.now c.loop-number.number-index c.place_from-place.result c.requires.fits there c.numbers_in-numbers.ensures
          c.place_from-place.ensures.below;
    }
