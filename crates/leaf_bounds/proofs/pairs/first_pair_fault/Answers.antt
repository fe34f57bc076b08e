use Rattle.std.proofs.Common.{◌+◌, ◌∙◌, length, sym, ap, arith}
use Rattle.std.specs.List.{flat_map}
use Rattle.pair_prices.specs.Trains.{pairs_with}
use Rattle.leaf_bounds.specs.Places.{key_at}
use Rattle.leaf_bounds.specs.Shown.{numbers_of}
use Rattle.leaf_bounds.specs.Verdict.{first_pair, pair_fails, pair_places}
use Rattle.leaf_bounds.proofs.FindLemmas.{firsts, range_found, range_passed}
use Rattle.leaf_bounds.proofs.RowLemmas.{both_at_first, both_after}
use Rattle.leaf_bounds.proofs.pairs.first_pair_fault.Goals as goal

pub loop-first-init : goal.loop-first-init
unfolding first_pair
loop-first-init c = record {
  rest = firsts (pair_fails c.args.case.now (numbers_of c.args.leaf.now)) (pair_places c.args.allowed.now.lists) c.trains-trains.result
      (length c.args.case.now.book) (c.trains-trains.ensures.value ∙ ap length c.book.ensures);
  below = both_at_first c.args.leaf.now (key_at 0 0 0);
}

pub returns-then-is_some : goal.returns-then-is_some
returns-then-is_some c =
    range_found (pair_fails c.args.case.now (numbers_of c.args.leaf.now))
    (λ s. flat_map (pair_places c.args.allowed.now.lists) (pairs_with c.trains-trains.result s)) _ _ c.loop-first.first c.trains-trains.result
    c.loop-first.invariant.rest c.loop-first-test.true c.fault_with-fault.ensures (sym c.is_some.ensures ∙ c.if-is_some.true)

pub loop-first-preserved : goal.loop-first-preserved
loop-first-preserved c = record {
  rest = range_passed (pair_fails c.args.case.now (numbers_of c.args.leaf.now))
      (λ s. flat_map (pair_places c.args.allowed.now.lists) (pairs_with c.trains-trains.result s)) _ _ c.loop-first.first c.trains-trains.result
      c.loop-first.invariant.rest c.loop-first-test.true c.fault_with-fault.ensures (sym c.is_some.ensures ∙ c.if-is_some.false);
  below = both_after c.args.leaf.now (key_at c.loop-first.first 0 0) (key_at (c.loop-first.first + 1) 0 0) c.places_from-at.result
      (omega arith) c.places_from-at.ensures;
}
