use Rattle.std.proofs.Common.{◌+◌, ◌∙◌, sym, arith}
use Rattle.leaf_bounds.specs.Places.{key_at}
use Rattle.leaf_bounds.specs.Shown.{numbers_of}
use Rattle.leaf_bounds.specs.Verdict.{pair_fails, pair_places}
use Rattle.leaf_bounds.proofs.FindLemmas.{seconds, range_found, range_passed}
use Rattle.leaf_bounds.proofs.RowLemmas.{both_weaker, both_after}
use Rattle.leaf_bounds.proofs.pairs.fault_with.Goals as goal

pub loop-second-init : goal.loop-second-init
loop-second-init c = record {
  rest = seconds (pair_fails c.args.case.now (numbers_of c.args.leaf.now)) (pair_places c.args.allowed.now.lists) c.args.trains c.args.first;
  below = both_weaker c.args.leaf.now (key_at c.args.first 0 0) (key_at c.args.first (c.args.first + 1) 0) c.args.from.now (omega arith) c.requires.below;
}

pub returns-then-is_some : goal.returns-then-is_some
returns-then-is_some c =
    range_found (pair_fails c.args.case.now (numbers_of c.args.leaf.now))
    (λ t. pair_places c.args.allowed.now.lists (record { first = c.args.first; second = t })) _ _ c.loop-second.second c.args.trains
    c.loop-second.invariant.rest c.loop-second-test.true c.pair_fault-fault.ensures (sym c.is_some.ensures ∙ c.if-is_some.true)

pub loop-second-preserved : goal.loop-second-preserved
loop-second-preserved c = record {
  rest = range_passed (pair_fails c.args.case.now (numbers_of c.args.leaf.now))
      (λ t. pair_places c.args.allowed.now.lists (record { first = c.args.first; second = t })) _ _ c.loop-second.second c.args.trains
      c.loop-second.invariant.rest c.loop-second-test.true c.pair_fault-fault.ensures (sym c.is_some.ensures ∙ c.if-is_some.false);
  below = both_after c.args.leaf.now (key_at c.args.first c.loop-second.second 0) (key_at c.args.first (c.loop-second.second + 1) 0) c.places_from-at.result
      (omega arith) c.places_from-at.ensures;
}
