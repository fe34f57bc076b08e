use Rattle.std.proofs.Common.{refl}
use Rattle.std.specs.Prelude.{Contains}
use Rattle.patterns.specs.Allowed.{list_of}
use Rattle.leaf_bounds.specs.declared.number.PairValue.{PairValue}
use Rattle.dual_ascent.proofs.EntryLemmas.{each_more}
use Rattle.dual_ascent.proofs.places.are_numbers_of_first.Goals as goal

pub loop-x-preserved : goal.loop-x-preserved
loop-x-preserved c =
    each_more (λ (x : PairValue). Contains (list_of c.args.allowed.now.lists x.first) x.number) c.args.entries.now c.loop-x.x-index _ c.loop-x-test.true
    c.loop-x.invariant (c.if-not-has_number.ensures refl)
