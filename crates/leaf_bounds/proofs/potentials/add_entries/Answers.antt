use Rattle.std.proofs.Common.{arith}
use Rattle.std.proofs.lemmas.Int.{ints}
use Rattle.leaf_bounds.specs.Sides.{value_on}
use Rattle.leaf_bounds.proofs.BoundedLemmas.{total_end}
use Rattle.leaf_bounds.proofs.SideLemmas.{side_within, side_more}
use Rattle.leaf_bounds.proofs.potentials.add_entries.Goals as goal

pub add_entry-requires-clause-within : goal.add_entry-requires-clause-within
add_entry-requires-clause-within c = λ i l.
    side_within c.args.side c.args.train i c.loop-x.x-index c.args.entries.now _ _ c.requires.entries
    (c.requires.within i (omega (arith, l, c.loop-x.auto.row))) (c.loop-x.invariant i l)

pub loop-x-preserved : goal.loop-x-preserved
loop-x-preserved c = λ i l.
    side_more c.args.side c.args.train i c.loop-x.x-index c.train_at.result c.args.entries.now _ _ _ _ c.loop-x-test.true c.train_at.ensures
    (c.loop-x.invariant i (omega (arith, l, c.add_entry.auto.row))) (c.add_entry.ensures i l)

pub returns : goal.returns
returns c = λ i l.
    let end = total_end (value_on c.args.side c.args.train i) c.args.entries.now c.loop-x.x-index c.loop-x-test.false in
    let same = c.loop-x.invariant i l in
    omega (arith, ints, end, same)
