use Rattle.std.proofs.Common.{List, length, ap, sym, subst, arith}
use Rattle.branching.specs.declared.outline.Entry.{Entry}
use Rattle.branching.specs.declared.outline.Entry.TheVariants.{Split}
use Rattle.branching.specs.Ended.{node_at}
use Rattle.branching.specs.Searching.{AreSlots}
use Rattle.branching.proofs.TakenLemmas.{count_after, left_after, mapped_more, part_here, slot_there}
use Rattle.branching.proofs.ending.tree_of.Goals as goal

pub taken-requires : goal.taken-requires
taken-requires c = λ slot h.
    let there = slot_there c.entries-entry-items.result.now (length c.args.parts.items) c.loop-entry.entry-index (Split (record { train = 0; at = 0 })) slot
    (subst (λ (xs : List Entry). AreSlots xs (length c.args.parts.items)) (sym c.entries-entry-items.ensures) c.requires) c.loop-entry-test.true h in
    let count = c.loop-entry.invariant.count in
    let same = ap length c.deref_mut.ensures.value in
    omega (arith, there, count, same)

pub loop-entry-preserved : goal.loop-entry-preserved
loop-entry-preserved c =
    let xs = c.entries-entry-items.result.now in
    let i = c.loop-entry.entry-index in
    let d : Entry = Split (record { train = 0; at = 0 }) in
    let slots = subst (λ (ys : List Entry). AreSlots ys (length c.args.parts.items)) (sym c.entries-entry-items.ensures) c.requires in
    record {
      count = count_after xs (length c.args.parts.items) i d c.args.parts.items c.loop-entry.parts.items c.deref_mut.result.now c.taken.new.parts
          c.loop-entry.parts.len slots c.loop-entry-test.true c.loop-entry.invariant.count c.deref_mut.ensures.value c.deref_mut.ensures.len
          c.taken.ensures.others c.loop-entry.invariant.left;
      nodes = λ part own. mapped_more (node_at part) xs i d c.loop-entry.nodes.items c.push.new.self.items c.taken.result c.loop-entry-test.true
          (c.loop-entry.invariant.nodes part own) c.in_ok-push.ensures.items
          (c.taken.ensures.node part
          (part_here xs (length c.args.parts.items) i d c.args.parts.items c.loop-entry.parts.items c.deref_mut.result.now c.taken.new.parts
          c.loop-entry.parts.len slots c.loop-entry-test.true c.loop-entry.invariant.count c.deref_mut.ensures.value c.deref_mut.ensures.len
          c.taken.ensures.others c.loop-entry.invariant.left part own));
      left = left_after xs (length c.args.parts.items) i d c.args.parts.items c.loop-entry.parts.items c.deref_mut.result.now c.taken.new.parts
          c.loop-entry.parts.len slots c.loop-entry-test.true c.loop-entry.invariant.count c.deref_mut.ensures.value c.deref_mut.ensures.len
          c.taken.ensures.others c.loop-entry.invariant.left;
    }
