use Rattle.std.proofs.Common.{◌<◌, length, ap, sym, ◌∙◌, rules}
use Rattle.branching.specs.declared.part.Part.{Part}
use Rattle.branching.proofs.TakenLemmas.{leaf_own, taken_node, taken_others}
use Rattle.branching.proofs.ending.taken.Goals as goal

pub offset_bounds-parts-slot : goal.offset_bounds-parts-slot
offset_bounds-parts-slot c =
    let there : c.in-Leaf.slot < length c.args.parts.now = c.requires c.in-Leaf.slot (leaf_own c.in-Leaf.slot c.args.entry.now c.in-Leaf.is) in search rules

pub bounds-parts-slot : goal.bounds-parts-slot
bounds-parts-slot c = c.requires c.in-Leaf.slot (leaf_own c.in-Leaf.slot c.args.entry.now c.in-Leaf.is)

pub returns-in-Leaf-clause-node : goal.returns-in-Leaf-clause-node
returns-in-Leaf-clause-node c = λ part own.
    taken_node part c.args.entry.now c.in-Leaf.slot c.args.parts.now c.index-parts-slot.result c.replace.result c.in-Leaf.is
    (c.requires c.in-Leaf.slot (leaf_own c.in-Leaf.slot c.args.entry.now c.in-Leaf.is)) c.index-parts-slot.is
    (c.replace.ensures.value ∙ ap (λ (p : Part). p.leaf) (sym c.index-parts-slot.is)) own

pub returns-in-Leaf-clause-others : goal.returns-in-Leaf-clause-others
returns-in-Leaf-clause-others c = taken_others c.args.entry.now c.in-Leaf.slot c.args.parts.now _ c.in-Leaf.is
