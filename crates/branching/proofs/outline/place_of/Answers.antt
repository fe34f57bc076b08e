use Rattle.branching.proofs.OutlineLemmas.{none_behind}
use Rattle.branching.proofs.outline.place_of.Goals as goal

pub returns : goal.returns
returns c = absurd (none_behind c.args.slot c.args.entries.now c.loop-place.place c.loop-place.invariant c.loop-place-test.false)
