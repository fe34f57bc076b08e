use Rattle.std.proofs.Common.{sym}
use Rattle.leaf_bounds.proofs.places.comes_before.Goals as goal

pub key_of_entry-requires : goal.key_of_entry-requires
key_of_entry-requires c = c.requires.each c.args.place c.in-Some.x.now (sym c.in-Some.ensures.value)
