use Rattle.std.proofs.Common.{◌-◌, ◌≤◌, ◌<◌, length, vec_len, IfSome, IsTrue}
use Rattle.std.specs.Prelude.{IsSome}
use Rattle.shelf.specs.Outside.{Same, SameElsewhere}
use Rattle.platform_cli.proofs.Pieces.{IsFront}
use Rattle.platform_cli.proofs.reading.read_by_pieces.Given as goal

abbrev pub invariant-loop-bytes : goal.invariant-loop-bytes
invariant-loop-bytes g l = record {
  front : IfSome (g.S.Shelf.held l.initial.shelf l.name) (IsFront l.bytes.items);
  room : length l.bytes.items ≤ l.most;
  told : 0 < length l.bytes.items → IsTrue g.S.Shelf.tells → IsSome (g.S.Shelf.held l.initial.shelf l.name);
  held : Same (g.S.Shelf.held l.initial.shelf) (g.S.Shelf.held l.shelf);
  later : g.S.Shelf.read_faults l.initial.shelf l.name ≤ g.S.Shelf.read_faults l.shelf l.name;
  others : SameElsewhere l.name (g.S.Shelf.read_faults l.initial.shelf) (g.S.Shelf.read_faults l.shelf);
  writes : Same (g.S.Shelf.write_faults l.initial.shelf) (g.S.Shelf.write_faults l.shelf);
}

abbrev pub decreases-loop-bytes : goal.decreases-loop-bytes
decreases-loop-bytes g l = l.most - vec_len l.bytes
