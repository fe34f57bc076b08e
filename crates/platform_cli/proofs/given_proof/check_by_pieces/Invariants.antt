use Rattle.std.proofs.Common.{◌-◌, ◌<◌, ◌≤◌, List, ℕ, length}
use Rattle.shelf.specs.Outside.{Same}
use Rattle.proof_check.specs.Check.{case_in}
use Rattle.platform_cli.specs.Fed.{IsFed}
use Rattle.platform_cli.proofs.given_proof.check_by_pieces.Given as goal

abbrev pub invariant-loop-from : goal.invariant-loop-from
invariant-loop-from g l = record {
  fed : IsFed (g.S.Shelf.held l.initial.shelf l.name) (case_in l.fn.checker) l.checker l.from;
  room : 0 < length l.piece;
  held : Same (g.S.Shelf.held l.initial.shelf) (g.S.Shelf.held l.shelf);
  later : (other : List ℕ) → g.S.Shelf.read_faults l.initial.shelf other ≤ g.S.Shelf.read_faults l.shelf other;
  writes : Same (g.S.Shelf.write_faults l.initial.shelf) (g.S.Shelf.write_faults l.shelf);
}

abbrev pub decreases-loop-from : goal.decreases-loop-from
decreases-loop-from g l = 9223372036854775808 - l.from
