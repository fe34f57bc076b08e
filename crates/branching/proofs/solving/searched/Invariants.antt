use Rattle.std.proofs.Common.{◌≡◌, ◌+◌, length}
use Rattle.branching.specs.RootLine.{AreAboveRoot}
use Rattle.branching.specs.Searching.{IsSearch}
use Rattle.branching.proofs.solving.searched.Given as goal

abbrev pub invariant-loop-split : goal.invariant-loop-split
invariant-loop-split l = record {
  search : IsSearch l.case l.search.outline l.search.parts.items l.search.waiting l.search.best;
  count : length l.search.parts.items ≡ l._split + 1;
  root : l.search.root ≡ l.fn.search.root;
  above : AreAboveRoot l.case l.search.root l.search.waiting;
}
