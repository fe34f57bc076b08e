use Rattle.pair_classes.proofs.WindowLemmas.{AreWindowsTo}
use Rattle.pair_classes.proofs.window.windows.Given as goal

abbrev pub invariant-loop-train : goal.invariant-loop-train
invariant-loop-train l = AreWindowsTo l.case l.train l.windows.items
