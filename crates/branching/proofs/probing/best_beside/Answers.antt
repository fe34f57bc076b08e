use Rattle.std.proofs.Common.{subst, sym}
use Rattle.std.specs.declared.option.Option.{Option}
use Rattle.branching.specs.Lists.{IsCutIfAny}
use Rattle.branching.specs.declared.choice.Choice.{Choice}
use Rattle.branching.proofs.probing.best_beside.Goals.{then-not-contains, else-not-contains}
use Rattle.branching.proofs.probing.best_beside.Goals as goal

pub loop-train-preserved : goal.loop-train-preserved
loop-train-preserved c = elim c.if-not-contains.branch [
  | then-not-contains w ↦ subst (λ (o : Option Choice). IsCutIfAny c.args.allowed.now.lists o) (sym w.best-is) (w.preferred_of-best.ensures c.args.allowed.now.lists c.loop-train.invariant w.cut_if_long.ensures)
  | else-not-contains w ↦ subst (λ (o : Option Choice). IsCutIfAny c.args.allowed.now.lists o) (sym w.best-is) c.loop-train.invariant
]
