use Rattle.clique_cuts.specs.Over.{fraction_of}
use Rattle.clique_cuts.proofs.Found.{train_step}
use Rattle.clique_cuts.proofs.search.first_of_train.Goals as goal

pub loop-place-preserved : goal.loop-place-preserved
loop-place-preserved c =
    train_step c.args.case.now c.args.allowed.now.lists (fraction_of c.args.weights.now) c.args.platform c.args.train c.loop-place.place
    c.loop-place.first c.over_at-found.result c.earlier-first.result c.loop-place.invariant c.over_at-found.ensures c.earlier-first.ensures
