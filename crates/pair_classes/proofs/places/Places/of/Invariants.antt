use Rattle.pair_classes.specs.Places.{ArePlacesFrom}
use Rattle.pair_classes.proofs.places.Places.of.Given as goal

abbrev pub invariant-loop-place : goal.invariant-loop-place
invariant-loop-place l = ArePlacesFrom l.pairs l.place l.table
