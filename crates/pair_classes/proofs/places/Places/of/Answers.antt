use Rattle.std.proofs.Common.{◌≡◌, ◌<◌, ◌+◌, ◌-◌, ℕ, arith, subst, length}
use Rattle.pair_classes.specs.Places.{ArePlacesFrom}
use Rattle.pair_classes.proofs.ListedLemmas.{places_next}
use Rattle.pair_classes.proofs.places.Places.of.Goals as goal

pub loop-place-preserved : goal.loop-place-preserved
loop-place-preserved c =
    let P : ℕ → Type 0 = λ k. ArePlacesFrom c.args.pairs.now k c.loop-place.table in
    let later : c.loop-place.place ≡ c.loop-place.place - 1 + 1 = omega arith in
    let within : c.loop-place.place - 1 < length c.args.pairs.now = omega arith in
    places_next c.args.pairs.now (c.loop-place.place - 1) c.index-pairs-place.result c.index-pairs-place-in-loop-place.result
    c.loop-place.table c.set.new.self within (subst P later c.loop-place.invariant) c.set.ensures
