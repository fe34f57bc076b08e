use Rattle.std.proofs.Common.{ℕ, Bool}
use Rattle.std.specs.Prelude.{slice_get}
use Rattle.pair_classes.specs.Meetings.{is_with}
use Rattle.pair_classes.proofs.ListedLemmas.{filter_numbers_more, sees_train}
use Rattle.pair_classes.proofs.by_train.places_of.Goals as goal

pub loop-place-preserved : goal.loop-place-preserved
loop-place-preserved c =
    let p : ℕ → Bool = λ k. is_with c.args.train (slice_get c.args.pairs.now k) in
    filter_numbers_more p c.loop-place.place c.loop-place.places.items c.push_if.new.places.items c.has_train.result
    c.loop-place.invariant
    (sees_train c.args.pairs.now c.loop-place.place c.args.train c.index-pairs-place.result c.has_train.result c.loop-place-test.true
    c.index-pairs-place.is c.has_train.ensures)
    c.in_ok-push_if.ensures
