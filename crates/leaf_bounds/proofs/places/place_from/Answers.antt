use Rattle.std.proofs.Common.{ℕ, ◌∙◌, sym, subst}
use Rattle.leaf_bounds.specs.Places.{AreBelow, IsPlace}
use Rattle.leaf_bounds.proofs.PlaceLemmas.{place_found, place_past, below_more}
use Rattle.leaf_bounds.proofs.places.place_from.Goals as goal

pub loop-place-init : goal.loop-place-init
loop-place-init c =
    subst (λ (k : ℕ). AreBelow c.args.xs.now k c.args.from) (sym c.key_of_number-key.ensures) c.requires.below

pub loop-place-preserved : goal.loop-place-preserved
loop-place-preserved c =
    below_more c.args.xs.now c.key_of_number-key.result c.loop-place.place c.loop-place.invariant (sym c.comes_before.ensures ∙ c.if-not-comes_before.false)

pub returns-then-not-comes_before : goal.returns-then-not-comes_before
returns-then-not-comes_before c =
    subst (λ (k : ℕ). IsPlace c.args.xs.now k c.loop-place.place) c.key_of_number-key.ensures
    (place_found c.args.xs.now c.key_of_number-key.result c.loop-place.place c.requires.values.ascends c.loop-place.invariant
    (sym c.comes_before.ensures ∙ c.if-not-comes_before.true))

pub returns : goal.returns
returns c =
    subst (λ (k : ℕ). IsPlace c.args.xs.now k c.len-count.result) c.key_of_number-key.ensures
    (place_past c.args.xs.now c.key_of_number-key.result c.loop-place.place c.len-count.result c.len-count.ensures c.loop-place-test.false c.loop-place.invariant)
