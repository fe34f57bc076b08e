use Rattle.std.proofs.Common.{◌==◌, length, ap, ◌∙◌}
use Rattle.std.specs.Prelude.{find}
use Rattle.std.proofs.lemmas.Bool.{ne_eqb}
use Rattle.pair_prices.specs.Plan.{chosen}
use Rattle.leaf_bounds.specs.Fixed.{opener}
use Rattle.leaf_bounds.proofs.FindLemmas.{all_trains}
use Rattle.leaf_bounds.proofs.PaidLemmas.{find_on}
use Rattle.leaf_bounds.proofs.paid.opener_of.Goals as goal

pub loop-train-init : goal.loop-train-init
unfolding opener
loop-train-init c =
    all_trains (find (λ t. (chosen c.args.case.now c.args.plan.now t).platform == c.args.platform)) c.trains-trains.result (length c.args.case.now.book)
    (c.trains-trains.ensures.value ∙ ap length c.book.ensures)

pub loop-train-preserved : goal.loop-train-preserved
loop-train-preserved c =
    find_on (λ t. (chosen c.args.case.now c.args.plan.now t).platform == c.args.platform) c.loop-train.train c.trains-trains.result _ c.loop-train-test.true
    c.loop-train.invariant
    (ne_eqb (chosen c.args.case.now c.args.plan.now c.loop-train.train).platform c.args.platform
    (λ e. c.if-chosen_of-platform.false (ap (λ x. x.platform) c.chosen_of.ensures ∙ e)))
