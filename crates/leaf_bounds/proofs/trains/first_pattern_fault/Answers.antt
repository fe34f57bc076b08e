use Rattle.std.proofs.Common.{length, ap, ◌∙◌, sym}
use Rattle.std.specs.Prelude.{find}
use Rattle.std.specs.List.{flat_map}
use Rattle.leaf_bounds.specs.Shown.{numbers_of}
use Rattle.leaf_bounds.specs.Verdict.{first_pattern, pattern_fails, pattern_places}
use Rattle.leaf_bounds.proofs.FindLemmas.{range_found, range_passed, all_trains}
use Rattle.leaf_bounds.proofs.trains.first_pattern_fault.Goals as goal

pub loop-train-init : goal.loop-train-init
unfolding first_pattern
loop-train-init c =
    all_trains (λ ks. find (pattern_fails c.args.case.now (numbers_of c.args.leaf.now)) (flat_map (pattern_places c.args.allowed.now.lists) ks))
    c.trains-trains.result
    (length c.args.case.now.book) (c.trains-trains.ensures.value ∙ ap length c.book.ensures)

pub returns-then-is_some : goal.returns-then-is_some
returns-then-is_some c =
    range_found (pattern_fails c.args.case.now (numbers_of c.args.leaf.now)) (pattern_places c.args.allowed.now.lists) _ _ c.loop-train.train
    c.trains-trains.result c.loop-train.invariant c.loop-train-test.true c.train_fault-fault.ensures (sym c.is_some.ensures ∙ c.if-is_some.true)

pub loop-train-preserved : goal.loop-train-preserved
loop-train-preserved c =
    range_passed (pattern_fails c.args.case.now (numbers_of c.args.leaf.now)) (pattern_places c.args.allowed.now.lists) _ _ c.loop-train.train
    c.trains-trains.result c.loop-train.invariant c.loop-train-test.true c.train_fault-fault.ensures (sym c.is_some.ensures ∙ c.if-is_some.false)
