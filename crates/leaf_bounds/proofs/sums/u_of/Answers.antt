use Rattle.std.proofs.Common.{◌*◌, ◌≤◌, ◌^◌, List, drop, subst, sym, lit<}
use Rattle.std.specs.Prelude.{unsigned_abs}
use Rattle.leaf_bounds.specs.declared.number.TrainValue.{TrainValue}
use Rattle.leaf_bounds.specs.Places.{train_value}
use Rattle.leaf_bounds.specs.Total.{total}
use Rattle.leaf_bounds.proofs.LoopLemmas.{sum_fits, sum_more, sum_size}
use Rattle.leaf_bounds.proofs.BoundedLemmas.{u_bounded}
use Rattle.leaf_bounds.proofs.sums.u_of.Goals as goal

pub overflow_add-sum : goal.overflow_add-sum
overflow_add-sum c =
    sum_fits (train_value c.args.train) c.as_slice-entries.result.now c.loop-x.x-index (200 * 10 ^ 30) _ _ c.value_of_train-sum.result
    c.loop-x-test.true c.loop-x.invariant c.value_of_train-sum.ensures
    (λ j. subst (λ (xs : List TrainValue). unsigned_abs (total (train_value c.args.train) (drop j xs)) ≤ 200 * 10 ^ 30) (sym c.as_slice-entries.ensures)
    (u_bounded c.args.leaf.now j c.args.train)) (lit< tt)

pub loop-x-preserved : goal.loop-x-preserved
loop-x-preserved c =
    sum_more (train_value c.args.train) c.as_slice-entries.result.now c.loop-x.x-index (200 * 10 ^ 30) _ _ c.value_of_train-sum.result
    c.loop-x-test.true c.loop-x.invariant c.value_of_train-sum.ensures
    (λ j. subst (λ (xs : List TrainValue). unsigned_abs (total (train_value c.args.train) (drop j xs)) ≤ 200 * 10 ^ 30) (sym c.as_slice-entries.ensures)
    (u_bounded c.args.leaf.now j c.args.train)) (lit< tt)

pub returns-clause-size : goal.returns-clause-size
returns-clause-size c =
    sum_size (train_value c.args.train) c.as_slice-entries.result.now c.loop-x.x-index (200 * 10 ^ 30) _ c.loop-x-test.false c.loop-x.invariant
    (subst (λ (xs : List TrainValue). unsigned_abs (total (train_value c.args.train) xs) ≤ 200 * 10 ^ 30) (sym c.as_slice-entries.ensures) (u_bounded c.args.leaf.now 0 c.args.train))
