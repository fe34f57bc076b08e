use Rattle.std.proofs.Common.{◌∙◌, refl, arith}
use Rattle.primal_heuristic.proofs.Beside.{beside_more, beside_none, beside_all}
use Rattle.primal_heuristic.proofs.added.prices_beside.Goals as goal

pub loop-train-init : goal.loop-train-init
loop-train-init c = record { free = refl; value = refl; most = omega arith }

pub loop-train-preserved : goal.loop-train-preserved
loop-train-preserved c =
    beside_more c.args.case.now c.args.earlier.now c.args.number c.loop-train.train c.loop-train.total c.in_ok-total.field-0
    c.loop-train.invariant c.in_ok-total.ensures.value c.in_ok-total.ensures.most

pub returns-in_err-total-clause-value : goal.returns-in_err-total-clause-value
returns-in_err-total-clause-value c =
    c.from_residual.ensures
    ∙ beside_none c.args.case.now c.args.earlier.now c.args.number c.loop-train.train c.loop-train-test.true c.in_err-total.ensures.value

pub returns-clause-value : goal.returns-clause-value
returns-clause-value c =
    beside_all c.args.case.now c.args.earlier.now c.args.number c.loop-train.train c.loop-train.total (omega arith) c.loop-train.invariant
