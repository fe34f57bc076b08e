use Rattle.transport.proofs.Faults.{handed_total, handed_memory}
use Rattle.transport.proofs.couple_cells.Goals as goal

pub returns-in_err-check_total-clause-scale : goal.returns-in_err-check_total-clause-scale
returns-in_err-check_total-clause-scale g c = λ n. handed_total c.from_residual.result c.in_err-check_total.field-0.0 c.args.left.now n c.from_residual.ensures.1 (c.in_err-check_total.ensures.scale n)

pub returns-in_err-cells_within-clause-scale : goal.returns-in_err-cells_within-clause-scale
returns-in_err-cells_within-clause-scale g c = λ n. handed_memory c.from_residual-in_err-cells_within.result c.args.left.now n c.from_residual-in_err-cells_within.ensures.1 (c.in_ok-check_total.ensures.scale n)

pub returns-clause-scale : goal.returns-clause-scale
returns-clause-scale g c = λ n.
    let s = c.in_ok-check_total.ensures.scale n in
    (λ h. cc, λ h. let e = s.1 h in cc)
