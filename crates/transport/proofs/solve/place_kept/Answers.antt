use Rattle.std.proofs.Common.{◌≡◌, List, ℕ, ap, sym, ◌∙◌, arith, sum}
use Rattle.transport.proofs.Keeping.{kept_inside, sum_kept}
use Rattle.transport.proofs.solve.place_kept.Goals as goal

pub weights_at-requires : goal.weights_at-requires
weights_at-requires g c = kept_inside c.args.left.now c.args.rows.now c.requires.rows

pub weights_at-requires-2 : goal.weights_at-requires-2
weights_at-requires-2 g c = kept_inside c.args.right.now c.args.columns.now c.requires.columns

pub place-requires-clause-totals : goal.place-requires-clause-totals
place-requires-clause-totals g c =
    let total = λ (l : List ℕ). sum l in
    ap total (c.deref.ensures.value ∙ c.in_ok-supply.ensures)
    ∙ sum_kept c.args.left.now c.args.rows.now c.requires.rows
    ∙ c.requires.totals
    ∙ sym (ap total (c.deref-2.ensures.value ∙ c.in_ok-demand.ensures) ∙ sum_kept c.args.right.now c.args.columns.now c.requires.columns)

pub place-requires-clause-scale : goal.place-requires-clause-scale
place-requires-clause-scale g c =
    let total = λ (l : List ℕ). sum l in
    let e : sum c.deref.result.now ≡ sum c.args.left.now = ap total (c.deref.ensures.value ∙ c.in_ok-supply.ensures) ∙ sum_kept c.args.left.now c.args.rows.now c.requires.rows in
    omega (arith, c.requires.scale)
