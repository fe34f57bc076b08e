use Rattle.std.proofs.Common.{◌≡◌, ℕ, ℤ, List, pos, ◌-ℤ◌, ◌*ℤ◌, ◌+◌, ◌<◌, get_or, length, unsigned_abs, sym, ap, subst, arith}
use Rattle.exact_lp.specs.declared.row.Row.{Row}
use Rattle.exact_lp.specs.Columns.{value_at}
use Rattle.pattern_pricing.specs.Reduced.{at, cell_sizes, paid_sizes, HaveRoom}
use Rattle.pattern_pricing.proofs.Payments.{on_err, rows_step, rows_room, row_room}
use Rattle.pattern_pricing.proofs.paid.pay_rows.Goals as goal
use Rattle.pattern_pricing.proofs.paid.pay_rows.Goals.{After-pay_row}

has_value : (c : After-pay_row) → c.loop-place.place < length c.as_slice-values.result.now
has_value c =
    let inside = c.loop-place-test.true in
    let rows = ap length c.as_slice-rows.ensures in
    let values = ap length c.as_slice-values.ensures in
    let one_each = c.args.duals.now.one_each in
    omega (arith, inside, rows, values, one_each)

pub returns-in_err-pay_row-clause-never : goal.returns-in_err-pay_row-clause-never
returns-in_err-pay_row-clause-never c =
    let rows = c.as_slice-rows.result.now in
    let values = c.as_slice-values.result.now in
    let i = c.loop-place.place in
    let row = c.index-rows-place.result in
    let same = c.loop-place.auto.reduced in
    let v = get_or values i (pos 0) in
    let second = has_value (goal.at.returns-in_err-pay_row-clause-never c).After-pay_row in
    let P : List Row → Type 0 = λ rs. HaveRoom c.args.reduced.now (paid_sizes rs c.args.duals.now.values) in
    let Q : List ℤ → Type 0 = λ vs. HaveRoom c.args.reduced.now (paid_sizes rows vs) in
    let R : Row → Type 0 = λ r. HaveRoom c.loop-place.reduced (cell_sizes v r.cells) in
    on_err c.from_residual.result _ (λ room.
    let wide = subst Q (sym c.as_slice-values.ensures) (subst P (sym c.as_slice-rows.ensures) room) in
    c.in_err-pay_row.ensures.never (subst R (sym c.index-rows-place.is) (λ k kl.
    row_room rows values i row (pos 0) (unsigned_abs (at c.loop-place.reduced k)) (unsigned_abs (at c.args.reduced.now k) + paid_sizes rows values)
    c.loop-place-test.true second (wide k (omega (arith, kl, same))) (c.loop-place.invariant.room k kl))))

pub loop-place-preserved : goal.loop-place-preserved
loop-place-preserved c =
    let rows = c.as_slice-rows.result.now in
    let values = c.as_slice-values.result.now in
    let i = c.loop-place.place in
    let row = c.index-rows-place.result in
    let same = c.pay_row.auto.reduced in
    let so_far = c.loop-place.invariant.ledger in
    let here = c.in_ok-pay_row.ensures.ledger in
    let v = get_or values i (pos 0) in
    let second = has_value (goal.at.loop-place-preserved c).After-pay_row in
    let step : (n : ℕ) → n < length c.loop-place.reduced → at c.pay_row.new.reduced n ≡ at c.loop-place.reduced n -ℤ v *ℤ value_at (get_or rows i row).cells n = λ n k.
    let R : Row → Type 0 = λ r. at c.pay_row.new.reduced n ≡ at c.loop-place.reduced n -ℤ v *ℤ value_at r.cells n in
    subst R c.index-rows-place.is (c.in_ok-pay_row.ensures.value n k) in
    record {
      value = λ n h. let k : n < length c.loop-place.reduced = omega (arith, h, same) in
          rows_step rows values i row (pos 0) n (at c.loop-place.reduced n) (at c.pay_row.new.reduced n) _ c.loop-place-test.true second (step n k) (c.loop-place.invariant.value n k);
      ledger = omega (arith, so_far, here);
      room = λ n h. let k : n < length c.loop-place.reduced = omega (arith, h, same) in
          rows_room rows values i row (pos 0) n (at c.loop-place.reduced n) (at c.pay_row.new.reduced n) _ c.loop-place-test.true second (step n k) (c.loop-place.invariant.room n k);
    }
