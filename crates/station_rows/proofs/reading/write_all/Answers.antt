use Rattle.std.proofs.Common.{◌≡◌, ◌∙◌, ◌+◌, ◌-◌, ◌<◌, ◌==◌, if◌then◌else◌, ap, arith, drop, get_or, length, pos, sym, ℤ, ℕ}
use Rattle.exact_lp.specs.declared.point.ColumnWeight.{ColumnWeight}
use Rattle.station_rows.specs.Points.{weight_at}
use Rattle.station_rows.proofs.Read.{weight_drop}
use Rattle.station_rows.proofs.reading.write_all.Goals as goal

pub loop-place-preserved : goal.loop-place-preserved
loop-place-preserved c = λ k h.
    let long = c.write.auto.all in
    let inside : k < length c.loop-place.all = omega (arith, h, long) in
    let d : ColumnWeight = record { column = 0; weight = pos 0 } in
    let i = c.loop-place.place - 1 in
    let w = get_or c.args.weights.now i d in
    let later : c.loop-place.place ≡ c.loop-place.place - 1 + 1 = omega arith in
    c.write.ensures k inside ∙ ap (λ (z : ℤ). if w.column == k then w.weight else z) (c.loop-place.invariant k inside)
    ∙ ap (λ (n : ℕ). if w.column == k then w.weight else weight_at (drop n c.args.weights.now) k) later
    ∙ sym (weight_drop c.args.weights.now i d k (omega arith))
