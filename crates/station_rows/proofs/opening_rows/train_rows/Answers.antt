use Rattle.std.proofs.Common.{◌+◌, ◌<◌, ℕ, List, [], ◌∷◌, ap, arith, get_or, length, subst, sym}
use Rattle.std.proofs.lemmas.List.{length-append}
use Rattle.exact_lp.specs.declared.row.Row.{Row}
use Rattle.station_rows.specs.Rows.{IsTrainRow}
use Rattle.station_rows.proofs.Opened.{each_more}
use Rattle.station_rows.proofs.opening_rows.train_rows.Goals as goal

pub loop-train-preserved : goal.loop-train-preserved
loop-train-preserved c =
    let items = c.in_ok-push.ensures.items in
    let before = c.loop-train.invariant.long in
    let more = length-append c.loop-train.rows.items (c.in_ok-row.row ∷ []) in
    let after = ap length items in
    let P : ℕ → Row → Type 0 = λ t row. IsTrainRow c.args.layout.now t row in
    let Q : List Row → Type 0 = λ rows. (t : ℕ) (d : Row) → t < c.loop-train.train + 1 → IsTrainRow c.args.layout.now t (get_or rows t d) in
    record {
      long = omega (arith, before, more, after);
      each = subst Q (sym items) (each_more P c.loop-train.rows.items c.in_ok-row.row c.loop-train.train before c.loop-train.invariant.each c.in_ok-row.ensures);
    }
