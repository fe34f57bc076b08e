use Rattle.std.proofs.Common.{rules, arith, sym, subst, ◌+◌, FitsSigned, List, ℤ}
use Rattle.std.specs.Int.{w128}
use Rattle.std.proofs.lemmas.Int.{to_z-of_z}
use Rattle.exact_lp.specs.Tables.{IsPriceRow}
use Rattle.exact_lp.proofs.Started.{one_price}
use Rattle.exact_lp.proofs.build.first_cost.Goals as goal

pub loop-column-preserved : goal.loop-column-preserved
loop-column-preserved g c =
    let f0 : FitsSigned w128 c.price_of-price.result = search rules in
    let f1 : FitsSigned w128 c.in_ok-cell.cell = search rules in
    let value = simp to_z-of_z at c.in_ok-cell.ensures.value in
    let items = simp to_z-of_z at c.in_ok-push-3.ensures.items in
    let Is : List ℤ → Type 0 = λ xs. IsPriceRow (c.loop-column.column-index + 1) xs in
    record {
      prices = subst Is (sym items) (one_price c.loop-column.column-index c.loop-column.cells.items c.price_of-price.result c.in_ok-cell.cell c.loop-column.invariant.prices c.price_of-price.ensures value);
      ledger = omega (arith, c.in_ok-cell.ensures.ledger, c.loop-column.invariant.ledger);
    }
