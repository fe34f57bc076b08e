use Rattle.std.proofs.Common.{arith, ap, sym, ◌∙◌, length}
use Rattle.std.specs.List.{flat_map}
use Rattle.patterns.specs.Book.{offers_of}
use Rattle.pair_classes.specs.Classes.{picked_lines}
use Rattle.pair_classes.specs.Groups.{line_at}
use Rattle.pair_classes.proofs.PricedLemmas.{AreMade, priced, sized, lines_long, picked_long}
use Rattle.pair_classes.proofs.making.classes_of.Goals as goal
use Rattle.pair_classes.proofs.making.classes_of.Goals.{After-len-2}

pub across-requires-clause-lines : goal.across-requires-clause-lines
across-requires-clause-lines c = lines_long c.args.case.now c.args.first c.args.second c.deref-2.result.now c.count.result
    (c.deref-2.ensures.value ∙ c.in_ok-columns.ensures.value) (c.count.ensures.value ∙ ap (λ b. length (offers_of b c.args.first)) c.book.ensures)

pub group-requires-2 : goal.group-requires-2
group-requires-2 c =
    let long = ap length (c.deref-4.ensures.value ∙ c.in_ok-rows.ensures) ∙ picked_long c.deref-2.result.now c.deref-3.result.now c.count.result in
    omega (arith, long, c.count.ensures.limit)

made_of : (c : goal.After-len-2) → AreMade c.args.case.now c.args.first c.args.second c.deref.result.now c.deref-4.result.now
    (record {
      of_first = c.in_ok-by_row.by_row.classes.items;
      of_second = c.in_ok-by_column.by_column.classes.items;
      rows = c.len.result;
      columns = c.len-2.result;
      prices = c.in_ok-prices.prices.items;
    })
    c.in_ok-by_row.by_row.heads.items c.in_ok-by_column.by_column.heads.items
made_of c = record {
  cols_are = c.deref.ensures.value ∙ c.in_ok-columns.ensures.value;
  by_column = c.in_ok-by_column.ensures;
  lines_are = c.deref-4.ensures.value ∙ c.in_ok-rows.ensures
      ∙ ap (λ cols. picked_lines cols c.deref-3.result.now c.count.result) (c.deref-2.ensures.value ∙ sym c.deref.ensures.value)
      ∙ ap (λ hs. picked_lines c.deref.result.now hs c.count.result) c.deref-3.ensures.value
      ∙ ap (picked_lines c.deref.result.now c.in_ok-by_column.by_column.heads.items)
      (c.count.ensures.value ∙ ap (λ b. length (offers_of b c.args.first)) c.book.ensures);
  by_row = c.in_ok-by_row.ensures;
  rows_count = c.len.ensures ∙ sym c.deref-6.ensures.len ∙ ap length c.deref-6.ensures.value;
  columns_count = c.len-2.ensures ∙ sym c.deref-3.ensures.len ∙ ap length c.deref-3.ensures.value;
  prices = c.in_ok-prices.ensures
      ∙ ap (λ lines. flat_map (line_at lines) c.deref-6.result.now) (c.deref-5.ensures.value ∙ sym c.deref-4.ensures.value)
      ∙ ap (flat_map (line_at c.deref-4.result.now)) c.deref-6.ensures.value;
}

pub invariant_of-result : goal.invariant_of-result
invariant_of-result c =
    let rows = ap length (c.deref-4.ensures.value ∙ c.in_ok-rows.ensures) ∙ picked_long c.deref-2.result.now c.deref-3.result.now c.count.result in
    let cols = ap length c.deref.ensures.value in
    sized c.args.case.now c.args.first c.args.second c.deref.result.now c.deref-4.result.now _
    c.in_ok-by_row.by_row.heads.items c.in_ok-by_column.by_column.heads.items (made_of c)
    c.station-station.ensures.limits (omega (arith, rows, c.count.ensures.limit)) (omega (arith, cols, c.in_ok-columns.ensures.most))

pub returns : goal.returns
returns c =
    priced c.args.case.now c.args.first c.args.second c.deref.result.now c.deref-4.result.now _
    c.in_ok-by_row.by_row.heads.items c.in_ok-by_column.by_column.heads.items (made_of ((goal.at.returns c).After-len-2))
