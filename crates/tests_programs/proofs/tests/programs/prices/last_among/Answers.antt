use Rattle.std.proofs.Common.{arith, ◌≤◌, pos}
use Rattle.std.proofs.lemmas.List.{take_all}
use Rattle.std.proofs.lemmas.List.Elements.{All-more}
use Rattle.exact_lp.specs.declared.row.RowCell.{RowCell}
use Rattle.tests_programs.proofs.tests.programs.prices.last_among.Goals as goal

pub loop-cell-preserved : goal.loop-cell-preserved
loop-cell-preserved c =
    let P : RowCell → Type 0 = λ cell. cell.column ≤ c.max-last.result in
    let d : RowCell = record { column = 0; value = pos 0 } in
    record {
      kept = omega (arith, c.max-last.ensures, c.loop-cell.invariant.kept);
      so_far = All-more P c.args.cells.now c.loop-cell.cell-index d c.loop-cell-test.true (λ k e h. omega (arith, c.max-last.ensures, c.loop-cell.invariant.so_far k e h)) (omega (arith, c.max-last.ensures));
    }

pub returns-clause-last : goal.returns-clause-last
returns-clause-last c = let e = take_all c.loop-cell.cell-index c.args.cells.now (omega arith) in rw e at c.loop-cell.invariant.so_far
