use Rattle.std.proofs.Common.{◌≡◌, ◌+◌, ℕ, arith, subst, sym}
use Rattle.leaf_bounds.specs.declared.table.PotTable.{PotTable}
use Rattle.proof_file.specs.Text.{AreInRange, table_records}
use Rattle.proof_file.proofs.WriteLemmas.{table_in_range, table_written}
use Rattle.proof_file.proofs.write.push_tables.Goals as goal

pub push_table-requires : goal.push_table-requires
push_table-requires c =
    let there = table_in_range c.args.tables.now 0 c.loop-number.number c.index-tables-number.result c.loop-number-test.true c.requires in
    let P : PotTable → Type 0 = λ t. AreInRange (table_records (0 + c.loop-number.number) t) in
    let Q : ℕ → Type 0 = λ n. AreInRange (table_records n c.index-tables-number.result) in
    let same : 0 + c.loop-number.number ≡ c.loop-number.number = omega arith in
    subst Q same (subst P (sym c.index-tables-number.is) there)

pub loop-number-preserved : goal.loop-number-preserved
loop-number-preserved c =
    table_written c.args.tables.now c.loop-number.number c.index-tables-number.result c.args.into.now.items c.loop-number.into.items c.push_table.new.into.items
    c.loop-number-test.true c.loop-number.invariant (rw (← c.index-tables-number.is) c.in_ok-push_table.ensures)
