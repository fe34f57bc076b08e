use Rattle.std.proofs.Common.{arith}
use Rattle.proof_file.specs.declared.record.ProofRecord.TheVariants.{Ta, Tb}
use Rattle.proof_file.proofs.WriteLemmas.{first_in_range, made_in_range, second_in_range, table_fits}
use Rattle.proof_file.proofs.write.push_table.Goals as goal

pub overflow_cast-head : goal.overflow_cast-head
overflow_cast-head c = omega (arith, table_fits c.args.number c.args.table.now c.requires)

pub push_each-requires-clause-range : goal.push_each-requires-clause-range
push_each-requires-clause-range c = λ x r there e.
    made_in_range (λ y. Ta y) c.args.table.now.alpha c.as_slice.result.now x r c.as_slice.ensures (first_in_range c.args.number c.args.table.now c.requires) there e

pub push_each-requires-2-clause-range : goal.push_each-requires-2-clause-range
push_each-requires-2-clause-range c = λ x r there e.
    made_in_range (λ y. Tb y) c.args.table.now.beta c.as_slice-2.result.now x r c.as_slice-2.ensures (second_in_range c.args.number c.args.table.now c.requires) there e
