use Rattle.proof_file.specs.declared.record.ProofRecord.TheVariants.{U, V, A, B}
use Rattle.proof_file.proofs.WriteLemmas.{made_in_range, numbers_in_range}
use Rattle.proof_file.proofs.write.push_numbers.Goals as goal

pub push_each-requires-clause-range : goal.push_each-requires-clause-range
push_each-requires-clause-range c = λ x r there e.
    made_in_range (λ y. U y) c.args.leaf.now.u c.as_slice.result.now x r c.as_slice.ensures (numbers_in_range c.args.leaf.now c.requires).u there e

pub push_each-requires-2-clause-range : goal.push_each-requires-2-clause-range
push_each-requires-2-clause-range c = λ x r there e.
    made_in_range (λ y. V y) c.args.leaf.now.v c.as_slice-2.result.now x r c.as_slice-2.ensures (numbers_in_range c.args.leaf.now c.requires).v there e

pub push_each-requires-3-clause-range : goal.push_each-requires-3-clause-range
push_each-requires-3-clause-range c = λ x r there e.
    made_in_range (λ y. A y) c.args.leaf.now.alpha c.as_slice-3.result.now x r c.as_slice-3.ensures (numbers_in_range c.args.leaf.now c.requires).alpha there e

pub push_each-requires-4-clause-range : goal.push_each-requires-4-clause-range
push_each-requires-4-clause-range c = λ x r there e.
    made_in_range (λ y. B y) c.args.leaf.now.beta c.as_slice-4.result.now x r c.as_slice-4.ensures (numbers_in_range c.args.leaf.now c.requires).beta there e
