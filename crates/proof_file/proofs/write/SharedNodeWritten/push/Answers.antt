use Rattle.std.proofs.Common.{List, ap, map, subst, ◌∙◌, ◌++◌}
use Rattle.leaf_bounds.specs.declared.shared.SharedNode.{SharedNode}
use Rattle.leaf_bounds.specs.declared.uses.UseOf.{UseOf}
use Rattle.proof_file.specs.declared.record.ProofRecord.TheVariants.{Use}
use Rattle.proof_file.specs.Text.{AreInRange, shared_node_records, text_of}
use Rattle.proof_file.proofs.WriteLemmas.{made_in_range, shared_leaf_written, uses_in_range}
use Rattle.proof_file.proofs.write.SharedNodeWritten.push.Goals as goal

pub push_each-requires-clause-range : goal.push_each-requires-clause-range
push_each-requires-clause-range c = λ x r there e.
    made_in_range (λ y. Use y) c.in-Leaf.leaf.uses c.as_slice.result.now x r c.as_slice.ensures
    (uses_in_range c.in-Leaf.leaf (subst (λ (n : SharedNode). AreInRange (shared_node_records n)) c.in-Leaf.is c.requires)) there e

pub returns-in_ok-push_record-in-Leaf : goal.returns-in_ok-push_record-in-Leaf
returns-in_ok-push_record-in-Leaf c =
    shared_leaf_written c.in-Leaf.leaf c.args.self.now c.args.into.now.items c.push_numbers.new.into.items c.push_each.new.into.items
    c.push_record-in-Leaf.new.into.items c.in-Leaf.is c.in_ok-push_numbers-in-Leaf.ensures
    (c.in_ok-push_each-in-Leaf.ensures (λ x. Use x) (λ x r e. e)
    ∙ ap (λ (uses : List UseOf). c.push_numbers.new.into.items ++ text_of (map (λ x. Use x) uses)) c.as_slice.ensures)
    c.in_ok-push_record-in-Leaf.ensures
