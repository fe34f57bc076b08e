use Rattle.std.proofs.Common.{List, ap, subst, sym, ◌∙◌, ◌++◌}
use Rattle.std.specs.Prelude.{flat_map, IsTrue}
use Rattle.leaf_bounds.specs.declared.shared.SharedNode.{SharedNode}
use Rattle.leaf_bounds.specs.declared.table.PotTable.{PotTable}
use Rattle.proof_file.specs.declared.record.ProofRecord.{ProofRecord}
use Rattle.proof_file.specs.Kind.{is_in_range, line_of}
use Rattle.proof_file.specs.Text.{AreInRange, shared_node_records, tables_from, text_of}
use Rattle.proof_file.proofs.WriteLemmas.{shared_in_range, shared_written}
use Rattle.proof_file.proofs.write.write_shared.Goals as goal

pub push_record-requires : goal.push_record-requires
push_record-requires c =
    subst (λ (r : ProofRecord). IsTrue (is_in_range r)) (sym c.head.ensures)
    (shared_in_range c.args.trains c.args.tree.now.tables c.args.tree.now.nodes c.args.bound.now c.requires).head

pub push_tables-requires : goal.push_tables-requires
push_tables-requires c =
    subst (λ (tables : List PotTable). AreInRange (tables_from 0 tables)) (sym c.as_slice.ensures)
    (shared_in_range c.args.trains c.args.tree.now.tables c.args.tree.now.nodes c.args.bound.now c.requires).tables

pub push_all-requires : goal.push_all-requires
push_all-requires c =
    subst (λ (nodes : List SharedNode). AreInRange (flat_map shared_node_records nodes)) (sym c.as_slice-2.ensures)
    (shared_in_range c.args.trains c.args.tree.now.tables c.args.tree.now.nodes c.args.bound.now c.requires).nodes

pub push_record-requires-2 : goal.push_record-requires-2
push_record-requires-2 c =
    subst (λ (r : ProofRecord). IsTrue (is_in_range r)) (sym c.last_record.ensures)
    (shared_in_range c.args.trains c.args.tree.now.tables c.args.tree.now.nodes c.args.bound.now c.requires).last

pub returns : goal.returns
returns c =
    shared_written c.args.trains c.args.tree.now.tables c.args.tree.now.nodes c.args.bound.now c.new-text.result.items c.push_record.new.into.items
    c.push_tables.new.into.items c.push_all.new.into.items c.push_record-2.new.into.items c.new-text.ensures.items
    (c.in_ok-push_record.ensures ∙ ap (λ (r : ProofRecord). c.new-text.result.items ++ line_of r) c.head.ensures)
    (c.in_ok-push_tables.ensures ∙ ap (λ (tables : List PotTable). c.push_record.new.into.items ++ text_of (tables_from 0 tables)) c.as_slice.ensures)
    (c.in_ok-push_all.ensures ∙ ap (λ (nodes : List SharedNode). c.push_tables.new.into.items ++ text_of (flat_map shared_node_records nodes)) c.as_slice-2.ensures)
    (c.in_ok-push_record-2.ensures ∙ ap (λ (r : ProofRecord). c.push_all.new.into.items ++ line_of r) c.last_record.ensures)
