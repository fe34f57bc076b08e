use Rattle.std.proofs.Common.{sym, ◌∙◌, ap, refl, List, pos}
use Rattle.leaf_bounds.specs.declared.uses.UseOf.{UseOf}
use Rattle.proof_rules.specs.Fault.{is_above}
use Rattle.proof_check.specs.Open.{leaf_of}
use Rattle.proof_check.specs.Tables.{group_of, groups_of}
use Rattle.proof_check.proofs.LeafSteps.{due_use, second_over}
use Rattle.proof_check.proofs.TableLemmas.{was_due}
use Rattle.proof_check.proofs.leaf.OpenLeaf.push_use.Goals as goal

pub returns-in_err-add-2 : goal.returns-in_err-add-2
returns-in_err-add-2 c =
    let above = ap (λ (us : List UseOf). is_above (λ y. pos y.table) us c.args.x.now) (sym c.deref.ensures.value) ∙ sym c.is_use_next.ensures
    ∙ was_due c.is_use_next.result c.placed.result c.in_ok-placed.field-0 c.placed.ensures c.in_ok-placed.was in
    second_over (groups_of c.args.tables.now) c.args.splits.now.lists.lists c.args.self.now _ c.args.x.now (group_of c.in-Some.table.now) c.add-2.new.self.sums
    c.from_residual-in_err-add-2.result c.in_err-add-2.field-0.0 c.from_residual-in_err-add-2.ensures.1
    (due_use (groups_of c.args.tables.now) c.args.x.now (leaf_of c.args.self.now) (group_of c.in-Some.table.now) (sym c.in-Some.ensures) above)
    (sym c.in-Some.ensures) c.in-Some.table.now.kept.order c.in_err-add-2.ensures.added

pub returns : goal.returns
returns c =
    let above = ap (λ (us : List UseOf). is_above (λ y. pos y.table) us c.args.x.now) (sym c.deref.ensures.value) ∙ sym c.is_use_next.ensures
    ∙ was_due c.is_use_next.result c.placed.result c.in_ok-placed.field-0 c.placed.ensures c.in_ok-placed.was in (
      due_use (groups_of c.args.tables.now) c.args.x.now (leaf_of c.args.self.now) (group_of c.in-Some.table.now) (sym c.in-Some.ensures) above,
      record {
        table = group_of c.in-Some.table.now;
        there = sym c.in-Some.ensures;
        same = refl;
        uses = c.in_ok-push.ensures.items;
        alpha = c.in_ok-add.ensures.added;
        beta = c.in_ok-add-2.ensures.added;
        alpha_listed = c.add.ensures.same;
        beta_listed = c.add-2.ensures.same;
      },
    )
