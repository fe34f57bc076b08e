use Rattle.std.proofs.Common.{◌≡◌, ◌==◌, ◌&&◌, ◌++◌, ◌∷◌, [], length, nat_lt, subst, sym, ◌∙◌}
use Rattle.proof_file.specs.declared.record.ProofRecord.TheVariants.{Table}
use Rattle.proof_rules.specs.Fault.{after}
use Rattle.patterns.specs.Book.{Offers}
use Rattle.proof_check.specs.Going.{IsPlaced}
use Rattle.proof_check.specs.Tables.{groups_of}
use Rattle.proof_check.specs.Walk.{IsSound, state_of}
use Rattle.proof_check.proofs.TableLemmas.{was_due}
use Rattle.proof_check.proofs.WalkSteps.{refuses, table_refused, table_step}
use Rattle.proof_check.proofs.walk.Walk.table.Goals as goal

pub returns-in_err-placed : goal.returns-in_err-placed
returns-in_err-placed c =
    refuses (after c.args.case.now (state_of c.args.self.now) (Table c.args.x.now)) (λ s. (state_of c.args.self.now ≡ s) × IsSound c.args.case.now c.args.self.now)
    c.has_tables.result c.placed.result c.from_residual.result c.in_err-placed.field-0.0 c.placed.ensures c.in_err-placed.was c.from_residual.ensures.1
    (λ e. table_refused c.args.case.now c.args.self.now c.requires c.args.x.now (λ s. (state_of c.args.self.now ≡ s) × IsSound c.args.case.now c.args.self.now) (sym c.has_tables.ensures ∙ e))

pub returns : goal.returns
returns c = table_step c.args.case.now c.args.self.now c.requires c.args.x.now c.push.new.self c.push.result
    (sym c.has_tables.ensures ∙ was_due c.has_tables.result c.placed.result c.in_ok-placed.field-0 c.placed.ensures c.in_ok-placed.was)
    (subst (λ (b : Offers). IsPlaced (c.args.x.now.table == length (groups_of c.args.self.now.tables) && nat_lt c.args.x.now.first c.args.x.now.second
    && nat_lt c.args.x.now.second (length b))
    (groups_of c.push.new.self ≡ groups_of c.args.self.now.tables
    ++ record { first = c.args.x.now.first; second = c.args.x.now.second; alpha = []; beta = [] } ∷ []) c.push.result) c.book.ensures c.push.ensures)
