use Rattle.std.proofs.Common.{◌≡◌, sym, subst, ◌∙◌, ap, Result}
use Rattle.patterns.specs.Allowed.{FitsBook}
use Rattle.patterns.specs.declared.allowed.Allowed.{Allowed}
use Rattle.leaf_bounds.specs.Shown.{ArePlaces, numbers_of}
use Rattle.leaf_bounds.specs.Verdict.{verdict_of}
use Rattle.proof_rules.specs.Fault.{after}
use Rattle.proof_file.specs.declared.record.ProofRecord.TheVariants.{Close}
use Rattle.proof_check.specs.declared.stop.Stop.{Stop}
use Rattle.proof_check.specs.Going.{Follows}
use Rattle.proof_check.specs.Walk.{IsSound, checked_bound, state_of}
use Rattle.proof_check.proofs.CloseSteps.{close_ended, close_none, close_places, close_stops}
use Rattle.proof_check.proofs.NodeSteps.{leaf_fits}
use Rattle.proof_check.proofs.walk.Walk.close.Goals as goal

pub returns-in_default : goal.returns-in_default
returns-in_default c =
    let new = record c.args.self.now { leaf = c.take.new.self } in
    subst (λ (r : Result (Unit {0}) Stop). Follows (after c.args.case.now (state_of c.args.self.now) Close)
    (λ s. (state_of new ≡ s) × IsSound c.args.case.now new) r) (sym c.placed.ensures)
    (close_none c.args.case.now c.args.self.now (λ s. (state_of new ≡ s) × IsSound c.args.case.now new) (sym c.take.ensures.value ∙ c.in_default.is))

pub into_leaf-requires-clause-kept : goal.into_leaf-requires-clause-kept
into_leaf-requires-clause-kept c = (c.requires.leaf c.in-Some.open (sym c.take.ensures.value ∙ c.in-Some.is)).kept

pub into_leaf-requires-clause-alpha : goal.into_leaf-requires-clause-alpha
into_leaf-requires-clause-alpha c = (c.requires.leaf c.in-Some.open (sym c.take.ensures.value ∙ c.in-Some.is)).alpha_keyed

pub into_leaf-requires-clause-beta : goal.into_leaf-requires-clause-beta
into_leaf-requires-clause-beta c = (c.requires.leaf c.in-Some.open (sym c.take.ensures.value ∙ c.in-Some.is)).beta_keyed

pub bound_of_leaf-requires-clause-fits : goal.bound_of_leaf-requires-clause-fits
bound_of_leaf-requires-clause-fits c =
    subst (λ (a : Allowed). FitsBook a.lists c.args.case.now.book) (sym c.lists.ensures)
    (leaf_fits c.args.case.now c.args.self.now c.requires c.in-Some.open (sym c.take.ensures.value ∙ c.in-Some.is))

pub bound_of_leaf-requires-clause-places : goal.bound_of_leaf-requires-clause-places
bound_of_leaf-requires-clause-places c =
    subst (λ (a : Allowed). ArePlaces c.args.case.now a.lists c.in_ok-leaf.leaf) (sym c.lists.ensures)
    (close_places c.args.case.now c.args.self.now c.requires c.in-Some.open (sym c.take.ensures.value ∙ c.in-Some.is) c.in_ok-leaf.leaf c.in_ok-leaf.ensures)

pub returns-in_err-bound : goal.returns-in_err-bound
returns-in_err-bound c =
    let new = record c.args.self.now { leaf = c.take.new.self } in
    close_stops c.args.case.now c.args.self.now c.requires c.in-Some.open (sym c.take.ensures.value ∙ c.in-Some.is) c.in_ok-leaf.leaf c.in_ok-leaf.ensures
    (λ s. (state_of new ≡ s) × IsSound c.args.case.now new) c.from_residual-in_err-bound.result c.in_err-bound.field-0.0 c.from_residual-in_err-bound.ensures.1
    (c.in_err-bound.ensures ∙ ap (λ (a : Allowed). checked_bound (verdict_of c.args.case.now a.lists (numbers_of c.in_ok-leaf.leaf))) c.lists.ensures)

pub returns : goal.returns
returns c =
    close_ended c.args.case.now c.args.self.now c.requires c.in-Some.open (sym c.take.ensures.value ∙ c.in-Some.is) c.in_ok-leaf.leaf c.in_ok-leaf.ensures c.in_ok-more.more c.advance.new.self
    c.in_ok-bound.bound c.lesser-self.result c.after_leaf-self.result c.take.new.self
    (c.in_ok-bound.ensures ∙ ap (λ (a : Allowed). checked_bound (verdict_of c.args.case.now a.lists (numbers_of c.in_ok-leaf.leaf))) c.lists.ensures)
    c.lesser-self.ensures c.in_ok-more.ensures.due c.in_ok-more.ensures.open c.after_leaf-self.ensures c.take.ensures.after
