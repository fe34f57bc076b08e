use Rattle.std.proofs.Common.{length, subst}
use Rattle.exact_lp.specs.declared.answer.WeakCause.{WeakCause}
use Rattle.patterns.specs.Allowed.{full_lists, Lists}
use Rattle.master_lp.specs.Bounds.{column_count, IfWeakBound, IsExact, IsWeak, MatchRelaxed, MayWeaken}
use Rattle.branching.proofs.RootLemmas.{cause_given}
use Rattle.branching.proofs.root_line.root_leaf.Goals as goal

pub returns-clause-root : goal.returns-clause-root
returns-clause-root c =
    let case = c.args.case.now in
    let relaxed = c.in_ok-relaxed.relaxed in
    c.rooted.ensures.root case
    (subst (λ (ls : Lists). MatchRelaxed relaxed (IsExact case ls) (IsWeak case ls)) c.requires.all c.in_ok-relaxed.ensures.bound)

pub returns-clause-cause : goal.returns-clause-cause
returns-clause-cause c =
    let case = c.args.case.now in
    let relaxed = c.in_ok-relaxed.relaxed in
    let may : Lists → WeakCause → Type 0 = λ ls. MayWeaken c.args.limits.now (length case.book) (column_count case ls) c.args.width.now c.relax_with.new.width in
    cause_given (may (full_lists case.book)) relaxed c.rooted.result.root.weak c.rooted.ensures.weak
    (subst (λ (ls : Lists). IfWeakBound relaxed (λ w. may ls w.cause)) c.requires.all c.in_ok-relaxed.ensures.cause)
