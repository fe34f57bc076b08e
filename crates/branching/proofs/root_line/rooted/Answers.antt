use Rattle.std.proofs.Common.{◌≡◌, Some, None, sym, subst}
use Rattle.patterns.specs.Allowed.{full_lists}
use Rattle.master_lp.specs.declared.answer.Relaxed.{Relaxed}
use Rattle.master_lp.specs.Bounds.{IsExact, IsWeak, MatchRelaxed}
use Rattle.branching.proofs.root_line.rooted.Goals as goal

pub returns-in-Exact-clause-root : goal.returns-in-Exact-clause-root
returns-in-Exact-clause-root c = λ case h.
    c.exact_root.ensures.root case
    (subst (λ (r : Relaxed). MatchRelaxed r (IsExact case (full_lists case.book)) (IsWeak case (full_lists case.book))) c.in-Exact.is h)

pub returns-in-Exact-clause-weak : goal.returns-in-Exact-clause-weak
returns-in-Exact-clause-weak c =
    subst (λ (r : Relaxed). MatchRelaxed r (λ e. c.exact_root.result.root.weak ≡ None) (λ w. c.exact_root.result.root.weak ≡ Some w.cause))
    (sym c.in-Exact.is) c.exact_root.ensures.weak

pub returns-in-Weak-clause-root : goal.returns-in-Weak-clause-root
returns-in-Weak-clause-root c = λ case h.
    c.weak_root.ensures.root case
    (subst (λ (r : Relaxed). MatchRelaxed r (IsExact case (full_lists case.book)) (IsWeak case (full_lists case.book))) c.in-Weak.is h)

pub returns-in-Weak-clause-weak : goal.returns-in-Weak-clause-weak
returns-in-Weak-clause-weak c =
    subst (λ (r : Relaxed). MatchRelaxed r (λ e. c.weak_root.result.root.weak ≡ None) (λ w. c.weak_root.result.root.weak ≡ Some w.cause))
    (sym c.in-Weak.is) c.weak_root.ensures.weak
