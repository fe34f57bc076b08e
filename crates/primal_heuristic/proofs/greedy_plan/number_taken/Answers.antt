use Rattle.std.proofs.Common.{◌∙◌, ◌+◌, ap, arith, subst, sym, length, Option}
use Rattle.patterns.specs.Book.{offers_of}
use Rattle.primal_heuristic.specs.declared.greedy_plan.Added.{Added}
use Rattle.primal_heuristic.specs.Looks.{less_of}
use Rattle.primal_heuristic.proofs.Least.{IsFoundBelow, found_more, found_none, found_some}
use Rattle.primal_heuristic.proofs.greedy_plan.number_taken.Goals as goal

pub loop-number-preserved : goal.loop-number-preserved
loop-number-preserved c =
    let P : Option Added → Type 0 = λ best. IsFoundBelow c.args.case.now c.args.earlier.now (c.loop-number.number + 1) best in
    subst P (sym (c.less-best.ensures ∙ ap (less_of c.loop-number.best) c.look.ensures))
    (found_more c.args.case.now c.args.earlier.now c.loop-number.number c.loop-number.best c.loop-number.invariant)

pub returns-in-Some : goal.returns-in-Some
returns-in-Some c =
    let same = c.count-number-end.ensures.value ∙ ap (λ b. length (offers_of b (length c.args.earlier.now))) c.book.ensures in
    let P : Option Added → Type 0 = λ best. IsFoundBelow c.args.case.now c.args.earlier.now c.loop-number.number best in
    found_some c.args.case.now c.args.earlier.now c.loop-number.number c.in-Some.added (omega (arith, same)) (subst P c.in-Some.is c.loop-number.invariant)

pub returns-in-None : goal.returns-in-None
returns-in-None c =
    let same = c.count-number-end.ensures.value ∙ ap (λ b. length (offers_of b (length c.args.earlier.now))) c.book.ensures in
    let P : Option Added → Type 0 = λ best. IsFoundBelow c.args.case.now c.args.earlier.now c.loop-number.number best in
    found_none c.args.case.now c.args.earlier.now c.loop-number.number (omega (arith, same)) (subst P c.in-None.is c.loop-number.invariant)
