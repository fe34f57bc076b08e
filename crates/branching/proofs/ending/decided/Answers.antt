use Rattle.std.proofs.Common.{ℤ, sym, subst, rules}
use Rattle.std.proofs.lemmas.Int.{to_z-of_z}
use mir.Syntax.{w64}
use mir.Val.{SFits}
use Rattle.branching.specs.Answer.{IsOptimal}
use Rattle.branching.proofs.AnswerLemmas.{no_plan, optimal, own_leaves}
use Rattle.branching.proofs.ending.decided.Goals as goal

pub returns-in-Some-clause-answer : goal.returns-in-Some-clause-answer
returns-in-Some-clause-answer c = λ splits few.
    let fits : SFits w64 c.in-Some.priced.cost = search rules in
    subst (λ (z : ℤ). IsOptimal c.args.case.now splits (record { plan = c.in-Some.priced.plan; cost = z; tree = c.in_ok-tree.tree; root = c.args.search.root }))
    (sym (to_z-of_z w64 c.in-Some.priced.cost fits))
    (optimal c.args.case.now c.args.search.outline c.args.search.parts.items c.args.search.waiting c.args.search.best c.requires.search c.requires.settled
    c.in_ok-tree.tree c.args.search.root (c.in_ok-tree.ensures c.requires.search.part
    (own_leaves c.args.case.now c.args.search.outline c.args.search.parts.items c.args.search.waiting c.args.search.best c.requires.search)) splits few
    c.in-Some.priced c.in-Some.is c.station-limits.ensures.limits c.bound_of_tree.ensures)

pub returns-clause-answer : goal.returns-clause-answer
returns-clause-answer c = λ splits few.
    no_plan c.args.case.now c.args.search.outline c.args.search.parts.items c.args.search.waiting c.args.search.best c.requires.search c.requires.settled
    c.in_ok-tree.tree c.args.search.root (c.in_ok-tree.ensures c.requires.search.part
    (own_leaves c.args.case.now c.args.search.outline c.args.search.parts.items c.args.search.waiting c.args.search.best c.requires.search)) splits few c.in-None.is
