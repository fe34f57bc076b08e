use Rattle.std.proofs.Common.{ℤ, ◌∷◌, sym, subst, rules}
use Rattle.std.proofs.lemmas.Int.{to_z-of_z}
use mir.Syntax.{w128}
use mir.Val.{SFits}
use Rattle.leaf_bounds.specs.declared.tree.Bound.TheVariants.{AtLeast}
use Rattle.branching.specs.Answer.{IsOpen}
use Rattle.branching.specs.Bounds.{IsNoLess}
use Rattle.branching.specs.RootLine.{root_bound}
use Rattle.branching.proofs.AnswerLemmas.{open_answer, own_leaves}
use Rattle.branching.proofs.ending.stopped.Goals as goal

pub returns-clause-answer : goal.returns-clause-answer
returns-clause-answer c = λ splits short spent.
    let answer = open_answer c.args.case.now c.args.search.outline c.args.search.parts.items c.args.search.waiting c.args.key c.args.search.best c.requires.search
    c.requires.least c.requires.unsettled c.in_ok-tree.tree c.args.search.root (c.in_ok-tree.ensures c.requires.search.part
    (own_leaves c.args.case.now c.args.search.outline c.args.search.parts.items (c.args.key ∷ c.args.search.waiting) c.args.search.best c.requires.search))
    splits short spent in
    let fits : SFits w128 c.args.key.bound = search rules in
    subst (λ (z : ℤ). IsOpen c.args.case.now splits (record { plan = c.args.search.best; bound = z; tree = c.in_ok-tree.tree; root = c.args.search.root }))
    (sym (to_z-of_z w128 c.args.key.bound fits)) answer

pub returns-clause-above : goal.returns-clause-above
returns-clause-above c =
    let fits : SFits w128 c.args.key.bound = search rules in
    subst (λ (z : ℤ). IsNoLess (root_bound c.args.case.now c.args.search.root.value) (AtLeast z)) (sym (to_z-of_z w128 c.args.key.bound fits)) c.requires.above
