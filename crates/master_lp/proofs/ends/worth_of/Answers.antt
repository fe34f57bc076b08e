use Rattle.std.proofs.Common.{ap, ◌∙◌, sym, ◌*ℤ◌, rules, ℤ}
use mir.Syntax.{w128}
use mir.Val.{SFits}
use Rattle.std.proofs.lemmas.Int.{to_z-of_z}
use Rattle.leaf_bounds.specs.Shown.{numbers_of}
use Rattle.dual_ascent.proofs.WorthLemmas.{worth_is}
use Rattle.master_lp.proofs.ends.worth_of.Goals as goal

pub returns : goal.returns
returns c =
    let same = ap (λ w. w.value)
    (worth_is c.args.case.now c.args.allowed.now.lists (numbers_of c.args.leaf.now) c.in-Ok.found (sym c.in-Ok.is ∙ c.leaf_check.ensures.verdict)) in
    let value : SFits w128 c.in-Ok.found.value = search rules in
    let scale : SFits w128 c.args.leaf.now.q = search rules in
    let e = simp to_z-of_z at c.new.ensures in
    e ∙ ap (λ (z : ℤ). z *ℤ c.new.result.den) same
