use Rattle.std.proofs.Common.{◌∙◌, ◌*ℤ◌, ap, ℤ, rules}
use Rattle.std.proofs.lemmas.Int.{to_z-of_z}
use mir.Syntax.{w64, w128}
use mir.Val.{SFits}
use Rattle.branching.proofs.root_line.top_ratio.Goals as goal

pub returns : goal.returns
returns c =
    let value = c.top.ensures.value in
    let narrow : SFits w64 c.top.result = search rules in
    let wide : SFits w128 c.top.result = search rules in
    let e = simp to_z-of_z at c.new.ensures in
    e ∙ ap (λ (z : ℤ). z *ℤ c.new.result.den) value
