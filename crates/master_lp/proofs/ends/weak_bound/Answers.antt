use Rattle.std.proofs.Common.{ap, ◌∙◌, ◌*ℤ◌, rules, ℤ}
use mir.Syntax.{w128}
use mir.Val.{SFits}
use Rattle.std.proofs.lemmas.Int.{to_z-of_z}
use Rattle.master_lp.proofs.ends.weak_bound.Goals as goal

pub returns-clause-weak : goal.returns-clause-weak
returns-clause-weak c =
    let value : SFits w128 c.args.climbed.worth.value = search rules in
    let scale : SFits w128 c.args.climbed.leaf.q = search rules in
    let e = simp to_z-of_z at c.new-value.ensures in
    let same = ap (λ w. w.value) c.requires.worth in
    record {
      bound = record { stands = c.requires.stands; worth = e ∙ ap (λ (z : ℤ). z *ℤ c.new-value.result.den) same };
      plain = c.requires.plain;
    }
