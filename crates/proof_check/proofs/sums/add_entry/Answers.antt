use Rattle.std.proofs.Common.{rules, refl, ◌∙◌, sym, ap, subst, ℤ, ◌≡◌, ◌<◌, ◌+ℤ◌, ◌*ℤ◌}
use Rattle.std.specs.Prelude.{unsigned_abs, ◌^◌}
use mir.Syntax.{w128}
use mir.Val.{SFits}
use Rattle.std.proofs.lemmas.Int.{to_z-of_z}
use Rattle.leaf_bounds.specs.Listed.{pair_key, IsSmall}
use Rattle.proof_check.specs.Sums.{value_at}
use Rattle.proof_check.proofs.SumLemmas.{adds_entry, entry_over, value_small}
use Rattle.proof_check.proofs.sums.add_entry.Goals as goal

pub sum_of-requires : goal.sum_of-requires
sum_of-requires c =
    let earlier : SFits w128 c.value_at.result = search rules in
    rw (to_z-of_z w128 c.value_at.result earlier)
    (subst (λ (z : ℤ). IsSmall z) (sym (c.value_at.ensures ∙ ap (value_at c.args.sums.now) c.place_of.ensures))
    (value_small c.args.sums.now c.requires.keyed (pair_key c.args.x.now)))

pub returns-in_default : goal.returns-in_default
returns-in_default c =
    let earlier : SFits w128 c.value_at.result = search rules in
    let factor : SFits w128 c.args.used.now.factor = search rules in
    let value : SFits w128 c.args.x.now.value = search rules in
    let over = simp to_z-of_z at c.in_default.ensures.none in
    let here = c.value_at.ensures ∙ ap (value_at c.args.sums.now) c.place_of.ensures in (
      refl,
      entry_over c.args.sums.now c.requires.keyed c.args.x.now c.args.used.now.factor c.requires.second c.requires.number
          (subst (λ (z : ℤ). 10 ^ 30 < unsigned_abs (c.args.used.now.factor *ℤ c.args.x.now.value +ℤ z)) here over),
    )

pub returns : goal.returns
returns c =
    let earlier : SFits w128 c.value_at.result = search rules in
    let factor : SFits w128 c.args.used.now.factor = search rules in
    let value : SFits w128 c.args.x.now.value = search rules in
    let found = simp to_z-of_z at c.in-Some.ensures.found in
    let here = c.value_at.ensures ∙ ap (value_at c.args.sums.now) c.place_of.ensures in
    let sum : SFits w128 c.in-Some.value = search rules in
    let entries = simp to_z-of_z at c.in_ok-put.ensures.entries in
    adds_entry c.args.sums.now c.put.new.sums c.requires.keyed c.args.x.now c.args.used.now.factor c.in-Some.value c.requires.order c.requires.second c.requires.number
    (subst (λ (z : ℤ). c.in-Some.value ≡ c.args.used.now.factor *ℤ c.args.x.now.value +ℤ z) here found.0) found.1
    entries c.in_ok-put.ensures.ordered
