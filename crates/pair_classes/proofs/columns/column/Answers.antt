use Rattle.std.proofs.Common.{◌∙◌, pos, rules, to_z, of_z}
use mir.Syntax.{w64}
use mir.Val.{SFits}
use Rattle.std.proofs.lemmas.Int.{to_z-of_z}
use Rattle.pair_classes.specs.Classes.{sealed_at}
use Rattle.pair_classes.proofs.PricedLemmas.{map_numbers_more}
use Rattle.pair_classes.proofs.columns.column.Goals as goal

pub loop-other-preserved : goal.loop-other-preserved
loop-other-preserved c =
    let fits : SFits w64 c.sealed.result = search rules in
    map_numbers_more (λ i. pos (sealed_at c.args.case.now c.args.first c.args.second i c.args.number)) c.loop-other.other
    c.loop-other.prices.items c.push.new.self.items (to_z w64 (of_z w64 c.sealed.result)) c.loop-other.invariant c.in_ok-push.ensures.items
    (to_z-of_z w64 c.sealed.result fits ∙ c.sealed.ensures)
