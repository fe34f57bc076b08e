use Rattle.std.proofs.Common.{ℤ, List, sym, subst, IfSome}
use Rattle.pattern_pricing.specs.Picks.{IsPick}
use Rattle.pattern_pricing.specs.Prices.{PricingRecord}
use Rattle.pattern_pricing.specs.Reduced.{AreReduced, reduced_at}
use Rattle.pattern_pricing.proofs.Picked.{picked}
use Rattle.pattern_pricing.proofs.pricing.PatternPricingColumns.improving.Goals as goal

pub returns-clause-pick : goal.returns-clause-pick
returns-clause-pick c =
    let p : PricingRecord = record { case = c.self.inside.case.now; layout = c.self.inside.layout.now } in
    let P : List ℤ → Type 0 = λ xs. AreReduced p c.args.duals.now xs in
    let Q : PricingRecord → Type 0 = λ q. IfSome c.pick.result (IsPick q.layout (reduced_at q c.args.duals.now)) in
    subst Q c.self.view_is
    (picked p c.args.duals.now c.deref.result.now (subst P (sym c.deref.ensures.value) c.in_ok-reduced.ensures.value) c.pick.result c.pick.ensures)
