use Rattle.std.proofs.Common.{ap, ◌∙◌, subst, sym, arith}
use Rattle.station.specs.Allowed.{StationRecord}
use Rattle.patterns.specs.Book.{Offers, pattern_at}
use Rattle.patterns.specs.Sound.{IsSound}
use Rattle.pair_prices.proofs.CaseLemmas.{sound_at}
use Rattle.leaf_bounds.specs.Places.{AreMinuteValues}
use Rattle.leaf_bounds.proofs.LoopLemmas.{returned}
use Rattle.leaf_bounds.proofs.MinuteLemmas.{minute_values}
use Rattle.leaf_bounds.proofs.SwapLemmas.{held_from}
use Rattle.leaf_bounds.proofs.trains.held_at.Goals as goal

pub held_platform-span-requires : goal.held_platform-span-requires
held_platform-span-requires c =
    subst (λ (r : StationRecord). IsSound r c.get-pattern.result) (sym c.station.ensures.value)
    (subst (IsSound c.args.case.now.station)
    (sym (c.get-pattern.ensures ∙ ap (λ (b : Offers). pattern_at b c.args.at.now.train c.args.at.now.number) c.book.ensures))
    (sound_at c.args.case.now c.station.ensures.limits c.args.at.now.train c.args.at.now.number c.requires.train c.requires.number))

pub sum_within-requires-clause-values : goal.sum_within-requires-clause-values
sum_within-requires-clause-values c = subst AreMinuteValues (sym c.as_slice.ensures) (minute_values c.args.leaf.now)

pub returns-clause-value : goal.returns-clause-value
returns-clause-value c =
    returned c.sum_within.result (omega (arith, c.sum_within.ensures.size))
    ∙ held_from c.args.case.now c.args.leaf.now (pattern_at c.args.case.now.book c.args.at.now.train c.args.at.now.number) c.get-pattern.result
    c.held_platform-span.result c.as_slice.result.now _ c.sum_within.result
    (c.get-pattern.ensures ∙ ap (λ (b : Offers). pattern_at b c.args.at.now.train c.args.at.now.number) c.book.ensures)
    c.station.ensures.value c.held_platform-span.ensures.value c.as_slice.ensures c.sum_within.ensures.value
