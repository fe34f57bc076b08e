use Rattle.std.proofs.Common.{ap, ◌∙◌, subst, sym}
use Rattle.station.specs.Allowed.{StationRecord}
use Rattle.patterns.specs.Book.{Offers, pattern_at}
use Rattle.patterns.specs.Sound.{IsSound}
use Rattle.pair_prices.proofs.CaseLemmas.{sound_at}
use Rattle.master_lp.proofs.spans.span_of.Goals as goal

pub held_platform-span-requires : goal.held_platform-span-requires
held_platform-span-requires c =
    subst (λ (r : StationRecord). IsSound r c.get-pattern.result) (sym c.station.ensures.value)
    (subst (IsSound c.args.case.now.station)
    (sym (c.get-pattern.ensures ∙ ap (λ (b : Offers). pattern_at b c.args.train c.args.number) c.book.ensures))
    (sound_at c.args.case.now c.station.ensures.limits c.args.train c.args.number c.requires.train c.requires.number))
