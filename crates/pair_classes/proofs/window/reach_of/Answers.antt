use Rattle.std.proofs.Common.{sym, subst, ap, ◌∙◌}
use Rattle.station.specs.Allowed.{StationRecord}
use Rattle.station.specs.declared.part.Pattern.{Pattern}
use Rattle.patterns.specs.Sound.{IsSound}
use Rattle.patterns.specs.Book.{pattern_at}
use Rattle.pair_prices.proofs.CaseLemmas.{sound_at}
use Rattle.pair_classes.proofs.window.reach_of.Goals as goal

pub reach-requires : goal.reach-requires
reach-requires c =
    let sound : IsSound c.args.case.now.station (pattern_at c.args.case.now.book c.args.train c.args.number) =
    sound_at c.args.case.now c.station.ensures.limits c.args.train c.args.number c.requires.train c.requires.number in
    let P : StationRecord → Type 0 = λ r. IsSound r c.get.result in
    let Q : Pattern → Type 0 = λ x. IsSound c.args.case.now.station x in
    subst P (sym c.station.ensures.value)
    (subst Q (sym (c.get.ensures ∙ ap (λ b. pattern_at b c.args.train c.args.number) c.book.ensures)) sound)
