use Rattle.std.proofs.Common.{◌<◌, sym, ◌∙◌, arith, length}
use Rattle.pair_classes.specs.Windows.{span_at}
use Rattle.pair_classes.proofs.ApartLemmas.{trains_free}
use Rattle.pair_classes.proofs.making.are_trains_apart.Goals as goal

pub returns : goal.returns
returns c yes_apart =
    let first : c.args.first < length c.args.case.now.book = omega (arith, c.requires.order, c.requires.second) in
    trains_free c.args.case.now c.station-station.ensures.limits c.args.first c.args.second first c.requires.second
    (span_at c.args.windows.now c.args.first) (span_at c.args.windows.now c.args.second)
    (c.requires.windows.each c.args.first first) (c.requires.windows.each c.args.second c.requires.second)
    (sym c.apart.ensures ∙ yes_apart)
