use Rattle.std.proofs.Common.{◌<◌, arith, length, subst, sym}
use Rattle.patterns.specs.Sound.{IsSound}
use Rattle.clique_cuts.proofs.Descent.{sound_in}
use Rattle.station_rows.proofs.cells.pattern_at.Goals as goal

pub returns-clause-sound : goal.returns-clause-sound
returns-clause-sound c =
    let trains = c.requires.layout.lists.trains in
    let inside = c.requires.train in
    let there : c.args.train < length c.args.case.now.book = omega (arith, trains, inside) in
    subst (IsSound c.args.case.now.station) (sym c.listed.ensures)
    (sound_in c.args.case.now c.station-station.ensures.limits c.args.layout.now.lists c.requires.layout.lists c.args.train c.args.place there c.requires.place)
