use Rattle.std.proofs.Common.{sym, subst, arith}
use Rattle.patterns.specs.Allowed.{FitsBook, Lists}
use Rattle.patterns.specs.Weights.{FitsLists}
use Rattle.clique_cuts.specs.Over.{IsFirstCut, NoneOver, fraction_of}
use Rattle.station_rows.specs.Rows.{clique_stands}
use Rattle.master_lp.proofs.AllHold.{clique_fails}
use Rattle.master_lp.proofs.cliques.first_off.Goals as goal

pub violated_clique-requires-clause-lists : goal.violated_clique-requires-clause-lists
violated_clique-requires-clause-lists c =
    let P : Lists → Type 0 = λ x. FitsBook x c.args.case.now.book in subst P c.requires.lists c.requires.layout.lists

pub violated_clique-requires-clause-weights : goal.violated_clique-requires-clause-weights
violated_clique-requires-clause-weights c =
    let P : Lists → Type 0 = λ x. FitsLists x c.args.weights.now in subst P c.requires.lists c.requires.read.fits

pub clique_row-requires-clause-platform : goal.clique_row-requires-clause-platform
clique_row-requires-clause-platform c =
    let there = c.in-Some.ensures.platform in
    let same = c.requires.layout.platforms in
    omega (arith, there, same)

pub returns-in_ok-row-in-Some : goal.returns-in_ok-row-in-Some
returns-in_ok-row-in-Some c =
    let there = c.in-Some.ensures.platform in
    let same = c.requires.layout.platforms in
    let cut = c.in-Some.cut in
    let P : Lists → Type 0 = λ x. IsFirstCut c.args.case.now x (fraction_of c.args.weights.now) cut in
    record {
      stands = clique_stands cut.platform cut.minute (omega (arith, there, same)) c.in_ok-row-in-Some.ensures;
      fails =
          clique_fails c.args.case.now c.args.layout.now c.requires.layout c.args.point.now c.args.weights.now c.requires.read cut
          (subst P (sym c.requires.lists) c.in-Some.ensures) c.in_ok-row-in-Some.row c.in_ok-row-in-Some.ensures;
    }

pub returns-in-None : goal.returns-in-None
returns-in-None c =
    let P : Lists → Type 0 = λ x. NoneOver c.args.case.now x (fraction_of c.args.weights.now) in
    subst P (sym c.requires.lists) c.in-None.ensures
