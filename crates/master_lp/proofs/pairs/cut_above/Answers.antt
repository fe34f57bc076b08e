use Rattle.std.proofs.Common.{refl, subst, arith, rules}
use mir.Syntax.{w128}
use mir.Val.{SFits}
use Rattle.std.proofs.lemmas.Int.{to_z-of_z}
use Rattle.patterns.specs.Allowed.{FitsBook, Lists}
use Rattle.patterns.specs.Weights.{FitsLists}
use Rattle.master_lp.proofs.PairsLooked.{met_at}
use Rattle.master_lp.proofs.pairs.cut_above.Goals as goal

pub violated_pair-requires-clause-lists : goal.violated_pair-requires-clause-lists
violated_pair-requires-clause-lists c =
    let P : Lists → Type 0 = λ x. FitsBook x c.args.case.now.book in subst P c.requires.lists c.requires.layout.lists

pub violated_pair-requires-clause-weights : goal.violated_pair-requires-clause-weights
violated_pair-requires-clause-weights c =
    let P : Lists → Type 0 = λ x. FitsLists x c.args.weights.now in subst P c.requires.lists c.requires.read.fits

pub returns-in-Ok-None : goal.returns-in-Ok-None
returns-in-Ok-None c =
    let value : SFits w128 c.pair_value_at-value.result = search rules in
    let met = simp to_z-of_z at (c.in-Ok-None.ensures.none.0 (rw c.in-Ok-None.field-0-is refl)) in
    let trains = c.requires.layout.lists.trains in
    let there = c.requires.there in
    met_at c.args.case.now c.args.layout.now c.args.allowed.now.lists c.requires.lists c.args.point.now c.args.weights.now c.args.meeting.now
    c.requires.order (omega (arith, trains, there)) c.pair_value_at-value.result c.pair_value_at-value.ensures met
