use Rattle.std.proofs.Common.{ap, sym, arith}
use Rattle.std.proofs.lemmas.Int.{ints}
use Rattle.leaf_bounds.proofs.PlaceLemmas.{at_place, listed_at}
use Rattle.leaf_bounds.proofs.places.value_at.Goals as goal

pub value_if-requires : goal.value_if-requires
value_if-requires c = c.requires.values.each c.args.place c.in-Some.x.now (sym c.in-Some.ensures.value)

pub returns-in-Some-clause-value : goal.returns-in-Some-clause-value
returns-in-Some-clause-value c =
    let value = c.value_if.ensures.value in
    let listed = listed_at (record { first = c.args.at.now.first; second = c.args.at.now.second }) c.args.at.now.number c.args.xs.now c.args.place
    c.requires.values.ascends c.requires.place in
    let there = ap (at_place (record { first = c.args.at.now.first; second = c.args.at.now.second }) c.args.at.now.number) c.in-Some.ensures.value in
    omega (arith, ints, value, listed, there)

pub returns-in-None-clause-value : goal.returns-in-None-clause-value
returns-in-None-clause-value c =
    let listed = listed_at (record { first = c.args.at.now.first; second = c.args.at.now.second }) c.args.at.now.number c.args.xs.now c.args.place
    c.requires.values.ascends c.requires.place in
    let there = ap (at_place (record { first = c.args.at.now.first; second = c.args.at.now.second }) c.args.at.now.number) c.in-None.ensures.value in
    omega (arith, ints, listed, there)
