use Rattle.std.proofs.Common.{◌≡◌, ap, ◌∙◌, sym, arith}
use borrow.Author.Tests.{ltb-false}
use Rattle.leaf_bounds.specs.Listed.{pair_key}
use Rattle.leaf_bounds.proofs.PlaceLemmas.{none_behind}
use Rattle.leaf_bounds.proofs.places.has_pair.Goals as goal

pub key_of_entry-requires : goal.key_of_entry-requires
key_of_entry-requires c = c.requires.values.each c.args.place c.in-Some.x.now (sym c.in-Some.ensures.value)

pub returns-in-Some : goal.returns-in-Some
returns-in-Some c = λ e i l.
    none_behind c.args.xs.now c.args.first c.args.second c.args.place c.requires.values.ascends c.requires.place
    (λ x f.
    let same : c.in-Some.x.now ≡ x = cc (c.in-Some.ensures.value ∙ f) in
    let keys = ap pair_key same in
    let most = ltb-false c.key_of_entry.result c.key_of_number-end.result e in
    omega (arith, keys, most))
    i l

pub returns-in-None : goal.returns-in-None
returns-in-None c = λ e i l.
    none_behind c.args.xs.now c.args.first c.args.second c.args.place c.requires.values.ascends c.requires.place
    (λ x f. cc (c.in-None.ensures.value ∙ f)) i l
