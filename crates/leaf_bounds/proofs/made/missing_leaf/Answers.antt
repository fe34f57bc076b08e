use Rattle.std.proofs.Common.{length, ap, ◌∙◌, subst, sym, arith}
use Rattle.leaf_bounds.specs.Building.{AreTrainValues}
use Rattle.leaf_bounds.proofs.BareLemmas.{one_value}
use Rattle.leaf_bounds.proofs.MissingLemmas.{missing_made, top_alone, top_least}
use Rattle.leaf_bounds.proofs.made.missing_leaf.Goals as goal

pub bare_leaf-requires : goal.bare_leaf-requires
bare_leaf-requires c =
    let least = top_least c.args.case.now in
    let limit = c.top.ensures.limit in
    subst AreTrainValues
    (sym (top_alone c.args.case.now c.first_missing-train.result c.top.result c.new-u.result.items c.push_value.new.u.items c.new-u.ensures.items
    c.in_ok-push_value.ensures c.top.ensures.value limit))
    (one_value c.first_missing-train.result _
    (omega (arith, c.first_missing-train.ensures.there, c.requires.fits.trains, c.trains-trains.ensures.limits.trains, c.trains-trains.ensures.value, ap length c.book.ensures))
    least (omega (arith, limit)))

pub returns : goal.returns
returns c =
    missing_made c.args.case.now c.args.allowed.now.lists c.bare_leaf.result c.first_missing-train.result c.requires.fits
    c.first_missing-train.ensures.there c.first_missing-train.ensures.missing c.bare_leaf.ensures.q
    (c.bare_leaf.ensures.u
    ∙ top_alone c.args.case.now c.first_missing-train.result c.top.result c.new-u.result.items c.push_value.new.u.items c.new-u.ensures.items
    c.in_ok-push_value.ensures c.top.ensures.value c.top.ensures.limit)
    c.bare_leaf.ensures.v c.bare_leaf.ensures.alpha c.bare_leaf.ensures.beta
