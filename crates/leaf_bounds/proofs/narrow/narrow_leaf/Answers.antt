use Rattle.leaf_bounds.proofs.NarrowLemmas.{first_there, second_there, narrow_leaf_is, narrow_value}
use Rattle.leaf_bounds.proofs.narrow.narrow_leaf.Goals as goal

pub without_others-requires-clause-alpha : goal.without_others-requires-clause-alpha
without_others-requires-clause-alpha c =
    first_there c.args.case.now c.args.allowed.now.lists c.args.leaf.now.alpha c.requires.fits.trains c.requires.stands.places.alpha_pairs

pub without_others-requires-clause-beta : goal.without_others-requires-clause-beta
without_others-requires-clause-beta c =
    second_there c.args.case.now c.args.allowed.now.lists c.args.leaf.now.beta c.requires.fits.trains c.requires.stands.places.beta_pairs

pub returns-clause-stands : goal.returns-clause-stands
returns-clause-stands c =
    narrow_leaf_is c.args.case.now c.args.wide.now.lists c.args.allowed.now.lists c.args.leaf.now c.in_ok-narrowed.narrowed c.requires.part c.requires.stands
    c.in_ok-narrowed.ensures

pub returns-clause-value : goal.returns-clause-value
returns-clause-value c =
    narrow_value c.args.case.now c.args.wide.now.lists c.args.allowed.now.lists c.args.leaf.now c.in_ok-narrowed.narrowed c.requires.part c.requires.stands
    c.in_ok-narrowed.ensures
