use Rattle.branching.proofs.ListsLemmas.{cut_read, read_list}
use Rattle.branching.proofs.choice.cut_of.Goals as goal

pub returns : goal.returns
returns c =
    cut_read c.args.allowed.now.lists c.args.train c.border-place.result c.as_slice-numbers.result.now c.requires.long.there
    (c.requires.fits.ascending c.args.train c.requires.long.there)
    (read_list c.args.allowed.now.lists _ c.args.train _ _ c.as_slice-numbers.ensures c.index-as_slice-train.is c.as_slice.ensures c.requires.long.there)
    c.border-place.ensures.some c.border-place.ensures.there
