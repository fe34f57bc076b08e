-- What a check of a leaf says of its worth.
use Rattle.std.proofs.Common.{◌≡◌, sym, Option, Some, None, Ok}
use Rattle.patterns.specs.Allowed.{Lists}
use Rattle.pair_prices.specs.Case.{CaseRecord}
use Rattle.leaf_bounds.specs.declared.check.LeafValue.{LeafValue}
use Rattle.leaf_bounds.specs.declared.check.PairPlace.{PairPlace}
use Rattle.leaf_bounds.specs.declared.check.PatternPlace.{PatternPlace}
use Rattle.leaf_bounds.specs.Leaf.{LeafRecord}
use Rattle.leaf_bounds.specs.Verdict.{answer_of, first_pair, first_pattern, verdict_by, verdict_of}

-- a leaf that passes has the worth that it says
worth_by : (p : Option PairPlace) (x : Option PatternPlace) (answer worth : LeafValue) → verdict_by p x answer ≡ Ok worth → worth ≡ answer
worth_by (Some p) x answer worth e = cc
worth_by None (Some x) answer worth e = cc
worth_by None None answer worth e = cc

pub worth_is : (c : CaseRecord) (lists : Lists) (l : LeafRecord) (worth : LeafValue) → Ok worth ≡ verdict_of c lists l → worth ≡ answer_of c l
unfolding verdict_of
worth_is c lists l worth e = worth_by (first_pair c lists l) (first_pattern c lists l) (answer_of c l) worth (sym e)
