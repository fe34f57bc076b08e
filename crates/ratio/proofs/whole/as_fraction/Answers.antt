use Rattle.std.proofs.Common.{◌≡◌, pos, FitsSigned}
use Rattle.std.specs.Int.{w128}
use Rattle.std.proofs.lemmas.Int.{to_z-of_z}
use Rattle.ratio.proofs.Fractions.{whole_is}
use Rattle.ratio.proofs.whole.as_fraction.Goals as goal
use Rattle.ratio.proofs.whole.as_fraction.Goals.{After-new}

found : (c : After-new) → (c.new.result.num ≡ c.args.a) × (c.new.result.den ≡ pos 1)
found c =
    let fa : FitsSigned w128 c.args.a = c.ranges.a in
    let same = simp to_z-of_z at c.new.ensures in
    whole_is c.new.result.num c.new.result.den c.args.a c.new.result.positive c.new.result.lowest same

pub returns-clause-num : goal.returns-clause-num
returns-clause-num c = (found c).0

pub returns-clause-den : goal.returns-clause-den
returns-clause-den c = (found c).1
