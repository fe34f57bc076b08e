use Rattle.std.proofs.Common.{rules, FitsSigned}
use Rattle.std.specs.Int.{w128}
use Rattle.std.proofs.lemmas.Int.{to_z-of_z}
use Rattle.dual_leaves.proofs.Divisors.{IsDivisor, gcd_is}
use Rattle.dual_leaves.proofs.divide.gcd.Goals as goal
use Rattle.dual_leaves.proofs.divide.gcd.Goals.{After-quotient}

found : (c : After-quotient) → IsDivisor c.args.positive.now c.args.other.now c.quotient.result
found c =
    let fp : FitsSigned w128 c.args.positive.now = search rules in
    let fo : FitsSigned w128 c.args.other.now = search rules in
    let fd : FitsSigned w128 c.new.result.den = search rules in
    let same = simp to_z-of_z at c.new.ensures in
    let is = simp to_z-of_z at c.quotient.ensures in
    gcd_is c.args.positive.now c.args.other.now c.new.result.num c.new.result.den c.quotient.result c.requires c.new.result.positive same c.new.result.lowest is

pub returns-clause-positive : goal.returns-clause-positive
returns-clause-positive c =
    let fits : FitsSigned w128 c.quotient.result = search rules in
    simp to_z-of_z (found (goal.at.returns-clause-positive c).After-quotient).positive

pub returns-clause-first : goal.returns-clause-first
returns-clause-first c =
    let fits : FitsSigned w128 c.quotient.result = search rules in
    simp to_z-of_z (found (goal.at.returns-clause-first c).After-quotient).first

pub returns-clause-second : goal.returns-clause-second
returns-clause-second c =
    let fits : FitsSigned w128 c.quotient.result = search rules in
    simp to_z-of_z (found (goal.at.returns-clause-second c).After-quotient).second
