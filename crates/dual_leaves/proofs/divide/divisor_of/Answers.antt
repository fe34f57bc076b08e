use Rattle.std.proofs.Common.{ℤ, rules, sym, subst, FitsSigned, unsigned_abs}
use Rattle.std.specs.Int.{w128}
use Rattle.std.specs.Map.{values_of}
use Rattle.std.proofs.lemmas.Int.{to_z-of_z}
use Rattle.std.proofs.lemmas.Nat.Gcd.{dvd_trans}
use Rattle.dual_leaves.specs.Divided.{DivideAll, Divides}
use Rattle.dual_leaves.proofs.Divisors.{divide_all}
use Rattle.dual_leaves.proofs.divide.divisor_of.Goals as goal
use Rattle.dual_leaves.proofs.divide.divisor_of.Goals.{After-common_divisor}

-- what divides the last divisor's numbers
record AreDivided (c : After-common_divisor) : Type 0 where
  scale : Divides c.common_divisor.result c.args.scale.now
  u : DivideAll c.common_divisor.result (values_of c.args.account.now.u.entries)
  v : DivideAll c.common_divisor.result (values_of c.args.account.now.v.entries)
  alpha : DivideAll c.common_divisor.result (values_of c.args.account.now.alpha.entries)

divided : (c : After-common_divisor) → AreDivided c
divided c =
    let fu : FitsSigned w128 c.common_divisor-with_u.result = search rules in
    let fv : FitsSigned w128 c.common_divisor-with_v.result = search rules in
    let fa : FitsSigned w128 c.common_divisor-with_alpha.result = search rules in
    let last : Divides c.common_divisor.result c.common_divisor-with_alpha.result =
    subst (λ (z : ℤ). Divides c.common_divisor.result z) (to_z-of_z w128 c.common_divisor-with_alpha.result fa) c.common_divisor.ensures.start in
    let alpha : Divides c.common_divisor-with_alpha.result c.common_divisor-with_v.result =
    subst (λ (z : ℤ). Divides c.common_divisor-with_alpha.result z) (to_z-of_z w128 c.common_divisor-with_v.result fv) c.common_divisor-with_alpha.ensures.start in
    let v : Divides c.common_divisor-with_v.result c.common_divisor-with_u.result =
    subst (λ (z : ℤ). Divides c.common_divisor-with_v.result z) (to_z-of_z w128 c.common_divisor-with_u.result fu) c.common_divisor-with_v.ensures.start in
    let two = dvd_trans (unsigned_abs c.common_divisor.result) last alpha in
    let three = dvd_trans (unsigned_abs c.common_divisor.result) two v in
    let four = dvd_trans (unsigned_abs c.common_divisor.result) three c.common_divisor-with_u.ensures.start in
    record {
      scale = four;
      u = divide_all c.common_divisor.result c.common_divisor-with_u.result (values_of c.args.account.now.u.entries) three c.common_divisor-with_u.ensures.each;
      v = divide_all c.common_divisor.result c.common_divisor-with_v.result (values_of c.args.account.now.v.entries) two c.common_divisor-with_v.ensures.each;
      alpha = divide_all c.common_divisor.result c.common_divisor-with_alpha.result (values_of c.args.account.now.alpha.entries) last c.common_divisor-with_alpha.ensures.each;
    }

pub returns-clause-scale : goal.returns-clause-scale
returns-clause-scale c =
    let fits : FitsSigned w128 c.common_divisor.result = search rules in
    subst (λ (z : ℤ). Divides z c.args.scale.now) (sym (to_z-of_z w128 c.common_divisor.result fits))
    (divided (goal.at.returns-clause-scale c).After-common_divisor).scale

pub returns-clause-u : goal.returns-clause-u
returns-clause-u c =
    let fits : FitsSigned w128 c.common_divisor.result = search rules in
    subst (λ (z : ℤ). DivideAll z (values_of c.args.account.now.u.entries)) (sym (to_z-of_z w128 c.common_divisor.result fits))
    (divided (goal.at.returns-clause-u c).After-common_divisor).u

pub returns-clause-v : goal.returns-clause-v
returns-clause-v c =
    let fits : FitsSigned w128 c.common_divisor.result = search rules in
    subst (λ (z : ℤ). DivideAll z (values_of c.args.account.now.v.entries)) (sym (to_z-of_z w128 c.common_divisor.result fits))
    (divided (goal.at.returns-clause-v c).After-common_divisor).v

pub returns-clause-alpha : goal.returns-clause-alpha
returns-clause-alpha c =
    let fits : FitsSigned w128 c.common_divisor.result = search rules in
    subst (λ (z : ℤ). DivideAll z (values_of c.args.account.now.alpha.entries)) (sym (to_z-of_z w128 c.common_divisor.result fits))
    (divided (goal.at.returns-clause-alpha c).After-common_divisor).alpha

pub returns-clause-beta : goal.returns-clause-beta
returns-clause-beta c =
    let fits : FitsSigned w128 c.common_divisor.result = search rules in
    subst (λ (z : ℤ). DivideAll z (values_of c.args.account.now.beta.entries)) (sym (to_z-of_z w128 c.common_divisor.result fits)) c.common_divisor.ensures.each
