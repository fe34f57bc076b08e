use Rattle.std.proofs.Common.{◌≡◌, ◌≤◌, ◌∙◌, ap, arith, rules, pos, to_z, of_z, length, false, Some}
use Rattle.std.specs.Prelude.{nat_abs}
use mir.Syntax.{w64}
use mir.Val.{SFits}
use Rattle.std.proofs.lemmas.Int.{to_z-of_z}
use Rattle.patterns.specs.Book.{pattern_at}
use Rattle.pair_prices.specs.Plan.{chosen}
use Rattle.plan_cost.proofs.CostLemmas.{price_of_pair}
use Rattle.primal_heuristic.specs.Greedy.{is_against, price_beside}
use Rattle.primal_heuristic.proofs.Beside.{allowed_pair, forbidden_pair, price_most, is_price_against, no_price_against}
use Rattle.primal_heuristic.proofs.added.price_against.Goals as goal

price_is : (c : goal.In-Price) → to_z w64 (of_z w64 c.in-Price.price) ≡ pos (price_beside c.args.case.now c.args.earlier.now c.args.number c.args.train)
price_is c =
    let fits : SFits w64 c.in-Price.price = search rules in
    to_z-of_z w64 c.in-Price.price fits
    ∙ price_of_pair c.args.case.now.station (chosen c.args.case.now c.args.earlier.now c.args.train)
    (pattern_at c.args.case.now.book (length c.args.earlier.now) c.args.number) c.in-Price.price c.in-Price.ensures

apart : (c : goal.In-Price) → is_against c.args.case.now c.args.earlier.now c.args.number c.args.train ≡ false
apart c =
    allowed_pair c.args.case.now.station (chosen c.args.case.now c.args.earlier.now c.args.train)
    (pattern_at c.args.case.now.book (length c.args.earlier.now) c.args.number) c.in-Price.price c.in-Price.ensures

most : (c : goal.In-Price) → price_beside c.args.case.now c.args.earlier.now c.args.number c.args.train ≤ 300_000_000
most c =
    price_most c.args.case.now.station c.station-station.ensures.limits.station (chosen c.args.case.now c.args.earlier.now c.args.train)
    (pattern_at c.args.case.now.book (length c.args.earlier.now) c.args.number) (apart c)

pub overflow_cast-result : goal.overflow_cast-result
overflow_cast-result c = let limit = most c in rw (price_is c) (search rules)

pub returns-in-Price-clause-value : goal.returns-in-Price-clause-value
returns-in-Price-clause-value c =
    ap (λ z. Some (nat_abs z)) (price_is c) ∙ is_price_against c.args.case.now c.args.earlier.now c.args.number c.args.train (apart c)

pub returns-in-Price-clause-most : goal.returns-in-Price-clause-most
returns-in-Price-clause-most c = let limit = most c in let same = ap nat_abs (price_is c) in omega (arith, limit, same)

pub returns-in-Forbidden-clause-value : goal.returns-in-Forbidden-clause-value
returns-in-Forbidden-clause-value c =
    no_price_against c.args.case.now c.args.earlier.now c.args.number c.args.train
    (forbidden_pair c.args.case.now.station (chosen c.args.case.now c.args.earlier.now c.args.train)
    (pattern_at c.args.case.now.book (length c.args.earlier.now) c.args.number) _ c.in-Forbidden.ensures)
