use Rattle.std.proofs.Common.{length, map, drop, ap, ◌∙◌, sym, arith}
use Rattle.std.proofs.lemmas.Bool.{eqb-false}
use Rattle.patterns.specs.Book.{price_at}
use Rattle.leaf_bounds.specs.Made.{least_of}
use Rattle.leaf_bounds.proofs.LeastLemmas.{least_start, least_with}
use Rattle.leaf_bounds.proofs.plain.least_price_of.Goals as goal

pub loop-number-init : goal.loop-number-init
loop-number-init c =
    let some = eqb-false (length c.numbers_in-numbers.result.now) 0 (sym c.is_empty.ensures ∙ c.if-is_empty.false) in
    ap (λ m. least_with m (map (price_at c.args.case.now.book c.args.train) (drop 0 c.numbers_in-numbers.result.now))) c.price_of-least.ensures
    ∙ least_start (price_at c.args.case.now.book c.args.train) c.numbers_in-numbers.result.now 0 (omega (arith, some))
    ∙ ap (λ ns. least_of (map (price_at c.args.case.now.book c.args.train) ns)) c.numbers_in-numbers.ensures
