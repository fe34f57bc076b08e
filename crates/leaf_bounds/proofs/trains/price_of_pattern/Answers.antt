use Rattle.std.proofs.Common.{◌≤◌, ap, ◌∙◌, subst, sym, ℤ, pos}
use Rattle.std.specs.Prelude.{unsigned_abs, ◌^◌}
use Rattle.patterns.specs.Book.{Offers, price_at}
use Rattle.leaf_bounds.proofs.RowLemmas.{price_is}
use Rattle.leaf_bounds.proofs.WideLemmas.{price_size}
use Rattle.leaf_bounds.proofs.trains.price_of_pattern.Goals as goal

pub returns-clause-value : goal.returns-clause-value
returns-clause-value c =
    price_is c.args.leaf.now.q c.price_of.result c.args.leaf.now.kept.q_least c.args.leaf.now.kept.q_most (record { sfits = c.price_of.type_inv })
    (price_at c.args.case.now.book c.args.at.now.train c.args.at.now.number)
    (c.price_of.ensures.value ∙ ap (λ (b : Offers). pos (price_at b c.args.at.now.train c.args.at.now.number)) c.book.ensures)

pub returns-clause-size : goal.returns-clause-size
returns-clause-size c =
    subst (λ (z : ℤ). unsigned_abs z ≤ 10 ^ 28)
    (sym (price_is c.args.leaf.now.q c.price_of.result c.args.leaf.now.kept.q_least c.args.leaf.now.kept.q_most (record { sfits = c.price_of.type_inv })
    (price_at c.args.case.now.book c.args.at.now.train c.args.at.now.number)
    (c.price_of.ensures.value ∙ ap (λ (b : Offers). pos (price_at b c.args.at.now.train c.args.at.now.number)) c.book.ensures)))
    (price_size c.args.leaf.now.q (price_at c.args.case.now.book c.args.at.now.train c.args.at.now.number) (10 ^ 10) c.args.leaf.now.kept.q_least
    c.args.leaf.now.kept.q_most
    (subst (λ (b : Offers). price_at b c.args.at.now.train c.args.at.now.number ≤ 10 ^ 10) c.book.ensures c.price_of.ensures.limit))
