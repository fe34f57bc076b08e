use Rattle.std.proofs.Common.{◌≡◌, ◌∙◌, ◌==◌, sym, ap, length}
use borrow.Author.Tests.{eq-eqb}
use Rattle.std.proofs.lemmas.Bool.{ne_eqb}
use Rattle.std.specs.Prelude.{slice_index}
use Rattle.patterns.specs.Book.{pattern_at}
use Rattle.pair_prices.specs.Plan.{chosen}
use Rattle.plan_cost.proofs.CostLemmas.{any_numbers_at, any_numbers_more}
use Rattle.primal_heuristic.proofs.added.is_taken.Goals as goal

pub returns-then-get-platform : goal.returns-then-get-platform
returns-then-get-platform c =
    let earlier = c.args.earlier.now in
    let own : c.get.result ≡ chosen c.args.case.now earlier c.loop-train.train =
    c.get.ensures ∙ ap (λ b. pattern_at b c.loop-train.train (slice_index earlier c.loop-train.train)) c.book.ensures in
    sym (any_numbers_at (λ s. (chosen c.args.case.now earlier s).platform == c.args.platform) (length earlier) c.loop-train.train c.loop-train-test.true
    (eq-eqb _ _ (sym (ap (λ x. x.platform) own) ∙ c.if-get-platform.true)))

pub loop-train-preserved : goal.loop-train-preserved
loop-train-preserved c =
    let earlier = c.args.earlier.now in
    let own : c.get.result ≡ chosen c.args.case.now earlier c.loop-train.train =
    c.get.ensures ∙ ap (λ b. pattern_at b c.loop-train.train (slice_index earlier c.loop-train.train)) c.book.ensures in
    any_numbers_more (λ s. (chosen c.args.case.now earlier s).platform == c.args.platform) c.loop-train.train c.loop-train.invariant
    (ne_eqb _ _ (λ e. c.if-get-platform.false (ap (λ x. x.platform) own ∙ e)))
