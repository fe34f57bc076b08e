use Rattle.std.proofs.Common.{◌++◌, ℕ, List}
use Rattle.std.proofs.Common.{◌∙◌, ap}
use Rattle.proof_check.proofs.DueLemmas.{rejoined}
use Rattle.proof_check.proofs.splits.Splits.rejoin.Goals as goal

-- src/splits.rt:137:5
pub returns-clause-lists : goal.returns-clause-lists
returns-clause-lists c =
    rejoined c.args.self.now.lists.lists c.exchange-rest.new.lists.lists c.exchange.new.lists.lists c.args.split.train c.from_vec.result
    c.from_vec-2.result c.args.split.other c.as_slice.result.now c.exchange-rest.ensures.new c.exchange.ensures.new
    (c.from_vec-2.ensures ∙ c.in_ok-extend_from_slice.ensures.items ∙ ap (λ (ns : List ℕ). ns ++ c.as_slice.result.now) c.into_vec-whole.ensures)
    (c.as_slice.ensures ∙ c.exchange-rest.ensures.old)
