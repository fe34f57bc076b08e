use Rattle.exact_lp.proofs.Cleared.{eliminated}
use Rattle.exact_lp.proofs.Pivoted.{on_ok_both}
use Rattle.exact_lp.proofs.table.clear.Goals as goal

pub returns-clause-cleared : goal.returns-clause-cleared
returns-clause-cleared c =
    on_ok_both c.eliminate.result
    (λ a b long above. eliminated c.args.pivot.now c.args.row.now c.eliminate.new.self c.args.at long above a b)
    c.eliminate.ensures.ok c.eliminate.ensures.solutions
