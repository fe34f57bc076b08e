use Rattle.std.proofs.Common.{arith}
use Rattle.exact_lp.specs.Programs.{paid_by_rows, valued_leasts}
use Rattle.dual_leaves.specs.Account.{totals_of}
use Rattle.dual_leaves.proofs.Pricing.{dual_account, priced, uses_priced}
use Rattle.dual_leaves.proofs.RowSums.{station_rows}
use Rattle.dual_leaves.proofs.leaf.account_of.Goals as goal

pub read_rows-requires-clause-rows : goal.read_rows-requires-clause-rows
read_rows-requires-clause-rows c = station_rows c.args.case.now c.args.layout.now c.args.duals.now.rows c.requires.rows

pub pay_excess-requires-clause-most : goal.pay_excess-requires-clause-most
pay_excess-requires-clause-most c = λ platform i.
    uses_priced c.args.case.now c.args.layout.now c.args.duals.now.scale (valued_leasts c.args.duals.now.rows c.args.duals.now.values)
    (paid_by_rows c.args.duals.now.rows c.args.duals.now.values) c.requires.not_improving (totals_of c.in_ok-account.account)
    c.in_ok-account.ensures.account platform (let same = c.requires.layout.platforms in omega (arith, i, same))

pub returns-clause-account : goal.returns-clause-account
returns-clause-account c =
    dual_account c.args.case.now c.args.layout.now c.args.duals.now.scale (valued_leasts c.args.duals.now.rows c.args.duals.now.values)
    (totals_of c.in_ok-account.account) c.pay_excess.new.v.entries c.requires.layout.platforms
    (priced c.args.case.now c.args.layout.now c.args.duals.now.scale (valued_leasts c.args.duals.now.rows c.args.duals.now.values)
    (paid_by_rows c.args.duals.now.rows c.args.duals.now.values) c.requires.not_improving (totals_of c.in_ok-account.account) c.in_ok-account.ensures.account)
    c.in_ok-pay_excess.ensures.paid
