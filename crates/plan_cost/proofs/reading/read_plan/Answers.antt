use Rattle.std.proofs.Common.{subst, sym}
use Rattle.patterns.specs.Book.{IsBook}
use Rattle.plan_cost.proofs.PlanTexts.{read_is_text, text_is_read, fitting_is_writable, read_fits}
use Rattle.plan_cost.proofs.reading.read_plan.Goals as goal

pub returns-clause-exact : goal.returns-clause-exact
returns-clause-exact c =
    let book : IsBook c.args.case.now.book = subst IsBook c.book.ensures c.trains-trains.ensures.limits in
    λ plan. (
      λ e. read_is_text c.args.case.now c.args.bytes.now plan e,
      λ p. text_is_read c.args.case.now c.args.bytes.now plan (fitting_is_writable c.args.case.now plan book p.1) p.0 p.1,
    )

pub returns-clause-fits : goal.returns-clause-fits
returns-clause-fits c = read_fits c.args.case.now c.args.bytes.now c.read_records.result c.read_records.ensures
