use Rattle.std.proofs.Common.{◌≡◌, List, ℤ, ◌<◌, length, get_or, pos, ◌≤ℤ◌, sym, ap, ◌∙◌, subst, arith}
use Rattle.exact_lp.specs.declared.row.Row.{Row}
use Rattle.exact_lp.specs.Programs.{paid_by_rows, valued_leasts}
use Rattle.dual_leaves.specs.Account.{totals_of, IsAccount}
use Rattle.dual_leaves.specs.Kinds.{IsStationRow}
use Rattle.dual_leaves.proofs.RowSums.{account_none, account_more, account_all}
use Rattle.dual_leaves.proofs.read.read_rows.Goals as goal
use Rattle.dual_leaves.proofs.read.read_rows.Goals.{After-as_slice-values}

long : (c : After-as_slice-values) → length c.as_slice-values.result.now ≡ length c.as_slice-rows.result.now
long c = ap length c.as_slice-values.ensures ∙ c.args.duals.now.one_each ∙ sym (ap length c.as_slice-rows.ensures)

pub loop-place-init : goal.loop-place-init
loop-place-init c = record {
  account = account_none c.args.case.now c.args.layout.now (totals_of c.new-account.result) c.new-account.ensures.u c.new-account.ensures.uses c.new-account.ensures.v
      c.new-account.ensures.alpha c.new-account.ensures.beta;
  ledger = omega arith;
}

pub read_row-requires : goal.read_row-requires
read_row-requires c =
    let place = c.loop-place.place in
    let row = c.index-rows-place.result in
    let rows = c.as_slice-rows.ensures in
    let inside : place < length c.args.duals.now.rows = let test = c.loop-place-test.true in omega (arith, test, ap length rows) in
    let is : get_or c.args.duals.now.rows place row ≡ row = sym (c.index-rows-place.is ∙ ap (λ rs. get_or rs place row) rows) in
    record {
      layout = c.requires.layout;
      same = c.requires.same;
      row = subst (IsStationRow c.args.case.now c.args.layout.now) is (c.requires.rows place row inside);
      sign = λ e. subst (λ vs. pos 0 ≤ℤ get_or vs place (pos 0)) (sym c.as_slice-values.ensures)
          (c.args.duals.now.signed place row inside (ap (λ r. r.equal) is ∙ e));
    }

pub loop-place-preserved : goal.loop-place-preserved
loop-place-preserved c =
    let so_far = c.loop-place.invariant.ledger in
    let here = c.in_ok-read_row.ensures.ledger in
    let inside = c.loop-place-test.true in
    let same = long (goal.at.loop-place-preserved c).After-as_slice-values in
    record {
      account = account_more c.args.case.now c.args.layout.now c.as_slice-rows.result.now c.as_slice-values.result.now c.loop-place.place c.index-rows-place.result
          (totals_of c.loop-place.account) (totals_of c.read_row.new.account) inside (omega (arith, inside, same)) c.index-rows-place.is c.loop-place.invariant.account
          c.in_ok-read_row.ensures.read;
      ledger = omega (arith, so_far, here);
    }

pub returns-clause-account : goal.returns-clause-account
returns-clause-account c =
    let past = c.loop-place-test.false in
    let same = long (goal.at.returns-clause-account c).After-as_slice-values in
    let rows = c.as_slice-rows.result.now in
    let values = c.as_slice-values.result.now in
    let a = totals_of c.loop-place.account in
    let all = account_all c.args.case.now c.args.layout.now rows values c.loop-place.place a past (omega (arith, past, same)) c.loop-place.invariant.account in
    subst (λ (vs : List ℤ). IsAccount c.args.case.now c.args.layout.now (paid_by_rows c.args.duals.now.rows vs) (valued_leasts c.args.duals.now.rows vs) a)
    c.as_slice-values.ensures
    (subst (λ (rs : List Row). IsAccount c.args.case.now c.args.layout.now (paid_by_rows rs values) (valued_leasts rs values) a) c.as_slice-rows.ensures all)
