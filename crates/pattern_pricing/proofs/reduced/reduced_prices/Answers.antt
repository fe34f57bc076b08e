use Rattle.std.proofs.Common.{◌≡◌, ℕ, ℤ, List, ◌<◌, length, sym, ap, subst, arith, ◌-ℤ◌}
use Rattle.ratio.proofs.Progress.{written_back}
use Rattle.exact_lp.specs.Programs.{paid_by_rows}
use Rattle.pattern_pricing.specs.Prices.{PricingRecord}
use Rattle.pattern_pricing.specs.Reduced.{AreReduced, HaveRoom, at, paid_sizes}
use Rattle.pattern_pricing.proofs.Fronts.{reduced_are, room_is}
use Rattle.pattern_pricing.proofs.reduced.reduced_prices.Goals as goal

pub returns-in_err-pay_rows-clause-never : goal.returns-in_err-pay_rows-clause-never
returns-in_err-pay_rows-clause-never c = λ _ small.
    let P : List ℤ → Type 0 = λ xs. HaveRoom xs (paid_sizes c.args.duals.now.rows c.args.duals.now.values) in
    c.in_err-pay_rows.ensures.never (subst P (sym c.deref_mut.ensures.value)
    (room_is c.args.case.now c.args.layout.now c.args.duals.now c.in_ok-reduced.reduced.items c.in_ok-reduced.ensures.value small))

pub returns-clause-value : goal.returns-clause-value
returns-clause-value c =
    let duals = c.args.duals.now in
    let p : PricingRecord = record { case = c.args.case.now; layout = c.args.layout.now } in
    let xs = c.in_ok-reduced.reduced.items in
    let ys = c.pay_rows.new.reduced in
    let lent = ap length c.deref_mut.ensures.value in
    let same = c.pay_rows.auto.reduced in
    let own = c.in_ok-reduced.reduced.ok.0 in
    let back = written_back c.in_ok-reduced.reduced.len ys xs (omega (arith, same, lent, own)) in
    let P : List ℤ → Type 0 = λ zs. AreReduced p duals zs in
    let Q : List ℤ → Type 0 = λ zs. (n : ℕ) → n < length zs → at ys n ≡ at zs n -ℤ paid_by_rows duals.rows duals.values n in
    subst P (sym back) (reduced_are c.args.case.now c.args.layout.now duals xs ys c.in_ok-reduced.ensures.value (omega (arith, same, lent))
    (subst Q c.deref_mut.ensures.value c.in_ok-pay_rows.ensures.value))
