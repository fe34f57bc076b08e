use Rattle.std.proofs.Common.{arith, ◌≡◌, ◌≤◌, ◌<◌, ◌+◌, sym, ap, subst, length, List, take, ◌∙◌, ◌++◌, ◌∷◌, [], length-append}
use Rattle.std.specs.Prelude.{All}
use Rattle.exact_lp.specs.declared.row.Row.{Row}
use Rattle.exact_lp.specs.Programs.{Holds}
use Rattle.exact_lp.proofs.Search.{IsGiven, given-more, prefix-more, prefix-all, cause-wider, next-wider}
use Rattle.exact_lp.proofs.engine.search.Goals as goal

pub returns-in-Given-clause-weak : goal.returns-in-Given-clause-weak
returns-in-Given-clause-weak g c =
    let cause = rw c.in-Given.is at c.in_ok-ready.ensures.settled in
    let opening = g.K.Cuts.opening_rows c.args.cuts.now in
    let long : length c.loop-round.rows ≤ length opening + c.args.limits.now.rounds = omega (arith, c.loop-round.invariant.long, c.loop-round-test.true) in
    cause-wider c.args.limits.now (length c.loop-round.rows) _ _ c.args.width.now c.loop-round.width c.settle.new.width c.in-Given.cause long c.loop-round.invariant.ledger cause

pub violated-requires-clause-opening : goal.violated-requires-clause-opening
violated-requires-clause-opening g c =
    let ready = rw c.in-Shown.is at c.in_ok-ready.ensures.settled in
    let P : Row → Type 0 = λ row. Holds row c.in-Shown.ready.point in
    subst (All P) (sym c.loop-round.invariant.opening_is)
    (prefix-all P (g.K.Cuts.opening_rows c.args.cuts.now) c.loop-round.rows c.loop-round.invariant.prefix ready.hold)

pub returns-in_default-clause-exact : goal.returns-in_default-clause-exact
returns-in_default-clause-exact g c =
    let ready = rw c.in-Shown.is at c.in_ok-ready.ensures.settled in
    let none = rw c.in_default.is at c.in_ok-row.ensures.none in
    let inv = c.loop-round.invariant in
    let P : Row → Type 0 = λ row. Holds row c.in-Shown.ready.point in
    record {
      within = ready.within;
      opening_hold = prefix-all P (g.K.Cuts.opening_rows c.args.cuts.now) c.loop-round.rows inv.prefix ready.hold;
      standing_hold = λ row so. none row ((c.in_ok-row.ensures.same_standing row).1 ((inv.standing_is row).1 so));
      rows_given = subst (All (IsGiven (g.K.Cuts.opening_rows c.args.cuts.now) (g.K.Cuts.stands c.args.cuts.now))) (sym ready.rows_are) inv.given;
      not_improving = ready.not_improving;
      same_cost = ready.cost;
    }

pub returns-then-cells-limits-clause-weak : goal.returns-then-cells-limits-clause-weak
returns-then-cells-limits-clause-weak g c =
    let ready = rw c.in-Shown.is at c.in_ok-ready.ensures.settled in
    let opening = g.K.Cuts.opening_rows c.args.cuts.now in
    let long : length c.loop-round.rows < length opening + c.args.limits.now.rounds = omega (arith, c.loop-round.invariant.long, c.loop-round-test.true) in
    let cells = rw (c.as_slice-in-loop-round-2.ensures, ready.rows_are, c.count-in-loop-round.ensures.count) at c.next_cells-cells.ensures in
    (c.if-cells-limits.true, next-wider (length c.loop-round.rows) _ _ c.next_cells-cells.result long cells)

pub loop-round-preserved : goal.loop-round-preserved
loop-round-preserved g c =
    let ready = rw c.in-Shown.is at c.in_ok-ready.ensures.settled in
    let some = rw c.in-Some.is at c.in_ok-row.ensures.some in
    let inv = c.loop-round.invariant in
    let opening = g.K.Cuts.opening_rows c.args.cuts.now in
    let row = c.in-Some.row in
    let e : c.in_ok-rows-2.rows ≡ c.loop-round.rows ++ row ∷ [] = c.in_ok-rows-2.ensures ∙ ap (λ (xs : List Row). xs ++ row ∷ []) ready.rows_are in
    let so = (inv.standing_is row).0 ((c.in_ok-row.ensures.same_standing row).0 some.0) in
    record {
      opening_is = c.in_ok-row.ensures.same_opening ∙ inv.opening_is;
      standing_is = λ r. (λ h. (inv.standing_is r).0 ((c.in_ok-row.ensures.same_standing r).0 h), λ h. (c.in_ok-row.ensures.same_standing r).1 ((inv.standing_is r).1 h));
      prefix = subst (λ (xs : List Row). take (length opening) xs ≡ opening) (sym e) (prefix-more opening c.loop-round.rows row inv.prefix);
      given = subst (All (IsGiven opening (g.K.Cuts.stands c.args.cuts.now))) (sym e) (given-more opening c.loop-round.rows (g.K.Cuts.stands c.args.cuts.now) row inv.given so);
      long = omega (arith, ap length e, length-append c.loop-round.rows (row ∷ []), inv.long);
      table = c.in_ok-add_row.ensures.table;
      ledger = omega (arith, inv.ledger, c.in_ok-ready.ensures.ledger, c.in_ok-row.ensures.ledger, c.in_ok-add_row.ensures.ledger);
    }

pub returns-in_default-clause-scales : goal.returns-in_default-clause-scales
returns-in_default-clause-scales g c = let ready = rw c.in-Shown.is at c.in_ok-ready.ensures.settled in (ready.scale, ready.duals_scale)
