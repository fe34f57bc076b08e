use Rattle.std.proofs.Common.{arith, ◌≡◌, ◌∙◌, ap, subst, sym, refl, pos, ◌<ℤ◌, ◌≤ℤ◌, List, ℤ, ℕ, Option, rules, FitsSigned, to_z-of_z, length, get_or, ◌+◌, ◌<◌, ◌≤◌}
use Rattle.std.specs.Int.{w128}
use Rattle.std.proofs.lemmas.Int.{ints}
use Rattle.std.proofs.lemmas.Bool.Decides.{nat_tests}
use Rattle.ratio.specs.Cells.{cell_at}
use Rattle.exact_lp.specs.Places.{place_of}
use Rattle.exact_lp.specs.declared.choice.Candidate.{Candidate}
use Rattle.exact_lp.proofs.Chosen.{IsBestOf, taken_in, passed_over, none_left}
use Rattle.exact_lp.proofs.choice.leaving.Goals as goal
use Rattle.exact_lp.proofs.choice.leaving.Goals.{then-den-gt0, else-den-gt0}

pub loop-at-preserved : goal.loop-at-preserved
loop-at-preserved c =
    let place = place_of c.args.variable in
    let n = c.loop-at.at in
    let rows = c.args.table.now.rows.items in
    let row = c.row-item.result in
    let M : Option Candidate → Type 0 = λ b. IsBestOf rows place (n + 1) b in
    let same : c.deref-row-items.result.now ≡ rows = c.deref-row-items.ensures.value in
    let inside : n < length rows = subst (λ (xs : List (List ℤ)). n < length xs) same c.loop-at-test.true in
    let is : row ≡ get_or rows n row = subst (λ (xs : List (List ℤ)). row ≡ get_or xs n row) same c.row-item.is in
    let value : c.cell-den.result ≡ cell_at row place = c.cell-den.ensures ∙ ap (λ (p : ℕ). cell_at row p) c.place.ensures in
    let fits : FitsSigned w128 c.cell-den.result = search rules in
    elim c.if-den-gt0.branch [
      | then-den-gt0 w ↦
          let above : pos 0 <ℤ c.cell-den.result = let h = simp to_z-of_z at w.if-den-gt0.true in grind (arith, ints, nat_tests, h) in
          subst M (sym w.best-is) (taken_in rows place n row c.loop-at.best _ w.better.result inside is refl (subst (λ (z : ℤ). pos 0 <ℤ z) value above) c.loop-at.invariant w.better.ensures)
      | else-den-gt0 w ↦
          let below : c.cell-den.result ≤ℤ pos 0 = let h = simp to_z-of_z at w.if-den-gt0.false in grind (arith, ints, nat_tests, h) in
          subst M (sym w.best-is) (passed_over rows place n row c.loop-at.best inside is (subst (λ (z : ℤ). z ≤ℤ pos 0) value below) c.loop-at.invariant)
    ]

pub returns-clause-none : goal.returns-clause-none
returns-clause-none c =
    let rows = c.args.table.now.rows.items in
    let all : length rows ≤ c.loop-at.at = subst (λ (xs : List (List ℤ)). length xs ≤ c.loop-at.at) c.deref-row-items.ensures.value c.loop-at-test.false in
    none_left rows (place_of c.args.variable) c.loop-at.at c.loop-at.best c.map.result all c.loop-at.invariant c.map.ensures.variant
