use Rattle.std.proofs.Common.{rules, arith, ◌≡◌, ◌<◌, ℕ, length, pos, get_or, FitsSigned, refl}
use Rattle.std.specs.Int.{w128}
use Rattle.std.proofs.lemmas.Int.{ints, to_z-of_z}
use Rattle.ratio.specs.Cells.{combined, divided, CombinationFits, IsContent}
use Rattle.ratio.proofs.Rows.{Factors, factors, along, plain_elimination_fits, plain_eliminated, plain_solutions, has_content, keeps_solutions}
use Rattle.ratio.proofs.row.eliminate_cells.Goals as goal
use Rattle.ratio.proofs.row.eliminate_cells.Goals.{After-quotient-taken, Else-not-combination_fits, Then-cell-eq0, After-divide_by_content-2}

-- the factors of the two rows
found : (c : After-quotient-taken) → Factors (get_or c.args.other.now c.args.column (pos 0)) (get_or c.args.cells.now c.args.column (pos 0)) c.quotient-factor.result c.quotient-taken.result
found c =
    let fp : FitsSigned w128 (get_or c.args.other.now c.args.column (pos 0)) = search rules in
    let fs : FitsSigned w128 (get_or c.args.cells.now c.args.column (pos 0)) = search rules in
    let fg : FitsSigned w128 c.common_divisor-common.result = search rules in
    let f = simp to_z-of_z at c.quotient-factor.ensures in
    let t = simp to_z-of_z at c.quotient-taken.ensures in
    let is = simp to_z-of_z at c.common_divisor-common.ensures.greatest in
    factors _ _ c.common_divisor-common.result _ _ c.requires.positive c.common_divisor-common.ensures.positive is f t

pub returns-then-not-combination_fits-clause-fits : goal.returns-then-not-combination_fits-clause-fits
returns-then-not-combination_fits-clause-fits c =
    let k = found (goal.at.returns-then-not-combination_fits-clause-fits c).After-quotient-taken in
    let ff : FitsSigned w128 c.quotient-factor.result = search rules in
    let ft : FitsSigned w128 c.quotient-taken.result = search rules in
    let fails = simp to_z-of_z at c.if-not-combination_fits.ensures in
    (λ t. cc, λ all. fails.1 (along c.args.cells.now c.args.other.now (k.f_is k.divisor k.divisor_is) (k.t_is k.divisor k.divisor_is) (all k.divisor k.divisor_is)))

-- the combination fits, since the test said so
fits : (c : Else-not-combination_fits) → CombinationFits c.quotient-factor.result c.quotient-taken.result c.args.cells.now c.args.other.now
fits c =
    let ff : FitsSigned w128 c.quotient-factor.result = search rules in
    let ft : FitsSigned w128 c.quotient-taken.result = search rules in
    let holds = simp to_z-of_z at c.if-not-combination_fits.ensures in
    holds.0 refl

pub combine-requires-clause-fits : goal.combine-requires-clause-fits
combine-requires-clause-fits c =
    let ff : FitsSigned w128 c.quotient-factor.result = search rules in
    let ft : FitsSigned w128 c.quotient-taken.result = search rules in
    simp to_z-of_z (fits (goal.at.combine-requires-clause-fits c).Else-not-combination_fits)

pub returns-clause-fits : goal.returns-clause-fits
returns-clause-fits c =
    let at = goal.at.returns-clause-fits c in
    let k = found at.After-quotient-taken in
    (λ _ g h. rw (← k.f_is g h, ← k.t_is g h) (fits at.Else-not-combination_fits), λ _. refl)

-- the row that `combine` and `divide_by_content` leave
left : (c : After-divide_by_content-2) → (g : ℕ) → IsContent g (combined c.quotient-factor.result c.quotient-taken.result c.args.cells.now c.args.other.now) → c.divide_by_content-2.new.cells ≡ divided g (combined c.quotient-factor.result c.quotient-taken.result c.args.cells.now c.args.other.now)
left c =
    let ff : FitsSigned w128 c.quotient-factor.result = search rules in
    let ft : FitsSigned w128 c.quotient-taken.result = search rules in
    let is = simp to_z-of_z at c.combine.ensures in
    rw is at c.divide_by_content-2.ensures

pub returns-clause-ok : goal.returns-clause-ok
returns-clause-ok c =
    let at = goal.at.returns-clause-ok c in
    let k = found at.After-quotient-taken in
    let h = has_content (combined c.quotient-factor.result c.quotient-taken.result c.args.cells.now c.args.other.now) in
    let f = k.f_is k.divisor k.divisor_is in
    let t = k.t_is k.divisor k.divisor_is in
    record { divisor = k.divisor; content = h.0; divisor_is = k.divisor_is; content_is = rw (← f, ← t) h.1; cells = rw (← f, ← t) (left at.After-divide_by_content-2 h.0 h.1) }

pub returns-clause-solutions : goal.returns-clause-solutions
returns-clause-solutions c =
    let at = goal.at.returns-clause-solutions c in
    let k = found at.After-quotient-taken in
    let h = has_content (combined c.quotient-factor.result c.quotient-taken.result c.args.cells.now c.args.other.now) in
    rw (left at.After-divide_by_content-2 h.0 h.1)
    (keeps_solutions c.quotient-factor.result c.quotient-taken.result h.0 c.args.other.now c.args.cells.now k.above c.requires.lengths h.1)

-- ---- a cell of 0
none : (c : Then-cell-eq0) → get_or c.args.cells.now c.args.column (pos 0) ≡ pos 0
none c =
    let fs : FitsSigned w128 (get_or c.args.cells.now c.args.column (pos 0)) = search rules in
    let e = c.if-cell-eq0.true in
    omega (arith, ints)

pub returns-then-cell-eq0-clause-fits : goal.returns-then-cell-eq0-clause-fits
returns-then-cell-eq0-clause-fits c =
    let fits : (k : ℕ) → k < length c.args.cells.now → FitsSigned w128 (get_or c.args.cells.now k (pos 0)) = λ k kl. c.note_ranges.ensures k (pos 0) kl in
    (λ _. plain_elimination_fits _ _ c.args.cells.now c.args.other.now c.requires.positive (none (goal.at.returns-then-cell-eq0-clause-fits c).Then-cell-eq0) fits, λ _. refl)

pub returns-then-cell-eq0-clause-ok : goal.returns-then-cell-eq0-clause-ok
returns-then-cell-eq0-clause-ok c = plain_eliminated _ _ c.args.cells.now c.args.other.now c.divide_by_content.new.cells c.requires.positive (none (goal.at.returns-then-cell-eq0-clause-ok c).Then-cell-eq0) c.requires.lengths c.divide_by_content.ensures

pub returns-then-cell-eq0-clause-solutions : goal.returns-then-cell-eq0-clause-solutions
returns-then-cell-eq0-clause-solutions c = plain_solutions c.args.cells.now c.args.other.now c.divide_by_content.new.cells c.requires.lengths c.divide_by_content.ensures
