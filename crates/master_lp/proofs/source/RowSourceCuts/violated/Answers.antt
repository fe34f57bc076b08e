use Rattle.std.proofs.Common.{subst, sym}
use Rattle.std.specs.Prelude.{IfNone, IfSome}
use Rattle.std.specs.List.{All}
use Rattle.exact_lp.specs.declared.row.Row.{Row}
use Rattle.exact_lp.specs.Programs.{Holds}
use Rattle.station_rows.specs.Rows.{StandsIn}
use Rattle.master_lp.specs.Source.{SourceRecord}
use Rattle.master_lp.proofs.AllHold.{none_in, off_in}
use Rattle.master_lp.proofs.source.RowSourceCuts.violated.Goals as goal

pub violated_row-requires-clause-opening : goal.violated_row-requires-clause-opening
violated_row-requires-clause-opening c =
    let P : SourceRecord → Type 0 = λ s. All (λ (row : Row). Holds row c.args.point.now) s.opening in
    (c.self.inside.opening, c.self.invariant.opened.trains, subst P (sym c.self.view_is) c.requires.opening)

pub returns-clause-some : goal.returns-clause-some
returns-clause-some c =
    let found = c.in_ok-found.found in
    let point = c.args.point.now in
    let P : SourceRecord → Type 0 = λ s. IfSome found (λ (row : Row). StandsIn s.case s.layout row × (Holds row point → ⊥)) in
    subst P c.self.view_is
    (off_in c.self.inside.case.now c.self.inside.layout.now point
    ((row : Row) → StandsIn c.self.inside.case.now c.self.inside.layout.now row → Holds row point) found c.in_ok-found.ensures)

pub returns-clause-none : goal.returns-clause-none
returns-clause-none c =
    let found = c.in_ok-found.found in
    let point = c.args.point.now in
    let P : SourceRecord → Type 0 = λ s. IfNone found ((row : Row) → StandsIn s.case s.layout row → Holds row point) in
    subst P c.self.view_is
    (none_in c.self.inside.case.now c.self.inside.layout.now point
    ((row : Row) → StandsIn c.self.inside.case.now c.self.inside.layout.now row → Holds row point) found c.in_ok-found.ensures)
