use Rattle.std.proofs.Common.{List, ℕ, sym, subst, ◌∙◌}
use Rattle.exact_lp.specs.declared.row.Row.{Row}
use Rattle.exact_lp.specs.Sources.{OpeningMeets}
use Rattle.station_rows.specs.Rows.{StandsIn}
use Rattle.master_lp.specs.Source.{SourceRecord}
use Rattle.master_lp.proofs.source.RowSourceCuts.opening.Goals as goal

pub returns-clause-meets : goal.returns-clause-meets
returns-clause-meets c =
    λ row stands.
    let rows = c.in_ok-rows.ensures ∙ c.as_slice.ensures in
    let own = c.new-columns.ensures ∙ c.in_ok-from_slice.ensures.items ∙ c.as_slice-2.ensures in
    let P : SourceRecord → Type 0 = λ s. StandsIn s.case s.layout row in
    let Q : List ℕ → Type 0 = λ xs. OpeningMeets c.self.inside.opening xs row in
    let R : List Row → Type 0 = λ xs. OpeningMeets xs c.new-columns.result row in
    subst R (sym rows) (subst Q (sym own) (c.self.invariant.opened.meets row (subst P (sym c.self.view_is) stands)))
