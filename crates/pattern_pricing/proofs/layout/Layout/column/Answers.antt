use Rattle.std.proofs.Common.{◌≡◌, ℕ, subst, Some}
use Rattle.std.specs.Prelude.{slice_get}
use Rattle.pattern_pricing.specs.Layout.{columns_of}
use Rattle.pattern_pricing.proofs.Places.{at_position}
use Rattle.pattern_pricing.proofs.layout.Layout.column.Goals as goal

pub returns-clause-value : goal.returns-clause-value
returns-clause-value c =
    let l = c.args.self.now in
    let P : ℕ → Type 0 = λ n. slice_get (columns_of l) n ≡ Some c.column_at.result in
    subst P c.column_at.ensures.place (at_position l c.column_at.result c.column_at.ensures.there)
