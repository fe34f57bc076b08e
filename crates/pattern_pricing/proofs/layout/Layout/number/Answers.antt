use Rattle.std.proofs.Common.{◌≡◌, ◌∙◌, ℕ, sym, subst, Some}
use Rattle.std.specs.Prelude.{slice_get}
use Rattle.pattern_pricing.specs.Layout.{columns_of}
use Rattle.pattern_pricing.proofs.Places.{at_position, position_of}
use Rattle.pattern_pricing.proofs.layout.Layout.number.Goals as goal

pub returns-clause-value : goal.returns-clause-value
returns-clause-value c =
    let l = c.args.self.now in
    let P : ℕ → Type 0 = λ n. slice_get (columns_of l) n ≡ Some c.args.column.now in
    subst P (sym c.position.ensures) (at_position l c.args.column.now c.requires)

pub returns-clause-alone : goal.returns-clause-alone
returns-clause-alone c = λ n e. position_of c.args.self.now n c.args.column.now e ∙ sym c.position.ensures
