use Rattle.std.proofs.Common.{sum, ◌≡◌, ℕ, ℤ, pos, ◌-ℤ◌, List, map, subst, sym, ap, ◌∙◌, unsigned_abs}
use Rattle.transport.specs.declared.TableCell.{TableCell}
use Rattle.transport.specs.Core.{IsSolved}
use Rattle.transport.specs.Coupling.{IsShownLeast}
use Rattle.transport.specs.Natural.{cell_of}
use Rattle.transport.proofs.Signed.{same_sizes}
use Rattle.transport.proofs.Least.{is_least}
use Rattle.transport.proofs.cells_within.Goals as goal

pub best_entries-requires-clause-totals : goal.best_entries-requires-clause-totals
best_entries-requires-clause-totals g c =
    let total = λ (l : List ℕ). sum l in
    ap total (c.deref.ensures.value ∙ c.in_ok-supply.ensures)
    ∙ same_sizes c.args.left.now c.args.right.now c.requires.left_weights c.requires.right_weights c.requires.totals
    ∙ sym (ap total (c.deref-2.ensures.value ∙ c.in_ok-demand.ensures))

pub returns : goal.returns
returns g c =
    let t = g.C.Cost.table c.args.cost.now in
    let left = c.args.left.now in
    let right = c.args.right.now in
    let entries = c.in_ok-entries.entries.items in
    let f = c.in_ok-entries.ensures.solved in
    let unlift : ℕ → ℤ = λ p. pos p -ℤ pos 10000000000000 in
    let A : List ℕ → Type 0 = λ l. IsSolved t l c.deref-2.result.now entries f.0 f.1 in
    let B : List ℕ → Type 0 = λ r. IsSolved t (map unsigned_abs left) r entries f.0 f.1 in
    let s = subst B (c.deref-2.ensures.value ∙ c.in_ok-demand.ensures) (subst A (c.deref.ensures.value ∙ c.in_ok-supply.ensures) f.2) in
    let cells_are : c.new.result ≡ map cell_of entries = c.new.ensures ∙ c.in_ok-cells.ensures ∙ ap (map cell_of) c.deref-3.ensures.value in
    let P : List TableCell → Type 0 = λ x. IsShownLeast t left right x in
    subst P (sym cells_are) record {
      alpha = map unlift f.0;
      beta = map unlift f.1;
      least = is_least t left right entries f.0 f.1 c.requires.left_weights c.requires.right_weights s c.in_ok-entries.ensures.tidy;
    }
