use Rattle.std.proofs.Common.{sum, ◌≡◌, ℕ, ℤ, pos, ◌-ℤ◌, List, map, subst, sym, ap, ◌∙◌, unsigned_abs}
use Rattle.transport.specs.declared.TableCell.{TableCell}
use Rattle.transport.specs.Core.{IsSolved}
use Rattle.transport.specs.Coupling.{IsLeastCoupling}
use Rattle.transport.specs.Natural.{cell_of}
use Rattle.transport.proofs.Signed.{same_sizes}
use Rattle.transport.proofs.Least.{is_least}
use Rattle.transport.proofs.couple_within.Goals as goal

pub best-requires-clause-totals : goal.best-requires-clause-totals
best-requires-clause-totals g c =
    let total = λ (l : List ℕ). sum l in
    ap total (c.deref.ensures.value ∙ c.in_ok-supply.ensures)
    ∙ same_sizes c.args.left.now c.args.right.now c.requires.left_weights c.requires.right_weights c.requires.totals
    ∙ sym (ap total (c.deref-2.ensures.value ∙ c.in_ok-demand.ensures))

pub returns : goal.returns
returns g c =
    let t = g.C.Cost.table c.args.cost.now in
    let left = c.args.left.now in
    let right = c.args.right.now in
    let solved = c.in_ok-solved.solved in
    let unlift : ℕ → ℤ = λ p. pos p -ℤ pos 10000000000000 in
    let A : List ℕ → Type 0 = λ l. IsSolved t l c.deref-2.result.now solved.entries.items solved.rows.items solved.columns.items in
    let B : List ℕ → Type 0 = λ r. IsSolved t (map unsigned_abs left) r solved.entries.items solved.rows.items solved.columns.items in
    let s = subst B (c.deref-2.ensures.value ∙ c.in_ok-demand.ensures) (subst A (c.deref.ensures.value ∙ c.in_ok-supply.ensures) c.in_ok-solved.ensures.solved) in
    let cells_are : c.new.result ≡ map cell_of solved.entries.items = c.new.ensures ∙ c.in_ok-cells.ensures ∙ ap (map cell_of) c.deref-3.ensures.value in
    let alpha_is : c.new-2.result ≡ map unlift solved.rows.items = c.new-2.ensures ∙ c.in_ok-alpha.ensures ∙ ap (map unlift) c.deref-4.ensures.value in
    let beta_is : c.new-3.result ≡ map unlift solved.columns.items = c.new-3.ensures ∙ c.in_ok-beta.ensures ∙ ap (map unlift) c.deref-5.ensures.value in
    let P : List TableCell → Type 0 = λ x. IsLeastCoupling t left right x c.new-2.result c.new-3.result in
    let Q : List ℤ → Type 0 = λ x. IsLeastCoupling t left right (map cell_of solved.entries.items) x c.new-3.result in
    let R : List ℤ → Type 0 = λ x. IsLeastCoupling t left right (map cell_of solved.entries.items) (map unlift solved.rows.items) x in
    subst P (sym cells_are) (subst Q (sym alpha_is) (subst R (sym beta_is)
    (is_least t left right solved.entries.items solved.rows.items solved.columns.items c.requires.left_weights c.requires.right_weights s c.in_ok-solved.ensures.tidy)))
