use Rattle.std.proofs.Common.{rules, arith, ℕ, ℤ, pos, get_or, FitsSigned, below_more}
use Rattle.std.specs.Int.{w128}
use Rattle.std.proofs.lemmas.List.Elements.{All-from_get_or}
use Rattle.ratio.proofs.row.note_ranges.Goals as goal

pub loop-place-preserved : goal.loop-place-preserved
loop-place-preserved c =
    let here : FitsSigned w128 (get_or c.args.cells.now c.loop-place.place (pos 0)) = search rules in
    let Fits : ℕ → Type 0 = λ k. FitsSigned w128 (get_or c.args.cells.now k (pos 0)) in
    below_more Fits c.loop-place.place c.loop-place.invariant here

pub returns : goal.returns
returns c = let Fits : ℤ → Type 0 = λ x. FitsSigned w128 x in All-from_get_or Fits c.args.cells.now (pos 0) (λ k kl. c.loop-place.invariant k (omega arith))
