use Rattle.std.proofs.Common.{◌≡◌, ℤ, pos, Result, Err, ap, sym, ◌∙◌, ◌<ℤ◌, arith}
use Rattle.std.proofs.lemmas.Int.{ints, to_z_pos}
use mir.Syntax.{w128}
use Rattle.transport.specs.declared.NoCouple.{NoCouple}
use Rattle.transport.specs.declared.NoCouple.TheVariants.{Scale}
use Rattle.transport.specs.Coupling.{total}
use Rattle.transport.proofs.Signed.{total_is}
use Rattle.transport.proofs.check_total.Goals as goal

pub total_size-total-requires : goal.total_size-total-requires
total_size-total-requires c =
    let e = total_is c.args.weights.now c.requires.weights in
    let b = c.requires.bounded in
    omega (arith, ints)

pub overflow_cast-result : goal.overflow_cast-result
overflow_cast-result c =
    let e = total_is c.args.weights.now c.requires.weights in
    let b = c.requires.bounded in
    let n = c.total_size-total.ensures in
    record { sfits = omega (arith, ints) }

pub returns-then-total-gt-MOST_TOTAL-clause-scale : goal.returns-then-total-gt-MOST_TOTAL-clause-scale
returns-then-total-gt-MOST_TOTAL-clause-scale c = λ n.
    let e = total_is c.args.weights.now c.requires.weights in
    let b = c.requires.bounded in
    let s = c.total_size-total.ensures in
    let t = to_z_pos w128 c.total_size-total.result (omega (arith, ints)) ∙ ap pos s ∙ sym e in
    let above : pos 1000000000000000000000000 <ℤ total c.args.weights.now = let m = c.if-total-gt-MOST_TOTAL.true in omega (arith, ints) in
    let refused : ℤ → Result (Unit {0}) NoCouple = λ z. Err (Scale z) in
    (λ h. (same h ∙ t, above), λ h. ap refused (t ∙ sym h.0))
  where
    same : {a b : ℤ} → ◌≡◌ {A = Result (Unit {0}) NoCouple} (Err (Scale a)) (Err (Scale b)) → b ≡ a
    same h = cc

pub returns-clause-scale : goal.returns-clause-scale
returns-clause-scale c = λ n.
    let e = total_is c.args.weights.now c.requires.weights in
    let s = c.total_size-total.ensures in
    let m = c.if-total-gt-MOST_TOTAL.false in
    (λ h. cc, λ h. absurd (let a = h.1 in omega (arith, ints)))
