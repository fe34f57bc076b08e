use Rattle.std.proofs.Common.{◌≤◌, ◌∙◌, sym, ap, arith, rules, pos}
use Rattle.std.proofs.lemmas.Int.{to_z_pos}
use mir.Syntax.{w32}
use Rattle.pair_prices.specs.Pair.{buffer_of}
use Rattle.pair_classes.proofs.window.buffer_at.Goals as goal

pub overflow_cast-result : goal.overflow_cast-result
overflow_cast-result c =
    let most : c.in-Some.platform.now.buffer ≤ 60 =
    (c.args.station.now.kept.platform c.args.platform c.in-Some.platform.now (sym c.in-Some.ensures.value)).buffer in
    search rules

pub returns-in-Some-clause-value : goal.returns-in-Some-clause-value
returns-in-Some-clause-value c =
    let most : c.in-Some.platform.now.buffer ≤ 60 =
    (c.args.station.now.kept.platform c.args.platform c.in-Some.platform.now (sym c.in-Some.ensures.value)).buffer in
    to_z_pos w32 c.in-Some.platform.now.buffer (omega arith) ∙ ap (λ o. pos (buffer_of o)) c.in-Some.ensures.value

pub returns-in-Some-clause-most : goal.returns-in-Some-clause-most
returns-in-Some-clause-most c =
    let most : c.in-Some.platform.now.buffer ≤ 60 =
    (c.args.station.now.kept.platform c.args.platform c.in-Some.platform.now (sym c.in-Some.ensures.value)).buffer in
    let same = ap buffer_of c.in-Some.ensures.value in
    omega (arith, same)
