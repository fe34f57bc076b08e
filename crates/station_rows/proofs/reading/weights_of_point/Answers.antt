use Rattle.std.proofs.Common.{◌≡◌, ◌∙◌, ◌+◌, ℕ, ℤ, List, FitsSigned, ap, arith, length, rules, subst}
use Rattle.std.specs.Int.{w128}
use Rattle.std.specs.List.{between}
use Rattle.std.proofs.lemmas.Int.{to_z-of_z}
use Rattle.exact_lp.specs.declared.point.ColumnWeight.{ColumnWeight}
use Rattle.pattern_pricing.specs.Positions.{patterns_in, start_of}
use Rattle.station_rows.specs.Written.{AreWeights, train_parts}
use Rattle.station_rows.proofs.Read.{point_weights}
use Rattle.station_rows.proofs.reading.weights_of_point.Goals as goal

pub returns : goal.returns
returns c =
    let trains = c.trains-trains.ensures.value in
    let platforms = c.platforms-platforms.ensures.value in
    let lefts : c.start-lefts.result ≡ patterns_in c.args.layout.now = c.start-lefts.ensures.value ∙ ap (start_of c.args.layout.now) trains in
    let fits : FitsSigned w128 c.args.point.now.scale = search rules in
    let scale = to_z-of_z w128 c.args.point.now.scale fits in
    let part : ℕ → ℕ → List ℤ → List ℤ = λ a b xs. between a (a + b) xs in
    let same : c.start-lefts.result + c.trains-trains.result + c.platforms-platforms.result ≡ patterns_in c.args.layout.now + length c.args.layout.now.lists + c.args.layout.now.platforms =
    omega (arith, lefts, trains, platforms) in
    let P : List ColumnWeight → Type 0 = λ ws. AreWeights ws (c.start-lefts.result + c.trains-trains.result + c.platforms-platforms.result) c.in_ok-all.all.items in
    let Q : ℕ → Type 0 = λ n. AreWeights c.args.point.now.weights n c.in_ok-all.all.items in
    let are = subst Q same (subst P c.as_slice.ensures c.in_ok-all.ensures) in
    let weight = c.from_vec.ensures ∙ c.in_ok-weight.ensures ∙ ap (λ xs. train_parts c.args.layout.now xs (length c.args.layout.now.lists)) c.deref.ensures.value in
    let left = c.in_ok-left.ensures ∙ ap (part c.start-lefts.result c.trains-trains.result) c.deref-2.ensures.value
    ∙ ap (λ a. part a c.trains-trains.result c.in_ok-all.all.items) lefts ∙ ap (λ b. part (patterns_in c.args.layout.now) b c.in_ok-all.all.items) trains in
    let used = c.in_ok-used.ensures ∙ ap (part (c.start-lefts.result + c.trains-trains.result) c.platforms-platforms.result) c.deref-3.ensures.value
    ∙ ap (λ a. part (a + c.trains-trains.result) c.platforms-platforms.result c.in_ok-all.all.items) lefts
    ∙ ap (λ a. part (patterns_in c.args.layout.now + a) c.platforms-platforms.result c.in_ok-all.all.items) trains
    ∙ ap (λ b. part (patterns_in c.args.layout.now + length c.args.layout.now.lists) b c.in_ok-all.all.items) platforms in
    point_weights c.args.layout.now c.args.point.now c.in_ok-all.all.items _ are scale weight left used
