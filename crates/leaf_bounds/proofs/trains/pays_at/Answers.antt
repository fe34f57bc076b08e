use Rattle.std.proofs.Common.{◌<◌, length, ◌∙◌, sym, arith, ◌+ℤ◌, pos, get_or}
use Rattle.leaf_bounds.proofs.SwapLemmas.{potentials_are}
use Rattle.leaf_bounds.proofs.WideLemmas.{three_fits, three_is, three_size}
use Rattle.leaf_bounds.proofs.trains.pays_at.Goals as goal

pub overflow_add-result-2 : goal.overflow_add-result-2
overflow_add-result-2 c =
    let there : c.args.at.now.number < length c.args.row.now = omega (arith, c.requires.number, c.requires.count) in
    three_fits c.price_of_pattern.result (get_or c.args.row.now c.args.at.now.number (pos 0)) c.held_at.result c.price_of_pattern.ensures.size
    (c.requires.within c.args.at.now.number there) c.held_at.ensures.size

pub returns-clause-value : goal.returns-clause-value
returns-clause-value c =
    let there : c.args.at.now.number < length c.args.row.now = omega (arith, c.requires.number, c.requires.count) in
    let price = c.price_of_pattern.ensures.value in
    let held = c.held_at.ensures.value in
    let row = c.requires.row c.args.at.now.number there
    ∙ sym (potentials_are c.args.case.now c.args.leaf.now c.args.at.now.train c.args.at.now.number c.requires.alpha c.requires.beta) in
    three_is c.price_of_pattern.result (get_or c.args.row.now c.args.at.now.number (pos 0)) c.held_at.result c.price_of_pattern.ensures.size
    (c.requires.within c.args.at.now.number there) c.held_at.ensures.size
    ∙ (λ i. (price i +ℤ row i) +ℤ held i)

pub returns-clause-size : goal.returns-clause-size
returns-clause-size c =
    let there : c.args.at.now.number < length c.args.row.now = omega (arith, c.requires.number, c.requires.count) in
    three_size c.price_of_pattern.result (get_or c.args.row.now c.args.at.now.number (pos 0)) c.held_at.result c.price_of_pattern.ensures.size
    (c.requires.within c.args.at.now.number there) c.held_at.ensures.size
