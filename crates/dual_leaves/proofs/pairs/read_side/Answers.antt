use Rattle.std.proofs.Common.{◌≡◌, ◌<◌, ℕ, length, get_or, sym, ap, ◌∙◌, subst, arith, rules, FitsSigned}
use Rattle.std.specs.Int.{w128}
use Rattle.std.proofs.lemmas.Int.{to_z-of_z}
use Rattle.exact_lp.specs.Columns.{value_at}
use Rattle.patterns.specs.Allowed.{list_of}
use Rattle.pattern_pricing.specs.Layout.{weight_column}
use Rattle.pattern_pricing.specs.Positions.{position}
use Rattle.pattern_pricing.proofs.Places.{position_of}
use Rattle.dual_leaves.specs.Shares.{train_of, AreSharesAdded}
use Rattle.dual_leaves.proofs.Shares.{key_there, shares_none, shares_more}
use Rattle.dual_leaves.proofs.pairs.read_side.Goals as goal
use Rattle.dual_leaves.proofs.pairs.read_side.Goals.{After-numbers_in-numbers}

list_is : (c : After-numbers_in-numbers) → c.numbers_in-numbers.result.now ≡ list_of c.args.layout.now.lists (train_of c.args.at.now c.args.side)
list_is c = c.numbers_in-numbers.ensures ∙ (λ i. list_of (sym c.requires.same i) (c.train_of-train.ensures i))

pub loop-place-init : goal.loop-place-init
loop-place-init c = record {
  shares = shares_none c.args.layout.now c.args.row.now c.args.at.now c.args.side c.args.value.now c.args.sums.now.entries;
  ledger = omega arith;
}

pub loop-place-preserved : goal.loop-place-preserved
loop-place-preserved c =
    let l = c.args.layout.now in
    let at = c.args.at.now in
    let side = c.args.side in
    let place = c.loop-place.place in
    let long = ap length (list_is (goal.at.loop-place-preserved c).After-numbers_in-numbers) in
    let test = c.loop-place-test.true in
    let inside : place < length (list_of l.lists (train_of at side)) = omega (arith, long, test) in
    let column = position_of l c.number-column.result _ c.number-column.ensures.value ∙ ap (λ t. position l (weight_column t place)) c.train_of-train.ensures in
    let fits : FitsSigned w128 c.value.result = search rules in
    let added = simp to_z-of_z at c.in_ok-add_share.ensures.added in
    let before = c.loop-place.invariant.ledger in
    let here = c.in_ok-add_share.ensures.ledger in
    record {
      shares = shares_more l c.args.row.now at side c.args.value.now place c.args.sums.now.entries c.loop-place.sums.entries c.add_share.new.sums.entries
          _ c.value.result c.loop-place.invariant.shares added
          (λ i. record { first = at.first; second = at.second; number = get_or (list_is (goal.at.loop-place-preserved c).After-numbers_in-numbers i) place 0 })
          (c.value.ensures ∙ ap (value_at c.args.row.now.cells) column)
          (key_there l at side place c.requires.order c.requires.there inside);
      ledger = omega (arith, before, here);
    }

pub returns-clause-read : goal.returns-clause-read
returns-clause-read c =
    let l = c.args.layout.now in
    let at = c.args.at.now in
    let side = c.args.side in
    let long = ap length (list_is (goal.at.returns-clause-read c).After-numbers_in-numbers) in
    let test = c.loop-place-test.false in
    let most = c.loop-place.auto.place-end in
    let all : c.loop-place.place ≡ length (list_of l.lists (train_of at side)) = omega (arith, long, test, most) in
    subst (λ (n : ℕ). AreSharesAdded l c.args.row.now at side c.args.value.now n c.args.sums.now.entries c.loop-place.sums.entries) all
    c.loop-place.invariant.shares
