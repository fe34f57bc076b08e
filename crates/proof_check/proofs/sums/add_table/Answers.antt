use Rattle.std.proofs.Common.{sym, ◌∙◌, subst, take, ap, List, get_or, pos, take_all}
use Rattle.std.proofs.lemmas.List.{take_more}
use Rattle.std.proofs.lemmas.Option.{slice_get-get_or}
use Rattle.std.specs.Prelude.{slice_get}
use Rattle.leaf_bounds.specs.declared.number.NumberValue.{NumberValue}
use Rattle.proof_check.proofs.AddLemmas.{ascends_on, over_by, sums_end, sums_more, SumsSoFar}
use Rattle.proof_check.specs.Tables.{group_of}
use Rattle.proof_check.proofs.sums.add_table.Goals as goal

abbrev none : NumberValue
none = record { number = 0; value = pos 0 }

pub returns-in_err-add_number : goal.returns-in_err-add_number
returns-in_err-add_number c =
    let xs = c.numbers_on-numbers.result.now in
    let k = c.loop-x.x-index in
    let lists = c.args.splits.now.lists.lists in
    let g = group_of c.args.table.now in
    let there = slice_get-get_or xs k none c.loop-x-test.true in
    over_by lists c.args.side g c.args.used.now.factor c.from_residual.result c.args.sums.now c.loop-x.sums c.add_number.new.sums k (get_or xs k none)
    c.in_err-add_number.field-0.0 c.from_residual.ensures.1 (ascends_on c.args.side c.args.table.now)
    (ap (λ (ns : List NumberValue). slice_get ns k) (sym c.numbers_on-numbers.ensures) ∙ there)
    (subst (λ (ns : List NumberValue). SumsSoFar lists c.args.side g c.args.used.now.factor (take k ns) c.args.sums.now c.loop-x.sums) c.numbers_on-numbers.ensures c.loop-x.invariant)
    c.in_err-add_number.ensures

pub loop-x-preserved : goal.loop-x-preserved
loop-x-preserved c =
    let xs = c.numbers_on-numbers.result.now in
    let k = c.loop-x.x-index in
    let lists = c.args.splits.now.lists.lists in
    let g = group_of c.args.table.now in
    subst (λ (ns : List NumberValue). SumsSoFar lists c.args.side g c.args.used.now.factor ns c.args.sums.now c.add_number.new.sums)
    (sym (take_more xs k none c.loop-x-test.true))
    (sums_more lists c.args.side g c.args.used.now.factor (take k xs) (get_or xs k none) c.args.sums.now c.loop-x.sums c.add_number.new.sums
    c.loop-x.invariant c.in_ok-add_number.ensures)

pub returns : goal.returns
returns c =
    let xs = c.numbers_on-numbers.result.now in
    let k = c.loop-x.x-index in
    let lists = c.args.splits.now.lists.lists in
    let g = group_of c.args.table.now in
    sums_end lists c.args.side g c.args.used.now.factor c.args.sums.now c.loop-x.sums
    (subst (λ (ns : List NumberValue). SumsSoFar lists c.args.side g c.args.used.now.factor ns c.args.sums.now c.loop-x.sums)
    (take_all k xs c.loop-x-test.false ∙ c.numbers_on-numbers.ensures) c.loop-x.invariant)
