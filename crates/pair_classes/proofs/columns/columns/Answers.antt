use Rattle.std.proofs.Common.{ap, length, arith, ◌∙◌}
use Rattle.station.specs.Allowed.{numbers}
use Rattle.pair_classes.specs.Classes.{column}
use Rattle.pair_classes.proofs.PricedLemmas.{length_map, length_numbers, map_numbers_more}
use Rattle.pair_classes.proofs.columns.columns.Goals as goal

pub loop-number-preserved : goal.loop-number-preserved
loop-number-preserved c =
    map_numbers_more (column c.args.case.now c.args.first c.args.second) c.loop-number.number
    c.loop-number.columns.items c.push.new.self.items c.in_ok-column.field-0 c.loop-number.invariant c.in_ok-push.ensures.items c.in_ok-column.ensures

pub returns-clause-most : goal.returns-clause-most
returns-clause-most c =
    let long = ap length c.loop-number.invariant
    ∙ length_map (column c.args.case.now c.args.first c.args.second) (numbers c.loop-number.number)
    ∙ length_numbers c.loop-number.number in
    omega (arith, long)
