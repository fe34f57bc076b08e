use Rattle.std.proofs.Common.{ap, ◌∙◌, arith, length, []}
use Rattle.station.specs.Allowed.{numbers}
use Rattle.pair_classes.specs.Meetings.{places_with}
use Rattle.pair_classes.proofs.PricedLemmas.{length_map, length_numbers, map_numbers_more, numbered_at}
use Rattle.pair_classes.proofs.by_train.by_train.Goals as goal

pub loop-train-preserved : goal.loop-train-preserved
loop-train-preserved c =
    map_numbers_more (places_with c.args.pairs.now) c.loop-train.train
    c.loop-train.lists.items c.push.new.self.items c.in_ok-places_of.field-0 c.loop-train.invariant c.in_ok-push.ensures.items c.in_ok-places_of.ensures

pub returns-clause-count : goal.returns-clause-count
returns-clause-count c =
    let long = ap length c.loop-train.invariant
    ∙ length_map (places_with c.args.pairs.now) (numbers c.loop-train.train) ∙ length_numbers c.loop-train.train in
    omega (arith, long)

pub returns-clause-each : goal.returns-clause-each
returns-clause-each c t h =
    numbered_at (places_with c.args.pairs.now) c.loop-train.train c.loop-train.lists.items t [] c.loop-train.invariant (omega (arith, h))
