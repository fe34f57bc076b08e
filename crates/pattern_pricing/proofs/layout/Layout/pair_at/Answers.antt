use Rattle.std.proofs.Common.{length, arith}
use Rattle.pattern_pricing.specs.Positions.{later_trains, pair_start}
use Rattle.pattern_pricing.proofs.Sums.{parts_some, parts_last, part_is}
use Rattle.pattern_pricing.proofs.layout.Layout.pair_at.Goals as goal

pub part_at-first-requires-clause-some : goal.part_at-first-requires-clause-some
unfolding pair_start
part_at-first-requires-clause-some c =
    let l = c.args.self.now in
    parts_some (later_trains l) (length l.lists) c.starts_of_pairs-starts.result.now c.starts_of_pairs-starts.ensures c.args.number c.requires

pub part_at-first-requires-clause-last : goal.part_at-first-requires-clause-last
unfolding pair_start
part_at-first-requires-clause-last c =
    let l = c.args.self.now in
    parts_last (later_trains l) (length l.lists) c.starts_of_pairs-starts.result.now c.starts_of_pairs-starts.ensures c.args.number c.requires

pub returns-clause-there : goal.returns-clause-there
unfolding pair_start
returns-clause-there c =
    let l = c.args.self.now in
    let p = c.part_at-first.ensures in
    let found = part_is (later_trains l) (length l.lists) c.starts_of_pairs-starts.result.now c.starts_of_pairs-starts.ensures c.args.number c.requires
    c.part_at-first.result p.inside p.begins p.ends in
    let below = found.below in
    (omega arith, omega (arith, below))

pub returns-clause-place : goal.returns-clause-place
unfolding pair_start
returns-clause-place c =
    let l = c.args.self.now in
    let p = c.part_at-first.ensures in
    let found = part_is (later_trains l) (length l.lists) c.starts_of_pairs-starts.result.now c.starts_of_pairs-starts.ensures c.args.number c.requires
    c.part_at-first.result p.inside p.begins p.ends in
    let adds = found.adds in
    omega (arith, adds)
