use Rattle.std.proofs.Common.{length}
use Rattle.pattern_pricing.specs.Positions.{list_size, start_of}
use Rattle.pattern_pricing.proofs.Sums.{parts_some, parts_last, part_is}
use Rattle.pattern_pricing.proofs.layout.Layout.weight_at.Goals as goal
use Rattle.pattern_pricing.proofs.layout.Layout.weight_at.Goals.{After-part_at-train}

pub part_at-train-requires-clause-some : goal.part_at-train-requires-clause-some
unfolding start_of
part_at-train-requires-clause-some c =
    let l = c.args.self.now in
    parts_some (list_size l) (length l.lists) c.starts-starts.result.now c.starts-starts.ensures c.args.number c.requires

pub part_at-train-requires-clause-last : goal.part_at-train-requires-clause-last
unfolding start_of
part_at-train-requires-clause-last c =
    let l = c.args.self.now in
    parts_last (list_size l) (length l.lists) c.starts-starts.result.now c.starts-starts.ensures c.args.number c.requires

pub returns-clause-there : goal.returns-clause-there
unfolding start_of
returns-clause-there c =
    let l = c.args.self.now in
    let p = c.part_at-train.ensures in
    let found = part_is (list_size l) (length l.lists) c.starts-starts.result.now c.starts-starts.ensures c.args.number c.requires
    c.part_at-train.result p.inside p.begins p.ends in
    (found.inside, found.below)

pub returns-clause-place : goal.returns-clause-place
unfolding start_of
returns-clause-place c =
    let l = c.args.self.now in
    let p = c.part_at-train.ensures in
    (part_is (list_size l) (length l.lists) c.starts-starts.result.now c.starts-starts.ensures c.args.number c.requires
    c.part_at-train.result p.inside p.begins p.ends).adds
