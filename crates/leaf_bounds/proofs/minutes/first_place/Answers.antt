use Rattle.std.proofs.Common.{rules}
use Rattle.std.specs.Prelude.{int_lt}
use Rattle.std.proofs.lemmas.List.Sorted.{IsPartitionPoint-from_clause}
use Rattle.leaf_bounds.specs.Listed.{minute_key}
use Rattle.leaf_bounds.proofs.MinuteLemmas.{parted, place_of_point}
use Rattle.leaf_bounds.proofs.minutes.first_place.Goals as goal

pub returns-clause-place : goal.returns-clause-place
returns-clause-place c =
    place_of_point c.args.keys.now.start c.args.values.now c.partition_point.result
    (IsPartitionPoint-from_clause (λ x. int_lt (minute_key x) c.args.keys.now.start) c.args.values.now c.partition_point.result
    c.partition_point.ensures.partitioned (parted c.args.keys.now.start c.args.values.now c.requires) (λ a r q k. search rules))
