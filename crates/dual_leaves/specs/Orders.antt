-- The orders of the keys: by their parts, one after the other.
use Rattle.std.specs.Ordering.{nat_cmp, int_cmp, ordering_then}
use Rattle.std.specs.declared.cmp.Ordering.{Ordering}
use Rattle.dual_leaves.specs.declared.key.MinuteKey.{MinuteKey}
use Rattle.dual_leaves.specs.declared.key.PairKey.{PairKey}

abbrev pub minute_order : MinuteKey → MinuteKey → Ordering
minute_order x y = ordering_then (nat_cmp x.platform y.platform) (int_cmp x.minute y.minute)

abbrev pub pair_order : PairKey → PairKey → Ordering
pair_order x y = ordering_then (nat_cmp x.first y.first) (ordering_then (nat_cmp x.second y.second) (nat_cmp x.number y.number))
