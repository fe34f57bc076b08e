use Rattle.std.proofs.Common.{rules, FitsSigned}
use Rattle.std.specs.Int.{w128}
use Rattle.std.proofs.lemmas.Int.{to_z-of_z}
use Rattle.dual_leaves.specs.Account.{totals_of}
use Rattle.dual_leaves.proofs.LeafLists.{leaf_lists_of}
use Rattle.dual_leaves.proofs.leaf.divided_leaf.Goals as goal

pub invariant_of-result : goal.invariant_of-result
invariant_of-result c =
    let fits : FitsSigned w128 c.args.scale.now = search rules in
    let kept = leaf_lists_of c.args.case.now c.station-station.ensures.limits c.args.layout.now c.requires.layout (totals_of c.args.account.now) c.requires.kept
    c.args.scale.now c.args.divisor.now c.requires.scale c.requires.divisor c.requires.sizes c.in_ok-train_values.field-0 c.in_ok-minute_values.field-0
    c.in_ok-pair_values.field-0 c.in_ok-pair_values-2.field-0 c.in_ok-train_values.ensures.value c.in_ok-minute_values.ensures.value
    c.in_ok-pair_values.ensures.value c.in_ok-pair_values-2.ensures.value c.train_values.ensures.sorted c.minute_values.ensures.sorted
    c.pair_values.ensures.sorted c.pair_values-2.ensures.sorted in
    simp to_z-of_z record { kept = kept }
