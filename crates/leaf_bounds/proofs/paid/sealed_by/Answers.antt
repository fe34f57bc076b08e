use Rattle.leaf_bounds.proofs.PaidLemmas.{sealed_most, size_most}
use Rattle.leaf_bounds.proofs.paid.sealed_by.Goals as goal

pub returns-clause-limit : goal.returns-clause-limit
returns-clause-limit c =
    size_most c.sealed-price.result _ 10_000_000_000_000 (record { sfits = c.sealed-price.type_inv }) c.sealed-price.ensures
    (sealed_most c.args.case.now _ _ c.station-limits.ensures.limits)
