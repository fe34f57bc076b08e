use Rattle.std.proofs.Common.{sym}
use Rattle.primal_heuristic.proofs.added.price_of_platform.Goals as goal

pub returns-in-Some-clause-most : goal.returns-in-Some-clause-most
returns-in-Some-clause-most c =
    (c.station.result.now.kept.platform c.args.platform c.in-Some.platform.now (sym c.in-Some.ensures.value)).price
