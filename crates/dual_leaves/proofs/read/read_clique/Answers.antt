use Rattle.std.proofs.Common.{rules, FitsSigned}
use Rattle.std.specs.Int.{w32}
use Rattle.std.proofs.lemmas.Int.{to_z-of_z}
use Rattle.dual_leaves.specs.Account.{totals_of}
use Rattle.dual_leaves.proofs.Cliques.{clique_read}
use Rattle.dual_leaves.proofs.read.read_clique.Goals as goal

pub returns-clause-read : goal.returns-clause-read
returns-clause-read c =
    let kind = c.requires.kind in
    let fits : FitsSigned w32 c.latest_arrival.result = search rules in
    let added = simp to_z-of_z at c.in_ok-add.ensures.added in
    clique_read c.args.case.now c.station-limits.ensures.limits c.args.layout.now c.requires.layout.lists c.args.row.now c.args.value.now c.requires.sign
    c.args.platform kind.0 kind.1.0 kind.1.1 c.latest_arrival.result c.latest_arrival.ensures (totals_of c.args.account.now) c.add.new.sums.entries
    added
