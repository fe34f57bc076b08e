use Rattle.dual_leaves.specs.Account.{totals_of}
use Rattle.dual_leaves.proofs.CutRows.{pair_read}
use Rattle.dual_leaves.proofs.pairs.read_pair.Goals as goal

pub returns-clause-read : goal.returns-clause-read
returns-clause-read c =
    let kind = c.requires.kind in
    pair_read c.args.case.now c.args.layout.now c.requires.layout.lists c.args.row.now c.args.value.now c.requires.sign c.args.at.now kind.0 kind.1
    kind.2.0 kind.2.1 kind.2.2 (totals_of c.args.account.now) c.read_side.new.sums.entries c.read_side-2.new.sums.entries c.in_ok-read_side.ensures.read
    c.in_ok-read_side-2.ensures.read
