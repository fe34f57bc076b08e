use Rattle.dual_leaves.specs.Account.{totals_of}
use Rattle.dual_leaves.proofs.Steps.{train_read}
use Rattle.dual_leaves.proofs.read.read_train.Goals as goal

pub returns-clause-read : goal.returns-clause-read
returns-clause-read c =
    train_read c.args.case.now c.args.layout.now c.args.row.now c.args.value.now (totals_of c.args.account.now) c.args.train c.add.new.sums.entries
    c.requires.kind.0 c.requires.kind.1 c.in_ok-add.ensures.added
