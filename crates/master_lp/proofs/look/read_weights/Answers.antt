use Rattle.master_lp.proofs.RowsHold.{are_read}
use Rattle.master_lp.proofs.look.read_weights.Goals as goal

pub returns : goal.returns
returns c =
    are_read c.args.case.now c.args.layout.now c.requires.layout c.args.point.now c.requires.opening c.requires.scale
    c.in_ok-weights.weights c.in_ok-weights.ensures
