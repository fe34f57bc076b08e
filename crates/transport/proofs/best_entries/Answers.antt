use Rattle.std.proofs.Common.{arith}
use Rattle.transport.proofs.Tidy.{fits_all, solved_merged, weights_fit}
use Rattle.transport.proofs.best_entries.Goals as goal

pub tidied-requires : goal.tidied-requires
tidied-requires g c = λ i.
    let s = c.in_ok-entries.ensures in
    let f = fits_all (g.C.Cost.table c.args.cost.now) c.args.left.now c.args.right.now c.in_ok-entries.entries.items s.0 s.1 s.2 c.requires.scale i in
    omega arith

pub returns-clause-solved : goal.returns-clause-solved
returns-clause-solved g c =
    let s = c.in_ok-entries.ensures in
    (s.0, s.1, solved_merged (g.C.Cost.table c.args.cost.now) c.args.left.now c.args.right.now c.in_ok-entries.entries.items c.in_ok-merged.merged.items s.0 s.1 s.2 c.in_ok-merged.ensures)

pub returns-clause-fits : goal.returns-clause-fits
returns-clause-fits g c =
    let s = c.in_ok-entries.ensures in
    weights_fit c.in_ok-entries.entries.items c.in_ok-merged.merged.items 170141183460469231731687303715884105728 c.in_ok-merged.ensures (λ i. let f = fits_all (g.C.Cost.table c.args.cost.now) c.args.left.now c.args.right.now c.in_ok-entries.entries.items s.0 s.1 s.2 c.requires.scale i in omega arith)
