use Rattle.std.proofs.Common.{sym}
use Rattle.proof_file.proofs.CutLemmas.{no_end, split_found}
use Rattle.proof_file.proofs.lines.split_line.Goals as goal

pub returns-clause-found : goal.returns-clause-found
returns-clause-found c = split_found c.args.bytes.now c.in_ok-end.end c.in_ok-end.ensures.place

pub returns-in_err-end-clause-none : goal.returns-in_err-end-clause-none
returns-in_err-end-clause-none c = rw c.from_residual.ensures (no_end c.args.bytes.now (sym c.in_err-end.ensures.place))
