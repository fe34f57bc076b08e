use Rattle.branching.proofs.RootLemmas.{exact_root}
use Rattle.branching.proofs.root_line.exact_root.Goals as goal

pub returns-clause-root : goal.returns-clause-root
returns-clause-root c = λ case is. exact_root case c.args.bound is
