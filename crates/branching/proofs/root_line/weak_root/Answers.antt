use Rattle.branching.proofs.RootLemmas.{weak_root}
use Rattle.branching.proofs.root_line.weak_root.Goals as goal

pub returns-clause-root : goal.returns-clause-root
returns-clause-root c = λ case is. weak_root case c.args.bound is
