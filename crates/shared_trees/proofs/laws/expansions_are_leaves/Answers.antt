use Rattle.shared_trees.proofs.NodeLemmas.{nodes_stand}
use Rattle.shared_trees.proofs.laws.expansions_are_leaves.Goals as goal

pub returns : goal.returns
returns c = λ nodes tables shared h. nodes_stand nodes tables shared h
