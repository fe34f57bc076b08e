use Rattle.shared_trees.proofs.SharedTreeLemmas.{shared_tree}
use Rattle.shared_trees.proofs.laws.shared_tree_stands.Goals as goal

pub returns : goal.returns
returns c = λ k nodes tables shared tree e t h. shared_tree k nodes tables shared tree e t h
