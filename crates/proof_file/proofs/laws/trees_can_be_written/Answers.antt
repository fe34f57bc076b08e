use Rattle.proof_file.proofs.RangeLemmas.{shared_tree_is_in_range, tree_is_in_range}
use Rattle.proof_file.proofs.laws.trees_can_be_written.Goals as goal

pub returns-clause-plain : goal.returns-clause-plain
returns-clause-plain c = tree_is_in_range

pub returns-clause-shared : goal.returns-clause-shared
returns-clause-shared c = shared_tree_is_in_range
