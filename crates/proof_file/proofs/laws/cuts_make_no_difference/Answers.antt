use Rattle.proof_file.proofs.PieceLemmas.{fault_stays, new-append, records-split}
use Rattle.proof_file.proofs.laws.cuts_make_no_difference.Goals as goal

pub returns-clause-records : goal.returns-clause-records
returns-clause-records c = records-split

pub returns-clause-fault : goal.returns-clause-fault
returns-clause-fault c = fault_stays

pub returns-clause-pieces : goal.returns-clause-pieces
returns-clause-pieces c = new-append
