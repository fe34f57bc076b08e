use Rattle.proof_file.proofs.MetLemmas.{none_added, still_stands, told_again}
use Rattle.proof_file.proofs.reader.ProofReader.feed.Goals as goal

pub returns-in-Some-clause-stands : goal.returns-in-Some-clause-stands
returns-in-Some-clause-stands c = λ bytes s no_memory. still_stands c.args.self.now bytes c.args.piece.now c.in-Some.fault s c.in-Some.is

pub returns-in-Some-clause-answer : goal.returns-in-Some-clause-answer
returns-in-Some-clause-answer c = λ bytes s no_memory. told_again c.args.self.now bytes c.args.piece.now c.in-Some.fault s c.in-Some.is

pub returns-in-Some-clause-records : goal.returns-in-Some-clause-records
returns-in-Some-clause-records c = λ bytes s no_memory.
    none_added c.args.self.now bytes c.args.piece.now c.in-Some.fault s c.in-Some.is c.args.into.now.items
