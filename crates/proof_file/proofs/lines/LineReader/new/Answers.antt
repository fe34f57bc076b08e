use Rattle.std.proofs.Common.{refl}
use Rattle.proof_file.proofs.StepLemmas.{begins}
use Rattle.proof_file.proofs.lines.LineReader.new.Goals as goal

pub returns : goal.returns
returns c = begins (record { version = 1; number = 1; kept = c.new.result }) refl refl c.new.ensures
