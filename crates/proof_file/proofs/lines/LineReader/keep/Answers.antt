use Rattle.std.proofs.Common.{refl}
use Rattle.proof_file.proofs.ReaderLemmas.{too_long}
use Rattle.proof_file.proofs.StepLemmas.{goes_on, grows_long}
use Rattle.proof_file.proofs.lines.LineReader.keep.Goals as goal

pub returns-then-extend : goal.returns-then-extend
returns-then-extend c = λ bytes at plain records.
    goes_on c.args.self.now bytes c.args.part.now at plain c.extend.new.self records (c.if-extend.ensures.more) (c.if-extend.ensures.fits.0 refl)

pub returns-else-extend : goal.returns-else-extend
returns-else-extend c = λ bytes at plain records.
    grows_long c.args.self.now bytes c.args.part.now at plain records
    (too_long c.args.self.now.kept c.args.part.now c.extend.result c.if-extend.false c.extend.ensures.fits)
