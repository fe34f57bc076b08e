use Rattle.std.proofs.Common.{sym, ◌++◌}
use Rattle.proof_file.proofs.LineLemmas.{long_line}
use Rattle.proof_file.proofs.ReaderLemmas.{too_long}
use Rattle.proof_file.proofs.lines.LineReader.whole_line.Goals as goal

pub returns-then-not-extend-clause-value : goal.returns-then-not-extend-clause-value
returns-then-not-extend-clause-value c =
    sym (long_line c.args.self.now.version (c.args.self.now.kept ++ c.args.part.now)
    (too_long c.args.self.now.kept c.args.part.now c.extend.result c.if-not-extend.true c.extend.ensures.fits))
