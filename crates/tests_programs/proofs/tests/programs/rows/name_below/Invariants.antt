use Rattle.std.proofs.Common.{take}
use Rattle.std.specs.Prelude.{All}
use Rattle.exact_lp.specs.Outcomes.{NamesBelow}
use Rattle.tests_programs.proofs.tests.programs.rows.name_below.Given as goal

abbrev pub invariant-loop-row : goal.invariant-loop-row
invariant-loop-row l = All (λ row. NamesBelow l.count row) (take l.row-index l.rows)
