use Rattle.std.proofs.Common.{length, sym, ap, ◌∙◌, arith}
use Rattle.std.proofs.lemmas.Int.{ints}
use Rattle.tests_programs.proofs.tests.columns.no_duals.Goals as goal

pub invariant_of-result : goal.invariant_of-result
invariant_of-result c =
    let rows = ap length (c.new-rows.ensures ∙ c.new.ensures.items) in
    let values = ap length (c.new-values.ensures ∙ c.new-2.ensures.items) in
    record { above = omega (arith, ints); one_each = values ∙ sym rows; signed = λ k d h e. absurd (omega (arith, rows, h)) }
