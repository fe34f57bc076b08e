use Rattle.std.proofs.Common.{sym, ◌∙◌}
use Rattle.station_reader.proofs.Repeats.{repeats_from-start, repeats_from-here, repeats_from-later}
use Rattle.station_reader.proofs.names.first_repeat.Goals as goal

pub loop-number-init : goal.loop-number-init
loop-number-init c = repeats_from-start _ _

pub returns-then-occurs_before : goal.returns-then-occurs_before
returns-then-occurs_before c =
    sym (c.loop-number.invariant ∙ repeats_from-here c.args.naming c.args.entries.now c.loop-number.number c.index-entries-number.result c.loop-number-test.true c.index-entries-number.is (rw (← c.name_in.ensures) (sym c.occurs_before.ensures ∙ c.if-occurs_before.true)))

pub loop-number-preserved : goal.loop-number-preserved
loop-number-preserved c =
    c.loop-number.invariant ∙ repeats_from-later c.args.naming c.args.entries.now c.loop-number.number c.index-entries-number.result c.loop-number-test.true c.index-entries-number.is (rw (← c.name_in.ensures) (sym c.occurs_before.ensures ∙ c.if-occurs_before.false))
