use Rattle.std.proofs.Common.{List, subst, sym}
use Rattle.patterns.specs.Allowed.{Lists}
use Rattle.station_rows.specs.declared.fraction.PairTable.{PairTable}
use Rattle.station_rows.specs.Plans.{AreLeastTables, table_of}
use Rattle.station_rows.proofs.Tabled.{plan_within}
use Rattle.station_rows.proofs.Tables.{tables_are}
use Rattle.station_rows.proofs.planning.fraction_plan.Goals as goal

pub returns-clause-plan : goal.returns-clause-plan
returns-clause-plan c = λ l point is same within are plan.
    let P : List PairTable → Type 0 = λ tables. AreLeastTables c.args.case.now c.args.allowed.now.lists c.args.weights tables in
    let Q : Lists → Type 0 = λ lists. AreLeastTables c.args.case.now lists c.args.weights c.from_vec.result in
    let least = subst Q (sym same) (subst P (sym c.from_vec.ensures) c.in_ok-tables.ensures) in
    plan_within c.args.case.now l is point within c.args.weights are plan.fits plan.uses (table_of c.from_vec.result)
    (tables_are c.args.case.now l is point c.args.weights c.from_vec.result least plan.pairs)
