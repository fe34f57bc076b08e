use Rattle.station_rows.specs.Rows.{clique_stands}
use Rattle.master_lp.proofs.cliques.row_off.Goals as goal

pub returns-then-falls_short : goal.returns-then-falls_short
returns-then-falls_short c = record {
  stands = clique_stands c.args.cut.now.platform c.args.cut.now.minute c.requires.platform c.in_ok-row.ensures;
  fails = c.falls_short.ensures c.if-falls_short.true;
}
