use Rattle.std.proofs.Common.{subst}
use Rattle.dual_leaves.specs.Kinds.{IsKind}
use Rattle.dual_leaves.specs.declared.kind.RowKind.TheVariants.{Clique, Pair, Use}
use Rattle.dual_leaves.proofs.Telling.{below_of}
use Rattle.dual_leaves.proofs.read.read_row.Goals as goal
use Rattle.dual_leaves.proofs.read.read_row.Goals.{In-Some-Clique, In-Some-Pair, In-Some-Use}

pub kind_of-requires : goal.kind_of-requires
kind_of-requires c = below_of c.args.case.now c.args.layout.now c.args.row.now c.requires.row

pub read_train-requires-clause-kind : goal.read_train-requires-clause-kind
read_train-requires-clause-kind c =
    subst (IsKind c.args.case.now c.args.layout.now c.args.row.now) c.in-Some-Train.field-0-is (c.in-Some-Train.ensures.some c.args.case.now c.requires.row)

use_kind : (c : In-Some-Use) → IsKind c.args.case.now c.args.layout.now c.args.row.now (Use c.in-Some-Use.platform)
use_kind c =
    subst (IsKind c.args.case.now c.args.layout.now c.args.row.now) c.in-Some-Use.field-0-is (c.in-Some-Use.ensures.some c.args.case.now c.requires.row)

pub read_use-requires-clause-kind : goal.read_use-requires-clause-kind
read_use-requires-clause-kind c = use_kind (goal.at.read_use-requires-clause-kind c).In-Some-Use

pub read_use-requires-clause-sign : goal.read_use-requires-clause-sign
read_use-requires-clause-sign c = c.requires.sign (use_kind (goal.at.read_use-requires-clause-sign c).In-Some-Use).1.equal_is

clique_kind : (c : In-Some-Clique) → IsKind c.args.case.now c.args.layout.now c.args.row.now (Clique c.in-Some-Clique.platform)
clique_kind c =
    subst (IsKind c.args.case.now c.args.layout.now c.args.row.now) c.in-Some-Clique.field-0-is (c.in-Some-Clique.ensures.some c.args.case.now c.requires.row)

pub read_clique-requires-clause-kind : goal.read_clique-requires-clause-kind
read_clique-requires-clause-kind c = clique_kind (goal.at.read_clique-requires-clause-kind c).In-Some-Clique

pub read_clique-requires-clause-sign : goal.read_clique-requires-clause-sign
read_clique-requires-clause-sign c = c.requires.sign (clique_kind (goal.at.read_clique-requires-clause-sign c).In-Some-Clique).1.1.equal_is

pair_kind : (c : In-Some-Pair) → IsKind c.args.case.now c.args.layout.now c.args.row.now (Pair c.in-Some-Pair.at)
pair_kind c =
    subst (IsKind c.args.case.now c.args.layout.now c.args.row.now) c.in-Some-Pair.field-0-is (c.in-Some-Pair.ensures.some c.args.case.now c.requires.row)

pub read_pair-requires-clause-kind : goal.read_pair-requires-clause-kind
read_pair-requires-clause-kind c = pair_kind (goal.at.read_pair-requires-clause-kind c).In-Some-Pair

pub read_pair-requires-clause-sign : goal.read_pair-requires-clause-sign
read_pair-requires-clause-sign c = c.requires.sign (pair_kind (goal.at.read_pair-requires-clause-sign c).In-Some-Pair).2.2.equal_is

pub unreachable-requires : goal.unreachable-requires
unreachable-requires c = c.in-None.ensures.none c.args.case.now c.requires.row
