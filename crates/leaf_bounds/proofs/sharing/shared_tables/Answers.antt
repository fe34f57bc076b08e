use Rattle.std.proofs.Common.{map, ap, ◌∙◌, refl}
use Rattle.leaf_bounds.specs.Group.{group_in}
use Rattle.leaf_bounds.proofs.SharingLemmas.{tables_cut}
use Rattle.leaf_bounds.proofs.sharing.shared_tables.Goals as goal

pub returns-clause-groups : goal.returns-clause-groups
returns-clause-groups c =
    ap (map group_in) c.truncate.ensures.items ∙ tables_cut c.args.nodes.now c.in_ok-tables.tables.items 65536 refl c.in_ok-tables.ensures
