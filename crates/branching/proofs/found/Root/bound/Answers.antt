use Rattle.std.proofs.Common.{◌*ℤ◌, rules}
use Rattle.std.proofs.lemmas.Int.{to_z-of_z}
use mir.Syntax.{w128}
use mir.Val.{SFits}
use Rattle.branching.proofs.RootLemmas.{below_by, bound_at_top, bound_below_top, not_below_by}
use Rattle.branching.proofs.found.Root.bound.Goals as goal

pub returns-in-Less : goal.returns-in-Less
returns-in-Less c =
    let value = c.args.self.now.value in
    let top = c.top_ratio-top.result in
    let less = below_by (value.num *ℤ top.den) (top.num *ℤ value.den) c.cmp.result c.cmp.ensures c.in-Less.is in
    let fits : SFits w128 c.ceil.result = search rules in
    simp to_z-of_z (bound_below_top c.args.case.now value top c.top_ratio-top.ensures c.ceil.result less c.ceil.ensures)

pub returns-in-Equal : goal.returns-in-Equal
returns-in-Equal c =
    let value = c.args.self.now.value in
    let top = c.top_ratio-top.result in
    bound_at_top c.args.case.now value top c.top_ratio-top.ensures
    (not_below_by (value.num *ℤ top.den) (top.num *ℤ value.den) c.cmp.result c.cmp.ensures c.in-Equal.is)
