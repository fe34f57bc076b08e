use Rattle.std.proofs.Common.{rules, ◌∙◌}
use mir.Syntax.{w128}
use mir.Val.{SFits}
use Rattle.std.proofs.lemmas.Int.{to_z-of_z}
use Rattle.proof_check.proofs.CloseLemmas.{closed_lists}
use Rattle.proof_check.proofs.leaf.OpenLeaf.into_leaf.Goals as goal

pub invariant_of-result : goal.invariant_of-result
invariant_of-result c =
    let q : SFits w128 c.args.self.q = search rules in record {
      kept = closed_lists c.args.self.q _ c.args.self.u.items c.from_vec.result c.args.self.v.items c.from_vec-2.result c.args.self.alpha.listed.items
          c.args.self.beta.listed.items c.from_vec-3.result c.from_vec-4.result c.args.self.alpha.sums c.args.self.beta.sums c.requires.kept c.requires.alpha
          c.requires.beta (to_z-of_z w128 c.args.self.q q) c.from_vec.ensures c.from_vec-2.ensures (c.from_vec-3.ensures ∙ c.in_ok-alpha.ensures)
          (c.from_vec-4.ensures ∙ c.in_ok-beta.ensures);
    }
