use Rattle.std.proofs.Common.{◌≡◌, sym, ◌∙◌}
use Rattle.proof_file.specs.declared.record.ProofRecord.TheVariants.{Leaf}
use Rattle.proof_rules.specs.Fault.{after}
use mir.Syntax.{w128}
use mir.Val.{SFits}
use Rattle.std.proofs.lemmas.Int.{to_z-of_z}
use Rattle.proof_check.specs.Walk.{IsSound, state_of}
use Rattle.proof_check.proofs.TableLemmas.{was_due}
use Rattle.proof_check.proofs.WalkSteps.{refuses}
use Rattle.proof_check.proofs.NodeSteps.{leaf_refused, leaf_done}
use Rattle.proof_check.proofs.walk.Walk.open_leaf.Goals as goal

pub returns-in_err-placed : goal.returns-in_err-placed
returns-in_err-placed c =
    refuses (after c.args.case.now (state_of c.args.self.now) (Leaf c.args.q)) (λ s. (state_of c.args.self.now ≡ s) × IsSound c.args.case.now c.args.self.now)
    c.is_node_due.result c.placed.result c.from_residual.result c.in_err-placed.field-0.0 c.placed.ensures c.in_err-placed.was c.from_residual.ensures.1
    (λ e. leaf_refused c.args.case.now c.args.self.now c.requires.sound c.args.q (λ s. (state_of c.args.self.now ≡ s) × IsSound c.args.case.now c.args.self.now) (sym c.is_node_due.ensures ∙ e))

pub returns : goal.returns
returns c =
    let fits : SFits w128 c.args.q = c.ranges.q in
    let q = simp to_z-of_z at c.new.ensures.q in
    leaf_done c.args.case.now c.args.self.now c.requires.sound c.args.q c.new.result c.requires.range
    (record {
      scale = q;
      u = c.new.ensures.u;
      v = c.new.ensures.v;
      alpha = c.new.ensures.alpha;
      beta = c.new.ensures.beta;
      alpha_sums = c.new.ensures.alpha_sums;
      beta_sums = c.new.ensures.beta_sums;
      uses = c.new.ensures.uses;
    })
    (sym c.is_node_due.ensures ∙ was_due c.is_node_due.result c.placed.result c.in_ok-placed.field-0 c.placed.ensures c.in_ok-placed.was)
