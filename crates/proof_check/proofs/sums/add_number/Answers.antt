use Rattle.std.proofs.Common.{rules, sym, ap, ◌∙◌, ◌≡◌, true}
use mir.Syntax.{w128}
use mir.Val.{SFits}
use Rattle.std.proofs.lemmas.Int.{to_z-of_z}
use Rattle.leaf_bounds.specs.Expansion.{in_list}
use Rattle.proof_check.specs.Tables.{group_of}
use Rattle.proof_check.proofs.AddLemmas.{adds_number}
use Rattle.proof_check.proofs.sums.add_number.Goals as goal

pub returns : goal.returns
returns c =
    let value : SFits w128 c.args.x.now.value = search rules in
    let added = simp to_z-of_z at c.in_ok-add_entry.ensures in
    let there : c.contains.result ≡ true = search rules in
    adds_number c.args.splits.now.lists.lists c.args.side (group_of c.args.table.now) c.args.used.now.factor c.args.x.now c.args.sums.now c.add_entry.new.sums
    c.requires.there
    (ap (λ t. in_list c.args.splits.now.lists.lists t c.args.x.now.number) (sym c.train_on.ensures) ∙ sym c.contains.ensures ∙ there)
    c.requires.listed added
