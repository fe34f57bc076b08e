use Rattle.std.proofs.Common.{List, not, ap, ◌∙◌, map}
use Rattle.std.specs.List.{filter}
use Rattle.leaf_bounds.specs.declared.uses.TablePair.{TablePair}
use Rattle.leaf_bounds.specs.Group.{group_in}
use Rattle.leaf_bounds.specs.Sharing.{is_entry_of}
use Rattle.leaf_bounds.proofs.SharingLemmas.{uses_kept}
use Rattle.leaf_bounds.proofs.shared_leaf.shared_leaf.Goals as goal

pub invariant_of-result : goal.invariant_of-result
invariant_of-result c = record {
  kept = uses_kept c.args.leaf.now (map group_in c.args.tables.now) _ (c.from_vec.ensures ∙ c.in_ok-uses.ensures);
}

pub returns : goal.returns
returns c =
    let pairs = c.as_slice-3.ensures.value ∙ c.in_ok-pairs.ensures in
    record {
      q = c.in_ok-rest.ensures.q;
      u = c.in_ok-rest.ensures.u;
      v = c.in_ok-rest.ensures.v;
      alpha = c.in_ok-rest.ensures.alpha ∙ ap (λ (ps : List TablePair). filter (λ x. not (is_entry_of ps x)) c.args.leaf.now.alpha) pairs;
      beta = c.in_ok-rest.ensures.beta ∙ ap (λ (ps : List TablePair). filter (λ x. not (is_entry_of ps x)) c.args.leaf.now.beta) pairs;
      uses = c.from_vec.ensures ∙ c.in_ok-uses.ensures;
    }
