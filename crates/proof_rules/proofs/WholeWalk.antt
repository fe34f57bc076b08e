-- The records of a whole proof lead to its end.
use Rattle.std.proofs.Common.{◌≡◌, ℕ, true, false, cond, not, ◌||◌, List, [], ◌∷◌, ◌++◌, length, refl, ◌∙◌, ap, None, Ok, Err}
use Rattle.std.specs.Prelude.{◌==◌, flat_map}
use Rattle.std.proofs.lemmas.Bool.{eq-eqb}
use Rattle.std.proofs.lemmas.Bool.Decides.{Decides-int_eq}
use Rattle.station.specs.Allowed.{numbers}
use Rattle.station.proofs.Lists.{length-made}
use Rattle.patterns.specs.Allowed.{full_lists}
use Rattle.pair_prices.specs.Case.{CaseRecord}
use Rattle.leaf_bounds.specs.declared.shared.SharedLeaf.{SharedLeaf}
use Rattle.leaf_bounds.specs.declared.tree.Bound.{Bound}
use Rattle.leaf_bounds.specs.declared.tree.Bound.TheVariants.{AtLeast, Nothing as NoBound}
use Rattle.leaf_bounds.specs.Group.{Group}
use Rattle.leaf_bounds.specs.Tree.{SplitTree, tree_stands, tree_bound}
use Rattle.proof_file.specs.declared.record.ProofRecord.{ProofRecord}
use Rattle.proof_file.specs.declared.record.ProofRecord.TheVariants.{Head}
use Rattle.proof_file.specs.Text.{shared_node_records, end_of}
use Rattle.proof_rules.specs.Fault.{place, bound, State, start, checked, same_bound, after}
use Rattle.proof_rules.proofs.WalkLemmas.{Goes, goes_one, goes_append}
use Rattle.proof_rules.proofs.OpenLeaves.{StandsWith}
use Rattle.proof_rules.proofs.Tables.{groups_from}
use Rattle.proof_rules.proofs.LeafWalk.{node_state, bound_with}
use Rattle.proof_rules.proofs.TreeWalk.{tree_goes}
use Rattle.proof_rules.proofs.Completions.{nodes_in}

same_is : (b : Bound) → same_bound b b ≡ true
same_is (AtLeast n) = (Decides-int_eq n n).1 refl
same_is NoBound = refl

full_length : (c : CaseRecord) → length (full_lists c.book) ≡ length c.book
unfolding full_lists
full_length c = length-made (λ os. numbers (length os)) c.book

-- the records of a proof with these tables
abbrev pub whole_records : CaseRecord → ℕ → List Group → SplitTree SharedLeaf → Bound → List ProofRecord
whole_records c version groups tree b =
    Head (record { version = version; trains = length c.book }) ∷ groups_from 0 groups ++ flat_map shared_node_records (nodes_in tree) ++ end_of b ∷ []

-- the state behind the last record
abbrev pub over_state : ℕ → List Group → Bound → State
over_state version groups b =
    record { version = version; tables = groups; is_tree = true; due = []; leaf = None; least = b; is_over = true }

module _ (c : CaseRecord) (version : ℕ) (some : (version == 0) ≡ false) (groups : List Group) where
  end_on : (b : Bound) → after c (node_state version groups true [] None b) (end_of b) ≡ Ok (over_state version groups b)
  unfolding after
  end_on (AtLeast n) =
      ap (λ t. cond (t || false || not true) (Err place) (cond (same_bound (AtLeast n) (AtLeast n)) (Ok (over_state version groups (AtLeast n))) (Err bound))) some
      ∙ ap (λ t. cond t (Ok (over_state version groups (AtLeast n))) (Err bound)) (same_is (AtLeast n))
  end_on NoBound = ap (λ t. cond (t || false || not true) (Err place) (Ok (over_state version groups NoBound))) some

  head_on : after c start (Head (record { version = version; trains = length c.book })) ≡ Ok (node_state version [] false (full_lists c.book ∷ []) None NoBound)
  unfolding after
  head_on =
      ap (λ t. checked t (node_state version [] false (full_lists c.book ∷ []) None NoBound)) (eq-eqb (length c.book) (length c.book) refl)

  pub whole_goes : Goes c (node_state version [] false (full_lists c.book ∷ []) None NoBound) (groups_from 0 groups)
      (node_state version groups false (full_lists c.book ∷ []) None NoBound)
      → (tree : SplitTree SharedLeaf) → tree_stands (StandsWith c groups) (full_lists c.book) tree
      → Goes c start (whole_records c version groups tree (tree_bound (bound_with c groups) (full_lists c.book) tree))
      (over_state version groups (tree_bound (bound_with c groups) (full_lists c.book) tree))
  whole_goes tables tree stands =
      let full = full_lists c.book in
      let b = tree_bound (bound_with c groups) full tree in
      let head = Head (record { version = version; trains = length c.book }) in
      let s0 = node_state version [] false (full ∷ []) None NoBound in
      let s1 = node_state version groups false (full ∷ []) None NoBound in
      let s2 = node_state version groups true [] None b in
      let s3 = over_state version groups b in
      let nodes = flat_map shared_node_records (nodes_in tree) in
      let g0 = goes_one c start s0 head refl head_on in
      let g1 = goes_append c (head ∷ []) (groups_from 0 groups) start s0 s1 g0 tables in
      let g2 = goes_append c (head ∷ groups_from 0 groups) nodes start s1 s2 g1 (tree_goes c version groups tree full [] NoBound false (full_length c) stands) in
      goes_append c (head ∷ groups_from 0 groups ++ nodes) (end_of b ∷ []) start s2 s3 g2 (goes_one c s2 s3 (end_of b) refl (end_on b))
