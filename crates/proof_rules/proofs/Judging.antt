-- Bytes that are accepted with a bound come to it.
use Rattle.std.proofs.Common.{◌≡◌, inl, inr, ℕ, ◌<◌, true, List, [], ◌∷◌, ◌++◌, length, map, refl, sym, ◌∙◌, ap, subst, arith, Ok}
use Rattle.std.specs.Prelude.{flat_map}
use Rattle.std.specs.List.{list_all}
use Rattle.std.proofs.lemmas.Bool.{and_from}
use Rattle.std.proofs.lemmas.List.Folds.{list_all-append}
use Rattle.std.proofs.lemmas.List.Elements.{All-weaker}
use Rattle.station.proofs.Lists.{length-made}
use Rattle.patterns.specs.Allowed.{Lists, full_lists}
use Rattle.pair_prices.specs.Case.{CaseRecord}
use Rattle.leaf_bounds.specs.declared.table.PotTable.{PotTable}
use Rattle.leaf_bounds.specs.declared.shared.SharedLeaf.{SharedLeaf}
use Rattle.leaf_bounds.specs.declared.tree.Bound.{Bound}
use Rattle.leaf_bounds.specs.declared.tree.Bound.TheVariants.{AtLeast, Nothing as NoBound}
use Rattle.leaf_bounds.specs.declared.tree.Node.{Node}
use Rattle.leaf_bounds.specs.declared.tree.Node.TheVariants.{Split as SplitNode, Leaf as LeafNode}
use Rattle.leaf_bounds.specs.Group.{Group, group_in}
use Rattle.leaf_bounds.specs.Shown.{bound_of_leaf}
use Rattle.leaf_bounds.specs.Expansion.{SharedLeafStands}
use Rattle.leaf_bounds.specs.Tree.{SplitTree, tree_stands, tree_bound}
use Rattle.proof_file.specs.declared.record.ProofRecord.{ProofRecord}
use Rattle.proof_file.specs.declared.record.ProofRecord.TheVariants.{Head, Table, Ta, Tb, Split, Leaf, U, V, A, B, Use, Close, End, Nothing}
use Rattle.proof_file.specs.Kind.{is_of_version}
use Rattle.proof_file.specs.Text.{node_records, shared_node_records, end_of, proof_records, shared_records}
use Rattle.proof_file.specs.Whole.{IsTextOf}
use Rattle.proof_file.specs.Accepted.{IsProof, IsSharedProof, IsAccepted}
use Rattle.proof_file.proofs.WholeTexts.{text_is_read}
use Rattle.proof_rules.specs.Fault.{start}
use Rattle.proof_rules.specs.Verdict.{verdict}
use Rattle.proof_rules.proofs.TestLemmas.{all_true}
use Rattle.proof_rules.proofs.WalkLemmas.{Goes}
use Rattle.proof_rules.proofs.OpenLeaves.{StandsWith}
use Rattle.proof_rules.proofs.Tables.{records_of_tables, groups_are}
use Rattle.proof_rules.proofs.TableWalk.{tables_go}
use Rattle.proof_rules.proofs.LeafWalk.{bound_with}
use Rattle.proof_rules.proofs.WholeWalk.{whole_records, over_state, whole_goes}
use Rattle.proof_rules.proofs.Completions.{nodes_in}
use Rattle.proof_rules.proofs.Verdicts.{verdict_by}
use Rattle.proof_rules.proofs.PlainTrees.{tree_weaker, plain_nodes, plain_bound, plain_text, shared_of, back_again, shared_tree_stands}

with_groups : (c : CaseRecord) (tables : List PotTable) (lists : Lists) (l : SharedLeaf) → SharedLeafStands c tables lists l → StandsWith c (map group_in tables) lists l
with_groups c tables lists l s = record {
  places = s.places;
  uses = All-weaker (λ x. x.table < length tables) (λ x. x.table < length (map group_in tables))
      (λ x h. let n = length-made group_in tables in omega (arith, h, n)) l.uses s.uses;
  small = s.small;
  stands = s.stands;
}

module _ (c : CaseRecord) (bound : Bound) (bytes : List ℕ) where
  judged : (version : ℕ) (groups : List Group) (tree : SplitTree SharedLeaf) (records : List ProofRecord) → IsTextOf bytes records
      → records ≡ whole_records c version groups tree bound → Goes c start (whole_records c version groups tree bound) (over_state version groups bound)
      → verdict c bytes ≡ Ok bound
  judged version groups tree records text same goes =
      verdict_by c bytes records (over_state version groups bound) (text_is_read bytes records text)
      (subst (λ (rs : List ProofRecord). Goes c start rs (over_state version groups bound)) (sym same) goes) refl

  of_second : (r : ProofRecord) → is_of_version 2 r ≡ true
  of_second (Head x) = refl
  of_second (Table x) = refl
  of_second (Ta x) = refl
  of_second (Tb x) = refl
  of_second (Split x) = refl
  of_second (Leaf q) = refl
  of_second (U x) = refl
  of_second (V x) = refl
  of_second (A x) = refl
  of_second (B x) = refl
  of_second (Use x) = refl
  of_second Close = refl
  of_second (End n) = refl
  of_second Nothing = refl

  shared_judged : IsSharedProof c bound bytes → verdict c bytes ≡ Ok bound
  unfolding shared_records
  shared_judged p =
      let full = full_lists c.book in
      let groups = map group_in p.tables in
      let records = shared_records (length c.book) p.tables p.nodes bound in
      let stands : tree_stands (StandsWith c groups) full p.tree =
      tree_weaker (SharedLeafStands c p.tables) (StandsWith c groups) (with_groups c p.tables) p.tree full p.stands.leaves in
      let text : IsTextOf bytes records = record { text = p.text; ranges = p.ranges; versions = all_true (is_of_version 2) of_second records } in
      let order = p.order in
      let same : records ≡ whole_records c 2 groups p.tree bound =
      ap (λ ns. shared_records (length c.book) p.tables ns bound) order
      ∙ ap (λ rs. Head (record { version = 2; trains = length c.book }) ∷ rs ++ flat_map shared_node_records (nodes_in p.tree) ++ end_of bound ∷ [])
      (records_of_tables 0 p.tables) in
      let least = p.least in
      let goes = whole_goes c 2 refl groups (tables_go c groups (groups_are c p.tables p.stands.each_table)) p.tree stands in
      judged 2 groups p.tree records text same
      (subst (λ (b : Bound). Goes c start (whole_records c 2 groups p.tree b) (over_state 2 groups b)) (sym least) goes)

  -- a plain proof has the kinds of version 1

  all_join : (xs ys : List ProofRecord) → list_all (is_of_version 1) xs ≡ true → list_all (is_of_version 1) ys ≡ true → list_all (is_of_version 1) (xs ++ ys) ≡ true
  all_join xs ys e f = list_all-append (is_of_version 1) xs ys ∙ and_from (list_all (is_of_version 1) xs) (list_all (is_of_version 1) ys) e f

  all_made : {X : Type 0} (make : X → ProofRecord) → ((x : X) → is_of_version 1 (make x) ≡ true) → (xs : List X) → list_all (is_of_version 1) (map make xs) ≡ true
  all_made make h [] = refl
  all_made make h (x ∷ xs) = and_from (is_of_version 1 (make x)) (list_all (is_of_version 1) (map make xs)) (h x) (all_made make h xs)

  node_first : (n : Node) → list_all (is_of_version 1) (node_records n) ≡ true
  node_first (SplitNode cut) = refl
  node_first (LeafNode l) =
      let us = map (λ x. U x) l.u in
      let vs = map (λ x. V x) l.v in
      let alphas = map (λ x. A x) l.alpha in
      let betas = map (λ x. B x) l.beta in
      let head = Leaf l.q in
      all_join (head ∷ us ++ vs ++ alphas ++ betas) (Close ∷ [])
      (all_join (head ∷ us ++ vs ++ alphas) betas
      (all_join (head ∷ us ++ vs) alphas (all_join (head ∷ us) vs (all_made (λ x. U x) (λ x. refl) l.u) (all_made (λ x. V x) (λ x. refl) l.v))
      (all_made (λ x. A x) (λ x. refl) l.alpha))
      (all_made (λ x. B x) (λ x. refl) l.beta)) refl

  nodes_first : (nodes : List Node) → list_all (is_of_version 1) (flat_map node_records nodes) ≡ true
  nodes_first [] = refl
  nodes_first (n ∷ nodes) = all_join (node_records n) (flat_map node_records nodes) (node_first n) (nodes_first nodes)

  end_first : (b : Bound) → list_all (is_of_version 1) (end_of b ∷ []) ≡ true
  end_first (AtLeast n) = refl
  end_first NoBound = refl

  plain_judged : IsProof c bound bytes → verdict c bytes ≡ Ok bound
  unfolding proof_records
  plain_judged p =
      let full = full_lists c.book in
      let records = proof_records (length c.book) p.nodes bound in
      let head = Head (record { version = 1; trains = length c.book }) in
      let tree = shared_of p.tree in
      let stands = shared_tree_stands c p.tree full p.stands in
      let text : IsTextOf bytes records = record {
        text = p.text;
        ranges = p.ranges;
        versions = all_join (head ∷ flat_map node_records p.nodes) (end_of bound ∷ []) (nodes_first p.nodes) (end_first bound);
      } in
      let order = p.order in
      let again = back_again p.tree in
      let same : records ≡ whole_records c 1 [] tree bound =
      ap (λ ns. proof_records (length c.book) ns bound) order
      ∙ ap (λ u. proof_records (length c.book) (plain_nodes u) bound) (sym again)
      ∙ ap (λ rs. head ∷ rs ++ end_of bound ∷ []) (sym (plain_text c tree full stands)) in
      let least : bound ≡ tree_bound (bound_with c []) full tree =
      p.least ∙ ap (λ u. tree_bound (bound_of_leaf c) full u) (sym again) ∙ sym (plain_bound c tree full stands) in
      let goes = whole_goes c 1 refl [] (λ n. refl) tree stands in
      judged 1 [] tree records text same
      (subst (λ (b : Bound). Goes c start (whole_records c 1 [] tree b) (over_state 1 [] b)) (sym least) goes)

  pub complete : IsAccepted c bound bytes → verdict c bytes ≡ Ok bound
  complete (inl p) = plain_judged p
  complete (inr p) = shared_judged p
