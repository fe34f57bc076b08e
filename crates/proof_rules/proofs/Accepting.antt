-- Bytes that come to a bound are accepted with it.
use Rattle.std.proofs.Common.{◌≡◌, inl, inr, ℕ, zero, suc, ◌<◌, ◌≤◌, Bool, true, false, List, [], ◌∷◌, ◌++◌, length, map, refl, sym, ◌∙◌, ap, subst, arith, Ok}
use Rattle.std.specs.Prelude.{◌==◌, flat_map}
use Rattle.std.proofs.lemmas.Bool.{eqb-true}
use Rattle.std.proofs.lemmas.List.Elements.{All-weaker}
use Rattle.station.proofs.Lists.{length-made}
use Rattle.patterns.specs.Allowed.{Lists, full_lists}
use Rattle.pair_prices.specs.Case.{CaseRecord}
use Rattle.leaf_bounds.specs.declared.table.PotTable.{PotTable}
use Rattle.leaf_bounds.specs.declared.shared.SharedLeaf.{SharedLeaf}
use Rattle.leaf_bounds.specs.declared.tree.Bound.{Bound}
use Rattle.leaf_bounds.specs.Group.{Group, group_in}
use Rattle.leaf_bounds.specs.Expansion.{SharedLeafStands}
use Rattle.leaf_bounds.specs.Tree.{tree_stands, tree_bound}
use Rattle.proof_file.specs.declared.record.ProofRecord.{ProofRecord}
use Rattle.proof_file.specs.declared.record.ProofRecord.TheVariants.{Head}
use Rattle.proof_file.specs.Text.{AreInRange, shared_node_records, end_of, proof_records, shared_records, text_of}
use Rattle.proof_file.specs.Reading.{records_of}
use Rattle.proof_file.specs.Whole.{IsReadAs, IsTextOf}
use Rattle.proof_file.specs.Accepted.{IsProof, IsSharedProof, IsAccepted}
use Rattle.proof_file.proofs.WholeTexts.{read_is_text}
use Rattle.proof_rules.specs.Fault.{State}
use Rattle.proof_rules.specs.Verdict.{verdict}
use Rattle.proof_rules.proofs.OpenLeaves.{StandsWith}
use Rattle.proof_rules.proofs.Tables.{tables_made, groups_made, records_made, each_made}
use Rattle.proof_rules.proofs.LeafWalk.{bound_with}
use Rattle.proof_rules.proofs.WholeWalk.{whole_records}
use Rattle.proof_rules.proofs.Completions.{nodes_in}
use Rattle.proof_rules.proofs.Verdicts.{verdict_judged}
use Rattle.proof_rules.proofs.Reading.{IsEnded}
use Rattle.proof_rules.proofs.ReadWhole.{walk_ended}
use Rattle.proof_rules.proofs.PlainTrees.{tree_weaker, plain_of, plain_nodes, plain_tree_stands, plain_bound, plain_text}

-- tables and their groups

with_tables : (c : CaseRecord) (tables : List PotTable) (lists : Lists) (l : SharedLeaf) → StandsWith c (map group_in tables) lists l → SharedLeafStands c tables lists l
with_tables c tables lists l s = record {
  places = s.places;
  uses = All-weaker (λ x. x.table < length (map group_in tables)) (λ x. x.table < length tables)
      (λ x h. let n = length-made group_in tables in omega (arith, h, n)) l.uses s.uses;
  small = s.small;
  stands = s.stands;
}

-- from the end of a walk to what is accepted

module _ (c : CaseRecord) (bytes : List ℕ) (t : State) (records : List ProofRecord) (text : IsTextOf bytes records) (h : IsEnded c t records) where
  shared_accepted : t.version ≡ 2 → IsSharedProof c t.least bytes
  unfolding shared_records
  shared_accepted v =
      let tables = tables_made c t.tables h.each in
      let groups = groups_made c t.tables h.each in
      let full = full_lists c.book in
      let same : records ≡ shared_records (length c.book) tables (nodes_in h.tree) t.least =
      h.text ∙ ap (λ n. whole_records c n t.tables h.tree t.least) v
      ∙ ap (λ rs. Head (record { version = 2; trains = length c.book }) ∷ rs ++ flat_map shared_node_records (nodes_in h.tree) ++ end_of t.least ∷ [])
      (sym (records_made c 0 t.tables h.each)) in
      record {
        tables = tables;
        nodes = nodes_in h.tree;
        tree = h.tree;
        order = refl;
        stands = record {
          each_table = each_made c t.tables h.each;
          leaves = tree_weaker (StandsWith c (map group_in tables)) (SharedLeafStands c tables) (with_tables c tables) h.tree full
              (subst (λ (gs : List Group). tree_stands (StandsWith c gs) full h.tree) (sym groups) h.stands);
        };
        least = h.bounds ∙ ap (λ gs. tree_bound (bound_with c gs) full h.tree) (sym groups);
        ranges = subst AreInRange same text.ranges;
        text = text.text ∙ ap text_of same;
      }

  plain_accepted : t.version ≡ 1 → t.tables ≡ [] → IsProof c t.least bytes
  unfolding proof_records
  plain_accepted v none =
      let full = full_lists c.book in
      let stands : tree_stands (StandsWith c []) full h.tree = subst (λ (gs : List Group). tree_stands (StandsWith c gs) full h.tree) none h.stands in
      let tree = plain_of h.tree in
      let same : records ≡ proof_records (length c.book) (plain_nodes tree) t.least =
      h.text ∙ ap (λ n. whole_records c n t.tables h.tree t.least) v ∙ ap (λ gs. whole_records c 1 gs h.tree t.least) none
      ∙ ap (λ rs. Head (record { version = 1; trains = length c.book }) ∷ rs ++ end_of t.least ∷ []) (plain_text c h.tree full stands) in
      record {
        nodes = plain_nodes tree;
        tree = tree;
        order = refl;
        stands = plain_tree_stands c h.tree full stands;
        least = h.bounds ∙ ap (λ gs. tree_bound (bound_with c gs) full h.tree) none ∙ plain_bound c h.tree full stands;
        ranges = subst AreInRange same text.ranges;
        text = text.text ∙ ap text_of same;
      }

  by_version : (b : Bool) → (t.version == 2) ≡ b → IsAccepted c t.least bytes
  by_version true e = inr (shared_accepted (eqb-true t.version 2 e))
  by_version false e =
      let least = h.version_least in
      let most = h.version_most in
      inl (plain_accepted (one t.version least most e) (h.plain e))
    where
      one : (n : ℕ) → 1 ≤ n → n ≤ 2 → (n == 2) ≡ false → n ≡ 1
      one zero a b f = absurd (omega arith)
      one (suc zero) a b f = refl
      one (suc (suc zero)) a b f = absurd (cc f)
      one (suc (suc (suc n))) a b f = absurd (omega arith)

pub sound : (c : CaseRecord) (bound : Bound) (bytes : List ℕ) → verdict c bytes ≡ Ok bound → IsAccepted c bound bytes
sound c bound bytes e =
    let j = verdict_judged c bound bytes e in
    let read : IsReadAs bytes (records_of bytes) = record { none = j.none; ended = j.ended; read = refl } in
    let text = read_is_text bytes (records_of bytes) read in
    let ended = walk_ended c j.final (records_of bytes) text.ranges j.walk j.over in
    subst (λ (b : Bound). IsAccepted c b bytes) j.least (by_version c bytes j.final (records_of bytes) text ended (j.final.version == 2) refl)
