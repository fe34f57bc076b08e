-- What is true of the state behind records that were read.
use Rattle.std.proofs.Common.{◌≡◌, ◌⊎◌, ℕ, ◌≤◌, true, false, not, List, [], ◌∷◌, ◌++◌, length, refl, sym, ◌∙◌, ap, subst, append_assoc, Option, Some, None}
use Rattle.std.specs.Prelude.{◌==◌, flat_map}
use Rattle.std.proofs.lemmas.List.{append-nil}
use Rattle.std.proofs.lemmas.Bool.{and_parts, not-true}
use Rattle.station.proofs.Lists.{Every}
use Rattle.patterns.specs.Allowed.{Lists, full_lists}
use Rattle.pair_prices.specs.Case.{CaseRecord}
use Rattle.leaf_bounds.specs.declared.shared.SharedLeaf.{SharedLeaf}
use Rattle.leaf_bounds.specs.declared.shared.SharedNode.{SharedNode}
use Rattle.leaf_bounds.specs.declared.tree.Bound.{Bound}
use Rattle.leaf_bounds.specs.declared.tree.Bound.TheVariants.{Nothing as NoBound}
use Rattle.leaf_bounds.specs.Group.{Group}
use Rattle.leaf_bounds.specs.Tree.{SplitTree, tree_stands, tree_bound}
use Rattle.leaf_bounds.proofs.FindLemmas.{flat_map-append}
use Rattle.proof_file.specs.declared.record.ProofRecord.{ProofRecord}
use Rattle.proof_file.specs.declared.record.ProofRecord.TheVariants.{Head}
use Rattle.proof_file.specs.Text.{shared_node_records}
use Rattle.proof_rules.specs.Fault.{OpenLeaf, State, start, here}
use Rattle.proof_rules.proofs.OpenLeaves.{IsOpen, StandsWith}
use Rattle.proof_rules.proofs.Tables.{IsGroup, groups_from}
use Rattle.proof_rules.proofs.TableSteps.{IsTabled}
use Rattle.proof_rules.proofs.OpenSteps.{open_records, IsOpened}
use Rattle.proof_rules.proofs.LeafWalk.{bound_with}
use Rattle.proof_rules.proofs.WholeWalk.{whole_records}
use Rattle.proof_rules.proofs.Completions.{CanBeCompleted, nothing_read}

-- the header and the tables
abbrev pub head_records : CaseRecord → ℕ → List Group → List ProofRecord
head_records c version groups = Head (record { version = version; trains = length c.book }) ∷ groups_from 0 groups

abbrev pub leaf_records : Option OpenLeaf → List ProofRecord
leaf_records None = []
leaf_records (Some l) = open_records l

abbrev pub read_records : CaseRecord → State → List SharedNode → List ProofRecord
read_records c s nodes = head_records c s.version s.tables ++ flat_map shared_node_records nodes ++ leaf_records s.leaf

-- no node was read
pub record IsEarly (c : CaseRecord) (s : State) (nodes : List SharedNode) : Type 0 where
  pub none : nodes ≡ []
  pub shut : s.leaf ≡ None
  pub all : s.due ≡ full_lists c.book ∷ []
  pub bound : s.least ≡ NoBound

-- the state between the header and the end
pub record IsReading (c : CaseRecord) (s : State) (records : List ProofRecord) : Type 0 where
  pub nodes : List SharedNode
  pub going : s.is_over ≡ false
  pub version_least : 1 ≤ s.version
  pub version_most : s.version ≤ 2
  pub plain : (s.version == 2) ≡ false → s.tables ≡ []
  pub each : Every (IsGroup c) s.tables
  pub early : s.is_tree ≡ false → IsEarly c s nodes
  pub open_leaf : (l : OpenLeaf) → s.leaf ≡ Some l → IsOpen c s.tables (here s) l
  pub text : records ≡ read_records c s nodes
  pub can : CanBeCompleted c s.tables nodes s.due s.least

-- the state behind the last record
pub record IsEnded (c : CaseRecord) (s : State) (records : List ProofRecord) : Type 0 where
  pub over : s.is_over ≡ true
  pub version_least : 1 ≤ s.version
  pub version_most : s.version ≤ 2
  pub plain : (s.version == 2) ≡ false → s.tables ≡ []
  pub each : Every (IsGroup c) s.tables
  pub tree : SplitTree SharedLeaf
  pub stands : tree_stands (StandsWith c s.tables) (full_lists c.book) tree
  pub bounds : s.least ≡ tree_bound (bound_with c s.tables) (full_lists c.book) tree
  pub text : records ≡ whole_records c s.version s.tables tree s.least

pub record IsAtStart (s : State) (records : List ProofRecord) : Type 0 where
  pub is : s ≡ start
  pub none : records ≡ []

abbrev pub Holds : CaseRecord → State → List ProofRecord → Type 0
Holds c s records = IsAtStart s records ⊎ (IsReading c s records ⊎ IsEnded c s records)

-- a further record of a table

pub without_leaf : (front : List ProofRecord) (o : Option OpenLeaf) → o ≡ None → front ++ leaf_records o ≡ front
without_leaf front o e = ap (λ p. front ++ leaf_records p) e ∙ append-nil front

early_text : (c : CaseRecord) (s : State) (nodes : List SharedNode) → nodes ≡ [] → s.leaf ≡ None → read_records c s nodes ≡ head_records c s.version s.tables
early_text c s nodes e f =
    let front = head_records c s.version s.tables in
    without_leaf (front ++ flat_map shared_node_records nodes) s.leaf f ∙ ap (λ ns. front ++ flat_map shared_node_records ns) e ∙ append-nil front

pub tabled_reads : (c : CaseRecord) (s t : State) (before : List ProofRecord) (r : ProofRecord) → IsReading c s before → IsTabled c s t r
    → IsReading c t (before ++ r ∷ [])
tabled_reads c s t before r h m =
    let due = and_parts (s.version == 2) (not s.is_tree) m.due in
    let early = h.early (not-true s.is_tree due.1) in
    let new : State = record s { tables = m.groups } in
    let front = head_records c s.version s.tables in
    let reading : IsReading c new (before ++ r ∷ []) = record {
      nodes = [];
      going = h.going;
      version_least = h.version_least;
      version_most = h.version_most;
      plain = λ e. absurd (cc (e, due.0));
      each = m.each;
      early = λ e. record { none = refl; shut = early.shut; all = early.all; bound = early.bound };
      open_leaf = λ l e. absurd (cc (e, early.shut));
      text = ap (λ rs. rs ++ r ∷ []) (h.text ∙ early_text c s h.nodes early.none early.shut)
          ∙ ap (λ rs. Head (record { version = s.version; trains = length c.book }) ∷ rs) (sym m.text)
          ∙ sym (early_text c new [] refl early.shut);
      can = subst (λ (due : List Lists). CanBeCompleted c m.groups [] due s.least) (sym early.all)
          (subst (λ (b : Bound). CanBeCompleted c m.groups [] (full_lists c.book ∷ []) b) (sym early.bound) (nothing_read c m.groups));
    } in
    subst (λ (u : State). IsReading c u (before ++ r ∷ [])) m.is reading

-- a further entry of the open leaf

entered : (c : CaseRecord) (s : State) (nodes : List SharedNode) (before more : List ProofRecord) (l : OpenLeaf) (r : ProofRecord) → before ≡ read_records c s nodes
    → s.leaf ≡ Some l → more ≡ open_records l ++ r ∷ [] → before ++ r ∷ [] ≡ head_records c s.version s.tables ++ flat_map shared_node_records nodes ++ more
entered c s nodes before more l r e o f =
    let front = head_records c s.version s.tables ++ flat_map shared_node_records nodes in
    ap (λ rs. rs ++ r ∷ []) (e ∙ ap (λ p. front ++ leaf_records p) o) ∙ append_assoc front (open_records l) (r ∷ []) ∙ ap (λ rs. front ++ rs) (sym f)

pub opened_reads : (c : CaseRecord) (s t : State) (before : List ProofRecord) (l : OpenLeaf) (r : ProofRecord) → IsReading c s before → s.leaf ≡ Some l
    → IsOpened c s t l r → IsReading c t (before ++ r ∷ [])
opened_reads c s t before l r h o m =
    let new : State = record s { leaf = Some m.new } in
    let reading : IsReading c new (before ++ r ∷ []) = record {
      nodes = h.nodes;
      going = h.going;
      version_least = h.version_least;
      version_most = h.version_most;
      plain = h.plain;
      each = h.each;
      early = λ e. let shut = (h.early e).shut in absurd (cc (shut, o));
      open_leaf = λ k e. let same : m.new ≡ k = cc e in subst (IsOpen c s.tables (here s)) same m.open_leaf;
      text = entered c s h.nodes before (open_records m.new) l r h.text o m.text;
      can = h.can;
    } in
    subst (λ (u : State). IsReading c u (before ++ r ∷ [])) m.is reading

-- one more node
pub node_text : (front : List ProofRecord) (nodes : List SharedNode) (n : SharedNode)
    → front ++ flat_map shared_node_records (nodes ++ n ∷ []) ≡ (front ++ flat_map shared_node_records nodes) ++ shared_node_records n
node_text front nodes n =
    ap (λ rs. front ++ rs)
    (flat_map-append shared_node_records nodes (n ∷ []) ∙ ap (λ rs. flat_map shared_node_records nodes ++ rs) (append-nil (shared_node_records n)))
    ∙ sym (append_assoc front (flat_map shared_node_records nodes) (shared_node_records n))
