-- Each record that is taken leaves the state what it is said to be.
use Rattle.std.proofs.Common.{◌≡◌, Bool, true, false, cond, not, ◌||◌, List, [], ◌∷◌, ◌++◌, length, refl, sym, ◌∙◌, ap, subst, append_assoc, Option, Some, None, Result, Ok, Err, ℤ, IsTrue}
use Rattle.std.specs.Prelude.{◌≢◌, ◌==◌, nat_lt, flat_map}
use Rattle.std.proofs.lemmas.List.{append-nil}
use Rattle.std.proofs.lemmas.Bool.{eqb-true, or_parts, not-false}
use Rattle.std.proofs.lemmas.Bool.Decides.{Decides-int_eq}
use Rattle.patterns.specs.Allowed.{Lists, list_of, part_below, part_from, full_lists}
use Rattle.pair_prices.specs.Case.{CaseRecord}
use Rattle.leaf_bounds.specs.declared.shared.SharedNode.{SharedNode}
use Rattle.leaf_bounds.specs.declared.shared.SharedNode.TheVariants.{Split as SharedSplit, Leaf as SharedLeafNode}
use Rattle.leaf_bounds.specs.declared.tree.Bound.{Bound}
use Rattle.leaf_bounds.specs.declared.tree.Bound.TheVariants.{AtLeast, Nothing as NoBound}
use Rattle.leaf_bounds.specs.declared.tree.Cut.{Cut}
use Rattle.leaf_bounds.specs.declared.check.LeafValue.{LeafValue}
use Rattle.leaf_bounds.specs.declared.check.LeafFault.{LeafFault}
use Rattle.leaf_bounds.specs.declared.check.LeafFault.TheVariants.{Pair as PairFault, Pattern as PatternFault}
use Rattle.leaf_bounds.specs.Listed.{minute_key}
use Rattle.leaf_bounds.specs.Leaf.{bound_of}
use Rattle.leaf_bounds.specs.Tree.{IsParted, lists_below, lists_from, lesser}
use Rattle.leaf_bounds.specs.Verdict.{verdict_of}
use Rattle.proof_file.specs.declared.record.HeadRecord.{HeadRecord}
use Rattle.proof_file.specs.declared.record.ProofRecord.{ProofRecord}
use Rattle.proof_file.specs.declared.record.ProofRecord.TheVariants.{Head, Split, Leaf, Close}
use Rattle.proof_file.specs.Kind.{is_in_range}
use Rattle.proof_file.specs.Text.{shared_node_records, end_of}
use Rattle.proof_rules.specs.Fault.{Fault, place, part, bound, OpenLeaf, State, start, checked, is_none, first_of, here, split_at, after_split, after_leaf, so_far, closed, add_close, same_bound, is_leaf_open, after_end}
use Rattle.proof_rules.proofs.TestLemmas.{checked_is, none_is, listed_none}
use Rattle.proof_rules.proofs.RangeFacts.{q_is, version_is}
use Rattle.proof_rules.proofs.OpenLeaves.{IsTrainThere, IsMinuteThere, IsEntryThere, train_key, entry_key, first_train, second_train, IsOpen, shared_made, made_stands}
use Rattle.proof_rules.proofs.OpenSteps.{open_records, open_without}
use Rattle.proof_rules.proofs.TreeWalk.{lesser_none}
use Rattle.proof_rules.proofs.Completions.{CanBeCompleted, IsCompleted, nodes_in, nothing_read, split_read, leaf_read}
use Rattle.proof_rules.proofs.Reading.{head_records, leaf_records, IsReading, IsEnded, node_text, without_leaf}

pub refused_not : (f : Fault) (t : State) → Err f ≡ Ok t → ⊥
refused_not f t e = cc

-- the header

pub head_reads : (c : CaseRecord) (t : State) (x : HeadRecord) → IsTrue (is_in_range (Head x))
    → checked (x.trains == length c.book) (record start { version = x.version; due = full_lists c.book ∷ [] }) ≡ Ok t → IsReading c t (Head x ∷ [])
head_reads c t x range e =
    let new : State = record start { version = x.version; due = full_lists c.book ∷ [] } in
    let is = checked_is (x.trains == length c.book) new t e in
    let version = version_is x range in
    let reading : IsReading c new (Head x ∷ []) = record {
      nodes = [];
      going = refl;
      version_least = version.0;
      version_most = version.1;
      plain = λ e. refl;
      each = tt;
      early = λ e. record { none = refl; shut = refl; all = refl; bound = refl };
      open_leaf = λ l e. absurd (cc e);
      text = ap (λ n. Head (record { version = x.version; trains = n }) ∷ []) (eqb-true x.trains (length c.book) is.0);
      can = nothing_read c [];
    } in
    subst (λ (u : State). IsReading c u (Head x ∷ [])) is.1 reading

-- nodes

node_read : (front before : List ProofRecord) (nodes : List SharedNode) (n : SharedNode) (o : Option OpenLeaf)
    → before ≡ front ++ flat_map shared_node_records nodes ++ leaf_records o → o ≡ None
    → before ++ shared_node_records n ≡ front ++ flat_map shared_node_records (nodes ++ n ∷ []) ++ leaf_records o
node_read front before nodes n o e f =
    ap (λ rs. rs ++ shared_node_records n) (e ∙ without_leaf (front ++ flat_map shared_node_records nodes) o f) ∙ sym (node_text front nodes n)
    ∙ sym (without_leaf (front ++ flat_map shared_node_records (nodes ++ n ∷ [])) o f)

record IsSplit (lists : Lists) (cut : Cut) (s t : State) : Type 0 where
  parted : IsParted lists cut
  is : s ≡ t

some_not : {X : Type 0} (xs : List X) → is_none xs ≡ false → xs ≢ []
some_not [] e = absurd (cc e)
some_not (x ∷ xs) e = λ f. absurd (cc f)

split_tests : (a b : Bool) (s t : State) → cond (not a) (Err place) (cond b (Err part) (Ok s)) ≡ Ok t → (b ≡ false) × (s ≡ t)
split_tests true true s t e = absurd (refused_not part t e)
split_tests true false s t e = (refl, cc)
split_tests false b s t e = absurd (refused_not place t e)

split_is : (c : CaseRecord) (s t : State) (cut : Cut) (lists : Lists) (rest : List Lists) → split_at c s cut lists rest ≡ Ok t
    → IsSplit lists cut (record s { is_tree = true; due = lists_below lists cut ∷ lists_from lists cut ∷ rest }) t
split_is c s t cut lists rest e =
    let below = part_below cut.at (list_of lists cut.train) in
    let others = part_from cut.at (list_of lists cut.train) in
    let tests = split_tests (nat_lt cut.train (length c.book)) (is_none below || is_none others)
    (record s { is_tree = true; due = lists_below lists cut ∷ lists_from lists cut ∷ rest }) t e in
    let parts = or_parts (is_none below) (is_none others) tests.0 in
    record { parted = record { below = some_not below parts.0; rest = some_not others parts.1 }; is = tests.1 }

pub split_reads : (c : CaseRecord) (s t : State) (before : List ProofRecord) (cut : Cut) (o : Option OpenLeaf) (due : List Lists) → s.leaf ≡ o → s.due ≡ due
    → IsReading c s before → after_split c s cut o due ≡ Ok t → IsReading c t (before ++ Split cut ∷ [])
split_reads c s t before cut (Some l) due o d h e = absurd (refused_not place t e)
split_reads c s t before cut None [] o d h e = absurd (refused_not place t e)
split_reads c s t before cut None (lists ∷ rest) o d h e =
    let is = split_is c s t cut lists rest e in
    let new : State = record s { is_tree = true; due = lists_below lists cut ∷ lists_from lists cut ∷ rest } in
    let reading : IsReading c new (before ++ Split cut ∷ []) = record {
      nodes = h.nodes ++ SharedSplit cut ∷ [];
      going = h.going;
      version_least = h.version_least;
      version_most = h.version_most;
      plain = h.plain;
      each = h.each;
      early = λ f. absurd (cc f);
      open_leaf = λ l f. absurd (cc (f, o));
      text = node_read (head_records c s.version s.tables) before h.nodes (SharedSplit cut) s.leaf h.text o;
      can = split_read c s.tables h.nodes lists rest s.least (subst (λ (due : List Lists). CanBeCompleted c s.tables h.nodes due s.least) d h.can) cut is.parted;
    } in
    subst (λ (u : State). IsReading c u (before ++ Split cut ∷ [])) is.is reading

pub leaf_reads : (c : CaseRecord) (s t : State) (before : List ProofRecord) (q : ℤ) (o : Option OpenLeaf) (due : List Lists) → IsTrue (is_in_range (Leaf q))
    → s.leaf ≡ o → IsReading c s before → after_leaf s q o due ≡ Ok t → IsReading c t (before ++ Leaf q ∷ [])
leaf_reads c s t before q (Some l) due range o h e = absurd (refused_not place t e)
leaf_reads c s t before q None [] range o h e = absurd (refused_not place t e)
leaf_reads c s t before q None (lists ∷ rest) range o h e =
    let l : OpenLeaf = record { q = q; u = []; v = []; alpha = []; beta = []; uses = [] } in
    let new : State = record s { is_tree = true; leaf = Some l } in
    let same : new ≡ t = cc e in
    let limits = q_is q range in
    let is_open : IsOpen c s.tables (here s) l =
    open_without c s.tables (here s) l limits.0 limits.1 (listed_none train_key (IsTrainThere c)) (listed_none minute_key (IsMinuteThere c))
    (listed_none entry_key (IsEntryThere c (here s) first_train)) (listed_none entry_key (IsEntryThere c (here s) second_train)) refl in
    let front = head_records c s.version s.tables ++ flat_map shared_node_records h.nodes in
    let reading : IsReading c new (before ++ Leaf q ∷ []) = record {
      nodes = h.nodes;
      going = h.going;
      version_least = h.version_least;
      version_most = h.version_most;
      plain = h.plain;
      each = h.each;
      early = λ f. absurd (cc f);
      open_leaf = λ k f. let leaf : l ≡ k = cc f in subst (IsOpen c s.tables (here s)) leaf is_open;
      text = ap (λ rs. rs ++ Leaf q ∷ []) (h.text ∙ without_leaf front s.leaf o);
      can = h.can;
    } in
    subst (λ (u : State). IsReading c u (before ++ Leaf q ∷ [])) same reading

record IsClosed (c : CaseRecord) (s t : State) (l : OpenLeaf) (due : List Lists) : Type 0 where
  value : LeafValue
  verdict : verdict_of c (here s) (so_far s l) ≡ Ok value
  lists : Lists
  rest : List Lists
  due_is : due ≡ lists ∷ rest
  is : record s { leaf = None; due = rest; least = lesser s.least (bound_of c (so_far s l)) } ≡ t

closed_is : (c : CaseRecord) (s t : State) (l : OpenLeaf) (v : Result LeafValue LeafFault) (due : List Lists) → verdict_of c (here s) (so_far s l) ≡ v
    → closed c s (so_far s l) v due ≡ Ok t → IsClosed c s t l due
closed_is c s t l (Err (PairFault x)) due v e = absurd (cc e)
closed_is c s t l (Err (PatternFault x)) due v e = absurd (cc e)
closed_is c s t l (Ok value) [] v e = absurd (cc e)
closed_is c s t l (Ok value) (lists ∷ rest) v e = record { value = value; verdict = v; lists = lists; rest = rest; due_is = refl; is = cc (e) }

pub close_reads : (c : CaseRecord) (s t : State) (before : List ProofRecord) (l : OpenLeaf) → s.leaf ≡ Some l → IsReading c s before → add_close c s l ≡ Ok t
    → IsReading c t (before ++ Close ∷ [])
close_reads c s t before l o h e =
    let m = closed_is c s t l (verdict_of c (here s) (so_far s l)) s.due refl e in
    let is_open = h.open_leaf l o in
    let made = shared_made c s.tables (here s) l is_open in
    let stands = made_stands c s.tables (here s) l is_open m.value m.verdict in
    let new : State = record s { leaf = None; due = m.rest; least = lesser s.least (bound_of c (so_far s l)) } in
    let due : s.due ≡ here s ∷ m.rest = m.due_is ∙ ap (λ lists. lists ∷ m.rest) (sym (ap first_of m.due_is)) in
    let head = head_records c s.version s.tables in
    let front = head ++ flat_map shared_node_records h.nodes in
    let text : before ++ Close ∷ [] ≡ head ++ flat_map shared_node_records (h.nodes ++ SharedLeafNode made ∷ []) =
    ap (λ rs. rs ++ Close ∷ []) (h.text ∙ ap (λ p. front ++ leaf_records p) o) ∙ append_assoc front (open_records l) (Close ∷ [])
    ∙ sym (node_text head h.nodes (SharedLeafNode made)) in
    let reading : IsReading c new (before ++ Close ∷ []) = record {
      nodes = h.nodes ++ SharedLeafNode made ∷ [];
      going = h.going;
      version_least = h.version_least;
      version_most = h.version_most;
      plain = h.plain;
      each = h.each;
      early = λ f. let shut = (h.early f).shut in absurd (cc (shut, o));
      open_leaf = λ k f. absurd (cc f);
      text = text ∙ sym (append-nil (head ++ flat_map shared_node_records (h.nodes ++ SharedLeafNode made ∷ [])));
      can = leaf_read c s.tables h.nodes (here s) m.rest s.least (subst (λ (due : List Lists). CanBeCompleted c s.tables h.nodes due s.least) due h.can) made stands;
    } in
    subst (λ (u : State). IsReading c u (before ++ Close ∷ [])) m.is reading

-- the end

bound_same : (a b : Bound) → same_bound a b ≡ true → a ≡ b
bound_same (AtLeast n) (AtLeast m) e = ap (λ z. AtLeast z) ((Decides-int_eq n m).0 e)
bound_same (AtLeast n) NoBound e = absurd (cc e)
bound_same NoBound (AtLeast m) e = absurd (cc e)
bound_same NoBound NoBound e = refl

leaf_shut : (o : Option OpenLeaf) → is_leaf_open o ≡ false → o ≡ None
leaf_shut None e = refl
leaf_shut (Some l) e = absurd (cc e)

end_tests : (a b : Bool) (s t : State) → cond a (Err place) (cond b (Ok s) (Err bound)) ≡ Ok t → (a ≡ false) × (b ≡ true) × (s ≡ t)
end_tests true b s t e = absurd (refused_not place t e)
end_tests false true s t e = (refl, refl, cc)
end_tests false false s t e = absurd (refused_not bound t e)

pub end_reads : (c : CaseRecord) (s t : State) (before : List ProofRecord) (b : Bound) → IsReading c s before → after_end s b ≡ Ok t
    → IsEnded c t (before ++ end_of b ∷ [])
end_reads c s t before b h e =
    let tests = end_tests (s.version == 0 || is_leaf_open s.leaf || not (is_none s.due)) (same_bound s.least b) (record s { is_over = true }) t e in
    let three = or_parts (s.version == 0 || is_leaf_open s.leaf) (not (is_none s.due)) tests.0 in
    let two = or_parts (s.version == 0) (is_leaf_open s.leaf) three.0 in
    let shut = leaf_shut s.leaf two.1 in
    let due = none_is s.due (not-false (is_none s.due) three.1) in
    let same = bound_same s.least b tests.1 in
    let whole : IsCompleted c s.tables h.nodes [] s.least [] = subst (λ (due : List Lists). CanBeCompleted c s.tables h.nodes due s.least) due h.can [] tt in
    let nodes : h.nodes ≡ nodes_in whole.tree = sym (append-nil h.nodes) ∙ whole.order in
    let head = head_records c s.version s.tables in
    let new : State = record s { is_over = true } in
    let ended : IsEnded c new (before ++ end_of b ∷ []) = record {
      over = refl;
      version_least = h.version_least;
      version_most = h.version_most;
      plain = h.plain;
      each = h.each;
      tree = whole.tree;
      stands = whole.stands;
      bounds = sym (lesser_none s.least) ∙ whole.bounds;
      text = ap (λ rs. rs ++ end_of b ∷ [])
          (h.text ∙ without_leaf (head ++ flat_map shared_node_records h.nodes) s.leaf shut ∙ ap (λ ns. head ++ flat_map shared_node_records ns) nodes)
          ∙ ap (λ d. head ++ flat_map shared_node_records (nodes_in whole.tree) ++ end_of d ∷ []) (sym same);
    } in
    subst (λ (u : State). IsEnded c u (before ++ end_of b ∷ [])) tests.2 ended
