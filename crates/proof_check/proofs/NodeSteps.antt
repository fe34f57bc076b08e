-- A walk: what nodes and the records of a leaf lead to.
use Rattle.std.proofs.Common.{◌≡◌, ℕ, ◌<◌, ◌&&◌, ◌||◌, not, Bool, true, false, cond, List, [], ◌∷◌, ◌++◌, length, refl, sym, ap, subst, ◌∙◌, arith, Some, None, Option, Result, Ok, Err, IsTrue, ℤ, pos, ◌+ℤ◌, ◌≤ℤ◌}
use Rattle.std.specs.Prelude.{All, IsErrAnd, if◌then◌else◌, slice_get, nat_lt, ◌^◌}
use Rattle.std.specs.Ordering.{nat_cmp}
use Rattle.std.specs.Option.{option_map, is_some}
use Rattle.std.specs.Map.{keys_of, values_of}
use Rattle.std.specs.List.Sorted.{IsStrictlyIncreasing, IsStrictlySortedBy}
use Rattle.std.proofs.lemmas.List.Elements.{All-cons, All-head, All-nil, All-tail}
use borrow.Author.Tests.{ltb-true}
use Rattle.patterns.specs.Allowed.{FitsBook, Lists, list_of, part_below, part_from}
use Rattle.patterns.proofs.ListLemmas.{below_fits, rest_fits}
use Rattle.pair_prices.specs.Case.{CaseRecord}
use Rattle.pair_prices.specs.Trains.{TrainPair}
use Rattle.leaf_bounds.specs.declared.number.PairValue.{PairValue}
use Rattle.leaf_bounds.specs.declared.uses.UseOf.{UseOf}
use Rattle.leaf_bounds.specs.declared.tree.Cut.{Cut}
use Rattle.leaf_bounds.specs.Expansion.{in_list, used_alpha, used_beta}
use Rattle.leaf_bounds.specs.Listed.{pair_listed}
use Rattle.leaf_bounds.specs.Total.{only_if}
use Rattle.leaf_bounds.specs.Tree.{IsParted, lists_below, lists_from}
use Rattle.proof_file.proofs.TruthLemmas.{and_parts}
use Rattle.proof_file.specs.declared.record.ProofRecord.{ProofRecord}
use Rattle.proof_file.specs.declared.record.ProofRecord.TheVariants.{Head, Table, Ta, Tb, Split, Leaf, U, V, A, B, Use, Close, End, Nothing}
use Rattle.proof_file.specs.Kind.{is_in_range}
use Rattle.proof_rules.specs.Fault.{Fault, State, OpenLeaf as LeafSoFar, place, sum, after, after_split, after_leaf, checked, is_none, are_small}
use Rattle.proof_rules.specs.declared.refused.ProofKind.{ProofKind}
use Rattle.proof_rules.specs.declared.refused.ProofKind.TheVariants.{Place}
use Rattle.proof_check.specs.declared.leaf.OpenLeaf.{OpenLeaf}
use Rattle.proof_check.specs.declared.stage.Stage.TheVariants.{Tree}
use Rattle.proof_check.specs.declared.stop.Stop.{Stop}
use Rattle.proof_check.specs.declared.stop.Stop.TheVariants.{Memory, Refused}
use Rattle.proof_check.specs.declared.splits.Splits.{Splits}
use Rattle.proof_check.specs.declared.walk.Walk.{Walk}
use Rattle.proof_check.specs.Due.{AreOpen, IsDivided, due_of, later_of}
use Rattle.proof_check.specs.Going.{Follows}
use Rattle.proof_check.specs.Open.{IsLeaf, IsLeafStep, a_due, b_due, leaf_after, leaf_of, numbers_so_far, u_due, use_due, v_due, with_due}
use Rattle.proof_check.specs.Sums.{AreKeyed, Sums, sum_at}
use Rattle.proof_check.specs.Tables.{groups_of}
use Rattle.proof_check.specs.Walk.{IsSound, IsStep, has_nodes, is_number, is_over, is_tree, node_due, state_of}
use Rattle.proof_check.proofs.RangeFacts.{leaf_range}
use Rattle.proof_check.proofs.WalkSteps.{free_of, leaf_has_nodes, nodes_not_head, nodes_not_over, open_state, some_leaf}

is_none_some : {X : Type 0} (o : Option X) → not (is_some o) ≡ true → o ≡ None
is_none_some None e = refl
is_none_some (Some x) e = absurd (cc)

-- splits

-- where no node is due
node_no : (c : CaseRecord) (s : State) (cut : Cut) (o : Option OpenLeaf) (nodes there : Bool) (lists : Lists) (rest : List Lists) (P : State → Type 0)
    → nat_lt cut.train (length c.book) ≡ there → (not (is_some o) && nodes && there) ≡ false
    → Follows (after_split c s cut (option_map leaf_of o) (cond nodes (lists ∷ rest) [])) P (Err (Refused Place))
node_no c s cut (Some l) nodes there lists rest P t e = refl
node_no c s cut None false there lists rest P t e = refl
node_no c s cut None true true lists rest P t e = absurd (cc)
node_no c s cut None true false lists rest P t e = rw t refl

none_test : (xs : List ℕ) → (xs ≡ [] → ⊥) → is_none xs ≡ false
none_test [] h = absurd (h refl)
none_test (x ∷ xs) h = refl

some_test : (xs : List ℕ) → is_none xs ≡ false → xs ≡ [] → ⊥
some_test xs e f = differs (ap is_none f) e
  where
    differs : is_none xs ≡ true → is_none xs ≡ false → ⊥
    differs a b = cc

part_test : (lists : Lists) (cut : Cut) → (IsParted lists cut → ⊥)
    → (is_none (part_below cut.at (list_of lists cut.train)) || is_none (part_from cut.at (list_of lists cut.train))) ≡ true
part_test lists cut h =
    by (is_none (part_below cut.at (list_of lists cut.train))) (is_none (part_from cut.at (list_of lists cut.train))) refl refl
  where
    by : (a b : Bool) → is_none (part_below cut.at (list_of lists cut.train)) ≡ a → is_none (part_from cut.at (list_of lists cut.train)) ≡ b → (a || b) ≡ true
    by true b e f = refl
    by false true e f = refl
    by false false e f =
        absurd (h (record {
          below = some_test (part_below cut.at (list_of lists cut.train)) e;
          rest = some_test (part_from cut.at (list_of lists cut.train)) f;
        }))

parted_test : (lists : Lists) (cut : Cut) → IsParted lists cut
    → (is_none (part_below cut.at (list_of lists cut.train)) || is_none (part_from cut.at (list_of lists cut.train))) ≡ false
parted_test lists cut h =
    ap (λ a. a || is_none (part_from cut.at (list_of lists cut.train))) (none_test (part_below cut.at (list_of lists cut.train)) h.below)
    ∙ none_test (part_from cut.at (list_of lists cut.train)) h.rest

-- a leaf that lists nothing
pub record IsFresh (q : ℤ) (o : OpenLeaf) : Type 0 where
  pub scale : o.q ≡ q
  pub u : o.u.items ≡ []
  pub v : o.v.items ≡ []
  pub alpha : o.alpha.listed.items ≡ []
  pub beta : o.beta.listed.items ≡ []
  pub alpha_sums : o.alpha.sums.entries ≡ []
  pub beta_sums : o.beta.sums.entries ≡ []
  pub uses : o.uses.items ≡ []

none_got : {X : Type 0} (xs : List X) (k : ℕ) (x : X) → xs ≡ [] → slice_get xs k ≡ Some x → ⊥
none_got {X} xs k x e f = gone k (ap (λ (ys : List X). slice_get ys k) (sym e) ∙ f)
  where
    gone : (k : ℕ) → slice_get {X = X} [] k ≡ Some x → ⊥
    gone k g = cc

none_all : {X : Type 0} (P : X → Type 0) (xs : List X) → xs ≡ [] → All P xs
none_all {X} P xs e = subst (λ (ys : List X). All P ys) (sym e) (All-nil P)

sorted_none : IsStrictlySortedBy nat_cmp (keys_of {K = ℕ} {X = PairValue} [])
unfolding IsStrictlySortedBy
sorted_none = tt

fresh_keyed : (m : Sums) → m.entries ≡ [] → AreKeyed m
fresh_keyed m e = record {
  each = λ k x f. absurd (none_got m.entries k x e f);
  ordered = subst (λ (es : List (ℕ × PairValue)). IsStrictlySortedBy nat_cmp (keys_of es)) (sym e) sorted_none;
}

zero_sum : (b : Bool) → pos 0 ≡ pos 0 +ℤ only_if b (pos 0)
zero_sum true = refl
zero_sum false = refl

fresh_sum : (m : Sums) (p : TrainPair) (i : ℕ) (xs : List PairValue) (b : Bool) (u : ℤ) → m.entries ≡ [] → xs ≡ [] → u ≡ pos 0
    → sum_at m p i ≡ pair_listed xs p i +ℤ only_if b u
fresh_sum m p i xs b u e f g =
    ap (λ (es : List (ℕ × PairValue)). pair_listed (values_of es) p i) e ∙ zero_sum b
    ∙ ap (λ z. pos 0 +ℤ only_if b z) (sym g) ∙ ap (λ (ys : List PairValue). pair_listed ys p i +ℤ only_if b u) (sym f)

-- what a leaf's step leads to, in the walk's state
abbrev lifted : State → Result LeafSoFar Fault → Result State Fault
lifted s (Ok l) = Ok (record s { leaf = Some l })
lifted s (Err f) = Err f

lift_due : (s : State) (b : Bool) (l : LeafSoFar) → checked b (record s { leaf = Some l }) ≡ lifted s (with_due b l)
lift_due s true l = refl
lift_due s false l = refl

lift_use : (s : State) (due small : Bool) (l : LeafSoFar)
    → (if due then (if small then Ok (record s { leaf = Some l }) else Err sum) else Err place) ≡ lifted s (if due then (if small then Ok l else Err sum) else Err place)
lift_use s true true l = refl
lift_use s true false l = refl
lift_use s false small l = refl

lift_follows : (s : State) (x : Result LeafSoFar Fault) (P : State → Type 0) (Q : LeafSoFar → Type 0) (result : Result (Unit {0}) Stop)
    → ((l : LeafSoFar) → Q l → P (record s { leaf = Some l })) → Follows x Q result → Follows (lifted s x) P result
lift_follows s (Ok l) P Q (Ok done) h f = h l f
lift_follows s (Ok l) P Q (Err Memory) h f = tt
lift_follows s (Ok l) P Q (Err (Refused kind)) h f = f
lift_follows s (Err fault) P Q (Ok done) h f = f
lift_follows s (Err fault) P Q (Err Memory) h f = tt
lift_follows s (Err fault) P Q (Err (Refused kind)) h f = f

module _ (c : CaseRecord) (old : Walk) (h : IsSound c old) where
  abbrev Stands : Walk → State → Type 0
  Stands new s = (state_of new ≡ s) × IsSound c new

  abbrev pub node_state : Option OpenLeaf → State
  node_state o = record {
    version = old.version;
    tables = groups_of old.tables;
    is_tree = is_tree old.stage;
    due = due_of old.splits;
    leaf = option_map leaf_of o;
    least = old.least;
    is_over = is_over old.stage;
  }

  pub split_refused : (cut : Cut) (P : State → Type 0) → (node_due old && nat_lt cut.train (length c.book)) ≡ false
      → Follows (after c (state_of old) (Split cut)) P (Err (Refused Place))
  unfolding after
  split_refused cut P e =
      node_no c (state_of old) cut old.leaf (has_nodes old.stage) (nat_lt cut.train (length c.book)) old.splits.lists.lists (later_of old.splits) P refl e

  pub record IsNodeDue : Type 0 where
    pub closed : old.leaf ≡ None
    pub nodes : has_nodes old.stage ≡ true

  pub is_node_due : node_due old ≡ true → IsNodeDue
  is_node_due e =
      let parts = and_parts (not (is_some old.leaf)) (has_nodes old.stage) e in
      record { closed = is_none_some old.leaf parts.0; nodes = parts.1 }

  node_fits : has_nodes old.stage ≡ true → All (λ ls. FitsBook ls c.book) (due_of old.splits)
  node_fits e = subst (λ (b : Bool). All (λ ls. FitsBook ls c.book) (cond b (due_of old.splits) [])) e h.fits

  pub first_fits : has_nodes old.stage ≡ true → FitsBook old.splits.lists.lists c.book
  first_fits e = All-head (λ ls. FitsBook ls c.book) old.splits.lists.lists (later_of old.splits) (node_fits e)

  pub rest_of_fits : has_nodes old.stage ≡ true → All (λ ls. FitsBook ls c.book) (later_of old.splits)
  rest_of_fits e = All-tail (λ ls. FitsBook ls c.book) old.splits.lists.lists (later_of old.splits) (node_fits e)

  -- where a leaf is open
  pub leaf_fits : (o : OpenLeaf) → old.leaf ≡ Some o → FitsBook old.splits.lists.lists c.book
  leaf_fits o e = first_fits (leaf_has_nodes old.stage (h.inside (some_leaf old.leaf o e)))

  split_fits : (cut : Cut) → has_nodes old.stage ≡ true → cut.train < length old.splits.lists.lists
      → All (λ ls. FitsBook ls c.book) (lists_below old.splits.lists.lists cut ∷ lists_from old.splits.lists.lists cut ∷ later_of old.splits)
  split_fits cut nodes there =
      All-cons (λ ls. FitsBook ls c.book) (lists_below old.splits.lists.lists cut) (lists_from old.splits.lists.lists cut ∷ later_of old.splits)
      (below_fits c.book old.splits.lists.lists cut.train cut.at there (first_fits nodes))
      (All-cons (λ ls. FitsBook ls c.book) (lists_from old.splits.lists.lists cut) (later_of old.splits)
      (rest_fits c.book old.splits.lists.lists cut.train cut.at there (first_fits nodes)) (rest_of_fits nodes))

  pub train_there : (cut : Cut) → (node_due old && nat_lt cut.train (length c.book)) ≡ true → cut.train < length old.splits.lists.lists
  train_there cut e =
      let there = ltb-true cut.train (length c.book) (and_parts (node_due old) (nat_lt cut.train (length c.book)) e).1 in
      let fits = (first_fits (is_node_due (and_parts (node_due old) (nat_lt cut.train (length c.book)) e).0).nodes).trains in
      omega (arith, there, fits)

  pub list_ascends : (cut : Cut) → (node_due old && nat_lt cut.train (length c.book)) ≡ true
      → IsStrictlyIncreasing (list_of old.splits.lists.lists cut.train)
  list_ascends cut e =
      (first_fits (is_node_due (and_parts (node_due old) (nat_lt cut.train (length c.book)) e).0).nodes).ascending cut.train (train_there cut e)

  part_refused : (cut : Cut) (S : Splits) (P : State → Type 0) (kind : ProofKind) → (node_due old && nat_lt cut.train (length c.book)) ≡ true
      → IsDivided old.splits cut S (Err (Refused kind)) → Follows (after c (state_of old) (Split cut)) P (Err (Refused kind))
  unfolding after
  part_refused cut S P kind due d =
      let parts = and_parts (node_due old) (nat_lt cut.train (length c.book)) due in
      let node = is_node_due parts.0 in
      subst (λ (s : State). Follows (after c s (Split cut)) P (Err (Refused kind))) (sym (open_state old None node.nodes node.closed))
      (rw (parts.1, part_test old.splits.lists.lists cut d.0) d.1)

  pub split_stops : (cut : Cut) (S : Splits) (P : State → Type 0) (result : Result (Unit {0}) Stop) (stop : Stop) → IsErrAnd result (λ s. s ≡ stop)
      → (node_due old && nat_lt cut.train (length c.book)) ≡ true → IsDivided old.splits cut S (Err stop)
      → Follows (after c (state_of old) (Split cut)) P result
  split_stops cut S P (Ok done) stop e due d = absurd e
  split_stops cut S P (Err Memory) stop e due d = free_of (after c (state_of old) (Split cut)) P
  split_stops cut S P (Err (Refused kind)) Memory e due d = absurd (cc)
  split_stops cut S P (Err (Refused kind)) (Refused other) e due d =
      let same : kind ≡ other = cc in
      part_refused cut S P kind due (d.0, same ∙ d.1)

  pub split_done : (cut : Cut) (S : Splits) → (node_due old && nat_lt cut.train (length c.book)) ≡ true → IsDivided old.splits cut S (Ok tt) → AreOpen S
      → IsStep c old (Split cut) (record old { stage = Tree; splits = S }) (Ok tt)
  unfolding after
  split_done cut S due d opened =
      let parts = and_parts (node_due old) (nat_lt cut.train (length c.book)) due in
      let node = is_node_due parts.0 in
      let there = train_there cut due in
      subst (λ (s : State). Follows (after c s (Split cut)) (λ q. Stands (record old { stage = Tree; splits = S }) q) (Ok tt))
      (sym (open_state old None node.nodes node.closed))
      (rw (parts.1, parted_test old.splits.lists.lists cut d.0) (
        λ i. record {
          version = old.version;
          tables = groups_of old.tables;
          is_tree = true;
          due = d.1 i;
          leaf = option_map leaf_of (node.closed i);
          least = old.least;
          is_over = (sym (nodes_not_over old.stage node.nodes)) i;
        },
        record {
          book = h.book;
          head = h.head ∙ nodes_not_head old.stage node.nodes;
          there = h.there;
          open_splits = opened;
          fits = subst (λ (ls : List Lists). All (λ l. FitsBook l c.book) ls) (sym d.1) (split_fits cut node.nodes there);
          full = λ f. absurd (cc);
          inside = λ f. refl;
          leaf = λ o f. absurd (cc (node.closed, f));
        },
      ))

  -- leaves

  leaf_no : (s : State) (q : ℤ) (o : Option OpenLeaf) (nodes : Bool) (lists : Lists) (rest : List Lists) (P : State → Type 0)
      → (not (is_some o) && nodes) ≡ false → Follows (after_leaf s q (option_map leaf_of o) (cond nodes (lists ∷ rest) [])) P (Err (Refused Place))
  leaf_no s q (Some l) nodes lists rest P e = refl
  leaf_no s q None false lists rest P e = refl
  leaf_no s q None true lists rest P e = absurd (cc)

  pub leaf_refused : (q : ℤ) (P : State → Type 0) → node_due old ≡ false → Follows (after c (state_of old) (Leaf q)) P (Err (Refused Place))
  unfolding after
  leaf_refused q P e = leaf_no (state_of old) q old.leaf (has_nodes old.stage) old.splits.lists.lists (later_of old.splits) P e

  fresh_leaf : (q : ℤ) (o : OpenLeaf) → IsTrue (is_in_range (Leaf q)) → IsFresh q o → IsLeaf c (groups_of old.tables) old.splits.lists.lists o
  fresh_leaf q o range f =
      let scale = leaf_range q range in
      record {
        kept = record {
          q_least = subst (λ (z : ℤ). pos 1 ≤ℤ z) (sym f.scale) scale.least;
          q_most = subst (λ (z : ℤ). z ≤ℤ pos (10 ^ 18)) (sym f.scale) scale.most;
          u_each = λ k x e. absurd (none_got o.u.items k x f.u e);
          v_each = λ k x e. absurd (none_got o.v.items k x f.v e);
          alpha_each = λ k x e. absurd (none_got o.alpha.listed.items k x f.alpha e);
          beta_each = λ k x e. absurd (none_got o.beta.listed.items k x f.beta e);
          u_ascends = λ k x y e g. absurd (none_got o.u.items k x f.u e);
          v_ascends = λ k x y e g. absurd (none_got o.v.items k x f.v e);
          alpha_ascends = λ k x y e g. absurd (none_got o.alpha.listed.items k x f.alpha e);
          beta_ascends = λ k x y e g. absurd (none_got o.beta.listed.items k x f.beta e);
        };
        uses = λ k x y e g. absurd (none_got o.uses.items k x f.uses e);
        trains = none_all (λ x. x.train < length c.book) o.u.items f.u;
        platforms = none_all (λ x. x.platform < length c.station.platforms) o.v.items f.v;
        alpha_keyed = fresh_keyed o.alpha.sums f.alpha_sums;
        beta_keyed = fresh_keyed o.beta.sums f.beta_sums;
        alpha_listed = λ k e g. absurd (none_got o.alpha.sums.entries k e f.alpha_sums g);
        beta_listed = λ k e g. absurd (none_got o.beta.sums.entries k e f.beta_sums g);
        alpha = λ p i. fresh_sum o.alpha.sums p i o.alpha.listed.items (in_list old.splits.lists.lists p.first i)
            (used_alpha (groups_of old.tables) o.uses.items p i) f.alpha_sums f.alpha (ap (λ (us : List UseOf). used_alpha (groups_of old.tables) us p i) f.uses);
        beta = λ p i. fresh_sum o.beta.sums p i o.beta.listed.items (in_list old.splits.lists.lists p.second i)
            (used_beta (groups_of old.tables) o.uses.items p i) f.beta_sums f.beta (ap (λ (us : List UseOf). used_beta (groups_of old.tables) us p i) f.uses);
      }

  pub leaf_done : (q : ℤ) (o : OpenLeaf) → IsTrue (is_in_range (Leaf q)) → IsFresh q o → node_due old ≡ true
      → IsStep c old (Leaf q) (record old { stage = Tree; leaf = Some o }) (Ok tt)
  unfolding after
  leaf_done q o range f due =
      let node = is_node_due due in
      subst (λ (s : State). Follows (after c s (Leaf q)) (λ p. Stands (record old { stage = Tree; leaf = Some o }) p) (Ok tt))
      (sym (open_state old None node.nodes node.closed)) (
        λ i. record {
          version = old.version;
          tables = groups_of old.tables;
          is_tree = true;
          due = due_of old.splits;
          leaf = Some (record { q = f.scale i; u = f.u i; v = f.v i; alpha = f.alpha i; beta = f.beta i; uses = f.uses i });
          least = old.least;
          is_over = (sym (nodes_not_over old.stage node.nodes)) i;
        },
        record {
          book = h.book;
          head = h.head ∙ nodes_not_head old.stage node.nodes;
          there = h.there;
          open_splits = h.open_splits;
          fits = node_fits node.nodes;
          full = λ g. absurd (cc);
          inside = λ g. refl;
          leaf = λ p e.
              let same : o ≡ p = cc in
              subst (λ (l : OpenLeaf). IsLeaf c (groups_of old.tables) old.splits.lists.lists l) same (fresh_leaf q o range f);
        },
      )

  -- the records of a leaf

  pub number_refused : (r : ProofRecord) (P : State → Type 0) → is_number r ≡ true → old.leaf ≡ None
      → Follows (after c (state_of old) r) P (Err (Refused Place))
  unfolding after
  number_refused r P e f =
      subst (λ (o : Option LeafSoFar). Follows (after c (record (state_of old) { leaf = o }) r) P (Err (Refused Place))) (sym (ap (option_map leaf_of) f)) (by r e)
    where
      by : (r : ProofRecord) → is_number r ≡ true → Follows (after c (record (state_of old) { leaf = None }) r) P (Err (Refused Place))
      by (U x) e = refl
      by (V x) e = refl
      by (A x) e = refl
      by (B x) e = refl
      by (Use x) e = refl
      by (Head x) e = absurd (cc)
      by (Table x) e = absurd (cc)
      by (Ta x) e = absurd (cc)
      by (Tb x) e = absurd (cc)
      by (Split x) e = absurd (cc)
      by (Leaf x) e = absurd (cc)
      by Close e = absurd (cc)
      by (End x) e = absurd (cc)
      by Nothing e = absurd (cc)

  lift_after : (o : OpenLeaf) (r : ProofRecord) → is_number r ≡ true
      → after c (node_state (Some o)) r ≡ lifted (node_state (Some o)) (leaf_after c (groups_of old.tables) old.splits.lists.lists (leaf_of o) r)
  unfolding after
  lift_after o (U x) e = lift_due (node_state (Some o)) (u_due c x (leaf_of o)) (record (leaf_of o) { u = o.u.items ++ x ∷ [] })
  lift_after o (V x) e = lift_due (node_state (Some o)) (v_due c x (leaf_of o)) (record (leaf_of o) { v = o.v.items ++ x ∷ [] })
  lift_after o (A x) e =
      lift_due (node_state (Some o)) (a_due c old.splits.lists.lists x (leaf_of o)) (record (leaf_of o) { alpha = o.alpha.listed.items ++ x ∷ [] })
  lift_after o (B x) e =
      lift_due (node_state (Some o)) (b_due c old.splits.lists.lists x (leaf_of o)) (record (leaf_of o) { beta = o.beta.listed.items ++ x ∷ [] })
  lift_after o (Use x) e =
      lift_use (node_state (Some o)) (use_due (groups_of old.tables) x (leaf_of o))
      (are_small c old.splits.lists.lists (numbers_so_far (groups_of old.tables) old.splits.lists.lists (record (leaf_of o) { uses = o.uses.items ++ x ∷ [] })))
      (record (leaf_of o) { uses = o.uses.items ++ x ∷ [] })
  lift_after o (Head x) e = absurd (cc)
  lift_after o (Table x) e = absurd (cc)
  lift_after o (Ta x) e = absurd (cc)
  lift_after o (Tb x) e = absurd (cc)
  lift_after o (Split x) e = absurd (cc)
  lift_after o (Leaf x) e = absurd (cc)
  lift_after o Close e = absurd (cc)
  lift_after o (End x) e = absurd (cc)
  lift_after o Nothing e = absurd (cc)

  pub number_step : (o new : OpenLeaf) (r : ProofRecord) (result : Result (Unit {0}) Stop) → old.leaf ≡ Some o → is_number r ≡ true
      → IsLeafStep c (groups_of old.tables) old.splits.lists.lists o r new result → IsStep c old r (record old { leaf = Some new }) result
  number_step o new r result e number f =
      let inside = h.inside (some_leaf old.leaf o e) in
      let nodes = leaf_has_nodes old.stage inside in
      let P : State → Type 0 = λ s. Stands (record old { leaf = Some new }) s in
      subst (λ (s : State). Follows (after c s r) P result) (sym (open_state old (Some o) nodes e))
      (subst (λ (x : Result State Fault). Follows x P result) (sym (lift_after o r number))
      (lift_follows (node_state (Some o)) (leaf_after c (groups_of old.tables) old.splits.lists.lists (leaf_of o) r) P
      (λ l. (leaf_of new ≡ l) × IsLeaf c (groups_of old.tables) old.splits.lists.lists new) result
      (λ l q. (
        λ i. record {
          version = old.version;
          tables = groups_of old.tables;
          is_tree = is_tree old.stage;
          due = cond (nodes i) (due_of old.splits) [];
          leaf = Some (q.0 i);
          least = old.least;
          is_over = is_over old.stage;
        },
        record {
          book = h.book;
          head = h.head;
          there = h.there;
          open_splits = h.open_splits;
          fits = h.fits;
          full = h.full;
          inside = λ g. inside;
          leaf = λ p g.
              let same : new ≡ p = cc in
              subst (λ (y : OpenLeaf). IsLeaf c (groups_of old.tables) old.splits.lists.lists y) same q.1;
        },
      )) f))
