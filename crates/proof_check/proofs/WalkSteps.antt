-- A walk: what each kind of record leads to.
use Rattle.std.proofs.Common.{◌≡◌, ℕ, ◌<◌, ◌==◌, ◌&&◌, not, Bool, true, false, cond, List, [], ◌∷◌, ◌++◌, length, refl, sym, ap, subst, ◌∙◌, Some, None, Option, Result, Ok, Err, IsTrue}
use Rattle.std.specs.Prelude.{All, IsErrAnd, if◌then◌else◌, nat_lt}
use Rattle.std.specs.Option.{option_map, is_some}
use Rattle.std.proofs.lemmas.List.Elements.{All-append, All-cons, All-head, All-nil, All-tail}
use borrow.Author.Tests.{ltb-true}
use Rattle.patterns.specs.Allowed.{FitsBook, Lists, full_lists}
use Rattle.patterns.proofs.ListLemmas.{full_fits}
use Rattle.patterns.specs.Book.{IsBook}
use Rattle.pair_prices.specs.Case.{CaseRecord}
use Rattle.leaf_bounds.specs.declared.tree.Bound.TheVariants.{Nothing as NoBound}
use Rattle.leaf_bounds.specs.Group.{Group}
use Rattle.proof_file.proofs.TruthLemmas.{and_parts}
use Rattle.proof_file.specs.declared.record.HeadRecord.{HeadRecord}
use Rattle.proof_file.specs.declared.record.TableHead.{TableHead}
use Rattle.leaf_bounds.specs.declared.number.NumberValue.{NumberValue}
use Rattle.proof_file.specs.declared.record.ProofRecord.TheVariants.{Head, Table, Ta, Tb}
use Rattle.proof_file.specs.Kind.{is_in_range}
use Rattle.proof_rules.specs.Fault.{Fault, State, after, checked, tables_due, with_alpha, with_beta, with_last, with_tables}
use Rattle.proof_rules.specs.declared.refused.ProofKind.TheVariants.{Place}
use Rattle.proof_check.specs.declared.leaf.OpenLeaf.{OpenLeaf}
use Rattle.proof_check.specs.declared.stage.Stage.{Stage}
use Rattle.proof_check.specs.declared.stage.Stage.TheVariants.{Head as AtHead, Start, Tree, Last, Over}
use Rattle.proof_check.specs.declared.stop.Stop.{Stop}
use Rattle.proof_check.specs.declared.stop.Stop.TheVariants.{Memory, Refused}
use Rattle.proof_check.specs.declared.splits.Splits.{Splits}
use Rattle.proof_check.specs.declared.tables.Tables.{Tables}
use Rattle.proof_check.specs.declared.walk.Walk.{Walk}
use Rattle.proof_check.specs.Due.{AreOpen, due_of}
use Rattle.proof_check.specs.Going.{Follows, IsFound, IsPlaced, placed}
use Rattle.proof_check.specs.Open.{leaf_of}
use Rattle.proof_check.specs.Tables.{AreThere, alpha_added, beta_added, groups_of}
use Rattle.proof_check.specs.Walk.{IsSound, IsStep, has_leaf, has_nodes, is_head, is_over, is_tree, state_of}
use Rattle.proof_check.proofs.RangeFacts.{head_range}
use Rattle.proof_check.proofs.TableLemmas.{last_more, last_one}

-- answers

pub refuses : (X : Result State Fault) (P : State → Type 0) (due : Bool) (p result : Result (Unit {0}) Stop) (stop : Stop) → p ≡ placed due → p ≡ Err stop
    → IsErrAnd result (λ s. s ≡ stop) → (due ≡ false → Follows X P (Err (Refused Place))) → Follows X P result
refuses X P true p result stop e f g h = absurd (cc)
refuses X P false p (Ok done) stop e f g h = absurd g
refuses X P false p (Err other) stop e f g h =
    let same : other ≡ Refused Place = cc in
    subst (λ (s : Stop). Follows X P (Err s)) (sym same) (h refl)

pub free_of : (X : Result State Fault) (P : State → Type 0) → Follows X P (Err Memory)
free_of (Ok s) P = tt
free_of (Err fault) P = tt

checked_no : (b : Bool) (s : State) (P : State → Type 0) → b ≡ false → Follows (checked b s) P (Err (Refused Place))
checked_no true s P e = absurd (cc)
checked_no false s P e = refl

checked_yes : (b : Bool) (s : State) (P : State → Type 0) → b ≡ true → P s → Follows (checked b s) P (Ok tt)
checked_yes true s P e p = p
checked_yes false s P e p = absurd (cc)

-- stages

head_stage : (s : Stage) → is_head s ≡ true → s ≡ AtHead
head_stage AtHead e = refl
head_stage Start e = absurd (cc)
head_stage Tree e = absurd (cc)
head_stage Last e = absurd (cc)
head_stage Over e = absurd (cc)

pub nodes_not_head : (s : Stage) → has_nodes s ≡ true → is_head s ≡ false
nodes_not_head AtHead e = absurd (cc)
nodes_not_head Start e = refl
nodes_not_head Tree e = refl
nodes_not_head Last e = refl
nodes_not_head Over e = refl

pub nodes_not_over : (s : Stage) → has_nodes s ≡ true → is_over s ≡ false
nodes_not_over AtHead e = absurd (cc)
nodes_not_over Start e = refl
nodes_not_over Tree e = refl
nodes_not_over Last e = absurd (cc)
nodes_not_over Over e = absurd (cc)

head_no_leaf : (s : Stage) → is_head s ≡ true → has_leaf s ≡ true → ⊥
head_no_leaf AtHead e f = cc
head_no_leaf Start e f = cc
head_no_leaf Tree e f = cc
head_no_leaf Last e f = cc
head_no_leaf Over e f = cc

pub leaf_in_tree : (s : Stage) → has_leaf s ≡ true → is_tree s ≡ true
leaf_in_tree AtHead e = absurd (cc)
leaf_in_tree Start e = absurd (cc)
leaf_in_tree Tree e = refl
leaf_in_tree Last e = absurd (cc)
leaf_in_tree Over e = absurd (cc)

pub leaf_has_nodes : (s : Stage) → has_leaf s ≡ true → has_nodes s ≡ true
leaf_has_nodes AtHead e = absurd (cc)
leaf_has_nodes Start e = absurd (cc)
leaf_has_nodes Tree e = refl
leaf_has_nodes Last e = absurd (cc)
leaf_has_nodes Over e = absurd (cc)

pub leaf_stage : (s : Stage) → has_leaf s ≡ true → s ≡ Tree
leaf_stage AtHead e = absurd (cc)
leaf_stage Start e = absurd (cc)
leaf_stage Tree e = refl
leaf_stage Last e = absurd (cc)
leaf_stage Over e = absurd (cc)

pub some_leaf : (o : Option OpenLeaf) (l : OpenLeaf) → o ≡ Some l → is_some o ≡ true
some_leaf o l e = ap is_some e

due_before : (v : ℕ) (s : Stage) → (v == 2 && not (is_tree s)) ≡ true → has_leaf s ≡ true → ⊥
due_before v s e f = never (is_tree s) (and_parts (v == 2) (not (is_tree s)) e).1 (leaf_in_tree s f)
  where
    never : (b : Bool) → not b ≡ true → b ≡ true → ⊥
    never true e f = cc
    never false e f = cc

second_of : (b : Bool) (g k : Group) (xs : List NumberValue) → (if b then Some (record g { alpha = xs }) else None) ≡ Some k → k.second ≡ g.second
second_of true g k xs e = let same : record g { alpha = xs } ≡ k = cc in sym (ap (λ (y : Group). y.second) same)
second_of false g k xs e = absurd (cc)

second_of_beta : (b : Bool) (g k : Group) (xs : List NumberValue) → (if b then Some (record g { beta = xs }) else None) ≡ Some k → k.second ≡ g.second
second_of_beta true g k xs e = let same : record g { beta = xs } ≡ k = cc in sym (ap (λ (y : Group). y.second) same)
second_of_beta false g k xs e = absurd (cc)

-- a change of the last table leaves the trains there
kept_there : (n : ℕ) (f : Group → Option Group) → ((g k : Group) → f g ≡ Some k → k.second ≡ g.second) → (gs hs : List Group)
    → AreThere n gs → with_last f gs ≡ Some hs → AreThere n hs
kept_there n f keeps [] hs h e = absurd (cc)
kept_there n f keeps (g ∷ []) hs h e = by (f g) refl (sym (last_one f g) ∙ e)
  where
    by : (o : Option Group) → f g ≡ o → option_map (λ k. k ∷ []) (f g) ≡ Some hs → AreThere n hs
    by None q r = absurd (cc)
    by (Some k) q r =
        let same : k ∷ [] ≡ hs = cc in
        subst (λ (l : List Group). AreThere n l) same
        (All-cons (λ (y : Group). y.second < n) k []
        (subst (λ (m : ℕ). m < n) (sym (keeps g k q)) (All-head (λ (y : Group). y.second < n) g [] h)) (All-nil (λ (y : Group). y.second < n)))
kept_there n f keeps (g ∷ k ∷ gs) hs h e = by (with_last f (k ∷ gs)) refl (sym (last_more f g k gs) ∙ e) (λ ls q. kept_there n f keeps (k ∷ gs) ls (All-tail (λ (y : Group). y.second < n) g (k ∷ gs) h) q)
  where
    by : (o : Option (List Group)) → with_last f (k ∷ gs) ≡ o → option_map (λ ls. g ∷ ls) (with_last f (k ∷ gs)) ≡ Some hs
        → ((ls : List Group) → with_last f (k ∷ gs) ≡ Some ls → AreThere n ls) → AreThere n hs
    by None q r rest = absurd (cc)
    by (Some ls) q r rest =
        let same : g ∷ ls ≡ hs = cc in
        subst (λ (l : List Group). AreThere n l) same
        (All-cons (λ (y : Group). y.second < n) g ls (All-head (λ (y : Group). y.second < n) g (k ∷ gs) h) (rest ls q))

-- The state of a walk to which nodes come, with its list of what is due.
pub open_state : (w : Walk) (o : Option OpenLeaf) → has_nodes w.stage ≡ true → w.leaf ≡ o
    → state_of w ≡ record {
      version = w.version;
      tables = groups_of w.tables;
      is_tree = is_tree w.stage;
      due = due_of w.splits;
      leaf = option_map leaf_of o;
      least = w.least;
      is_over = is_over w.stage;
    }
open_state w o e f = λ i. record {
  version = w.version;
  tables = groups_of w.tables;
  is_tree = is_tree w.stage;
  due = cond (e i) (due_of w.splits) [];
  leaf = option_map leaf_of (f i);
  least = w.least;
  is_over = is_over w.stage;
}

pub new_sound : (c : CaseRecord) (t : Tables) (S : Splits) → IsBook c.book → groups_of t ≡ [] → due_of S ≡ full_lists c.book ∷ [] → AreOpen S
    → IsSound c (record { version = 0; stage = AtHead; tables = t; splits = S; leaf = None; least = NoBound })
new_sound c t S book none due opened = record {
  book = book;
  head = refl;
  there = subst (λ (gs : List Group). AreThere (length c.book) gs) (sym none) (All-nil (λ (y : Group). y.second < length c.book));
  open_splits = opened;
  fits = All-nil (λ l. FitsBook l c.book);
  full = λ e. due;
  inside = λ e. absurd (cc);
  leaf = λ o e. absurd (cc);
}

module _ (c : CaseRecord) (old : Walk) (h : IsSound c old) where
  abbrev Stands : Walk → State → Type 0
  Stands new s = (state_of new ≡ s) × IsSound c new

  -- the first record

  pub head_refused : (x : HeadRecord) (P : State → Type 0) → (old.version == 0 && x.trains == length c.book) ≡ false
      → Follows (after c (state_of old) (Head x)) P (Err (Refused Place))
  unfolding after
  head_refused x P e =
      checked_no (old.version == 0 && x.trains == length c.book) (record (state_of old) { version = x.version; due = full_lists c.book ∷ [] }) P e

  pub head_done : (x : HeadRecord) → IsTrue (is_in_range (Head x)) → (old.version == 0 && x.trains == length c.book) ≡ true
      → IsStep c old (Head x) (record old { version = x.version; stage = Start }) (Ok tt)
  unfolding after
  head_done x range e =
      let at_head : is_head old.stage ≡ true = sym h.head ∙ (and_parts (old.version == 0) (x.trains == length c.book) e).0 in
      let stage = head_stage old.stage at_head in
      let due = h.full at_head in
      checked_yes (old.version == 0 && x.trains == length c.book) (record (state_of old) { version = x.version; due = full_lists c.book ∷ [] })
      (Stands (record old { version = x.version; stage = Start })) e (
        λ i. record {
          version = x.version;
          tables = groups_of old.tables;
          is_tree = is_tree ((sym stage) i);
          due = due i;
          leaf = option_map leaf_of old.leaf;
          least = old.least;
          is_over = is_over ((sym stage) i);
        },
        record {
          book = h.book;
          head = head_range x range;
          there = h.there;
          open_splits = h.open_splits;
          fits = subst (λ (ls : List Lists). All (λ l. FitsBook l c.book) ls) (sym due)
              (All-cons (λ l. FitsBook l c.book) (full_lists c.book) [] (full_fits c.book) (All-nil (λ l. FitsBook l c.book)));
          full = λ f. absurd (cc);
          inside = λ f. absurd (head_no_leaf old.stage at_head (h.inside f));
          leaf = h.leaf;
        },
      )

  -- tables

  first_no : (a b : Bool) → a ≡ false → (a && b) ≡ false
  first_no true b e = absurd (cc)
  first_no false b e = refl

  pub table_refused : (x : TableHead) (P : State → Type 0) → tables_due (state_of old) ≡ false → Follows (after c (state_of old) (Table x)) P (Err (Refused Place))
  unfolding after
  table_refused x P e =
      let a = x.table == length (groups_of old.tables) in
      let b = nat_lt x.first x.second in
      let d = nat_lt x.second (length c.book) in
      checked_no (tables_due (state_of old) && a && b && d)
      (record (state_of old) { tables = groups_of old.tables ++ record { first = x.first; second = x.second; alpha = []; beta = [] } ∷ [] }) P
      (first_no (tables_due (state_of old) && a && b) d (first_no (tables_due (state_of old) && a) b (first_no (tables_due (state_of old)) a e)))

  -- the tables change while they are due
  tables_stand : (t : Tables) (gs : List Group) → groups_of t ≡ gs → AreThere (length c.book) gs → tables_due (state_of old) ≡ true
      → Stands (record old { tables = t }) (record (state_of old) { tables = gs })
  tables_stand t gs e there due = (
    ap (λ g. record (state_of old) { tables = g }) e,
    record {
      book = h.book;
      head = h.head;
      there = subst (λ (g : List Group). AreThere (length c.book) g) (sym e) there;
      open_splits = h.open_splits;
      fits = h.fits;
      full = h.full;
      inside = h.inside;
      leaf = λ o f. absurd (due_before old.version old.stage due (h.inside (some_leaf old.leaf o f)));
    },
  )

  pub table_step : (x : TableHead) (t : Tables) (result : Result (Unit {0}) Stop) → tables_due (state_of old) ≡ true
      → IsPlaced (x.table == length (groups_of old.tables) && nat_lt x.first x.second && nat_lt x.second (length c.book))
      (groups_of t ≡ groups_of old.tables ++ record { first = x.first; second = x.second; alpha = []; beta = [] } ∷ []) result
      → IsStep c old (Table x) (record old { tables = t }) result
  unfolding after
  table_step x t result due p =
      let a = x.table == length (groups_of old.tables) in
      let b = nat_lt x.first x.second in
      let d = nat_lt x.second (length c.book) in
      let g : Group = record { first = x.first; second = x.second; alpha = []; beta = [] } in
      let s : State = record (state_of old) { tables = groups_of old.tables ++ g ∷ [] } in
      subst (λ (due : Bool). Follows (checked (due && a && b && d) s) (λ q. Stands (record old { tables = t }) q) result) (sym due)
      (placed_by (a && b && d) s (λ q. Stands (record old { tables = t }) q) (groups_of t ≡ groups_of old.tables ++ g ∷ []) result
      (λ e f.
      let inside : x.second < length c.book = ltb-true x.second (length c.book) (and_parts (a && b) d e).1 in
      tables_stand t (groups_of old.tables ++ g ∷ []) f
      (All-append (λ (y : Group). y.second < length c.book) (groups_of old.tables) (g ∷ []) h.there
      (All-cons (λ (y : Group). y.second < length c.book) g [] inside (All-nil (λ (y : Group). y.second < length c.book)))) due) p)
    where
      placed_by : (due : Bool) (s : State) (P : State → Type 0) (Done : Type 0) (r : Result (Unit {0}) Stop) → (due ≡ true → Done → P s)
          → IsPlaced due Done r → Follows (checked due s) P r
      placed_by due s P Done (Ok done) f p = checked_yes due s P p.0 (f p.0 p.1)
      placed_by due s P Done (Err Memory) f p = free_of (checked due s) P
      placed_by due s P Done (Err (Refused kind)) f p = subst (λ (k : _). Follows (checked due s) P (Err (Refused k))) (sym p.1) (checked_no due s P p.0)

  potential_refused : (o : Option (List Group)) (P : State → Type 0) → tables_due (state_of old) ≡ false → Follows (with_tables (state_of old) o) P (Err (Refused Place))
  potential_refused None P e = refl
  potential_refused (Some gs) P e = checked_no (tables_due (state_of old)) (record (state_of old) { tables = gs }) P e

  potential_step : (o : Option (List Group)) (t : Tables) (result : Result (Unit {0}) Stop) → tables_due (state_of old) ≡ true
      → ((gs : List Group) → o ≡ Some gs → AreThere (length c.book) gs) → IsFound o (groups_of t) result
      → Follows (with_tables (state_of old) o) (λ q. Stands (record old { tables = t }) q) result
  potential_step o t (Ok done) due there p =
      subst (λ (q : Option (List Group)). Follows (with_tables (state_of old) q) (λ s. Stands (record old { tables = t }) s) (Ok done)) (sym p)
      (checked_yes (tables_due (state_of old)) (record (state_of old) { tables = groups_of t }) (λ s. Stands (record old { tables = t }) s) due
      (tables_stand t (groups_of t) refl (there (groups_of t) p) due))
  potential_step o t (Err Memory) due there p = free_of (with_tables (state_of old) o) (λ q. Stands (record old { tables = t }) q)
  potential_step o t (Err (Refused kind)) due there p =
      subst (λ (q : Option (List Group)). Follows (with_tables (state_of old) q) (λ s. Stands (record old { tables = t }) s) (Err (Refused kind))) (sym p.0) p.1

  pub alpha_refused : (x : NumberValue) (P : State → Type 0) → tables_due (state_of old) ≡ false → Follows (after c (state_of old) (Ta x)) P (Err (Refused Place))
  unfolding after
  alpha_refused x P e = potential_refused (with_last (with_alpha c x) (groups_of old.tables)) P e

  pub beta_refused : (x : NumberValue) (P : State → Type 0) → tables_due (state_of old) ≡ false → Follows (after c (state_of old) (Tb x)) P (Err (Refused Place))
  unfolding after
  beta_refused x P e = potential_refused (with_last (with_beta c x) (groups_of old.tables)) P e

  pub alpha_step : (x : NumberValue) (t : Tables) (result : Result (Unit {0}) Stop) → tables_due (state_of old) ≡ true
      → IsFound (with_last (alpha_added c.book x) (groups_of old.tables)) (groups_of t) result → IsStep c old (Ta x) (record old { tables = t }) result
  unfolding after
  alpha_step x t result due p =
      potential_step (with_last (with_alpha c x) (groups_of old.tables)) t result due
      (λ gs e. kept_there (length c.book) (with_alpha c x) (λ g k f. alpha_second x g k f) (groups_of old.tables) gs h.there e) p
    where
      alpha_second : (x : NumberValue) (g k : Group) → with_alpha c x g ≡ Some k → k.second ≡ g.second
      alpha_second x g k e = second_of _ g k (g.alpha ++ x ∷ []) e

  pub beta_step : (x : NumberValue) (t : Tables) (result : Result (Unit {0}) Stop) → tables_due (state_of old) ≡ true
      → IsFound (with_last (beta_added c.book x) (groups_of old.tables)) (groups_of t) result → IsStep c old (Tb x) (record old { tables = t }) result
  unfolding after
  beta_step x t result due p =
      potential_step (with_last (with_beta c x) (groups_of old.tables)) t result due
      (λ gs e. kept_there (length c.book) (with_beta c x) (λ g k f. beta_second x g k f) (groups_of old.tables) gs h.there e) p
    where
      beta_second : (x : NumberValue) (g k : Group) → with_beta c x g ≡ Some k → k.second ≡ g.second
      beta_second x g k e = second_of_beta _ g k (g.beta ++ x ∷ []) e
