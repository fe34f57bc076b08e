-- Steps through the records of tables.
use Rattle.std.proofs.Common.{◌≡◌, ℕ, ◌+◌, ◌<◌, Bool, true, false, cond, eqb, ◌&&◌, List, [], ◌∷◌, ◌++◌, length, refl, sym, ◌∙◌, ap, subst, arith, append_assoc, Option, Some, None, Ok}
use Rattle.std.specs.Prelude.{nat_lt}
use Rattle.std.proofs.lemmas.Bool.{and_from, and_parts, eqb-true, ltb-true}
use Rattle.station.proofs.Lists.{Every, every-append}
use Rattle.patterns.specs.Book.{offers_of}
use Rattle.pair_prices.specs.Case.{CaseRecord}
use Rattle.leaf_bounds.specs.declared.number.NumberValue.{NumberValue}
use Rattle.leaf_bounds.specs.Group.{Group}
use Rattle.proof_file.specs.declared.record.ProofRecord.{ProofRecord}
use Rattle.proof_file.specs.declared.record.ProofRecord.TheVariants.{Table, Ta, Tb}
use Rattle.proof_rules.specs.Fault.{State, is_none, is_above, is_some_value, tables_due, alone, behind, with_last, with_alpha, with_beta, with_tables, after}
use Rattle.proof_rules.proofs.TestLemmas.{checked_is, none_is, some_is, listed_none, listed_push}
use Rattle.proof_rules.proofs.VerdictFacts.{every_front}
use Rattle.proof_rules.proofs.Tables.{number_key, IsNumberThere, IsGroup, group_records, groups_from, groups_push, alpha_pushed, beta_pushed}

-- the last table, changed

pub record IsChanged (f : Group → Option Group) (groups hs : List Group) : Type 0 where
  pub front : List Group
  pub old : Group
  pub new : Group
  pub before : groups ≡ front ++ old ∷ []
  pub later : hs ≡ front ++ new ∷ []
  pub changed : f old ≡ Some new

one_changed : (f : Group → Option Group) (g : Group) (hs : List Group) (o : Option Group) → f g ≡ o → alone o ≡ Some hs → IsChanged f (g ∷ []) hs
one_changed f g hs None i e = absurd (cc e)
one_changed f g hs (Some h) i e = let same : hs ≡ h ∷ [] = cc e in record { front = []; old = g; new = h; before = refl; later = same; changed = i }

rest_changed : (f : Group → Option Group) (g : Group) (groups hs : List Group) (o : Option (List Group)) → with_last f groups ≡ o → behind g o ≡ Some hs
    → ((ks : List Group) → with_last f groups ≡ Some ks → IsChanged f groups ks) → IsChanged f (g ∷ groups) hs
rest_changed f g groups hs None i e rest = absurd (cc e)
rest_changed f g groups hs (Some ks) i e rest =
    let r = rest ks i in
    let same : hs ≡ g ∷ ks = cc e in
    record {
      front = g ∷ r.front;
      old = r.old;
      new = r.new;
      before = ap (λ l. g ∷ l) r.before;
      later = same ∙ ap (λ l. g ∷ l) r.later;
      changed = r.changed;
    }

last_changed : (f : Group → Option Group) (groups hs : List Group) → with_last f groups ≡ Some hs → IsChanged f groups hs
last_changed f [] hs e = absurd (cc e)
last_changed f (g ∷ []) hs e = one_changed f g hs (f g) refl e
last_changed f (g ∷ h ∷ groups) hs e =
    rest_changed f g (h ∷ groups) hs (with_last f (h ∷ groups)) refl e (λ ks i. last_changed f (h ∷ groups) ks i)

pub last_at : (f : Group → Option Group) (front : List Group) (old new : Group) → f old ≡ Some new → with_last f (front ++ old ∷ []) ≡ Some (front ++ new ∷ [])
last_at f [] old new e = ap alone e
last_at f (g ∷ []) old new e = ap (behind g) (last_at f [] old new e)
last_at f (g ∷ h ∷ front) old new e = ap (behind g) (last_at f (h ∷ front) old new e)

chosen_is : (b : Bool) (g h : Group) → cond b (Some g) None ≡ Some h → (b ≡ true) × (g ≡ h)
chosen_is true g h e = (refl, cc)
chosen_is false g h e = absurd (cc e)

-- tests of an entry

pub record AreFour (a b d e : Bool) : Type 0 where
  pub first : a ≡ true
  pub second : b ≡ true
  pub third : d ≡ true
  pub fourth : e ≡ true

pub four_parts : (a b d e : Bool) → (a && b && d && e) ≡ true → AreFour a b d e
four_parts a b d e h =
    let last = and_parts (a && b && d) e h in
    let third = and_parts (a && b) d last.0 in
    let two = and_parts a b third.0 in
    record { first = two.0; second = two.1; third = third.1; fourth = last.1 }

pub four_from : (a b d e : Bool) → a ≡ true → b ≡ true → d ≡ true → e ≡ true → (a && b && d && e) ≡ true
four_from a b d e p q r s = and_from (a && b && d) e (and_from (a && b) d (and_from a b p q) r) s

-- what an entry leads to

record IsTablesStep (c : CaseRecord) (gs hs : List Group) (r : ProofRecord) : Type 0 where
  each : Every (IsGroup c) hs
  text : groups_from 0 hs ≡ groups_from 0 gs ++ r ∷ []

one_new : (c : CaseRecord) (front : List Group) (old new : Group) (r : ProofRecord) → (gs hs : List Group) → gs ≡ front ++ old ∷ [] → hs ≡ front ++ new ∷ []
    → Every (IsGroup c) gs → (IsGroup c old → IsGroup c new)
    → ((k : ℕ) → group_records k new ≡ group_records k old ++ r ∷ []) → IsTablesStep c gs hs r
one_new c front old new r gs hs before later h is text =
    let parts = every_front (IsGroup c) front (old ∷ []) (subst (Every (IsGroup c)) before h) in
    let k = 0 + length front in
    record {
      each = subst (Every (IsGroup c)) (sym later) (every-append (IsGroup c) front (new ∷ []) parts.0 (is parts.1.0, tt));
      text = ap (groups_from 0) later ∙ groups_push 0 front new ∙ ap (λ rs. groups_from 0 front ++ rs) (text k)
          ∙ sym (append_assoc (groups_from 0 front) (group_records k old) (r ∷ []))
          ∙ ap (λ rs. rs ++ r ∷ []) (sym (groups_push 0 front old) ∙ ap (groups_from 0) (sym before));
    }

alpha_step : (c : CaseRecord) (x : NumberValue) (gs hs : List Group) → with_last (with_alpha c x) gs ≡ Some hs → Every (IsGroup c) gs → IsTablesStep c gs hs (Ta x)
alpha_step c x gs hs e h =
    let s = last_changed (with_alpha c x) gs hs e in
    let g = s.old in
    let tests = is_none g.beta && is_above number_key g.alpha x && is_some_value x.value && nat_lt x.number (length (offers_of c.book g.first)) in
    let made = chosen_is tests (record g { alpha = g.alpha ++ x ∷ [] }) s.new s.changed in
    let four = four_parts (is_none g.beta) (is_above number_key g.alpha x) (is_some_value x.value) (nat_lt x.number (length (offers_of c.book g.first))) made.0 in
    let entry : IsNumberThere c g.first x =
    record { some = some_is x.value four.third; there = ltb-true x.number (length (offers_of c.book g.first)) four.fourth } in
    one_new c s.front g s.new (Ta x) gs hs s.before s.later h
    (λ is. subst (IsGroup c) made.1
    (record { order = is.order; there = is.there; alpha = listed_push number_key (IsNumberThere c g.first) g.alpha x is.alpha entry four.second; beta = is.beta }))
    (λ k. ap (group_records k) (sym made.1) ∙ alpha_pushed k g x (none_is g.beta four.first))

beta_step : (c : CaseRecord) (x : NumberValue) (gs hs : List Group) → with_last (with_beta c x) gs ≡ Some hs → Every (IsGroup c) gs → IsTablesStep c gs hs (Tb x)
beta_step c x gs hs e h =
    let s = last_changed (with_beta c x) gs hs e in
    let g = s.old in
    let tests = is_above number_key g.beta x && is_some_value x.value && nat_lt x.number (length (offers_of c.book g.second)) in
    let made = chosen_is tests (record g { beta = g.beta ++ x ∷ [] }) s.new s.changed in
    let last = and_parts (is_above number_key g.beta x && is_some_value x.value) (nat_lt x.number (length (offers_of c.book g.second))) made.0 in
    let two = and_parts (is_above number_key g.beta x) (is_some_value x.value) last.0 in
    let entry : IsNumberThere c g.second x = record { some = some_is x.value two.1; there = ltb-true x.number (length (offers_of c.book g.second)) last.1 } in
    one_new c s.front g s.new (Tb x) gs hs s.before s.later h
    (λ is. subst (IsGroup c) made.1
    (record { order = is.order; there = is.there; alpha = is.alpha; beta = listed_push number_key (IsNumberThere c g.second) g.beta x is.beta entry two.0 }))
    (λ k. ap (group_records k) (sym made.1) ∙ beta_pushed k g x)

new_step : (c : CaseRecord) (table first second : ℕ) (gs : List Group) → (table ≡ length gs) → first < second → second < length c.book → Every (IsGroup c) gs
    → IsTablesStep c gs (gs ++ record { first = first; second = second; alpha = []; beta = [] } ∷ []) (Table (record { table = table; first = first; second = second }))
new_step c table first second gs e order there h =
    let g : Group = record { first = first; second = second; alpha = []; beta = [] } in
    let number : 0 + length gs ≡ table = omega arith in
    record {
      each = every-append (IsGroup c) gs (g ∷ []) h
          (record { order = order; there = there; alpha = listed_none number_key (IsNumberThere c first); beta = listed_none number_key (IsNumberThere c second) }, tt);
      text = groups_push 0 gs g ∙ ap (λ k. groups_from 0 gs ++ Table (record { table = k; first = first; second = second }) ∷ []) number;
    }

-- a state after a record of tables has other tables, and else is the same
pub record IsTabled (c : CaseRecord) (s t : State) (r : ProofRecord) : Type 0 where
  pub groups : List Group
  pub due : tables_due s ≡ true
  pub is : record s { tables = groups } ≡ t
  pub each : Every (IsGroup c) groups
  pub text : groups_from 0 groups ≡ groups_from 0 s.tables ++ r ∷ []

by_tables : (c : CaseRecord) (s t : State) (r : ProofRecord) (o : Option (List Group)) → with_tables s o ≡ Ok t
    → ((hs : List Group) → o ≡ Some hs → IsTablesStep c s.tables hs r) → IsTabled c s t r
by_tables c s t r None e step = absurd (cc e)
by_tables c s t r (Some hs) e step =
    let is = checked_is (tables_due s) (record s { tables = hs }) t e in
    let m = step hs refl in
    record { groups = hs; due = is.0; is = is.1; each = m.each; text = m.text }

pub ta_tabled : (c : CaseRecord) (s t : State) (x : NumberValue) → Every (IsGroup c) s.tables → after c s (Ta x) ≡ Ok t → IsTabled c s t (Ta x)
unfolding after
ta_tabled c s t x h e = by_tables c s t (Ta x) (with_last (with_alpha c x) s.tables) e (λ hs i. alpha_step c x s.tables hs i h)

pub tb_tabled : (c : CaseRecord) (s t : State) (x : NumberValue) → Every (IsGroup c) s.tables → after c s (Tb x) ≡ Ok t → IsTabled c s t (Tb x)
unfolding after
tb_tabled c s t x h e = by_tables c s t (Tb x) (with_last (with_beta c x) s.tables) e (λ hs i. beta_step c x s.tables hs i h)

pub table_tabled : (c : CaseRecord) (s t : State) (table first second : ℕ) → Every (IsGroup c) s.tables
    → after c s (Table (record { table = table; first = first; second = second })) ≡ Ok t
    → IsTabled c s t (Table (record { table = table; first = first; second = second }))
unfolding after
table_tabled c s t table first second h e =
    let g : Group = record { first = first; second = second; alpha = []; beta = [] } in
    let is = checked_is (tables_due s && eqb table (length s.tables) && nat_lt first second && nat_lt second (length c.book))
    (record s { tables = s.tables ++ g ∷ [] }) t e in
    let four = four_parts (tables_due s) (eqb table (length s.tables)) (nat_lt first second) (nat_lt second (length c.book)) is.0 in
    let m = new_step c table first second s.tables (eqb-true table (length s.tables) four.second) (ltb-true first second four.third)
    (ltb-true second (length c.book) four.fourth) h in
    record { groups = s.tables ++ g ∷ []; due = four.first; is = is.1; each = m.each; text = m.text }
