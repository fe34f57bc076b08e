-- An entry that is taken leaves the leaf open.
use Rattle.std.proofs.Common.{◌≡◌, ℕ, suc, ◌<◌, ◌≤◌, Bool, true, false, cond, ◌&&◌, List, [], ◌∷◌, ◌++◌, length, take, refl, sym, subst, arith, inl, inr, ◌⊎◌, length-append, Some, Ok, Err, IsTrue}
use Rattle.std.specs.Prelude.{nat_lt, unsigned_abs}
use Rattle.std.proofs.lemmas.List.{take_all, take-append-le}
use Rattle.std.proofs.lemmas.Bool.{and_parts, cases_lt, ltb-true}
use Rattle.station.proofs.Lists.{Every}
use Rattle.pair_prices.specs.Case.{CaseRecord}
use Rattle.leaf_bounds.specs.declared.number.TrainValue.{TrainValue}
use Rattle.leaf_bounds.specs.declared.number.MinuteValue.{MinuteValue}
use Rattle.leaf_bounds.specs.declared.number.PairValue.{PairValue}
use Rattle.leaf_bounds.specs.declared.uses.UseOf.{UseOf}
use Rattle.leaf_bounds.specs.Listed.{minute_key}
use Rattle.leaf_bounds.specs.Shown.{IsPairThere}
use Rattle.leaf_bounds.specs.Expansion.{AreSmall, expansion, in_list}
use Rattle.proof_file.specs.declared.record.ProofRecord.TheVariants.{U, V, A, B, Use}
use Rattle.proof_file.specs.Kind.{is_in_range}
use Rattle.proof_rules.specs.Fault.{place, sum, OpenLeaf, State, is_none, is_above, is_some_value, here, add_u, add_v, is_pair_due, add_a, add_b, so_far, are_small, with_use, add_use}
use Rattle.proof_rules.proofs.TestLemmas.{checked_is, none_is, some_is, listed_push}
use Rattle.proof_rules.proofs.SmallFacts.{listed_in, tested_small}
use Rattle.proof_rules.proofs.RangeFacts.{u_is, v_is, a_is, b_is}
use Rattle.proof_rules.proofs.OpenLeaves.{IsTrainThere, IsMinuteThere, IsEntryThere, train_key, entry_key, use_key, first_train, second_train, own_numbers, IsOpen, open_small}
use Rattle.proof_rules.proofs.Tables.{IsGroup, pairs_there}
use Rattle.proof_rules.proofs.OpenSteps.{u_text, v_text, a_text, b_text, use_text, open_without, IsOpened}

module _ (c : CaseRecord) (s t : State) (l : OpenLeaf) (o : IsOpen c s.tables (here s) l) where
  pub u_added : (x : TrainValue) → IsTrue (is_in_range (U x)) → add_u c s x l ≡ Ok t → IsOpened c s t l (U x)
  u_added x range e =
      let new : OpenLeaf = record l { u = l.u ++ x ∷ [] } in
      let empty = is_none l.v && is_none l.alpha && is_none l.beta && is_none l.uses in
      let there = nat_lt x.train (length c.book) in
      let is = checked_is (empty && there && is_some_value x.value && is_above train_key l.u x) (record s { leaf = Some new }) t e in
      let last = and_parts (empty && there && is_some_value x.value) (is_above train_key l.u x) is.0 in
      let value = and_parts (empty && there) (is_some_value x.value) last.0 in
      let train = and_parts empty there value.0 in
      let uses = and_parts (is_none l.v && is_none l.alpha && is_none l.beta) (is_none l.uses) train.0 in
      let beta = and_parts (is_none l.v && is_none l.alpha) (is_none l.beta) uses.0 in
      let two = and_parts (is_none l.v) (is_none l.alpha) beta.0 in
      let entry : IsTrainThere c x = record { value = u_is x range (some_is x.value value.1); there = ltb-true x.train (length c.book) train.1 } in
      record {
        new = new;
        is = is.1;
        open_leaf = open_without c s.tables (here s) new o.q_least o.q_most (listed_push train_key (IsTrainThere c) l.u x o.u entry last.1) o.v o.alpha o.beta
            (none_is l.uses uses.1);
        text = u_text l x (none_is l.v two.0) (none_is l.alpha two.1) (none_is l.beta beta.1) (none_is l.uses uses.1);
      }

  pub v_added : (x : MinuteValue) → IsTrue (is_in_range (V x)) → add_v c s x l ≡ Ok t → IsOpened c s t l (V x)
  v_added x range e =
      let new : OpenLeaf = record l { v = l.v ++ x ∷ [] } in
      let empty = is_none l.alpha && is_none l.beta && is_none l.uses in
      let there = nat_lt x.platform (length c.station.platforms) in
      let is = checked_is (empty && there && is_some_value x.value && is_above minute_key l.v x) (record s { leaf = Some new }) t e in
      let last = and_parts (empty && there && is_some_value x.value) (is_above minute_key l.v x) is.0 in
      let value = and_parts (empty && there) (is_some_value x.value) last.0 in
      let platform = and_parts empty there value.0 in
      let uses = and_parts (is_none l.alpha && is_none l.beta) (is_none l.uses) platform.0 in
      let two = and_parts (is_none l.alpha) (is_none l.beta) uses.0 in
      let entry : IsMinuteThere c x = record { value = v_is x range; there = ltb-true x.platform (length c.station.platforms) platform.1 } in
      record {
        new = new;
        is = is.1;
        open_leaf = open_without c s.tables (here s) new o.q_least o.q_most o.u (listed_push minute_key (IsMinuteThere c) l.v x o.v entry last.1) o.alpha o.beta
            (none_is l.uses uses.1);
        text = v_text l x (none_is l.alpha two.0) (none_is l.beta two.1) (none_is l.uses uses.1);
      }

  record IsDue (xs : List PairValue) (x : PairValue) : Type 0 where
    there : IsPairThere c x
    some : 1 ≤ unsigned_abs x.value
    above : is_above entry_key xs x ≡ true

  due_is : (xs : List PairValue) (x : PairValue) → is_pair_due c xs x ≡ true → IsDue xs x
  due_is xs x e =
      let last = and_parts (nat_lt x.first x.second && nat_lt x.second (length c.book) && is_some_value x.value) (is_above entry_key xs x) e in
      let value = and_parts (nat_lt x.first x.second && nat_lt x.second (length c.book)) (is_some_value x.value) last.0 in
      let trains = and_parts (nat_lt x.first x.second) (nat_lt x.second (length c.book)) value.0 in
      record {
        there = record { order = ltb-true x.first x.second trains.0; there = ltb-true x.second (length c.book) trains.1 };
        some = some_is x.value value.1;
        above = last.1;
      }

  pub a_added : (x : PairValue) → IsTrue (is_in_range (A x)) → add_a c s x l ≡ Ok t → IsOpened c s t l (A x)
  a_added x range e =
      let new : OpenLeaf = record l { alpha = l.alpha ++ x ∷ [] } in
      let empty = is_none l.beta && is_none l.uses in
      let listed = in_list (here s) x.first x.number in
      let is = checked_is (empty && is_pair_due c l.alpha x && listed) (record s { leaf = Some new }) t e in
      let last = and_parts (empty && is_pair_due c l.alpha x) listed is.0 in
      let pair = and_parts empty (is_pair_due c l.alpha x) last.0 in
      let two = and_parts (is_none l.beta) (is_none l.uses) pair.0 in
      let due = due_is l.alpha x pair.1 in
      let entry : IsEntryThere c (here s) first_train x = record { value = a_is x range due.some; there = due.there; number = listed_in (here s) x.first x.number last.1 } in
      record {
        new = new;
        is = is.1;
        open_leaf = open_without c s.tables (here s) new o.q_least o.q_most o.u o.v
            (listed_push entry_key (IsEntryThere c (here s) first_train) l.alpha x o.alpha entry due.above) o.beta (none_is l.uses two.1);
        text = a_text l x (none_is l.beta two.0) (none_is l.uses two.1);
      }

  pub b_added : (x : PairValue) → IsTrue (is_in_range (B x)) → add_b c s x l ≡ Ok t → IsOpened c s t l (B x)
  b_added x range e =
      let new : OpenLeaf = record l { beta = l.beta ++ x ∷ [] } in
      let listed = in_list (here s) x.second x.number in
      let is = checked_is (is_none l.uses && is_pair_due c l.beta x && listed) (record s { leaf = Some new }) t e in
      let last = and_parts (is_none l.uses && is_pair_due c l.beta x) listed is.0 in
      let pair = and_parts (is_none l.uses) (is_pair_due c l.beta x) last.0 in
      let due = due_is l.beta x pair.1 in
      let entry : IsEntryThere c (here s) second_train x = record { value = b_is x range due.some; there = due.there; number = listed_in (here s) x.second x.number last.1 } in
      record {
        new = new;
        is = is.1;
        open_leaf = open_without c s.tables (here s) new o.q_least o.q_most o.u o.v o.alpha
            (listed_push entry_key (IsEntryThere c (here s) second_train) l.beta x o.beta entry due.above) (none_is l.uses pair.0);
        text = b_text l x (none_is l.uses pair.0);
      }

  -- with one more use
  record IsUseTaken (new : OpenLeaf) : Type 0 where
    tested : are_small c (here s) (so_far s new) ≡ true
    is : record s { leaf = Some new } ≡ t

  use_by_size : (new : OpenLeaf) (b : Bool) → are_small c (here s) (so_far s new) ≡ b → cond b (Ok (record s { leaf = Some new })) (Err sum) ≡ Ok t → IsUseTaken new
  use_by_size new true i e = record { tested = i; is = cc (e) }
  use_by_size new false i e = absurd (cc e)

  record IsUseDue (x : UseOf) (new : OpenLeaf) : Type 0 where
    tests : (nat_lt x.table (length s.tables) && is_above use_key l.uses x) ≡ true
    taken : with_use c s new ≡ Ok t

  use_by_tests : (x : UseOf) (new : OpenLeaf) (b : Bool) → (nat_lt x.table (length s.tables) && is_above use_key l.uses x) ≡ b
      → cond b (with_use c s new) (Err place) ≡ Ok t → IsUseDue x new
  use_by_tests x new true i e = record { tests = i; taken = e }
  use_by_tests x new false i e = absurd (cc e)

  small_by : (groups : Every (IsGroup c) s.tables) (x : UseOf) → are_small c (here s) (expansion s.tables (here s) (own_numbers l) (l.uses ++ x ∷ [])) ≡ true
      → (k : ℕ) → k ≤ length (l.uses ++ x ∷ []) → (k < suc (length l.uses)) ⊎ (suc (length l.uses) ≤ k)
      → AreSmall (expansion s.tables (here s) (own_numbers l) (take k (l.uses ++ x ∷ [])))
  small_by groups x e k h (inl g) =
      let less : k ≤ length l.uses = omega arith in
      subst (λ (us : List UseOf). AreSmall (expansion s.tables (here s) (own_numbers l) us)) (sym (take-append-le k l.uses (x ∷ []) less)) (o.small k less)
  small_by groups x e k h (inr g) =
      let all : length (l.uses ++ x ∷ []) ≤ k = omega (arith, length-append l.uses (x ∷ [])) in
      subst (λ (us : List UseOf). AreSmall (expansion s.tables (here s) (own_numbers l) us)) (sym (take_all k (l.uses ++ x ∷ []) all))
      (tested_small c s.tables (pairs_there c s.tables groups) (here s) (own_numbers l) (l.uses ++ x ∷ []) (open_small c s.tables (here s) l o) e)

  pub use_added : (x : UseOf) → Every (IsGroup c) s.tables → add_use c s x l ≡ Ok t → IsOpened c s t l (Use x)
  use_added x groups e =
      let new : OpenLeaf = record l { uses = l.uses ++ x ∷ [] } in
      let due = use_by_tests x new (nat_lt x.table (length s.tables) && is_above use_key l.uses x) refl e in
      let parts = and_parts (nat_lt x.table (length s.tables)) (is_above use_key l.uses x) due.tests in
      let taken = use_by_size new (are_small c (here s) (so_far s new)) refl due.taken in
      record {
        new = new;
        is = taken.is;
        open_leaf = record {
          q_least = o.q_least;
          q_most = o.q_most;
          u = o.u;
          v = o.v;
          alpha = o.alpha;
          beta = o.beta;
          uses = listed_push use_key (λ y. y.table < length s.tables) l.uses x o.uses (ltb-true x.table (length s.tables) parts.0) parts.1;
          small = λ k h. small_by groups x taken.tested k h (cases_lt k (suc (length l.uses)));
        };
        text = use_text l x;
      }
