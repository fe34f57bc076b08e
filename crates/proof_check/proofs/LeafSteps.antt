-- The open leaf: what a record of it leads to.
use Rattle.std.proofs.Common.{◌≡◌, ℕ, ◌<◌, ◌&&◌, ◌⊎◌, Bool, true, false, List, [], ◌∷◌, ◌++◌, length, sym, ap, subst, ◌∙◌, arith, inl, inr, Some, Result, Ok, Err, IsTrue, ℤ, pos, ◌+ℤ◌, ◌*ℤ◌}
use Rattle.std.specs.Prelude.{All, IsErrAnd, if◌then◌else◌, slice_get, nat_lt}
use Rattle.std.proofs.lemmas.Int.{ints}
use Rattle.std.proofs.lemmas.Option.{slice_get_within}
use borrow.Author.Tests.{ltb-true, lt-ltb}
use Rattle.patterns.specs.Allowed.{FitsBook, Lists}
use Rattle.patterns.specs.Book.{IsBook}
use Rattle.pair_prices.specs.Case.{CaseRecord}
use Rattle.pair_prices.specs.Trains.{TrainPair}
use Rattle.leaf_bounds.specs.declared.number.TrainValue.{TrainValue}
use Rattle.leaf_bounds.specs.declared.number.MinuteValue.{MinuteValue}
use Rattle.leaf_bounds.specs.declared.number.PairValue.{PairValue}
use Rattle.leaf_bounds.specs.declared.uses.UseOf.{UseOf}
use Rattle.leaf_bounds.specs.Group.{Group}
use Rattle.leaf_bounds.specs.Expansion.{in_list, table_alpha, table_beta, used_alpha, used_beta}
use Rattle.leaf_bounds.specs.Listed.{AreLeafLists, Ascends, IsMinuteValue, IsPairValue, IsSmall, IsTrainValue, minute_key, pair_key, pair_listed}
use Rattle.leaf_bounds.specs.Places.{key_at}
use Rattle.leaf_bounds.specs.Total.{only_if}
use Rattle.leaf_bounds.proofs.Totals.{total_push}
use Rattle.proof_file.proofs.TruthLemmas.{and_parts}
use Rattle.proof_file.specs.declared.record.ProofRecord.{ProofRecord}
use Rattle.proof_file.specs.declared.record.ProofRecord.TheVariants.{U, V, A, B, Use}
use Rattle.proof_file.specs.Kind.{is_in_range}
use Rattle.proof_rules.specs.Fault.{place, sum, OpenLeaf as LeafSoFar, is_none, is_above, is_some_value, is_pair_due, are_small}
use Rattle.proof_check.specs.declared.leaf.OpenLeaf.{OpenLeaf}
use Rattle.proof_check.specs.declared.side.Side.TheVariants.{First, Second}
use Rattle.proof_check.specs.declared.stop.Stop.{Stop}
use Rattle.proof_check.specs.declared.stop.Stop.TheVariants.{Memory, Refused}
use Rattle.proof_check.specs.Going.{Follows, IsPlaced}
use Rattle.proof_check.specs.Sums.{Adds, AreKeyed, IsAdded, IsTooMuch, Sums, pair_of, sum_at, table_value}
use Rattle.proof_check.specs.Open.{AddsA, AddsB, AddsPair, AddsU, AddsUse, AddsV, IsLeaf, IsLeafStep, IsUsed, IsUseOver, a_due, b_due, leaf_of, numbers_so_far, u_due, use_due, v_due, with_due}
use Rattle.proof_check.specs.Tables.{AreThere}
use Rattle.proof_check.proofs.RangeFacts.{IsMinuteRange, IsPairRange, IsTrainRange, a_range, b_range, minute_range, train_range}
use Rattle.proof_check.proofs.SumLemmas.{value_small, keyed_put, listed_put, sum_is_value}
use Rattle.proof_check.proofs.TableLemmas.{ascends_more, each_more}
use Rattle.proof_check.proofs.LeafFacts.{all_more, some_size, none_is, both, get_or_at, all_small, one_large, pair_sums, nothing_used, used_more}

-- placed records

pub placed_step : (due : Bool) (l : LeafSoFar) (Stands : LeafSoFar → Type 0) (Done : Type 0) (result : Result (Unit {0}) Stop) → (due ≡ true → Done → Stands l)
    → IsPlaced due Done result → Follows (with_due due l) Stands result
placed_step due l Stands Done (Ok done) h (e, d) = subst (λ (b : Bool). Follows (with_due b l) Stands (Ok done)) (sym e) (h e d)
placed_step due l Stands Done (Err Memory) h p = by due
  where
    by : (b : Bool) → Follows (with_due b l) Stands (Err Memory)
    by true = tt
    by false = tt
placed_step due l Stands Done (Err (Refused kind)) h (e, k) = subst (λ (b : Bool). Follows (with_due b l) Stands (Err (Refused kind))) (sym e) k

module _ (c : CaseRecord) (groups : List Group) (lists : Lists) (old : OpenLeaf) (h : IsLeaf c groups lists old) where
  abbrev Stands : LeafSoFar → OpenLeaf → Type 0
  Stands l new = (leaf_of new ≡ l) × IsLeaf c groups lists new

  -- a train's number more
  u_stands : (x : TrainValue) → IsTrainRange x → (n : OpenLeaf) → n.u.items ≡ old.u.items ++ x ∷ [] → u_due c x (leaf_of old) ≡ true
      → Stands (record (leaf_of old) { u = old.u.items ++ x ∷ [] }) (record old { u = n.u })
  u_stands x r n e due =
      let k = h.kept in
      let l = leaf_of old in
      let none = is_none l.v && is_none l.alpha && is_none l.beta && is_none l.uses in
      let there = nat_lt x.train (length c.book) in
      let some = is_some_value x.value in
      let parts = and_parts (none && there && some) (is_above (λ y. pos y.train) l.u x) due in
      let rest = and_parts (none && there) some parts.0 in
      let last = and_parts none there rest.0 in
      let value : IsTrainValue x = record { train = r.train; value = r.value; some = some_size x.value rest.1 } in
      let kept : AreLeafLists old.q (old.u.items ++ x ∷ []) old.v.items old.alpha.listed.items old.beta.listed.items =
      record {
        q_least = k.q_least;
        q_most = k.q_most;
        u_each = each_more IsTrainValue old.u.items x k.u_each value;
        v_each = k.v_each;
        alpha_each = k.alpha_each;
        beta_each = k.beta_each;
        u_ascends = ascends_more (λ y. pos y.train) old.u.items x k.u_ascends parts.1;
        v_ascends = k.v_ascends;
        alpha_ascends = k.alpha_ascends;
        beta_ascends = k.beta_ascends;
      } in (
        ap (λ us. record (leaf_of old) { u = us }) e,
        record {
          kept = subst (λ (us : List TrainValue). AreLeafLists old.q us old.v.items old.alpha.listed.items old.beta.listed.items) (sym e) kept;
          uses = h.uses;
          trains = subst (λ (us : List TrainValue). All (λ y. y.train < length c.book) us) (sym e)
              (all_more (λ y. y.train < length c.book) old.u.items x h.trains (ltb-true x.train (length c.book) last.1));
          platforms = h.platforms;
          alpha_keyed = h.alpha_keyed;
          beta_keyed = h.beta_keyed;
          alpha_listed = h.alpha_listed;
          beta_listed = h.beta_listed;
          alpha = h.alpha;
          beta = h.beta;
        },
      )

  pub u_step : (r : ProofRecord) (x : TrainValue) (new : OpenLeaf) (result : Result (Unit {0}) Stop) → r ≡ U x → IsTrue (is_in_range r)
      → IsPlaced (u_due c x (leaf_of old)) (AddsU old x new) result → IsLeafStep c groups lists old r new result
  u_step r x new result is range p =
      subst (λ (y : ProofRecord). IsLeafStep c groups lists old y new result) (sym is)
      (placed_step (u_due c x (leaf_of old)) (record (leaf_of old) { u = old.u.items ++ x ∷ [] }) (λ l. Stands l new) (AddsU old x new) result
      (λ due d. subst (λ (n : OpenLeaf). Stands (record (leaf_of old) { u = old.u.items ++ x ∷ [] }) n) (sym d.0)
      (u_stands x (train_range x (subst (λ (y : ProofRecord). IsTrue (is_in_range y)) is range)) new d.1 due)) p)

  -- a platform's number at a minute more
  v_stands : (x : MinuteValue) → IsMinuteRange x → (n : OpenLeaf) → n.v.items ≡ old.v.items ++ x ∷ [] → v_due c x (leaf_of old) ≡ true
      → Stands (record (leaf_of old) { v = old.v.items ++ x ∷ [] }) (record old { v = n.v })
  v_stands x r n e due =
      let k = h.kept in
      let l = leaf_of old in
      let none = is_none l.alpha && is_none l.beta && is_none l.uses in
      let there = nat_lt x.platform (length c.station.platforms) in
      let some = is_some_value x.value in
      let parts = and_parts (none && there && some) (is_above minute_key l.v x) due in
      let rest = and_parts (none && there) some parts.0 in
      let last = and_parts none there rest.0 in
      let value : IsMinuteValue x = record { platform = r.platform; first = r.first; last = r.last; value = r.value; some = r.some } in
      let kept : AreLeafLists old.q old.u.items (old.v.items ++ x ∷ []) old.alpha.listed.items old.beta.listed.items =
      record {
        q_least = k.q_least;
        q_most = k.q_most;
        u_each = k.u_each;
        v_each = each_more IsMinuteValue old.v.items x k.v_each value;
        alpha_each = k.alpha_each;
        beta_each = k.beta_each;
        u_ascends = k.u_ascends;
        v_ascends = ascends_more minute_key old.v.items x k.v_ascends parts.1;
        alpha_ascends = k.alpha_ascends;
        beta_ascends = k.beta_ascends;
      } in (
        ap (λ vs. record (leaf_of old) { v = vs }) e,
        record {
          kept = subst (λ (vs : List MinuteValue). AreLeafLists old.q old.u.items vs old.alpha.listed.items old.beta.listed.items) (sym e) kept;
          uses = h.uses;
          trains = h.trains;
          platforms = subst (λ (vs : List MinuteValue). All (λ y. y.platform < length c.station.platforms) vs) (sym e)
              (all_more (λ y. y.platform < length c.station.platforms) old.v.items x h.platforms (ltb-true x.platform (length c.station.platforms) last.1));
          alpha_keyed = h.alpha_keyed;
          beta_keyed = h.beta_keyed;
          alpha_listed = h.alpha_listed;
          beta_listed = h.beta_listed;
          alpha = h.alpha;
          beta = h.beta;
        },
      )

  pub v_step : (r : ProofRecord) (x : MinuteValue) (new : OpenLeaf) (result : Result (Unit {0}) Stop) → r ≡ V x → IsTrue (is_in_range r)
      → IsPlaced (v_due c x (leaf_of old)) (AddsV old x new) result → IsLeafStep c groups lists old r new result
  v_step r x new result is range p =
      subst (λ (y : ProofRecord). IsLeafStep c groups lists old y new result) (sym is)
      (placed_step (v_due c x (leaf_of old)) (record (leaf_of old) { v = old.v.items ++ x ∷ [] }) (λ l. Stands l new) (AddsV old x new) result
      (λ due d. subst (λ (n : OpenLeaf). Stands (record (leaf_of old) { v = old.v.items ++ x ∷ [] }) n) (sym d.0)
      (v_stands x (minute_range x (subst (λ (y : ProofRecord). IsTrue (is_in_range y)) is range)) new d.1 due)) p)

  module _ (fits : FitsBook lists c.book) (book : IsBook c.book) where
    -- an alpha more
    a_stands : (x : PairValue) → IsPairRange x → (n : OpenLeaf) → AddsPair old.alpha x n.alpha → a_due c lists x (leaf_of old) ≡ true
        → Stands (record (leaf_of old) { alpha = old.alpha.listed.items ++ x ∷ [] }) (record old { alpha = n.alpha })
    a_stands x r n a due =
        let k = h.kept in
        let l = leaf_of old in
        let placed = is_pair_due c l.alpha x in
        let listed = in_list lists x.first x.number in
        let parts = and_parts (is_none l.beta && is_none l.uses && placed) listed due in
        let rest = and_parts (is_none l.beta && is_none l.uses) placed parts.0 in
        let unused = none_is old.uses.items (and_parts (is_none l.beta) (is_none l.uses) rest.0).1 in
        let order = nat_lt x.first x.second in
        let there = nat_lt x.second (length c.book) in
        let some = is_some_value x.value in
        let above = and_parts (order && there && some) (is_above (λ y. pos (pair_key y)) l.alpha x) rest.1 in
        let valued = and_parts (order && there) some above.0 in
        let trains = and_parts order there valued.0 in
        let ordered = ltb-true x.first x.second trains.0 in
        let inside = ltb-true x.second (length c.book) trains.1 in
        let value : IsPairValue x =
        record { first = r.first; second = r.second; number = r.number; value = r.value; some = some_size x.value valued.1 } in
        let kept : AreLeafLists old.q old.u.items old.v.items (old.alpha.listed.items ++ x ∷ []) old.beta.listed.items =
        record {
          q_least = k.q_least;
          q_most = k.q_most;
          u_each = k.u_each;
          v_each = k.v_each;
          alpha_each = each_more IsPairValue old.alpha.listed.items x k.alpha_each value;
          beta_each = k.beta_each;
          u_ascends = k.u_ascends;
          v_ascends = k.v_ascends;
          alpha_ascends = ascends_more (λ y. pos (pair_key y)) old.alpha.listed.items x k.alpha_ascends above.1;
          beta_ascends = k.beta_ascends;
        } in (
          ap (λ xs. record (leaf_of old) { alpha = xs }) a.listed,
          record {
            kept = subst (λ (xs : List PairValue). AreLeafLists old.q old.u.items old.v.items xs old.beta.listed.items) (sym a.listed) kept;
            uses = h.uses;
            trains = h.trains;
            platforms = h.platforms;
            alpha_keyed = keyed_put old.alpha.sums n.alpha.sums h.alpha_keyed x ordered r.second r.number r.value a.sums a.ordered;
            beta_keyed = h.beta_keyed;
            alpha_listed = listed_put old.alpha.sums n.alpha.sums x lists First h.alpha_listed
                (record { there = omega (arith, inside, fits.trains); listed = parts.1 }) a.sums;
            beta_listed = h.beta_listed;
            alpha = pair_sums old.alpha n.alpha x (λ p i. only_if (in_list lists p.first i) (used_alpha groups old.uses.items p i)) h.alpha_keyed a r.second r.number
                above.1 (λ p i. nothing_used (in_list lists p.first i) (used_alpha groups old.uses.items p i) (ap (λ us. used_alpha groups us p i) unused)) h.alpha;
            beta = h.beta;
          },
        )

    pub a_step : (r : ProofRecord) (x : PairValue) (new : OpenLeaf) (result : Result (Unit {0}) Stop) → r ≡ A x → IsTrue (is_in_range r)
        → IsPlaced (a_due c lists x (leaf_of old)) (AddsA old x new) result → IsLeafStep c groups lists old r new result
    a_step r x new result is range p =
        subst (λ (y : ProofRecord). IsLeafStep c groups lists old y new result) (sym is)
        (placed_step (a_due c lists x (leaf_of old)) (record (leaf_of old) { alpha = old.alpha.listed.items ++ x ∷ [] }) (λ l. Stands l new) (AddsA old x new) result
        (λ due d. subst (λ (n : OpenLeaf). Stands (record (leaf_of old) { alpha = old.alpha.listed.items ++ x ∷ [] }) n) (sym d.0)
        (a_stands x (a_range x (subst (λ (y : ProofRecord). IsTrue (is_in_range y)) is range)) new d.1 due)) p)

    -- a beta more
    b_stands : (x : PairValue) → IsPairRange x → (n : OpenLeaf) → AddsPair old.beta x n.beta → b_due c lists x (leaf_of old) ≡ true
        → Stands (record (leaf_of old) { beta = old.beta.listed.items ++ x ∷ [] }) (record old { beta = n.beta })
    b_stands x r n a due =
        let k = h.kept in
        let l = leaf_of old in
        let placed = is_pair_due c l.beta x in
        let listed = in_list lists x.second x.number in
        let parts = and_parts (is_none l.uses && placed) listed due in
        let rest = and_parts (is_none l.uses) placed parts.0 in
        let unused = none_is old.uses.items rest.0 in
        let order = nat_lt x.first x.second in
        let there = nat_lt x.second (length c.book) in
        let some = is_some_value x.value in
        let above = and_parts (order && there && some) (is_above (λ y. pos (pair_key y)) l.beta x) rest.1 in
        let valued = and_parts (order && there) some above.0 in
        let trains = and_parts order there valued.0 in
        let ordered = ltb-true x.first x.second trains.0 in
        let inside = ltb-true x.second (length c.book) trains.1 in
        let value : IsPairValue x =
        record { first = r.first; second = r.second; number = r.number; value = r.value; some = some_size x.value valued.1 } in
        let kept : AreLeafLists old.q old.u.items old.v.items old.alpha.listed.items (old.beta.listed.items ++ x ∷ []) =
        record {
          q_least = k.q_least;
          q_most = k.q_most;
          u_each = k.u_each;
          v_each = k.v_each;
          alpha_each = k.alpha_each;
          beta_each = each_more IsPairValue old.beta.listed.items x k.beta_each value;
          u_ascends = k.u_ascends;
          v_ascends = k.v_ascends;
          alpha_ascends = k.alpha_ascends;
          beta_ascends = ascends_more (λ y. pos (pair_key y)) old.beta.listed.items x k.beta_ascends above.1;
        } in (
          ap (λ xs. record (leaf_of old) { beta = xs }) a.listed,
          record {
            kept = subst (λ (xs : List PairValue). AreLeafLists old.q old.u.items old.v.items old.alpha.listed.items xs) (sym a.listed) kept;
            uses = h.uses;
            trains = h.trains;
            platforms = h.platforms;
            alpha_keyed = h.alpha_keyed;
            beta_keyed = keyed_put old.beta.sums n.beta.sums h.beta_keyed x ordered r.second r.number r.value a.sums a.ordered;
            alpha_listed = h.alpha_listed;
            beta_listed = listed_put old.beta.sums n.beta.sums x lists Second h.beta_listed
                (record { there = omega (arith, inside, fits.trains); listed = parts.1 }) a.sums;
            alpha = h.alpha;
            beta = pair_sums old.beta n.beta x (λ p i. only_if (in_list lists p.second i) (used_beta groups old.uses.items p i)) h.beta_keyed a r.second r.number
                above.1 (λ p i. nothing_used (in_list lists p.second i) (used_beta groups old.uses.items p i) (ap (λ us. used_beta groups us p i) unused)) h.beta;
          },
        )

    pub b_step : (r : ProofRecord) (x : PairValue) (new : OpenLeaf) (result : Result (Unit {0}) Stop) → r ≡ B x → IsTrue (is_in_range r)
        → IsPlaced (b_due c lists x (leaf_of old)) (AddsB old x new) result → IsLeafStep c groups lists old r new result
    b_step r x new result is range p =
        subst (λ (y : ProofRecord). IsLeafStep c groups lists old y new result) (sym is)
        (placed_step (b_due c lists x (leaf_of old)) (record (leaf_of old) { beta = old.beta.listed.items ++ x ∷ [] }) (λ l. Stands l new) (AddsB old x new) result
        (λ due d. subst (λ (n : OpenLeaf). Stands (record (leaf_of old) { beta = old.beta.listed.items ++ x ∷ [] }) n) (sym d.0)
        (b_stands x (b_range x (subst (λ (y : ProofRecord). IsTrue (is_in_range y)) is range)) new d.1 due)) p)

    -- a use more

    abbrev with_use : UseOf → LeafSoFar
    with_use x = record (leaf_of old) { uses = old.uses.items ++ x ∷ [] }

    alpha_used : (x : UseOf) (g : Group) → slice_get groups x.table ≡ Some g → (new : Sums) → Adds lists First g x.factor old.alpha.sums new
        → (p : TrainPair) (i : ℕ) → sum_at new p i ≡ (numbers_so_far groups lists (with_use x)).alpha p i
    alpha_used x g there new a p i =
        used_more (in_list lists p.first i) (sum_at old.alpha.sums p i) (pair_listed old.alpha.listed.items p i) (used_alpha groups old.uses.items p i)
        (x.factor *ℤ table_value First g p i) (sum_at new p i) (used_alpha groups (old.uses.items ++ x ∷ []) p i) (h.alpha p i) (a.sums p i)
        (total_push (λ y. y.factor *ℤ table_alpha p i (slice_get groups y.table)) old.uses.items x
        ∙ ap (λ o. used_alpha groups old.uses.items p i +ℤ x.factor *ℤ table_alpha p i o) there)

    beta_used : (x : UseOf) (g : Group) → slice_get groups x.table ≡ Some g → (new : Sums) → Adds lists Second g x.factor old.beta.sums new
        → (p : TrainPair) (i : ℕ) → sum_at new p i ≡ (numbers_so_far groups lists (with_use x)).beta p i
    beta_used x g there new a p i =
        used_more (in_list lists p.second i) (sum_at old.beta.sums p i) (pair_listed old.beta.listed.items p i) (used_beta groups old.uses.items p i)
        (x.factor *ℤ table_value Second g p i) (sum_at new p i) (used_beta groups (old.uses.items ++ x ∷ []) p i) (h.beta p i) (a.sums p i)
        (total_push (λ y. y.factor *ℤ table_beta p i (slice_get groups y.table)) old.uses.items x
        ∙ ap (λ o. used_beta groups old.uses.items p i +ℤ x.factor *ℤ table_beta p i o) there)

    small_sums : (m : Sums) (f : TrainPair → ℕ → ℤ) → AreKeyed m → ((p : TrainPair) (i : ℕ) → sum_at m p i ≡ f p i)
        → (p : TrainPair) (i : ℕ) → p.second < 200 → i < 4096 → IsSmall (f p i)
    small_sums m f keyed e p i a b =
        subst (λ (z : ℤ). IsSmall z) (sym (sum_is_value p i a b m keyed) ∙ e p i) (value_small m keyed (key_at p.first p.second i))

    use_stands : (x : UseOf) (n : OpenLeaf) → AddsUse groups lists old x n → use_due groups x (leaf_of old) ≡ true
        → (are_small c lists (numbers_so_far groups lists (with_use x)) ≡ true)
        × Stands (with_use x) (record old { alpha = n.alpha; beta = n.beta; uses = n.uses })
    use_stands x n a due =
        let k = h.kept in
        let above = and_parts (nat_lt x.table (length groups)) (is_above (λ y. pos y.table) old.uses.items x) due in
        let alpha = alpha_used x a.table a.there n.alpha.sums a.alpha in
        let beta = beta_used x a.table a.there n.beta.sums a.beta in
        let alpha_items = ap (λ v. v.items) a.alpha_listed in
        let beta_items = ap (λ v. v.items) a.beta_listed in
        let same : leaf_of (record old { alpha = n.alpha; beta = n.beta; uses = n.uses }) ≡ with_use x =
        λ i. record {
          q = old.q;
          u = old.u.items;
          v = old.v.items;
          alpha = alpha_items i;
          beta = beta_items i;
          uses = a.uses i;
        } in (
          all_small c lists (numbers_so_far groups lists (with_use x)) fits book
              (small_sums n.alpha.sums (numbers_so_far groups lists (with_use x)).alpha a.alpha.keyed alpha)
              (small_sums n.beta.sums (numbers_so_far groups lists (with_use x)).beta a.beta.keyed beta),
          (
            same,
            record {
              kept = subst (λ (xs : List PairValue). AreLeafLists old.q old.u.items old.v.items xs n.beta.listed.items) (sym alpha_items)
                  (subst (λ (xs : List PairValue). AreLeafLists old.q old.u.items old.v.items old.alpha.listed.items xs) (sym beta_items) k);
              uses = subst (λ (us : List UseOf). Ascends (λ y. pos y.table) us) (sym a.uses) (ascends_more (λ y. pos y.table) old.uses.items x h.uses above.1);
              trains = h.trains;
              platforms = h.platforms;
              alpha_keyed = a.alpha.keyed;
              beta_keyed = a.beta.keyed;
              alpha_listed = a.alpha.listed;
              beta_listed = a.beta.listed;
              alpha = λ p i. alpha p i ∙ ap (λ (l : LeafSoFar). (numbers_so_far groups lists l).alpha p i) (sym same);
              beta = λ p i. beta p i ∙ ap (λ (l : LeafSoFar). (numbers_so_far groups lists l).beta p i) (sym same);
            },
          ),
        )

    -- where a table would be too much, some number would be too large
    over_on : (b : Bool) (o l u f m : ℤ) → b ≡ true → (IsSmall (o +ℤ f) → ⊥) → o ≡ l +ℤ only_if b u → m ≡ u +ℤ f → IsSmall (l +ℤ only_if b m) → ⊥
    over_on true o l u f m e over a d small = over (subst (λ (z : ℤ). IsSmall z) (same o l u f m a d) small)
      where
        same : (o l u f m : ℤ) → o ≡ l +ℤ u → m ≡ u +ℤ f → l +ℤ m ≡ o +ℤ f
        same o l u f m a d = omega (arith, ints, a, d)
    over_on false o l u f m e over a d small = absurd (cc)

    use_over : (x : UseOf) → IsUseOver groups lists old x → AreThere (length c.book) groups → are_small c lists (numbers_so_far groups lists (with_use x)) ≡ false
    use_over x o there =
        one_large c lists (numbers_so_far groups lists (with_use x)) o.table.first o.table.second o.order (group_there groups x.table o.table there o.there)
        (over o.over)
      where
        group_there : (gs : List Group) (k : ℕ) (g : Group) → AreThere (length c.book) gs → slice_get gs k ≡ Some g → g.second < length c.book
        group_there gs k g h e =
            let within = slice_get_within gs k g e in
            subst (λ (y : Group). y.second < length c.book) (get_or_at gs k g e) (h k g within)

        over : IsTooMuch lists First o.table x.factor old.alpha.sums ⊎ IsTooMuch lists Second o.table x.factor old.beta.sums
            → ((n : ℕ) × (in_list lists o.table.first n ≡ true)
            × (IsSmall ((numbers_so_far groups lists (with_use x)).alpha (record { first = o.table.first; second = o.table.second }) n) → ⊥))
            ⊎ ((n : ℕ) × (in_list lists o.table.second n ≡ true)
            × (IsSmall ((numbers_so_far groups lists (with_use x)).beta (record { first = o.table.first; second = o.table.second }) n) → ⊥))
        over (inl m) = inl (
          m.number,
          m.listed,
          over_on (in_list lists o.table.first m.number) (sum_at old.alpha.sums (pair_of o.table) m.number) (pair_listed old.alpha.listed.items (pair_of o.table) m.number)
              (used_alpha groups old.uses.items (pair_of o.table) m.number) (x.factor *ℤ table_value First o.table (pair_of o.table) m.number)
              (used_alpha groups (old.uses.items ++ x ∷ []) (pair_of o.table) m.number) m.listed m.over (h.alpha (pair_of o.table) m.number)
              (total_push (λ y. y.factor *ℤ table_alpha (pair_of o.table) m.number (slice_get groups y.table)) old.uses.items x
              ∙ ap (λ t. used_alpha groups old.uses.items (pair_of o.table) m.number +ℤ x.factor *ℤ table_alpha (pair_of o.table) m.number t) o.there),
        )
        over (inr m) = inr (
          m.number,
          m.listed,
          over_on (in_list lists o.table.second m.number) (sum_at old.beta.sums (pair_of o.table) m.number) (pair_listed old.beta.listed.items (pair_of o.table) m.number)
              (used_beta groups old.uses.items (pair_of o.table) m.number) (x.factor *ℤ table_value Second o.table (pair_of o.table) m.number)
              (used_beta groups (old.uses.items ++ x ∷ []) (pair_of o.table) m.number) m.listed m.over (h.beta (pair_of o.table) m.number)
              (total_push (λ y. y.factor *ℤ table_beta (pair_of o.table) m.number (slice_get groups y.table)) old.uses.items x
              ∙ ap (λ t. used_beta groups old.uses.items (pair_of o.table) m.number +ℤ x.factor *ℤ table_beta (pair_of o.table) m.number t) o.there),
        )

    abbrev Goal : UseOf → OpenLeaf → Bool → Bool → Result (Unit {0}) Stop → Type 0
    Goal x new due small q = Follows (if due then (if small then Ok (with_use x) else Err sum) else Err place) (λ l. Stands l new) q

    free : (x : UseOf) (new : OpenLeaf) (due small : Bool) → Goal x new due small (Err Memory)
    free x new true true = tt
    free x new true false = tt
    free x new false small = tt

    use_by : (x : UseOf) (new : OpenLeaf) (q : Result (Unit {0}) Stop) → AreThere (length c.book) groups → IsUsed groups lists old x new q
        → Goal x new (use_due groups x (leaf_of old)) (are_small c lists (numbers_so_far groups lists (with_use x))) q
    use_by x new (Ok done) there (due, a) =
        let s = use_stands x new a due in
        subst (λ (b : Bool). Goal x new b (are_small c lists (numbers_so_far groups lists (with_use x))) (Ok done)) (sym due)
        (subst (λ (b : Bool). Goal x new true b (Ok done)) (sym s.0) (subst (λ (n : OpenLeaf). Stands (with_use x) n) (sym a.same) s.1))
    use_by x new (Err Memory) there a = free x new (use_due groups x (leaf_of old)) (are_small c lists (numbers_so_far groups lists (with_use x)))
    use_by x new (Err (Refused kind)) there (inl (due, e)) =
        subst (λ (b : Bool). Goal x new b (are_small c lists (numbers_so_far groups lists (with_use x))) (Err (Refused kind))) (sym due) e
    use_by x new (Err (Refused kind)) there (inr a) =
        subst (λ (b : Bool). Goal x new b (are_small c lists (numbers_so_far groups lists (with_use x))) (Err (Refused kind))) (sym a.0)
        (subst (λ (b : Bool). Goal x new true b (Err (Refused kind))) (sym (use_over x a.2 there)) a.1)

    pub use_step : (r : ProofRecord) (x : UseOf) (new : OpenLeaf) (result : Result (Unit {0}) Stop) → r ≡ Use x → AreThere (length c.book) groups
        → IsUsed groups lists old x new result → IsLeafStep c groups lists old r new result
    use_step r x new result is there p = subst (λ (y : ProofRecord). IsLeafStep c groups lists old y new result) (sym is) (use_by x new result there p)

-- a use is due where its table is there and it is behind the others
pub due_use : (groups : List Group) (x : UseOf) (l : LeafSoFar) (g : Group) → slice_get groups x.table ≡ Some g → is_above (λ y. pos y.table) l.uses x ≡ true
    → use_due groups x l ≡ true
due_use groups x l g e above =
    both (nat_lt x.table (length groups)) (is_above (λ y. pos y.table) l.uses x) (lt-ltb x.table (length groups) (slice_get_within groups x.table g e)) above

-- the second side is too much
pub second_over : (groups : List Group) (lists : Lists) (old new : OpenLeaf) (x : UseOf) (g : Group) (next : Sums) (result : Result (Unit {0}) Stop) (stop : Stop)
    → IsErrAnd result (λ s. s ≡ stop) → use_due groups x (leaf_of old) ≡ true → slice_get groups x.table ≡ Some g → g.first < g.second
    → IsAdded lists Second g x.factor old.beta.sums next (Err stop) → IsUsed groups lists old x new result
second_over groups lists old new x g next (Ok done) stop e due there order a = absurd e
second_over groups lists old new x g next (Err Memory) stop e due there order a = tt
second_over groups lists old new x g next (Err (Refused kind)) Memory e due there order a = absurd (cc)
second_over groups lists old new x g next (Err (Refused kind)) (Refused other) e due there order a =
    let same : kind ≡ other = cc in
    inr (due, same ∙ a.0, record { table = g; there = there; order = order; over = inr a.1 })
