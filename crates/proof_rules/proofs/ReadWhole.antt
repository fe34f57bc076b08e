-- Records that lead to an end are those of a whole proof.
use Rattle.std.proofs.Common.{◌≡◌, inl, inr, ℕ, ◌+◌, true, false, ◌&&◌, List, [], ◌∷◌, ◌++◌, length, refl, sym, ap, subst, append_assoc, arith, Option, Some, None, Result, Ok, Err, IsTrue}
use Rattle.std.specs.Prelude.{◌==◌}
use Rattle.std.specs.List.{list_all}
use Rattle.std.proofs.lemmas.List.{append-nil}
use Rattle.std.proofs.lemmas.Bool.{and_parts, eqb-true}
use Rattle.patterns.specs.Allowed.{full_lists}
use Rattle.pair_prices.specs.Case.{CaseRecord}
use Rattle.leaf_bounds.specs.declared.tree.Bound.TheVariants.{AtLeast, Nothing as NoBound}
use Rattle.proof_file.specs.declared.record.ProofRecord.{ProofRecord}
use Rattle.proof_file.specs.declared.record.ProofRecord.TheVariants.{Head, Table, Ta, Tb, Split, Leaf, U, V, A, B, Use, Close, End, Nothing}
use Rattle.proof_file.specs.Kind.{is_in_range}
use Rattle.proof_file.specs.Text.{AreInRange}
use Rattle.proof_rules.specs.declared.refused.ProofRefused.{ProofRefused}
use Rattle.proof_rules.specs.Fault.{Fault, place, OpenLeaf, State, start, add_u, add_v, add_a, add_b, add_use, add_close, by_leaf, after}
use Rattle.proof_rules.specs.Verdict.{one_on, going_on, walked}
use Rattle.proof_rules.proofs.TestLemmas.{checked_is}
use Rattle.proof_rules.proofs.WalkLemmas.{one_went}
use Rattle.proof_rules.proofs.TableSteps.{ta_tabled, tb_tabled, table_tabled}
use Rattle.proof_rules.proofs.OpenAdds.{u_added, v_added, a_added, b_added, use_added}
use Rattle.proof_rules.proofs.Reading.{IsReading, IsEnded, Holds, tabled_reads, opened_reads}
use Rattle.proof_rules.proofs.ReadSteps.{refused_not, head_reads, split_reads, leaf_reads, close_reads, end_reads}

record IsIn (o : Option OpenLeaf) (f : OpenLeaf → Result State Fault) (t : State) : Type 0 where
  leaf : OpenLeaf
  there : o ≡ Some leaf
  leads : f leaf ≡ Ok t

leaf_in : (o : Option OpenLeaf) (f : OpenLeaf → Result State Fault) (t : State) → by_leaf o f ≡ Ok t → IsIn o f t
leaf_in None f t e = absurd (refused_not place t e)
leaf_in (Some l) f t e = record { leaf = l; there = refl; leads = e }

start_reads : (c : CaseRecord) (t : State) (r : ProofRecord) → IsTrue (is_in_range r) → after c start r ≡ Ok t → IsReading c t (r ∷ [])
unfolding after
start_reads c t (Head x) range e = head_reads c t x range e
start_reads c t (Table x) range e = absurd (refused_not place t e)
start_reads c t (Ta x) range e = absurd (refused_not place t e)
start_reads c t (Tb x) range e = absurd (refused_not place t e)
start_reads c t (Split x) range e = absurd (refused_not place t e)
start_reads c t (Leaf q) range e = absurd (refused_not place t e)
start_reads c t (U x) range e = absurd (refused_not place t e)
start_reads c t (V x) range e = absurd (refused_not place t e)
start_reads c t (A x) range e = absurd (refused_not place t e)
start_reads c t (B x) range e = absurd (refused_not place t e)
start_reads c t (Use x) range e = absurd (refused_not place t e)
start_reads c t Close range e = absurd (refused_not place t e)
start_reads c t (End n) range e = absurd (refused_not place t e)
start_reads c t Nothing range e = absurd (refused_not place t e)

reads_on : (c : CaseRecord) (s t : State) (before : List ProofRecord) (r : ProofRecord) → IsTrue (is_in_range r) → IsReading c s before → after c s r ≡ Ok t
    → Holds c t (before ++ r ∷ [])
unfolding after
reads_on c s t before (Head x) range h e =
    let is = checked_is (s.version == 0 && x.trains == length c.book) (record s { version = x.version; due = full_lists c.book ∷ [] }) t e in
    let none = eqb-true s.version 0 (and_parts (s.version == 0) (x.trains == length c.book) is.0).0 in
    let least = h.version_least in
    absurd (omega (arith, none, least))
reads_on c s t before (Table x) range h e = inr (inl (tabled_reads c s t before (Table x) h (table_tabled c s t x.table x.first x.second h.each e)))
reads_on c s t before (Ta x) range h e = inr (inl (tabled_reads c s t before (Ta x) h (ta_tabled c s t x h.each e)))
reads_on c s t before (Tb x) range h e = inr (inl (tabled_reads c s t before (Tb x) h (tb_tabled c s t x h.each e)))
reads_on c s t before (Split cut) range h e = inr (inl (split_reads c s t before cut s.leaf s.due refl refl h e))
reads_on c s t before (Leaf q) range h e = inr (inl (leaf_reads c s t before q s.leaf s.due range refl h e))
reads_on c s t before (U x) range h e =
    let m = leaf_in s.leaf (add_u c s x) t e in
    inr (inl (opened_reads c s t before m.leaf (U x) h m.there (u_added c s t m.leaf (h.open_leaf m.leaf m.there) x range m.leads)))
reads_on c s t before (V x) range h e =
    let m = leaf_in s.leaf (add_v c s x) t e in
    inr (inl (opened_reads c s t before m.leaf (V x) h m.there (v_added c s t m.leaf (h.open_leaf m.leaf m.there) x range m.leads)))
reads_on c s t before (A x) range h e =
    let m = leaf_in s.leaf (add_a c s x) t e in
    inr (inl (opened_reads c s t before m.leaf (A x) h m.there (a_added c s t m.leaf (h.open_leaf m.leaf m.there) x range m.leads)))
reads_on c s t before (B x) range h e =
    let m = leaf_in s.leaf (add_b c s x) t e in
    inr (inl (opened_reads c s t before m.leaf (B x) h m.there (b_added c s t m.leaf (h.open_leaf m.leaf m.there) x range m.leads)))
reads_on c s t before (Use x) range h e =
    let m = leaf_in s.leaf (add_use c s x) t e in
    inr (inl (opened_reads c s t before m.leaf (Use x) h m.there (use_added c s t m.leaf (h.open_leaf m.leaf m.there) x h.each m.leads)))
reads_on c s t before Close range h e =
    let m = leaf_in s.leaf (add_close c s) t e in
    inr (inl (close_reads c s t before m.leaf m.there h m.leads))
reads_on c s t before (End n) range h e = inr (inr (end_reads c s t before (AtLeast n) h e))
reads_on c s t before Nothing range h e = inr (inr (end_reads c s t before NoBound h e))

one_reads : (c : CaseRecord) (s t : State) (before : List ProofRecord) (r : ProofRecord) → IsTrue (is_in_range r) → Holds c s before → s.is_over ≡ false
    → after c s r ≡ Ok t → Holds c t (before ++ r ∷ [])
one_reads c s t before r range (inl a) o e =
    let at_start = a.is in
    let first = start_reads c t r range (subst (λ (u : State). after c u r ≡ Ok t) at_start e) in
    subst (λ (rs : List ProofRecord). Holds c t (rs ++ r ∷ [])) (sym a.none) (inr (inl first))
one_reads c s t before r range (inr (inl h)) o e = reads_on c s t before r range h e
one_reads c s t before r range (inr (inr h)) o e = let over = h.over in absurd (cc (over, o))

reads_by : (c : CaseRecord) (s t : State) (n : ℕ) (before records : List ProofRecord) (r : ProofRecord) → IsTrue (is_in_range r) → Holds c s before
    → (a : Result State ProofRefused) → one_on c s n r ≡ a → going_on a (λ u. walked c u (n + 1) records) ≡ Ok t
    → ((u : State) → Holds c u (before ++ r ∷ []) → walked c u (n + 1) records ≡ Ok t → Holds c t (before ++ r ∷ [] ++ records))
    → Holds c t (before ++ r ∷ records)
reads_by c s t n before records r range h (Err f) i e rest = absurd (cc e)
reads_by c s t n before records r range h (Ok u) i e rest =
    let went = one_went c s u n r i in
    subst (λ (rs : List ProofRecord). Holds c t rs) (append_assoc before (r ∷ []) records) (rest u (one_reads c s u before r range h went.0 went.1) e)

all_read : (c : CaseRecord) (s t : State) (n : ℕ) (before records : List ProofRecord) → AreInRange records → Holds c s before → walked c s n records ≡ Ok t
    → Holds c t (before ++ records)
all_read c s t n before [] range h e =
    let same : s ≡ t = cc e in
    subst (λ (u : State). Holds c u (before ++ [])) same (subst (λ (rs : List ProofRecord). Holds c s rs) (sym (append-nil before)) h)
all_read c s t n before (r ∷ records) range h e =
    let ranges = and_parts (is_in_range r) (list_all is_in_range records) range in
    reads_by c s t n before records r ranges.0 h (one_on c s n r) refl e
    (λ u i f. all_read c u t (n + 1) (before ++ r ∷ []) records ranges.1 i f)

ended_by : (c : CaseRecord) (t : State) (records : List ProofRecord) → Holds c t records → t.is_over ≡ true → IsEnded c t records
ended_by c t records (inl a) o = let over : t.is_over ≡ false = ap (λ (u : State). u.is_over) a.is in absurd (cc (over, o))
ended_by c t records (inr (inl h)) o = let going = h.going in absurd (cc (going, o))
ended_by c t records (inr (inr h)) o = h

pub walk_ended : (c : CaseRecord) (t : State) (records : List ProofRecord) → AreInRange records → walked c start 1 records ≡ Ok t → t.is_over ≡ true
    → IsEnded c t records
walk_ended c t records range e o = ended_by c t records (all_read c start t 1 [] records range (inl (record { is = refl; none = refl })) e) o
