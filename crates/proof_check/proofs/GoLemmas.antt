-- Records, one after the other.
use Rattle.std.proofs.Common.{◌≡◌, ℕ, zero, suc, ◌+◌, ◌<◌, ◌≤◌, Bool, true, false, cond, List, [], ◌∷◌, length, drop, get_or, drop-cons, refl, sym, ap, subst, ◌∙◌, arith, Some, Result, Ok, Err, IsTrue}
use Rattle.std.specs.Prelude.{IsErrAnd, slice_get}
use Rattle.std.specs.List.{list_all}
use Rattle.std.proofs.lemmas.List.{drop_all}
use Rattle.pair_prices.specs.Case.{CaseRecord}
use Rattle.proof_file.specs.declared.record.ProofRecord.{ProofRecord}
use Rattle.proof_file.specs.Kind.{is_in_range}
use Rattle.proof_file.proofs.TruthLemmas.{and_parts}
use Rattle.proof_rules.specs.Fault.{Fault, State, after}
use Rattle.proof_rules.specs.declared.refused.ProofKind.TheVariants.{Trail}
use Rattle.proof_rules.specs.declared.refused.ProofRefused.{ProofRefused}
use Rattle.proof_rules.specs.Verdict.{going_on, judged, one_on, refused, walked}
use Rattle.proof_check.specs.declared.refused.CheckFault.{CheckFault}
use Rattle.proof_check.specs.declared.refused.CheckFault.TheVariants.{Memory, Refused}
use Rattle.proof_check.specs.declared.stop.Stop.{Stop}
use Rattle.proof_check.specs.declared.stop.Stop.TheVariants.{Memory as NoMemory, Refused as StopAt}
use Rattle.proof_check.specs.declared.walk.Walk.{Walk}
use Rattle.proof_check.specs.Going.{Follows, fault_at}
use Rattle.proof_check.specs.Reads.{AreInRange, Goes}
use Rattle.proof_check.specs.Walk.{IsSound, IsStep, is_over, state_of}

-- one record

pub over_refused : (c : CaseRecord) (s : State) (n : ℕ) (r : ProofRecord) (P : State → Type 0) → s.is_over ≡ true
    → Goes (one_on c s n r) P (Err (Refused (refused Trail n)))
unfolding one_on
over_refused c s n r P e = rw e refl

judged_ok : (x : Result State Fault) (n : ℕ) (P Q : State → Type 0) → ((s : State) → Q s → P s) → Follows x Q (Ok tt) → Goes (judged n x) P (Ok tt)
judged_ok (Ok s) n P Q h f = h s f
judged_ok (Err fault) n P Q h f = f

judged_err : (x : Result State Fault) (n : ℕ) (P Q : State → Type 0) (stop : Stop) → Follows x Q (Err stop) → Goes (judged n x) P (Err (fault_at n stop))
judged_err (Ok s) n P Q NoMemory f = tt
judged_err (Ok s) n P Q (StopAt kind) f = f
judged_err (Err fault) n P Q NoMemory f = tt
judged_err (Err fault) n P Q (StopAt kind) f = ap (λ k. refused k n) f

going : (c : CaseRecord) (s : State) (n : ℕ) (r : ProofRecord) (P : State → Type 0) (q : Result (Unit {0}) CheckFault) → s.is_over ≡ false
    → Goes (judged n (after c s r)) P q → Goes (one_on c s n r) P q
unfolding one_on
going c s n r P q e f = subst (λ (b : Bool). Goes (cond b (Err (refused Trail n)) (judged n (after c s r))) P q) (sym e) f

module _ (c : CaseRecord) (old new : Walk) (n : ℕ) (r : ProofRecord) (over : is_over old.stage ≡ false) where
  pub step_goes : IsStep c old r new (Ok tt) → Goes (one_on c (state_of old) n r) (λ s. state_of new ≡ s) (Ok tt)
  step_goes f =
      going c (state_of old) n r (λ s. state_of new ≡ s) (Ok tt) over
      (judged_ok (after c (state_of old) r) n (λ s. state_of new ≡ s) (λ s. (state_of new ≡ s) × IsSound c new) (λ s p. p.0) f)

  pub step_stops : (stop : Stop) (q : CheckFault) → q ≡ fault_at n stop → IsStep c old r new (Err stop)
      → Goes (one_on c (state_of old) n r) (λ s. state_of new ≡ s) (Err q)
  step_stops stop q e f =
      subst (λ (x : CheckFault). Goes (one_on c (state_of old) n r) (λ s. state_of new ≡ s) (Err x)) (sym e)
      (going c (state_of old) n r (λ s. state_of new ≡ s) (Err (fault_at n stop)) over
      (judged_err (after c (state_of old) r) n (λ s. state_of new ≡ s) (λ s. (state_of new ≡ s) × IsSound c new) stop f))

pub step_sound : (c : CaseRecord) (new : Walk) (x : Result State Fault) → Follows x (λ s. (state_of new ≡ s) × IsSound c new) (Ok tt) → IsSound c new
step_sound c new (Ok s) f = f.1
step_sound c new (Err fault) f = absurd f

-- all of them

pub goes_free : (x : Result State ProofRefused) (P : State → Type 0) → Goes x P (Err Memory)
goes_free (Ok s) P = tt
goes_free (Err r) P = tt

goes_is : (x : Result State ProofRefused) (t : State) → Goes x (λ s. t ≡ s) (Ok tt) → x ≡ Ok t
goes_is (Ok s) t e = ap (λ q. Ok q) (sym e)
goes_is (Err r) t e = absurd e

pub goes_err : (x : Result State ProofRefused) (P : State → Type 0) (r : ProofRefused) → Goes x P (Err (Refused r)) → x ≡ Err r
goes_err (Ok s) P r e = absurd e
goes_err (Err q) P r e = ap (λ p. Err p) (sym e)

pub in_range_at : (rs : List ProofRecord) (i : ℕ) (r : ProofRecord) → AreInRange rs → slice_get rs i ≡ Some r → IsTrue (is_in_range r)
in_range_at [] i r h e = absurd (cc)
in_range_at (q ∷ rs) zero r h e =
    let same : q ≡ r = cc in
    subst (λ (p : ProofRecord). IsTrue (is_in_range p)) same (and_parts (is_in_range q) (list_all is_in_range rs) h).0
in_range_at (q ∷ rs) (suc i) r h e = in_range_at rs i r (and_parts (is_in_range q) (list_all is_in_range rs) h).1 e

-- how far the records were gone through
pub record GoesOn (c : CaseRecord) (old : State) (number : ℕ) (all : List ProofRecord) (i : ℕ) (w : Walk) (n : ℕ) : Type 0 where
  pub left : walked c old number all ≡ walked c (state_of w) n (drop i all)
  pub count : n ≡ number + i
  pub sound : IsSound c w

module _ (c : CaseRecord) (old : State) (number : ℕ) (all : List ProofRecord) (i : ℕ) (w : Walk) (n : ℕ) (g : GoesOn c old number all i w n) where
  next : (d r : ProofRecord) → i < length all → r ≡ get_or all i d → drop i all ≡ r ∷ drop (i + 1) all
  next d r h e = drop-cons all i d h ∙ ap (λ q. q ∷ drop (suc i) all) (sym e) ∙ ap (λ k. r ∷ drop k all) (one i)
    where
      one : (k : ℕ) → suc k ≡ k + 1
      one k = omega arith

  split : (r : ProofRecord) (rest : List ProofRecord) → drop i all ≡ r ∷ rest
      → walked c old number all ≡ going_on (one_on c (state_of w) n r) (λ t. walked c t (n + 1) rest)
  split r rest e = g.left ∙ ap (λ rs. walked c (state_of w) n rs) e

  pub goes_more : (d r : ProofRecord) (new : Walk) (m : ℕ) → i < length all → r ≡ get_or all i d
      → Goes (one_on c (state_of w) n r) (λ s. state_of new ≡ s) (Ok tt) → m ≡ n + 1 → IsSound c new → GoesOn c old number all (i + 1) new m
  goes_more d r new m h e f k sound = record {
    left = split r (drop (i + 1) all) (next d r h e)
        ∙ ap (λ x. going_on x (λ t. walked c t (n + 1) (drop (i + 1) all))) (goes_is (one_on c (state_of w) n r) (state_of new) f)
        ∙ ap (λ j. walked c (state_of new) j (drop (i + 1) all)) (sym k);
    count = counted m n number i k g.count;
    sound = sound;
  }
    where
      counted : (m n number i : ℕ) → m ≡ n + 1 → n ≡ number + i → m ≡ number + (i + 1)
      counted m n number i a b = omega (arith, a, b)

  err_goes : (r : ProofRecord) (rest : List ProofRecord) (P Q : State → Type 0) (fault : CheckFault) → drop i all ≡ r ∷ rest
      → Goes (one_on c (state_of w) n r) Q (Err fault) → Goes (walked c old number all) P (Err fault)
  err_goes r rest P Q Memory e f = goes_free (walked c old number all) P
  err_goes r rest P Q (Refused x) e f =
      subst (λ (y : Result State ProofRefused). Goes y P (Err (Refused x)))
      (sym (split r rest e ∙ ap (λ y. going_on y (λ t. walked c t (n + 1) rest)) (goes_err (one_on c (state_of w) n r) Q x f))) refl

  pub goes_stop : (d r : ProofRecord) (P Q : State → Type 0) (fault : CheckFault) (result : Result (Unit {0}) CheckFault) → i < length all → r ≡ get_or all i d
      → IsErrAnd result (λ s. s ≡ fault) → Goes (one_on c (state_of w) n r) Q (Err fault) → Goes (walked c old number all) P result
  goes_stop d r P Q fault (Ok done) h e f k = absurd f
  goes_stop d r P Q fault (Err other) h e f k =
      subst (λ (y : CheckFault). Goes (walked c old number all) P (Err y)) (sym f) (err_goes r (drop (i + 1) all) P Q fault (next d r h e) k)

  pub goes_end : length all ≤ i → Goes (walked c old number all) (λ s. state_of w ≡ s) (Ok tt)
  goes_end h =
      subst (λ (y : Result State ProofRefused). Goes y (λ s. state_of w ≡ s) (Ok tt))
      (sym (g.left ∙ ap (λ rs. walked c (state_of w) n rs) (drop_all i all h))) refl
