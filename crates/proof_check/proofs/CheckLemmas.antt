-- What a checker answers.
use Rattle.std.proofs.Common.{◌≡◌, ◌≢◌, ℕ, zero, suc, ◌+◌, ◌-◌, ◌<◌, ◌≤◌, ◌^◌, Bool, true, false, cond, List, [], ◌++◌, length, take, refl, sym, ap, subst, ◌∙◌, arith, Some, None, Option, Result, Ok, Err, length-append, take_all, ◌⊎◌, inl, inr, ⊎_elim}
use Rattle.std.specs.Prelude.{IfOk, IsErrAnd, OnOk, nat_le}
use Rattle.std.specs.Option.{option_map, option_or}
use Rattle.std.specs.Result.{result_err}
use Rattle.std.proofs.lemmas.List.{append-nil, take-append-le}
use Rattle.std.proofs.lemmas.Bool.Decides.{nat_tests}
use Rattle.pair_prices.specs.Case.{CaseRecord, IsCase}
use Rattle.leaf_bounds.specs.declared.tree.Bound.{Bound}
use Rattle.proof_file.specs.Reading.{lines_in, records_of}
use Rattle.proof_file.specs.Accepted.{IsAccepted}
use Rattle.proof_rules.specs.Laws.{AcceptedExactly}
use Rattle.proof_rules.specs.Fault.{State}
use Rattle.proof_rules.specs.declared.refused.ProofKind.TheVariants.{Cut, Long}
use Rattle.proof_rules.specs.declared.refused.ProofRefused.{ProofRefused}
use Rattle.proof_rules.specs.Verdict.{concluded, most_bytes, refusal_of, refused, standing, verdict}
use Rattle.proof_check.specs.declared.checker.Checker.{Checker}
use Rattle.proof_check.specs.declared.reading.Reading.{Reading}
use Rattle.proof_check.specs.declared.refused.CheckFault.{CheckFault}
use Rattle.proof_check.specs.declared.refused.CheckFault.TheVariants.{Memory, Refused}
use Rattle.proof_check.specs.Check.{StandsFor, answered, case_in}
use Rattle.proof_check.specs.Reads.{IsAt, IsSomewhere, ReadsWithin, finished, refusal_within, told}
use Rattle.proof_check.specs.Walk.{state_of}
use Rattle.proof_check.proofs.ReadSteps.{first_bytes, moved, none_stands}
use Rattle.proof_check.proofs.StandLemmas.{refused_stays}

refusal_is : (c : CaseRecord) (bytes : List ℕ) → refusal_of c bytes ≡ refusal_within c (2 ^ 63) bytes
unfolding refusal_of most_bytes
refusal_is c bytes = refl

none_taken : (n : ℕ) → ◌≡◌ {A = List ℕ} (take {A = ℕ} n []) []
none_taken zero = refl
none_taken (suc n) = refl

pub none_refused : (c : CaseRecord) → refusal_of c [] ≡ None
none_refused c =
    refusal_is c []
    ∙ ap (λ (l : List ℕ). option_or (result_err (standing c l)) (cond (nat_le (2 ^ 63) 0) (Some (refused Long (length (lines_in l) + 1))) None)) (none_taken (2 ^ 63))
    ∙ ap (λ (q : Result State ProofRefused). option_or (result_err q) None) (none_stands c)

-- the front of a longer list
le_or : (a b : ℕ) → (a ≤ b) ⊎ (b ≤ a)
le_or zero b = inl (omega arith)
le_or (suc a) zero = inr (omega arith)
le_or (suc a) (suc b) = ⊎_elim (λ (h : a ≤ b). inl (omega (arith, h))) (λ (h : b ≤ a). inr (omega (arith, h))) (le_or a b)

record IsLonger (most : ℕ) (bytes piece : List ℕ) : Type 0 where
  more : List ℕ
  whole : take most (bytes ++ piece) ≡ take most bytes ++ more

longer : (most : ℕ) (bytes piece : List ℕ) → IsLonger most bytes piece
longer most bytes piece = by (le_or (length bytes) most)
  where
    by : (length bytes ≤ most) ⊎ (most ≤ length bytes) → IsLonger most bytes piece
    by (inl h) = record {
      more = take (most - length bytes) piece;
      whole = first_bytes most bytes piece h ∙ ap (λ (l : List ℕ). l ++ take (most - length bytes) piece) (sym (take_all most bytes h));
    }
    by (inr h) = record { more = []; whole = take-append-le most bytes piece h ∙ sym (append-nil (take most bytes)) }

-- a refusal stays
module _ (c : CaseRecord) (most : ℕ) (bytes piece : List ℕ) (r : ProofRefused) where
  err_stays : (q : ProofRefused) → standing c (take most bytes) ≡ Err q → refusal_within c most (bytes ++ piece) ≡ Some q
  err_stays q e =
      let l = longer most bytes piece in
      ap (λ (x : Result State ProofRefused). option_or (result_err x)
      (cond (nat_le most (length (bytes ++ piece))) (Some (refused Long (length (lines_in (take most (bytes ++ piece))) + 1))) None))
      (ap (standing c) l.whole ∙ refused_stays c (take most bytes) l.more q e)

  long_stays : (s : State) → standing c (take most bytes) ≡ Ok s → (b : Bool) → nat_le most (length bytes) ≡ b
      → cond b (Some (refused Long (length (lines_in (take most bytes)) + 1))) None ≡ Some r → refusal_within c most (bytes ++ piece) ≡ Some r
  long_stays s e false f g = absurd (cc)
  long_stays s e true f g =
      let size = length-append bytes piece in
      let far : most ≤ length bytes = far_from most (length bytes) f in
      let same = take-append-le most bytes piece far in
      ap (λ (l : List ℕ). option_or (result_err (standing c l)) (cond (nat_le most (length (bytes ++ piece))) (Some (refused Long (length (lines_in l) + 1))) None)) same
      ∙ ap (λ (x : Result State ProofRefused). option_or (result_err x) (cond (nat_le most (length (bytes ++ piece))) (Some (refused Long (length (lines_in (take most bytes)) + 1))) None)) e
      ∙ ap (λ b. cond b (Some (refused Long (length (lines_in (take most bytes)) + 1))) None) (le_true most (length (bytes ++ piece)) (omega (arith, far, size))) ∙ g
    where
      far_from : (a b : ℕ) → nat_le a b ≡ true → a ≤ b
      far_from a b h = grind (arith, nat_tests)

      le_true : (a b : ℕ) → a ≤ b → nat_le a b ≡ true
      le_true a b h = grind (arith, nat_tests)

  pub within_stays : refusal_within c most bytes ≡ Some r → refusal_within c most (bytes ++ piece) ≡ Some r
  within_stays e = by (standing c (take most bytes)) refl e
    where
      by : (x : Result State ProofRefused) → standing c (take most bytes) ≡ x
          → option_or (result_err x) (cond (nat_le most (length bytes)) (Some (refused Long (length (lines_in (take most bytes)) + 1))) None) ≡ Some r
          → refusal_within c most (bytes ++ piece) ≡ Some r
      by (Ok s) f g = long_stays s f (nat_le most (length bytes)) refl g
      by (Err q) f g = let same : q ≡ r = cc in err_stays q f ∙ ap (λ (x : ProofRefused). Some x) same

refusal_stays : (c : CaseRecord) (bytes piece : List ℕ) (r : ProofRefused) → refusal_of c bytes ≡ Some r → refusal_of c (bytes ++ piece) ≡ Some r
refusal_stays c bytes piece r e = refusal_is c (bytes ++ piece) ∙ within_stays c (2 ^ 63) bytes piece r (sym (refusal_is c bytes) ∙ e)

stopped_by : (c : CaseRecord) (bytes : List ℕ) (r : ProofRefused) → standing c bytes ≡ Err r → answered (verdict c bytes) ≡ Err (Refused r)
unfolding verdict
stopped_by c bytes r e = ap (λ (q : Result State ProofRefused). answered (concluded (length (records_of bytes) + 1) q)) e

-- checkers

-- a checker that met a fault stands where it stood
pub record IsMet (k : Checker) (bytes : List ℕ) (fault : CheckFault) : Type 0 where
  pub refusal : ProofRefused
  pub it : fault ≡ Refused refusal
  pub there : refusal_of (case_in k) bytes ≡ Some refusal

met : (k : Checker) (bytes : List ℕ) (fault : CheckFault) → StandsFor k bytes → k.fault ≡ Some fault → IsMet k bytes fault
met k bytes fault s e = by (refusal_of (case_in k) bytes) refl (sym s.fault ∙ e)
  where
    by : (o : Option ProofRefused) → refusal_of (case_in k) bytes ≡ o → option_map Refused o ≡ Some fault → IsMet k bytes fault
    by None f g = absurd (cc)
    by (Some r) f g = let same : Refused r ≡ fault = cc in record { refusal = r; it = sym same; there = f }

pub met_stands : (k : Checker) (piece : List ℕ) (fault : CheckFault) → k.fault ≡ Some fault → (bytes : List ℕ) → StandsFor k bytes → StandsFor k (bytes ++ piece)
met_stands k piece fault e bytes s =
    let m = met k bytes fault s e in
    let there = refusal_stays (case_in k) bytes piece m.refusal m.there in
    record {
      fault = e ∙ ap (λ f. Some f) m.it ∙ ap (option_map Refused) (sym there);
      at = λ f. absurd (differs (sym there ∙ f));
    }
  where
    differs : {r : ProofRefused} → Some r ≡ None → ⊥
    differs e = cc

pub met_answer : (k : Checker) (piece : List ℕ) (fault : CheckFault) → k.fault ≡ Some fault → (bytes : List ℕ) → StandsFor k bytes
    → Err fault ≡ told (refusal_of (case_in k) (bytes ++ piece))
met_answer k piece fault e bytes s =
    let m = met k bytes fault s e in
    let there = refusal_stays (case_in k) bytes piece m.refusal m.there in
    ap (λ f. Err f) m.it ∙ ap told (sym there)

-- one that met none
clear : (k : Checker) (bytes : List ℕ) → StandsFor k bytes → k.fault ≡ None → IsAt (case_in k) k.reading bytes
clear k bytes s e = s.at (by (refusal_of (case_in k) bytes) (sym s.fault ∙ e))
  where
    by : (o : Option ProofRefused) → option_map Refused o ≡ None → o ≡ None
    by None f = refl
    by (Some r) f = absurd (cc)

module _ (old new : Checker) (piece : List ℕ) (read : Result (Unit {0}) CheckFault) (none : old.fault ≡ None) (same : case_in new ≡ case_in old)
    (fault : new.fault ≡ result_err read)
    (reads : (bytes : List ℕ) → IsAt (case_in old) old.reading bytes → ReadsWithin (case_in old) (2 ^ 63) new.reading bytes piece read) where
  stands_by : (bytes : List ℕ) (r : Result (Unit {0}) CheckFault) → read ≡ r → r ≢ Err Memory → ReadsWithin (case_in old) (2 ^ 63) new.reading bytes piece r
      → StandsFor new (bytes ++ piece)
  stands_by bytes (Ok done) e f h =
      let there = refusal_is (case_in old) (bytes ++ piece) ∙ h.0 in
      record {
        fault = fault ∙ ap result_err e ∙ ap (option_map Refused) (sym (ap (λ c. refusal_of c (bytes ++ piece)) same ∙ there));
        at = λ q. subst (λ (c : CaseRecord). IsAt c new.reading (bytes ++ piece)) (sym same) h.1;
      }
  stands_by bytes (Err Memory) e f h = absurd (f refl)
  stands_by bytes (Err (Refused r)) e f h =
      let there = ap (λ c. refusal_of c (bytes ++ piece)) same ∙ refusal_is (case_in old) (bytes ++ piece) ∙ h in
      record {
        fault = fault ∙ ap result_err e ∙ ap (option_map Refused) (sym there);
        at = λ q. absurd (differs (sym there ∙ q));
      }
    where
      differs : {r : ProofRefused} → Some r ≡ None → ⊥
      differs e = cc

  pub fed_stands : (bytes : List ℕ) → StandsFor old bytes → read ≢ Err Memory → StandsFor new (bytes ++ piece)
  fed_stands bytes s f = stands_by bytes read refl f (reads bytes (clear old bytes s none))

module _ (old : Checker) (now : Reading) (piece : List ℕ) (read : Result (Unit {0}) CheckFault) (none : old.fault ≡ None)
    (reads : (bytes : List ℕ) → IsAt (case_in old) old.reading bytes → ReadsWithin (case_in old) (2 ^ 63) now bytes piece read) where
  answer_by : (bytes : List ℕ) (r : Result (Unit {0}) CheckFault) → r ≢ Err Memory → ReadsWithin (case_in old) (2 ^ 63) now bytes piece r
      → r ≡ told (refusal_of (case_in old) (bytes ++ piece))
  answer_by bytes (Ok done) f h = ap told (sym (refusal_is (case_in old) (bytes ++ piece) ∙ h.0))
  answer_by bytes (Err Memory) f h = absurd (f refl)
  answer_by bytes (Err (Refused r)) f h = ap told (sym (refusal_is (case_in old) (bytes ++ piece) ∙ h))

  pub fed_answer : (bytes : List ℕ) → StandsFor old bytes → read ≢ Err Memory → read ≡ told (refusal_of (case_in old) (bytes ++ piece))
  fed_answer bytes s f = answer_by bytes read f (reads bytes (clear old bytes s none))

-- a reading goes on where nothing was refused
pub on_somewhere : (c : CaseRecord) (old new : Reading) (piece : List ℕ) (read : Result (Unit {0}) CheckFault) → result_err read ≡ None → IsSomewhere c old
    → ((bytes : List ℕ) → IsAt c old bytes → ReadsWithin c (2 ^ 63) new bytes piece read) → IsSomewhere c new
on_somewhere c old new piece (Ok done) e s reads = moved c old new piece (λ bytes at. (reads bytes at).1) s
on_somewhere c old new piece (Err fault) e s reads = absurd (cc)

pub on_ok : (read : Result (Unit {0}) CheckFault) (P : Type 0) → result_err read ≡ None → OnOk read P → P
on_ok (Ok done) P e h = h
on_ok (Err fault) P e h = absurd (cc)

-- the bound, or the record that isn't whole
pub finish_answer : (k : Checker) → k.fault ≡ None → (bytes : List ℕ) → StandsFor k bytes → finished k.reading ≡ answered (verdict (case_in k) bytes)
unfolding verdict
finish_answer k e bytes s =
    let at = clear k bytes s e in
    ended (state_of k.reading.progress.walk).is_over (state_of k.reading.progress.walk).least k.reading.progress.number
    ∙ ap (λ n. answered (concluded n (Ok (state_of k.reading.progress.walk)))) at.number
    ∙ ap (λ (q : Result State ProofRefused). answered (concluded (length (records_of bytes) + 1) q)) (sym at.standing)
  where
    ended : (b : Bool) (least : Bound) (n : ℕ) → cond b (Ok least) (Err (Refused (refused Cut n))) ≡ answered (cond b (Ok least) (Err (refused Cut n)))
    ended true least n = refl
    ended false least n = refl

-- a whole file: it has fewer bytes than are too many
short_refusal : (c : CaseRecord) (bytes : List ℕ) → length bytes < 2 ^ 63 → refusal_of c bytes ≡ result_err (standing c bytes)
short_refusal c bytes h =
    refusal_is c bytes
    ∙ ap (λ b. option_or (result_err (standing c (take (2 ^ 63) bytes))) (cond b (Some (refused Long (length (lines_in (take (2 ^ 63) bytes)) + 1))) None))
    (below (2 ^ 63) (length bytes) h)
    ∙ left (result_err (standing c (take (2 ^ 63) bytes))) ∙ ap (λ (l : List ℕ). result_err (standing c l)) (take_all (2 ^ 63) bytes (omega (arith, h)))
  where
    below : (a b : ℕ) → b < a → nat_le a b ≡ false
    below a b l = grind (arith, nat_tests)

    left : (o : Option ProofRefused) → option_or o None ≡ o
    left None = refl
    left (Some r) = refl

not_told : (fault : CheckFault) → ◌≡◌ {A = Result (Unit {0}) CheckFault} (Err fault) (Ok tt) → ⊥
not_told fault e = cc

pub whole_refused : (c : CaseRecord) (bytes : List ℕ) (result : Result Bound CheckFault) (fault : CheckFault) → length bytes < 2 ^ 63
    → IsErrAnd result (λ f. f ≡ fault) → (fault ≢ Memory → Err fault ≡ told (refusal_of c ([] ++ bytes))) → result ≢ Err Memory
    → result ≡ answered (verdict c bytes)
whole_refused c bytes (Ok bound) fault h e f g = absurd e
whole_refused c bytes (Err other) fault h e f g = told_by (standing c bytes) refl (f (λ q. g (ap (λ x. Err x) (e ∙ q))) ∙ ap told (short_refusal c bytes h))
  where
    stopped : (r : ProofRefused) → standing c bytes ≡ Err r → answered (verdict c bytes) ≡ Err (Refused r)
    stopped r q = stopped_by c bytes r q

    told_by : (x : Result State ProofRefused) → standing c bytes ≡ x → Err fault ≡ told (result_err (standing c bytes)) → Err other ≡ answered (verdict c bytes)
    told_by (Ok s) q t = absurd (not_told fault (t ∙ ap (λ (y : Result State ProofRefused). told (result_err y)) q))
    told_by (Err r) q t =
        let same = t ∙ ap (λ (y : Result State ProofRefused). told (result_err y)) q in
        let its : fault ≡ Refused r = cc in
        ap (λ (x : CheckFault). Err x) (e ∙ its) ∙ sym (stopped r q)

-- a bound that is told is accepted
pub err_is : {a b : CheckFault} → ◌≡◌ {A = Result (Unit {0}) CheckFault} (Err a) (Err b) → a ≡ b
err_is e = cc

pub ok_apart : {done : Unit {0}} {fault : CheckFault} → ◌≡◌ {A = Result (Unit {0}) CheckFault} (Ok done) (Err fault) → ⊥
ok_apart e = cc

answered_ok : (v : Result Bound ProofRefused) (bound : Bound) → Ok bound ≡ answered v → v ≡ Ok bound
answered_ok (Ok b) bound e = let same : bound ≡ b = cc in ap (λ x. Ok x) (sym same)
answered_ok (Err r) bound e = absurd (cc)

pub bound_accepted : AcceptedExactly → (c : CaseRecord) → IsCase c → (bytes : List ℕ) (result : Result Bound CheckFault) → result ≡ answered (verdict c bytes)
    → IfOk result (λ bound. IsAccepted c bound bytes)
bound_accepted exact c case bytes (Ok bound) e = (exact c case bound bytes).0 (answered_ok (verdict c bytes) bound e)
bound_accepted exact c case bytes (Err fault) e = tt
