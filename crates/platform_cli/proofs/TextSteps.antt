-- A checker that is fed a text at hand in pieces.
use Rattle.std.proofs.Common.{◌≡◌, ◌≢◌, ℕ, ◌-◌, ◌<◌, ◌≤◌, ◌^◌, List, ◌++◌, length, take, drop, None, Some, Result, Ok, Err, IfOk, refl, sym, ◌∙◌, ap, subst, arith, length-drop, take-append-drop}
use Rattle.std.proofs.lemmas.List.{length-take, take_all}
use Rattle.shelf.specs.Outside.{ReadsAt}
use Rattle.pair_prices.specs.Case.{CaseRecord}
use Rattle.leaf_bounds.specs.declared.tree.Bound.{Bound}
use Rattle.proof_rules.specs.declared.refused.ProofRefused.{ProofRefused}
use Rattle.proof_rules.specs.Verdict.{refusal_of, verdict}
use Rattle.proof_rules.proofs.StayLemmas.{refusal_stays}
use Rattle.proof_check.specs.declared.checker.Checker.{Checker}
use Rattle.proof_check.specs.declared.refused.CheckFault.{CheckFault}
use Rattle.proof_check.specs.declared.refused.CheckFault.TheVariants.{Memory, Refused}
use Rattle.proof_check.specs.Check.{StandsFor, answered, case_in}
use Rattle.proof_check.specs.Reads.{told}
use Rattle.proof_check.proofs.CheckLemmas.{whole_refused}
use Rattle.platform_cli.specs.Fed.{IsFed, IsRefused}
use Rattle.platform_cli.specs.declared.given_proof.GivenProof.{GivenProof}
use Rattle.platform_cli.specs.declared.output.Stop.{Stop}
use Rattle.platform_cli.specs.View.{proof_reading_of}
use Rattle.platform_cli.proofs.FedSteps.{fed_more, fed_refused}

-- one piece more
module _ (text : List ℕ) (c : CaseRecord) (old : Checker) (from end : ℕ) (fed : IsFed (Some text) c old from) (some : from < end) (room : end ≤ length text) where
  abbrev piece : List ℕ
  piece = take (end - from) (drop from text)

  piece_count : length piece ≡ end - from
  piece_count = omega (arith, length-take (end - from) (drop from text), length-drop from text, some, room)

  all_taken : take (length piece) piece ≡ piece
  all_taken = take_all (length piece) piece (omega arith)

  piece_read : ReadsAt text from piece (length piece)
  piece_read = record {
    front = all_taken ∙ ap (λ (n : ℕ). take n (drop from text)) (sym piece_count);
    within = omega (arith, piece_count, some, room);
    at_end = (λ none. absurd (omega (arith, none, piece_count, some)), λ past. absurd (omega (arith, past, some, room)));
  }

  pub text_more : (new : Checker) → case_in new ≡ case_in old
      → ((bs : List ℕ) → StandsFor old bs → ◌≢◌ {A = Result (Unit {0}) CheckFault} (Ok tt) (Err Memory) → StandsFor new (bs ++ piece))
      → ((bs : List ℕ) → StandsFor old bs → ◌≢◌ {A = Result (Unit {0}) CheckFault} (Ok tt) (Err Memory) → ◌≡◌ {A = Result (Unit {0}) CheckFault} (Ok tt) (told (refusal_of (case_in old) (bs ++ piece))))
      → IsFed (Some text) c new end
  text_more new same stands answer =
      let more = fed_more (Some text) c old from (length piece) piece fed (omega arith) piece_read new (omega (arith, piece_count, some)) same
      (λ bs at fine. subst (λ (l : List ℕ). StandsFor new (bs ++ l)) (sym all_taken) (stands bs at fine))
      (λ bs at fine. subst (λ (l : List ℕ). ◌≡◌ {A = Result (Unit {0}) CheckFault} (Ok tt) (told (refusal_of (case_in old) (bs ++ l)))) (sym all_taken) (answer bs at fine)) in
      subst (λ (n : ℕ). IsFed (Some text) c new n) (omega (arith, piece_count, some)) more.1

  text_stopped : (r : ProofRefused) (fault : CheckFault) → fault ≡ Refused r
      → ((bs : List ℕ) → StandsFor old bs → ◌≢◌ {A = Result (Unit {0}) CheckFault} (Err fault) (Err Memory) → ◌≡◌ {A = Result (Unit {0}) CheckFault} (Err fault) (told (refusal_of (case_in old) (bs ++ piece))))
      → IsRefused (Some text) c r
  text_stopped r fault is answer =
      fed_refused (Some text) c old from (length piece) piece fed (omega arith) piece_read r fault is
      (λ bs at fine. subst (λ (l : List ℕ). ◌≡◌ {A = Result (Unit {0}) CheckFault} (Err fault) (told (refusal_of (case_in old) (bs ++ l)))) (sym all_taken) (answer bs at fine))

  err_verdict : (v : Result Bound ProofRefused) (r : ProofRefused) → ◌≡◌ {A = Result Bound CheckFault} (Err (Refused r)) (answered v) → Err r ≡ v
  err_verdict (Ok bound) r e = absurd (cc e)
  err_verdict (Err q) r e = cc e

  -- what is refused in the front is refused in the whole
  pub text_refused : length text < 2 ^ 63 → (r : ProofRefused) (fault : CheckFault) → fault ≡ Refused r
      → ((bs : List ℕ) → StandsFor old bs → ◌≢◌ {A = Result (Unit {0}) CheckFault} (Err fault) (Err Memory) → ◌≡◌ {A = Result (Unit {0}) CheckFault} (Err fault) (told (refusal_of (case_in old) (bs ++ piece))))
      → Err r ≡ verdict c text
  text_refused short r fault is answer =
      let at = text_stopped r fault is answer in
      let joined : at.bytes ++ drop (length at.bytes) text ≡ text = ap (λ (l : List ℕ). l ++ drop (length at.bytes) text) at.front ∙ take-append-drop (length at.bytes) text in
      let whole : refusal_of c text ≡ Some r = ap (refusal_of c) (sym joined) ∙ refusal_stays c at.bytes (drop (length at.bytes) text) r at.refused in
      err_verdict (verdict c text) r (whole_refused c text (Err (Refused r)) (Refused r) short refl (λ f. ap told (sym whole)) (λ e. cc e))

-- the text has ended
pub text_ended : (text : List ℕ) (c : CaseRecord) (k : Checker) (from : ℕ) (result : Result GivenProof Stop) → IsFed (Some text) c k from → length text ≤ from
    → ((bytes : List ℕ) → StandsFor k bytes → refusal_of (case_in k) bytes ≡ None → IfOk result (λ given. proof_reading_of given ≡ verdict (case_in k) bytes))
    → IfOk result (λ given. proof_reading_of given ≡ verdict c text)
text_ended text c k from (Err e) fed end answer = tt
text_ended text c k from (Ok given) fed end answer =
    let fine : refusal_of (case_in k) fed.bytes ≡ None = subst (λ (d : CaseRecord). refusal_of d fed.bytes ≡ None) (sym fed.case) fed.fine in
    answer fed.bytes fed.stands fine ∙ ap (λ (d : CaseRecord). verdict d fed.bytes) fed.case ∙ ap (verdict c) (fed.front ∙ take_all from text end)
