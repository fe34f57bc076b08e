-- From the proof that was read to what `check` gives.
use Rattle.std.proofs.Common.{◌≡◌, ◌⊎◌, inl, inr, Bool, List, ℕ, IfOk, IfSome, None, Some, Result, Ok, Err, refl, sym, ap, subst}
use Rattle.std.specs.Prelude.{IsSome}
use Rattle.std.specs.declared.option.Option.{Option}
use Rattle.shelf.specs.Outside.{Same}
use Rattle.command_words.specs.Command.{CheckView, check}
use Rattle.station.specs.Allowed.{StationRecord}
use Rattle.station_reader.specs.Reading.{Reading, taken}
use Rattle.pair_prices.specs.Case.{CaseRecord, IsCase, rule_case}
use Rattle.pair_prices.specs.Plan.{IsFeasible, cost}
use Rattle.plan_cost.specs.PlanReading.{taken as plan_taken, refused as plan_refused}
use Rattle.leaf_bounds.specs.declared.tree.Bound.{Bound}
use Rattle.leaf_bounds.specs.Laws.{KeepsTo}
use Rattle.proof_file.specs.Accepted.{IsAccepted}
use Rattle.proof_file.specs.Laws.{AcceptedBounds}
use Rattle.proof_rules.specs.declared.refused.ProofRefused.{ProofRefused}
use Rattle.proof_rules.specs.Laws.{AcceptedExactly}
use Rattle.proof_rules.specs.Verdict.{proof_reading, refusal_of, unless_told, verdict}
use Rattle.platform_cli.specs.Answers.{IsBoundTold}
use Rattle.platform_cli.specs.Asked.{Reads}
use Rattle.platform_cli.specs.Check.{IsBoundGiven, IsCheckedFile}
use Rattle.platform_cli.specs.Given.{Outcome}
use Rattle.platform_cli.specs.Instance.{Held, IsInstance, IsProof}
use Rattle.platform_cli.specs.Judge.{IsJudgedFile}
use Rattle.platform_cli.specs.Outcome.{IsOutcome, refused_proof, checked}
use Rattle.platform_cli.specs.Report.{checked_text}
use Rattle.platform_cli.specs.declared.output.Output.{Output}
use Rattle.platform_cli.specs.declared.output.Stop.{Stop}
use Rattle.platform_cli.specs.View.{outcome_of}
use Rattle.platform_cli.proofs.Answering.{plan_before, plan_refused_so, conflict_so}

-- what is read as a bound has that verdict
told_bound : (o : Option ProofRefused) (said : Result Bound ProofRefused) (bound : Bound) → unless_told o said ≡ Ok bound → said ≡ Ok bound
told_bound None said bound e = e
told_bound (Some r) said bound e = absurd (cc e)

verdict_told : (c : CaseRecord) (bytes : List ℕ) (bound : Bound) → proof_reading c bytes ≡ Ok bound → verdict c bytes ≡ Ok bound
unfolding proof_reading
verdict_told c bytes bound e = told_bound (refusal_of c bytes) (verdict c bytes) bound e

-- what an accepted proof says of plans
module _ (exact : AcceptedExactly) (bounds : AcceptedBounds) (c : CaseRecord) (case : IsCase c) (bound : Bound) where
  accepted : (bytes : List ℕ) → proof_reading c bytes ≡ Ok bound → IsAccepted c bound bytes
  accepted bytes read = (exact c case bound bytes).0 (verdict_told c bytes bound read)

  accepted_known : (known : Option (List ℕ)) → IfSome known (λ bytes. proof_reading c bytes ≡ Ok bound) → IfSome known (λ bytes. IsAccepted c bound bytes)
  accepted_known None read = tt
  accepted_known (Some bytes) read = accepted bytes read

  keeps : (bytes : List ℕ) → proof_reading c bytes ≡ Ok bound → (plan : List ℕ) → IsFeasible c plan → KeepsTo c plan bound
  keeps bytes read plan feasible = bounds c case bound bytes (accepted bytes read) plan feasible

module _ (exact : AcceptedExactly) (bounds : AcceptedBounds) (tells : Bool) (held : Held) (words : CheckView) (station : StationRecord) (case : IsCase (rule_case station))
    (there : IsInstance tells held words.instance (taken station)) where
  bound_told : (bound : Bound) (outcome : Outcome) → IsProof tells held words.proof (rule_case station) (Ok bound) → IsBoundTold tells held words.plan (rule_case station) bound outcome
      → IsOutcome tells held (Some (check words)) outcome
  bound_told bound outcome proof told = (
    checked,
    record {
      words = words;
      asked = refl;
      station = station;
      read = there;
      bound = bound;
      proof_read = proof;
      accepted = accepted_known exact bounds (rule_case station) case bound (held words.proof) proof.whole;
      bounds = keeps exact bounds (rule_case station) case bound proof.bytes proof.read;
      told = told;
    },
  )

  bound_given : (bound : Bound) (outcome : Outcome) (plan : Option (List ℕ)) → words.plan ≡ plan → IsProof tells held words.proof (rule_case station) (Ok bound)
      → IsBoundGiven tells held plan (rule_case station) bound outcome → IsOutcome tells held (Some (check words)) outcome
  bound_given bound outcome None named proof given =
      bound_told bound outcome proof (subst (λ (o : Option (List ℕ)). IsBoundTold tells held o (rule_case station) bound outcome) (sym named) given)
  bound_given bound outcome (Some name) named proof (plan_refused refusal, plan_there, made) =
      plan_refused_so tells held (Some (check words)) words.instance name station refl named there (bound, proof) refusal outcome plan_there made
  bound_given bound outcome (Some name) named proof (plan_taken plan, plan_there, inl (feasible, made)) =
      bound_told bound outcome proof (subst (λ (o : Option (List ℕ)). IsBoundTold tells held o (rule_case station) bound outcome) (sym named) (plan, plan_there, feasible, made))
  bound_given bound outcome (Some name) named proof (plan_taken plan, plan_there, inr other) =
      conflict_so tells held (Some (check words)) words.instance name station refl named there (bound, proof) plan outcome plan_there other

  checked_answer : (outcome : Outcome) → IsCheckedFile tells held words (rule_case station) outcome → IsOutcome tells held (Some (check words)) outcome
  checked_answer outcome (Ok bound, proof, given) = bound_given bound outcome words.plan refl proof given
  checked_answer outcome (Err refusal, proof, made) = (
    refused_proof,
    record {
      words = words;
      asked = refl;
      station = station;
      read = there;
      refusal = refusal;
      proof_read = proof;
      is = made;
    },
  )

-- the proof is what it was when the instance was read
pub proof_before : (tells : Bool) (held between : Held) (name : List ℕ) (c : CaseRecord) (is : Result Bound ProofRefused) → between name ≡ held name → IsProof tells between name c is → IsProof tells held name c is
proof_before tells held between name c is same there = record {
  whole = subst (λ (known : Option (List ℕ)). IfSome known (λ whole. proof_reading c whole ≡ is)) same there.whole;
  told = λ told. subst (λ (known : Option (List ℕ)). IsSome known) same (there.told told);
  bytes = there.bytes;
  read = there.read;
}

judged_before : (tells : Bool) (held between : Held) (name : List ℕ) (report : List ℕ → List ℕ) (c : CaseRecord) (outcome : Outcome) → Same held between
    → IsJudgedFile tells between name report c outcome → IsJudgedFile tells held name report c outcome
judged_before tells held between name report c outcome same (read, there, judged) = (read, plan_before tells held between name c read (same name) there, judged)

given_before : (tells : Bool) (held between : Held) (plan : Option (List ℕ)) (c : CaseRecord) (bound : Bound) (outcome : Outcome) → Same held between
    → IsBoundGiven tells between plan c bound outcome → IsBoundGiven tells held plan c bound outcome
given_before tells held between None c bound outcome same given = given
given_before tells held between (Some name) c bound outcome same given = judged_before tells held between name (λ plan. checked_text bound (cost c plan)) c outcome same given

file_before : (tells : Bool) (held between : Held) (words : CheckView) (c : CaseRecord) (outcome : Outcome) → Same held between → IsCheckedFile tells between words c outcome → IsCheckedFile tells held words c outcome
file_before tells held between words c outcome same (Ok bound, proof, given) =
    (Ok bound, proof_before tells held between words.proof c (Ok bound) (same words.proof) proof, given_before tells held between words.plan c bound outcome same given)
file_before tells held between words c outcome same (Err refusal, proof, made) =
    (Err refusal, proof_before tells held between words.proof c (Err refusal) (same words.proof) proof, made)

-- what is given of a proof after the instance was read
pub checked_result : AcceptedExactly → AcceptedBounds → (tells : Bool) (held between : Held) (words : CheckView) (read : Reading) (station : StationRecord) (result : Result Output Stop) → Same held between
    → IsInstance tells held words.instance read → read ≡ taken station
    → IfOk result (λ output. IsCase (rule_case station) × IsCheckedFile tells between words (rule_case station) (outcome_of output)) → IfOk result (λ output. IsOutcome tells held (Some (check words)) (outcome_of output))
checked_result exact bounds tells held between words read station (Err e) same there is given = tt
checked_result exact bounds tells held between words read station (Ok output) same there is (case, given) =
    checked_answer exact bounds tells held words station case (subst (λ (r : Reading). IsInstance tells held words.instance r) is there) (outcome_of output)
    (file_before tells held between words (rule_case station) (outcome_of output) same given)

-- a proof that is accepted, with what its bound comes to
pub proof_given : (tells : Bool) (held between : Held) (words : CheckView) (rules c : CaseRecord) (read : Result Bound ProofRefused) (bound : Bound) (result : Result Output Stop) → c ≡ rules → IsCase c → Same held between
    → IsProof tells held words.proof c read → read ≡ Ok bound → IfOk result (λ output. IsBoundGiven tells between words.plan c bound (outcome_of output))
    → IfOk result (λ output. IsCase rules × IsCheckedFile tells held words rules (outcome_of output))
proof_given tells held between words rules c read bound (Err e) case limits same there is given = tt
proof_given tells held between words rules c read bound (Ok output) case limits same there is given =
    subst (λ (k : CaseRecord). IsCase k × IsCheckedFile tells held words k (outcome_of output)) case
    (limits, (Ok bound, subst (λ (r : Result Bound ProofRefused). IsProof tells held words.proof c r) is there, given_before tells held between words.plan c bound (outcome_of output) same given))

-- a file that `check` reads behind the instance
pub reads_behind : (tells : Bool) (held : Held) (words : CheckView) (read : Reading) (station : StationRecord) (name : List ℕ) → IsInstance tells held words.instance read → read ≡ taken station
    → (words.proof ≡ name) ⊎ (words.plan ≡ Some name) → Reads tells held (Some (check words)) name
reads_behind tells held words read station name there is at = inr (
  elim at [ inl proof ↦ inl (ap (λ (n : List ℕ). Some n) proof) | inr plan ↦ inr plan ],
  record { instance = words.instance; asked = refl; station = station; read = subst (λ (r : Reading). IsInstance tells held words.instance r) is there },
)
