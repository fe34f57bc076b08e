-- A checker that is fed a file in pieces, and what the file is read as.
use Rattle.std.proofs.Common.{◌≡◌, ◌≢◌, ℕ, zero, suc, ◌+◌, ◌^◌, ◌<◌, ◌≤◌, Bool, cond, List, [], ◌∷◌, ◌++◌, length, take, drop, None, Some, Result, Ok, Err, IfOk, IfSome, refl, sym, ◌∙◌, ap, subst, arith, length-append, take-append-drop}
use Rattle.std.specs.Prelude.{IsSome, IsTrue, nat_le}
use Rattle.std.specs.declared.option.Option.{Option}
use Rattle.std.specs.Option.{option_or}
use Rattle.std.specs.Result.{result_err}
use Rattle.std.proofs.lemmas.List.{length-take, take_all}
use Rattle.shelf.specs.Outside.{ReadsAt}
use Rattle.pair_prices.specs.Case.{CaseRecord}
use Rattle.leaf_bounds.specs.declared.tree.Bound.{Bound}
use Rattle.proof_file.specs.Reading.{fault_of, lines_in, records_of}
use Rattle.proof_rules.specs.Fault.{State, start}
use Rattle.proof_rules.specs.declared.refused.ProofKind.TheVariants.{Long}
use Rattle.proof_rules.specs.declared.refused.ProofRefused.{ProofRefused}
use Rattle.proof_rules.specs.Verdict.{most_bytes, proof_reading, refusal_of, refused, standing, unless_told, verdict}
use Rattle.proof_rules.proofs.StayLemmas.{refusal_stays, unrefused_few}
use Rattle.proof_check.specs.declared.checker.Checker.{Checker}
use Rattle.proof_check.specs.declared.refused.CheckFault.{CheckFault}
use Rattle.proof_check.specs.declared.refused.CheckFault.TheVariants.{Memory, Refused}
use Rattle.proof_check.specs.Check.{StandsFor, case_in}
use Rattle.proof_check.specs.Reads.{told}
use Rattle.platform_cli.specs.Fed.{IsFed, IsFedOn, IsRefused}
use Rattle.platform_cli.specs.declared.given_proof.Fed.{Fed}
use Rattle.platform_cli.specs.Instance.{Held, IsProof}
use Rattle.platform_cli.specs.declared.given_proof.GivenProof.{GivenProof}
use Rattle.platform_cli.specs.declared.output.Stop.{Stop}
use Rattle.platform_cli.specs.View.{proof_reading_of}
use Rattle.platform_cli.proofs.Pieces.{take_add}

-- no bytes are refused by nothing
none_stands : (c : CaseRecord) → standing c [] ≡ Ok start
unfolding standing records_of fault_of
none_stands c = refl

none_taken : (n : ℕ) → ◌≡◌ {A = List ℕ} (take {A = ℕ} n []) []
none_taken zero = refl
none_taken (suc n) = refl

none_refused : (c : CaseRecord) → refusal_of c [] ≡ None
unfolding refusal_of most_bytes
none_refused c =
    ap (λ (l : List ℕ). option_or (result_err (standing c l)) (cond (nat_le (2 ^ 63) 0) (Some (refused Long (length (lines_in l) + 1))) None)) (none_taken (2 ^ 63))
    ∙ ap (λ (q : Result State ProofRefused). option_or (result_err q) None) (none_stands c)

no_front : (held : Option (List ℕ)) → IfSome held (λ (whole : List ℕ). ◌≡◌ {A = List ℕ} [] (take 0 whole))
no_front None = tt
no_front (Some []) = refl
no_front (Some (byte ∷ bytes)) = refl

-- a checker that was fed nothing
pub begun : (held : Option (List ℕ)) (k : Checker) → StandsFor k [] → IsFed held (case_in k) k 0
begun held k stands = record {
  bytes = [];
  case = refl;
  stands = stands;
  fine = none_refused (case_in k);
  count = refl;
  front = no_front held;
}

told_none : (o : Option ProofRefused) → ◌≡◌ {A = Result (Unit {0}) CheckFault} (Ok tt) (told o) → o ≡ None
told_none None e = refl
told_none (Some r) e = absurd (cc e)

told_some : (o : Option ProofRefused) (r : ProofRefused) → ◌≡◌ {A = Result (Unit {0}) CheckFault} (Err (Refused r)) (told o) → o ≡ Some r
told_some None r e = absurd (cc e)
told_some (Some other) r e = cc e

no_memory : ◌≢◌ {A = Result (Unit {0}) CheckFault} (Ok tt) (Err Memory)
no_memory e = cc

no_memory_refused : (r : ProofRefused) → ◌≢◌ {A = Result (Unit {0}) CheckFault} (Err (Refused r)) (Err Memory)
no_memory_refused r e = cc

-- one piece more
module _ (held : Option (List ℕ)) (c : CaseRecord) (old : Checker) (from count : ℕ) (buffer : List ℕ) (fed : IsFed held c old from) (room : count ≤ length buffer)
    (read : IfSome held (λ whole. ReadsAt whole from buffer count)) where
  abbrev joined : List ℕ
  joined = fed.bytes ++ take count buffer

  counted : length joined ≡ from + count
  counted = omega (arith, length-append fed.bytes (take count buffer), length-take count buffer, fed.count, room)

  front_by : (known : Option (List ℕ)) → IfSome known (λ whole. fed.bytes ≡ take from whole) → IfSome known (λ whole. ReadsAt whole from buffer count)
      → IfSome known (λ whole. joined ≡ take (from + count) whole)
  front_by None front at = tt
  front_by (Some whole) front at =
      ap (λ (l : List ℕ). fed.bytes ++ l) at.front
      ∙ ap (λ (l : List ℕ). l ++ take count (drop from whole)) front
      ∙ take_add from count whole

  pub fed_more : (new : Checker) → 1 ≤ count → case_in new ≡ case_in old
      → ((bs : List ℕ) → StandsFor old bs → ◌≢◌ {A = Result (Unit {0}) CheckFault} (Ok tt) (Err Memory) → StandsFor new (bs ++ take count buffer))
      → ((bs : List ℕ) → StandsFor old bs → ◌≢◌ {A = Result (Unit {0}) CheckFault} (Ok tt) (Err Memory) → ◌≡◌ {A = Result (Unit {0}) CheckFault} (Ok tt) (told (refusal_of (case_in old) (bs ++ take count buffer))))
      → (1 ≤ count) × IsFed held c new (from + count)
  fed_more new some same stands answer = (
    some,
    record {
      bytes = joined;
      case = same ∙ fed.case;
      stands = stands fed.bytes fed.stands no_memory;
      fine = subst (λ (k : CaseRecord). refusal_of k joined ≡ None) fed.case (told_none (refusal_of (case_in old) joined) (answer fed.bytes fed.stands no_memory));
      count = counted;
      front = front_by held fed.front read;
    },
  )

  abbrev Answers : CheckFault → Type 0
  Answers fault =
      (bs : List ℕ) → StandsFor old bs → ◌≢◌ {A = Result (Unit {0}) CheckFault} (Err fault) (Err Memory)
      → ◌≡◌ {A = Result (Unit {0}) CheckFault} (Err fault) (told (refusal_of (case_in old) (bs ++ take count buffer)))

  refused_by_its : (r : ProofRefused) → Answers (Refused r) → refusal_of (case_in old) joined ≡ Some r
  refused_by_its r answer = told_some (refusal_of (case_in old) joined) r (answer fed.bytes fed.stands (no_memory_refused r))

  pub fed_refused : (r : ProofRefused) (fault : CheckFault) → fault ≡ Refused r → Answers fault → IsRefused held c r
  fed_refused r fault is answer = record {
    bytes = joined;
    refused = subst (λ (k : CaseRecord). refusal_of k joined ≡ Some r) fed.case (refused_by_its r (subst Answers is answer));
    front = subst (λ (n : ℕ). IfSome held (λ whole. joined ≡ take n whole)) (sym counted) (front_by held fed.front read);
  }

-- the file has ended
end_by : (known : Option (List ℕ)) (from count : ℕ) (buffer : List ℕ) → count ≡ 0 → IfSome known (λ whole. ReadsAt whole from buffer count) → IfSome known (λ whole. length whole ≤ from)
end_by None from count buffer none at = tt
end_by (Some whole) from count buffer none at = at.at_end.0 none

pub fed_end : (held : Option (List ℕ)) (c : CaseRecord) (k : Checker) (from count : ℕ) (buffer : List ℕ) → IsFed held c k from → count ≡ 0 → IfSome held (λ whole. ReadsAt whole from buffer count)
    → IsFed held c k from × IfSome held (λ whole. length whole ≤ from)
fed_end held c k from count buffer fed none at = (fed, end_by held from count buffer none at)

-- a checker that refuses nothing was fed fewer than 2^63 bytes
pub fed_few : (held : Option (List ℕ)) (c : CaseRecord) (k : Checker) (from : ℕ) → IsFed held c k from → from < 2 ^ 63
unfolding most_bytes
fed_few held c k from fed = omega (arith, unrefused_few c fed.bytes fed.fine, fed.count)

read_by : (o : Option ProofRefused) (said : Result Bound ProofRefused) → o ≡ None → unless_told o said ≡ said
read_by None said e = refl
read_by (Some r) said e = absurd (cc e)

-- what bytes are read as that are refused nowhere
reading_fine : (c : CaseRecord) (bytes : List ℕ) → refusal_of c bytes ≡ None → proof_reading c bytes ≡ verdict c bytes
unfolding proof_reading
reading_fine c bytes fine = read_by (refusal_of c bytes) (verdict c bytes) fine

refused_by : (o : Option ProofRefused) (said : Result Bound ProofRefused) (r : ProofRefused) → o ≡ Some r → unless_told o said ≡ Err r
refused_by None said r e = absurd (cc e)
refused_by (Some other) said r e = cc e

reading_refused : (c : CaseRecord) (bytes : List ℕ) (r : ProofRefused) → refusal_of c bytes ≡ Some r → proof_reading c bytes ≡ Err r
unfolding proof_reading
reading_refused c bytes r e = refused_by (refusal_of c bytes) (verdict c bytes) r e

-- bytes that reach the end are the whole
whole_by : (known : Option (List ℕ)) (c : CaseRecord) (bytes : List ℕ) (from : ℕ) (is : Result Bound ProofRefused) → IfSome known (λ whole. bytes ≡ take from whole) → IfSome known (λ whole. length whole ≤ from)
    → proof_reading c bytes ≡ is → IfSome known (λ whole. proof_reading c whole ≡ is)
whole_by None c bytes from is front end read = tt
whole_by (Some whole) c bytes from is front end read = ap (proof_reading c) (sym (front ∙ take_all from whole end)) ∙ read

pub proof_ended : (tells : Bool) (held : Held) (name : List ℕ) (c : CaseRecord) (k : Checker) (from : ℕ) (result : Result GivenProof Stop) → IsFed (held name) c k from × IfSome (held name) (λ whole. length whole ≤ from)
    → (IsTrue tells → IsSome (held name)) → ((bytes : List ℕ) → StandsFor k bytes → refusal_of (case_in k) bytes ≡ None → IfOk result (λ given. proof_reading_of given ≡ verdict (case_in k) bytes))
    → IfOk result (λ given. IsProof tells held name c (proof_reading_of given))
proof_ended tells held name c k from (Err e) (fed, end) known answer = tt
proof_ended tells held name c k from (Ok given) (fed, end) known answer =
    let fine : refusal_of (case_in k) fed.bytes ≡ None = subst (λ (d : CaseRecord). refusal_of d fed.bytes ≡ None) (sym fed.case) fed.fine in
    let read : proof_reading c fed.bytes ≡ proof_reading_of given =
    reading_fine c fed.bytes fed.fine ∙ ap (λ (d : CaseRecord). verdict d fed.bytes) (sym fed.case) ∙ sym (answer fed.bytes fed.stands fine) in
    record {
      whole = whole_by (held name) c fed.bytes from (proof_reading_of given) fed.front end read;
      told = known;
      bytes = fed.bytes;
      read = read;
    }

-- what goes on behind a refusal doesn't matter
front_refused : (known : Option (List ℕ)) (c : CaseRecord) (bytes : List ℕ) (r : ProofRefused) → refusal_of c bytes ≡ Some r → IfSome known (λ whole. bytes ≡ take (length bytes) whole)
    → IfSome known (λ whole. proof_reading c whole ≡ Err r)
front_refused None c bytes r e front = tt
front_refused (Some whole) c bytes r e front =
    let joined : bytes ++ drop (length bytes) whole ≡ whole = ap (λ (l : List ℕ). l ++ drop (length bytes) whole) front ∙ take-append-drop (length bytes) whole in
    ap (proof_reading c) (sym joined) ∙ reading_refused c (bytes ++ drop (length bytes) whole) r (refusal_stays c bytes (drop (length bytes) whole) r e)

pub proof_refused : (tells : Bool) (held : Held) (name : List ℕ) (c : CaseRecord) (r : ProofRefused) → IsRefused (held name) c r → (IsTrue tells → IsSome (held name))
    → IsProof tells held name c (Err r)
proof_refused tells held name c r is known = record {
  whole = front_refused (held name) c is.bytes r is.refused is.front;
  told = known;
  bytes = is.bytes;
  read = reading_refused c is.bytes r is.refused;
}

-- with nothing behind 2^63 bytes the loop ends before
pub never_full : (held : Option (List ℕ)) (c : CaseRecord) (k : Checker) (from : ℕ) → IsFed held c k from → 2 ^ 63 ≤ from → ⊥
never_full held c k from fed full = omega (arith, full, fed_few held c k from fed)

-- what a read and a feed come to, seen from the start
pub fed_back : (old now : Option (List ℕ)) (c : CaseRecord) (k new : Checker) (from : ℕ) (fed : Fed) → now ≡ old → case_in k ≡ c → IsFedOn now (case_in k) new from fed → IsFedOn old c new from fed
fed_back old now c k new from fed same case at =
    subst (λ (h : Option (List ℕ)). IsFedOn h c new from fed) same (subst (λ (d : CaseRecord). IsFedOn now d new from fed) case at)
