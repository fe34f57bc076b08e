-- What a piece comes to, part by part.
use Rattle.std.proofs.Common.{◌≡◌, ℕ, zero, suc, ◌+◌, ◌-◌, ◌<◌, ◌≤◌, ◌^◌, Bool, true, false, cond, List, [], ◌∷◌, ◌++◌, length, take, drop, refl, sym, ap, subst, ◌∙◌, arith, Some, None, Option, Result, Ok, Err, append_assoc, length-append, take_all, min, ◌⊎◌, inl, inr, ⊎_elim}
use Rattle.std.specs.Prelude.{IsErrAnd, nat_le}
use Rattle.std.specs.Option.{option_or}
use Rattle.std.specs.Result.{result_err}
use Rattle.std.proofs.lemmas.List.{append-nil, take-append-drop}
use Rattle.std.proofs.lemmas.Bool.Decides.{nat_tests}
use Rattle.std.proofs.Math.Logic.{∥∥₁_elim}
use Rattle.std.proofs.Props.{props}
use Rattle.pair_prices.specs.Case.{CaseRecord}
use Rattle.proof_file.specs.declared.record.ProofRecord.{ProofRecord}
use Rattle.proof_file.specs.declared.fault.ReaderFault.{ReaderFault}
use Rattle.proof_file.specs.declared.fault.ReaderFault.TheVariants.{Memory as NoBytes}
use Rattle.proof_file.specs.Reader.{StandsFor as IsReaderOf, fed_of, new_records, told as reader_told}
use Rattle.proof_file.specs.Reading.{fault_of, lines_in, open_line, records_of}
use Rattle.proof_rules.specs.Fault.{State, start}
use Rattle.proof_rules.specs.declared.refused.ProofKind.TheVariants.{Long}
use Rattle.proof_rules.specs.declared.refused.ProofRefused.{ProofRefused}
use Rattle.proof_rules.specs.Verdict.{behind_refusal, refused, standing, unless_refused, walked}
use Rattle.proof_check.specs.declared.reading.Reading.{Reading}
use Rattle.proof_check.specs.declared.refused.CheckFault.{CheckFault}
use Rattle.proof_check.specs.declared.refused.CheckFault.TheVariants.{Memory, Refused}
use Rattle.proof_check.specs.Reads.{AreInRange, Goes, IsAt, IsSomewhere, ReadsOn, ReadsWithin, behind_told, is_no_memory, refusal_within, told}
use Rattle.proof_check.specs.Walk.{IsSound, state_of}
use Rattle.proof_check.proofs.GoLemmas.{goes_err}
use Rattle.proof_check.proofs.StandLemmas.{clean_standing, lines_counted, new_count, new_few, new_in_range, part_walked, refused_stays, standing_err, standing_ok, walked_is}

-- a reading that stands for no bytes
none_read : fault_of [] ≡ None
unfolding fault_of
none_read = refl

none_records : records_of [] ≡ []
unfolding records_of
none_records = refl

pub none_stands : (c : CaseRecord) → standing c [] ≡ Ok start
unfolding standing records_of fault_of
none_stands c = refl

pub begins : (c : CaseRecord) (r : Reading) → IsReaderOf r.reader [] → r.progress.number ≡ 1 → state_of r.progress.walk ≡ start → IsAt c r []
begins c r reader number state = record {
  reader = reader;
  number = number ∙ ap (λ (rs : List ProofRecord). length rs + 1) (sym none_records);
  standing = none_stands c ∙ ap (λ s. Ok s) (sym state);
  clean = none_read;
}

pub some_bytes : (read : Result (Unit {0}) ReaderFault) → is_no_memory read ≡ false → read ≡ Err NoBytes → ⊥
some_bytes read e f = differs (ap is_no_memory f) e
  where
    differs : {b : Bool} → b ≡ true → b ≡ false → ⊥
    differs a d = cc

module _ (c : CaseRecord) (old : Reading) (part : List ℕ) (records : List ProofRecord) (front : List ProofRecord) (empty : front ≡ [])
    (added : (bytes : List ℕ) → IsReaderOf old.reader bytes → records ≡ front ++ new_records bytes part) where
  its_records : (bytes : List ℕ) → IsAt c old bytes → records ≡ new_records bytes part
  its_records bytes at = added bytes at.reader ∙ ap (λ (rs : List ProofRecord). rs ++ new_records bytes part) empty

  -- the new records are in range, and not too many
  pub part_in_range : IsSomewhere c old → AreInRange records
  part_in_range s =
      ∥∥₁_elim s (hlevel props)
      (λ (bytes, at). subst (λ (rs : List ProofRecord). AreInRange rs) (sym (its_records bytes at)) (new_in_range bytes part))

  pub part_few : IsSomewhere c old → fed_of old.reader + length part ≤ 2 ^ 63 → old.progress.number + length records < 2 ^ 64
  part_few s h =
      ∥∥₁_elim s (hlevel props)
      (λ (bytes, at).
      let few = new_few bytes part old.progress.number (2 ^ 63) at.number (omega (arith, h, at.reader.count)) in
      omega (arith, few, ap length (its_records bytes at)))

  -- what the records lead to
  walk_is : (bytes : List ℕ) → IsAt c old bytes
      → walked c start 1 (records_of (bytes ++ part)) ≡ walked c (state_of old.progress.walk) old.progress.number records
  walk_is bytes at =
      part_walked c bytes part (state_of old.progress.walk) (walked_is c bytes (state_of old.progress.walk) at.standing)
      ∙ ap (λ n. walked c (state_of old.progress.walk) n (new_records bytes part)) (sym at.number)
      ∙ ap (λ rs. walked c (state_of old.progress.walk) old.progress.number rs) (sym (its_records bytes at))

  pub part_stops : (new : Reading) (P : State → Type 0) (result : Result (Unit {0}) CheckFault) (fault : CheckFault) → IsErrAnd result (λ f. f ≡ fault)
      → Goes (walked c (state_of old.progress.walk) old.progress.number records) P (Err fault)
      → (bytes : List ℕ) → IsAt c old bytes → ReadsOn c new bytes part result
  part_stops new P (Ok done) fault e g bytes at = absurd e
  part_stops new P (Err Memory) fault e g bytes at = tt
  part_stops new P (Err (Refused x)) fault e g bytes at =
      standing_err c (bytes ++ part) x
      (walk_is bytes at
      ∙ goes_err (walked c (state_of old.progress.walk) old.progress.number records) P x
      (subst (λ (f : CheckFault). Goes (walked c (state_of old.progress.walk) old.progress.number records) P (Err f)) (sym e) g))

  told_none : (o : Option ProofRefused) → Ok tt ≡ told o → o ≡ None
  told_none None e = refl
  told_none (Some r) e = absurd (cc)

  told_some : (o : Option ProofRefused) (r : ProofRefused) → Err (Refused r) ≡ told o → o ≡ Some r
  told_some None r e = absurd (cc)
  told_some (Some q) r e = let same : r ≡ q = cc in ap (λ x. Some x) (sym same)

  goes_walked : (x : Result State ProofRefused) (t : State) → Goes x (λ s. t ≡ s) (Ok tt) → x ≡ Ok t
  goes_walked (Ok s) t e = ap (λ q. Ok q) (sym e)
  goes_walked (Err r) t e = absurd e

  no_bytes : (read : Result (Unit {0}) ReaderFault) (o : Option ReaderFault) → read ≡ reader_told o → is_no_memory read ≡ false → o ≡ Some NoBytes → ⊥
  no_bytes read o e f g = differs (ap is_no_memory (e ∙ ap reader_told g)) f
    where
      differs : {b : Bool} → b ≡ true → b ≡ false → ⊥
      differs a d = cc

  -- what stands behind them
  pub part_ends : (new : Reading) (read : Result (Unit {0}) ReaderFault) (result : Result (Unit {0}) CheckFault)
      → Goes (walked c (state_of old.progress.walk) old.progress.number records) (λ s. state_of new.progress.walk ≡ s) (Ok tt)
      → new.progress.number ≡ old.progress.number + length records → is_no_memory read ≡ false
      → ((bytes : List ℕ) → IsReaderOf old.reader bytes → IsReaderOf new.reader (bytes ++ part))
      → ((bytes : List ℕ) → IsReaderOf old.reader bytes → read ≡ reader_told (fault_of (bytes ++ part)))
      → ((bytes : List ℕ) → IsReaderOf new.reader bytes → read ≡ reader_told (fault_of bytes)
      → result ≡ behind_told (state_of new.progress.walk) new.progress.number (fault_of bytes) (open_line bytes))
      → (bytes : List ℕ) → IsAt c old bytes → ReadsOn c new bytes part result
  part_ends new read result g count memory stands answer behind bytes at =
      by result (behind (bytes ++ part) (stands bytes at.reader) (answer bytes at.reader))
    where
      t : State
      t = state_of new.progress.walk

      number_is : new.progress.number ≡ length (records_of (bytes ++ part)) + 1
      number_is =
          omega (arith, count, at.number, new_count bytes part, ap length (its_records bytes at))

      stood : standing c (bytes ++ part)
          ≡ unless_refused (state_of new.progress.walk) (behind_refusal (state_of new.progress.walk) new.progress.number (fault_of (bytes ++ part)) (open_line (bytes ++ part)))
      stood =
          standing_ok c (bytes ++ part) (state_of new.progress.walk)
          (walk_is bytes at ∙ goes_walked (walked c (state_of old.progress.walk) old.progress.number records) (state_of new.progress.walk) g)
          ∙ ap (λ n. unless_refused (state_of new.progress.walk) (behind_refusal (state_of new.progress.walk) n (fault_of (bytes ++ part)) (open_line (bytes ++ part))))
          (sym number_is)

      by : (q : Result (Unit {0}) CheckFault)
          → q ≡ told (behind_refusal (state_of new.progress.walk) new.progress.number (fault_of (bytes ++ part)) (open_line (bytes ++ part)))
          → ReadsOn c new bytes part q
      by (Ok done) e =
          let fine = stood ∙ ap (unless_refused (state_of new.progress.walk)) (told_none (behind_refusal (state_of new.progress.walk) new.progress.number (fault_of (bytes ++ part)) (open_line (bytes ++ part))) e) in
          record {
            reader = stands bytes at.reader;
            number = number_is;
            standing = fine;
            clean = clean_standing c (bytes ++ part) (state_of new.progress.walk)
                (no_bytes read (fault_of (bytes ++ part)) (answer bytes at.reader) memory) fine;
          }
      by (Err Memory) e = tt
      by (Err (Refused r)) e =
          stood ∙ ap (unless_refused (state_of new.progress.walk)) (told_some (behind_refusal (state_of new.progress.walk) new.progress.number (fault_of (bytes ++ part)) (open_line (bytes ++ part))) r e)

-- how far a piece was read
pub record IsThrough (c : CaseRecord) (now : Reading) (bytes piece rest : List ℕ) : Type 0 where
  pub front : List ℕ
  pub split : piece ≡ front ++ rest
  pub at : IsAt c now (bytes ++ front)

pub record ReadSoFar (c : CaseRecord) (old now : Reading) (piece rest : List ℕ) : Type 0 where
  pub sound : IsSound c now.progress.walk
  pub room : fed_of now.reader + length rest ≡ fed_of old.reader + length piece
  pub somewhere : IsSomewhere c now
  pub reads : (bytes : List ℕ) → IsAt c old bytes → IsThrough c now bytes piece rest

pub read_start : (c : CaseRecord) (old : Reading) (piece : List ℕ) → IsSound c old.progress.walk → IsSomewhere c old → ReadSoFar c old old piece piece
read_start c old piece sound somewhere = record {
  sound = sound;
  room = refl;
  somewhere = somewhere;
  reads = λ bytes at. record { front = []; split = refl; at = subst (λ (b : List ℕ). IsAt c old b) (sym (append-nil bytes)) at };
}

pub moved : (c : CaseRecord) (old new : Reading) (piece : List ℕ) → ((bytes : List ℕ) → IsAt c old bytes → IsAt c new (bytes ++ piece))
    → IsSomewhere c old → IsSomewhere c new
moved c old new piece f s = ∥∥₁_elim s (hlevel props) (λ (bytes, at). ∣ (bytes ++ piece, f bytes at) ∣₁)

module _ (c : CaseRecord) (old now : Reading) (piece rest : List ℕ) (h : ReadSoFar c old now piece rest) where
  pub read_more : (new : Reading) (part behind : List ℕ) → rest ≡ part ++ behind → IsSound c new.progress.walk
      → fed_of new.reader ≡ fed_of now.reader + length part → ((bytes : List ℕ) → IsAt c now bytes → ReadsOn c new bytes part (Ok tt))
      → ReadSoFar c old new piece behind
  read_more new part behind e sound fed reads = record {
    sound = sound;
    room = omega (arith, fed, h.room, ap length e, length-append part behind);
    somewhere = moved c now new part reads h.somewhere;
    reads = λ bytes at.
        let t = h.reads bytes at in
        record {
          front = t.front ++ part;
          split = t.split ∙ ap (λ (r : List ℕ). t.front ++ r) e ∙ sym (append_assoc t.front part behind);
          at = subst (λ (b : List ℕ). IsAt c new b) (append_assoc bytes t.front part) (reads (bytes ++ t.front) t.at);
        };
  }

  whole : (bytes : List ℕ) (part behind front : List ℕ) → rest ≡ part ++ behind → piece ≡ front ++ rest → ((bytes ++ front) ++ part) ++ behind ≡ bytes ++ piece
  whole bytes part behind front e f =
      append_assoc (bytes ++ front) part behind ∙ append_assoc bytes front (part ++ behind)
      ∙ ap (λ (r : List ℕ). bytes ++ (front ++ r)) (sym e) ∙ ap (λ (r : List ℕ). bytes ++ r) (sym f)

  pub read_stops : (new : Reading) (part behind : List ℕ) (result : Result (Unit {0}) CheckFault) (fault : CheckFault) → rest ≡ part ++ behind
      → IsErrAnd result (λ f. f ≡ fault) → ((bytes : List ℕ) → IsAt c now bytes → ReadsOn c new bytes part (Err fault))
      → (bytes : List ℕ) → IsAt c old bytes → ReadsOn c new bytes piece result
  read_stops new part behind (Ok done) fault e f reads bytes at = absurd f
  read_stops new part behind (Err Memory) fault e f reads bytes at = tt
  read_stops new part behind (Err (Refused x)) fault e f reads bytes at =
      let t = h.reads bytes at in
      subst (λ (b : List ℕ). standing c b ≡ Err x) (whole bytes part behind t.front e t.split)
      (refused_stays c ((bytes ++ t.front) ++ part) behind x
      (subst (λ (y : CheckFault). ReadsOn c new (bytes ++ t.front) part (Err y)) (sym f) (reads (bytes ++ t.front) t.at)))

  pub read_ends : length rest ≡ 0 → (bytes : List ℕ) → IsAt c old bytes → ReadsOn c now bytes piece (Ok tt)
  read_ends e bytes at =
      let t = h.reads bytes at in
      subst (λ (b : List ℕ). IsAt c now (bytes ++ b)) (sym (t.split ∙ ap (λ (r : List ℕ). t.front ++ r) (none_left rest e) ∙ append-nil t.front)) t.at
    where
      none_left : (xs : List ℕ) → length xs ≡ 0 → xs ≡ []
      none_left [] e = refl
      none_left (x ∷ xs) e = absurd (cc)

pub cut_parts : (n : ℕ) (rest part behind : List ℕ) → part ≡ take n rest → behind ≡ drop n rest → rest ≡ part ++ behind
cut_parts n rest part behind e f =
    sym (take-append-drop n rest) ∙ ap (λ (p : List ℕ). p ++ drop n rest) (sym e) ∙ ap (λ (b : List ℕ). part ++ b) (sym f)

-- at most so many bytes are read

le-leb : (a b : ℕ) → a ≤ b → nat_le a b ≡ true
le-leb a b l = grind (arith, nat_tests)

pub length-take_min : (n : ℕ) (xs : List ℕ) → length (take n xs) ≡ min n (length xs)
length-take_min zero xs = omega (arith, ap length (none xs))
  where
    none : (xs : List ℕ) → take zero xs ≡ []
    none xs = refl
length-take_min (suc n) [] = omega arith
length-take_min (suc n) (x ∷ xs) = omega (arith, length-take_min n xs)

-- the first bytes of the whole are those before the piece and the first of it
pub first_bytes : (most : ℕ) (bytes piece : List ℕ) → length bytes ≤ most → take most (bytes ++ piece) ≡ bytes ++ take (most - length bytes) piece
first_bytes most [] piece h = ap (λ n. take n piece) (same most)
  where
    same : (n : ℕ) → n ≡ n - 0
    same n = omega arith
first_bytes zero (b ∷ bytes) piece h = absurd (omega (arith, h))
first_bytes (suc most) (b ∷ bytes) piece h =
    ap (λ (l : List ℕ). b ∷ l) (first_bytes most bytes piece (omega (arith, h)) ∙ ap (λ n. bytes ++ take n piece) (less most (length bytes)))
  where
    less : (a n : ℕ) → a - n ≡ suc a - suc n
    less a n = omega arith

-- as many of the piece as there is room for
taken : (n count : ℕ) (piece : List ℕ) → count ≡ min n (length piece) → take n piece ≡ take count piece
taken n count piece e = by_size (le_or n (length piece))
  where
    le_or : (a b : ℕ) → (a ≤ b) ⊎ (b ≤ a)
    le_or zero b = inl (omega arith)
    le_or (suc a) zero = inr (omega arith)
    le_or (suc a) (suc b) = ⊎_elim (λ (h : a ≤ b). inl (omega (arith, h))) (λ (h : b ≤ a). inr (omega (arith, h))) (le_or a b)

    by_size : (n ≤ length piece) ⊎ (length piece ≤ n) → take n piece ≡ take count piece
    by_size (inl h) = let same : n ≡ count = omega (arith, e, h) in ap (λ k. take k piece) same
    by_size (inr h) =
        let same : length piece ≤ count = omega (arith, e, h) in
        take_all n piece h ∙ sym (take_all count piece same)

abbrev long_if : Bool → ℕ → Option ProofRefused
long_if b n = cond b (Some (refused Long n)) None

module _ (c : CaseRecord) (most : ℕ) (old new : Reading) (piece part : List ℕ) (count : ℕ)
    (counted : count ≡ min (most - fed_of old.reader) (length piece)) (it : part ≡ take count piece) (few : fed_of old.reader ≤ most) where
  its_front : (bytes : List ℕ) → IsAt c old bytes → take most (bytes ++ piece) ≡ bytes ++ part
  its_front bytes at =
      let size = at.reader.count in
      first_bytes most bytes piece (omega (arith, size, few)) ∙ ap (λ n. bytes ++ take (most - n) piece) (sym size)
      ∙ ap (λ (p : List ℕ). bytes ++ p) (taken (most - fed_of old.reader) count piece counted ∙ sym it)

  pub within_stops : (result : Result (Unit {0}) CheckFault) (fault : CheckFault) → IsErrAnd result (λ f. f ≡ fault)
      → ((bytes : List ℕ) → IsAt c old bytes → ReadsOn c new bytes part (Err fault))
      → (bytes : List ℕ) → IsAt c old bytes → ReadsWithin c most new bytes piece result
  within_stops (Ok done) fault e reads bytes at = absurd e
  within_stops (Err Memory) fault e reads bytes at = tt
  within_stops (Err (Refused x)) fault e reads bytes at =
      ap (λ (q : Result State ProofRefused). option_or (result_err q) (long_if (nat_le most (length (bytes ++ piece))) (length (lines_in (take most (bytes ++ piece))) + 1)))
      (ap (standing c) (its_front bytes at) ∙ subst (λ (y : CheckFault). ReadsOn c new bytes part (Err y)) (sym e) (reads bytes at))

  stands_within : (bytes : List ℕ) → IsAt c old bytes → IsAt c new (bytes ++ part)
      → refusal_within c most (bytes ++ piece) ≡ long_if (nat_le most (length (bytes ++ piece))) (length (lines_in (bytes ++ part)) + 1)
  stands_within bytes at now =
      ap (λ (l : List ℕ). option_or (result_err (standing c l)) (long_if (nat_le most (length (bytes ++ piece))) (length (lines_in l) + 1))) (its_front bytes at)
      ∙ ap (λ (q : Result State ProofRefused). option_or (result_err q) (long_if (nat_le most (length (bytes ++ piece))) (length (lines_in (bytes ++ part)) + 1))) now.standing

  -- all bytes that are read are there, and no more may follow
  pub within_long : (fault : CheckFault) → fed_of new.reader ≡ most → fault ≡ Refused (refused Long new.progress.number)
      → ((bytes : List ℕ) → IsAt c old bytes → ReadsOn c new bytes part (Ok tt))
      → (bytes : List ℕ) → IsAt c old bytes → ReadsWithin c most new bytes piece (Err fault)
  within_long fault full e reads bytes at =
      let now : IsAt c new (bytes ++ part) = reads bytes at in
      let size = now.reader.count in
      let parts = length-append bytes part in
      let wholes = length-append bytes piece in
      let cut = ap length it ∙ length-take_min count piece in
      let long : most ≤ length (bytes ++ piece) = omega (arith, full, size, parts, wholes, cut) in
      let lines : length (lines_in (bytes ++ part)) + 1 ≡ new.progress.number = ap (λ n. n + 1) (sym (lines_counted (bytes ++ part) now.clean)) ∙ sym now.number in
      subst (λ (y : CheckFault). ReadsWithin c most new bytes piece (Err y)) (sym e)
      (stands_within bytes at now ∙ ap (λ b. long_if b (length (lines_in (bytes ++ part)) + 1)) (le-leb most (length (bytes ++ piece)) long)
      ∙ ap (λ n. Some (refused Long n)) lines)

  -- they are fewer
  pub within_ends : (fed_of new.reader ≡ most → ⊥) → fed_of new.reader ≤ most → ((bytes : List ℕ) → IsAt c old bytes → ReadsOn c new bytes part (Ok tt))
      → (bytes : List ℕ) → IsAt c old bytes → ReadsWithin c most new bytes piece (Ok tt)
  within_ends apart below reads bytes at =
      let now : IsAt c new (bytes ++ part) = reads bytes at in
      let size = now.reader.count in
      let old_size = at.reader.count in
      let parts = length-append bytes part in
      let wholes = length-append bytes piece in
      let cut = ap length it ∙ length-take_min count piece in
      let less : fed_of new.reader < most = not_most (fed_of new.reader) most apart below in
      let all : length piece ≤ count = omega (arith, counted, less, size, old_size, parts, cut) in
      let same : part ≡ piece = it ∙ take_all count piece all in
      let short : length (bytes ++ piece) < most = omega (arith, less, size, parts, wholes, ap length same) in (
        stands_within bytes at now ∙ ap (λ b. long_if b (length (lines_in (bytes ++ part)) + 1)) (lt-leb_false most (length (bytes ++ piece)) short),
        subst (λ (p : List ℕ). IsAt c new (bytes ++ p)) same now,
      )
    where
      not_most : (a b : ℕ) → (a ≡ b → ⊥) → a ≤ b → a < b
      not_most a b f g = omega (arith, f, g)

      lt-leb_false : (a b : ℕ) → b < a → nat_le a b ≡ false
      lt-leb_false a b l = grind (arith, nat_tests)
