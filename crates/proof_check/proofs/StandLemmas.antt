-- What bytes come to, and what more bytes make of that.
use Rattle.std.proofs.Common.{◌≡◌, ℕ, suc, ◌+◌, ◌≤◌, ◌&&◌, Bool, true, false, cond, List, [], ◌∷◌, ◌++◌, length, refl, sym, ap, subst, ◌∙◌, arith, Some, None, Option, Result, Ok, Err, IsTrue, length-append}
use Rattle.std.specs.List.{list_all, list_any}
use Rattle.pair_prices.specs.Case.{CaseRecord}
use Rattle.proof_file.specs.declared.record.ProofRecord.{ProofRecord}
use Rattle.proof_file.specs.declared.fault.ReaderFault.{ReaderFault}
use Rattle.proof_file.specs.declared.fault.ReaderFault.TheVariants.{Memory as NoBytes, Shape as ShapeAt, Number as NumberAt, Cut as CutAt}
use Rattle.proof_file.specs.Kind.{is_in_range}
use Rattle.proof_file.specs.Reader.{new_records}
use Rattle.proof_file.specs.Reading.{fault_at, fault_in, fault_of, is_newline, line_read, lines_in, open_line, records_in, records_of, version_of, with_fault, with_record}
use Rattle.proof_file.proofs.CutLemmas.{lines-append, open_plain, open-append, some_line}
use Rattle.proof_file.proofs.PieceLemmas.{fault_stays, none_new, records-split}
use Rattle.proof_file.proofs.ReaderLemmas.{clean_lines, lines_few}
use Rattle.proof_file.proofs.ReadTexts.{line_is_record}
use Rattle.proof_file.proofs.WriteLemmas.{in_range-parts}
use Rattle.proof_rules.specs.Fault.{State, after, start}
use Rattle.proof_rules.specs.declared.refused.ProofKind.TheVariants.{Trail}
use Rattle.proof_rules.specs.declared.refused.ProofRefused.{ProofRefused}
use Rattle.proof_rules.specs.Verdict.{behind_refusal, going_on, is_more, judged, line_refusal, one_on, refused, standing, unless_refused, walked}
use Rattle.proof_check.specs.Reads.{AreInRange}

-- records

one_in_range : (r : ProofRecord) (rest : List ProofRecord) → IsTrue (is_in_range r) → AreInRange rest → AreInRange (r ∷ rest)
one_in_range r rest h g = ap (λ b. b && list_all is_in_range rest) h ∙ g

lines_in_range : (version : ℕ) (lines : List (List ℕ)) → AreInRange (records_in version lines)
lines_in_range version [] = refl
lines_in_range version (text ∷ lines) =
    elim (line_read version text) as (λ q. line_read version text ≡ q → AreInRange (with_record q (records_in version lines))) [
      | Ok r ↦ λ e. one_in_range r (records_in version lines) ((line_is_record version text r e).in_range) (lines_in_range version lines)
      | Err fault ↦ λ e. refl
    ] refl

all_in_range : (bytes : List ℕ) → AreInRange (records_of bytes)
unfolding records_of
all_in_range bytes = lines_in_range (version_of (lines_in bytes)) (lines_in bytes)

pub new_in_range : (bytes piece : List ℕ) → AreInRange (new_records bytes piece)
new_in_range bytes piece =
    (in_range-parts (records_of bytes) (new_records bytes piece) (subst (λ (rs : List ProofRecord). AreInRange rs) (records-split bytes piece) (all_in_range (bytes ++ piece)))).1

few_records : (version : ℕ) (lines : List (List ℕ)) → length (records_in version lines) ≤ length lines
few_records version [] = omega arith
few_records version (text ∷ lines) =
    let rest = few_records version lines in
    elim (line_read version text) as (λ q. length (with_record q (records_in version lines)) ≤ suc (length lines)) [
      | Ok r ↦ omega (arith, rest)
      | Err fault ↦ omega arith
    ]

pub records_few : (bytes : List ℕ) → length (records_of bytes) ≤ length bytes
unfolding records_of
records_few bytes = omega (arith, few_records (version_of (lines_in bytes)) (lines_in bytes), lines_few bytes)

-- no record too many
pub new_few : (bytes piece : List ℕ) (number most : ℕ) → number ≡ length (records_of bytes) + 1 → length bytes + length piece ≤ most
    → number + length (new_records bytes piece) ≤ most + 1
new_few bytes piece number most e h =
    omega (arith, e, h, records_few (bytes ++ piece), ap length (records-split bytes piece), length-append (records_of bytes) (new_records bytes piece), length-append bytes piece)

pub new_count : (bytes piece : List ℕ) → length (records_of (bytes ++ piece)) ≡ length (records_of bytes) + length (new_records bytes piece)
new_count bytes piece = ap length (records-split bytes piece) ∙ length-append (records_of bytes) (new_records bytes piece)

-- Without a fault each line is a record.
each_line : (version number : ℕ) (lines : List (List ℕ)) → fault_in version number lines ≡ None → length (records_in version lines) ≡ length lines
each_line version number [] e = refl
each_line version number (text ∷ lines) e =
    elim (line_read version text) as (λ q. with_fault number q (fault_in version (number + 1) lines) ≡ None
    → length (with_record q (records_in version lines)) ≡ suc (length lines)) [
      | Ok r ↦ λ f. ap suc (each_line version (number + 1) lines f)
      | Err fault ↦ λ f. absurd (differs (fault_at number fault) f)
    ] e
  where
    differs : (x : ReaderFault) → Some x ≡ None → ⊥
    differs x f = cc

pub lines_counted : (bytes : List ℕ) → fault_of bytes ≡ None → length (records_of bytes) ≡ length (lines_in bytes)
unfolding records_of
lines_counted bytes e = each_line (version_of (lines_in bytes)) 1 (lines_in bytes) (clean_lines bytes e)

-- behind the last record
one_over : (c : CaseRecord) (s : State) (n : ℕ) (q : ProofRecord) → s.is_over ≡ true → one_on c s n q ≡ Err (refused Trail n)
unfolding one_on
one_over c s n q e = ap (λ b. cond b (Err (refused Trail n)) (judged n (after c s q))) e

-- standings

pub walked-append : (c : CaseRecord) (s : State) (n : ℕ) (xs ys : List ProofRecord)
    → walked c s n (xs ++ ys) ≡ going_on (walked c s n xs) (λ t. walked c t (n + length xs) ys)
walked-append c s n [] ys = ap (λ m. walked c s m ys) (none n)
  where
    none : (n : ℕ) → n ≡ n + 0
    none n = omega arith
walked-append c s n (x ∷ xs) ys = by (one_on c s n x) (λ t. walked-append c t (n + 1) xs ys)
  where
    next : (n m : ℕ) → n + 1 + m ≡ n + suc m
    next n m = omega arith

    by : (q : Result State ProofRefused)
        → ((t : State) → walked c t (n + 1) (xs ++ ys) ≡ going_on (walked c t (n + 1) xs) (λ u. walked c u (n + 1 + length xs) ys))
        → going_on q (λ t. walked c t (n + 1) (xs ++ ys)) ≡ going_on (going_on q (λ t. walked c t (n + 1) xs)) (λ t. walked c t (n + suc (length xs)) ys)
    by (Ok t) rest = rest t ∙ ap (λ m. going_on (walked c t (n + 1) xs) (λ u. walked c u m ys)) (next n (length xs))
    by (Err r) rest = refl

module _ (c : CaseRecord) where
  abbrev behind : List ℕ → State → Option ProofRefused
  behind bytes s = behind_refusal s (length (records_of bytes) + 1) (fault_of bytes) (open_line bytes)

  -- a standing from the records, and from what stands behind them
  pub standing_err : (bytes : List ℕ) (r : ProofRefused) → walked c start 1 (records_of bytes) ≡ Err r → standing c bytes ≡ Err r
  unfolding standing
  standing_err bytes r e = ap (λ x. going_on x (λ s. unless_refused s (behind bytes s))) e

  pub standing_ok : (bytes : List ℕ) (s : State) → walked c start 1 (records_of bytes) ≡ Ok s → standing c bytes ≡ unless_refused s (behind bytes s)
  unfolding standing
  standing_ok bytes s e = ap (λ x. going_on x (λ t. unless_refused t (behind bytes t))) e

  pub walked_is : (bytes : List ℕ) (s : State) → standing c bytes ≡ Ok s → walked c start 1 (records_of bytes) ≡ Ok s
  unfolding standing
  walked_is bytes s e = by (walked c start 1 (records_of bytes)) refl e
    where
      same : (t : State) (o : Option ProofRefused) → unless_refused t o ≡ Ok s → t ≡ s
      same t None f = cc
      same t (Some r) f = absurd (cc)

      by : (q : Result State ProofRefused) → walked c start 1 (records_of bytes) ≡ q → going_on q (λ t. unless_refused t (behind bytes t)) ≡ Ok s
          → walked c start 1 (records_of bytes) ≡ Ok s
      by (Ok t) f g = f ∙ ap (λ u. Ok u) (same t (behind bytes t) g)
      by (Err r) f g = absurd (cc)

  pub part_walked : (bytes piece : List ℕ) (s : State) → walked c start 1 (records_of bytes) ≡ Ok s
      → walked c start 1 (records_of (bytes ++ piece)) ≡ walked c s (length (records_of bytes) + 1) (new_records bytes piece)
  part_walked bytes piece s e =
      ap (λ rs. walked c start 1 rs) (records-split bytes piece) ∙ walked-append c start 1 (records_of bytes) (new_records bytes piece)
      ∙ ap (λ x. going_on x (λ t. walked c t (1 + length (records_of bytes)) (new_records bytes piece))) e
      ∙ ap (λ m. walked c s m (new_records bytes piece)) (one (length (records_of bytes)))
    where
      one : (n : ℕ) → 1 + n ≡ n + 1
      one n = omega arith

  -- what stands behind the records

  more_kept : (s : State) (n : ℕ) (fault : Option ReaderFault) (text : List ℕ) → s.is_over ≡ true → is_more fault text ≡ true
      → behind_refusal s n fault text ≡ Some (refused Trail n)
  more_kept s n fault text e f =
      ap (λ b. cond b (cond (is_more fault text) (Some (refused Trail n)) None) (line_refusal fault)) e ∙ ap (λ b. cond b (Some (refused Trail n)) None) f

  no_line : (bytes : List ℕ) → lines_in bytes ≡ [] → open_line bytes ≡ bytes
  no_line bytes e = by_test (list_any is_newline bytes) refl
    where
      by_test : (b : Bool) → list_any is_newline bytes ≡ b → open_line bytes ≡ bytes
      by_test true f = absurd (omega (arith, some_line bytes f, ap length e))
      by_test false f = open_plain bytes f

  none_left : {X : Type 0} (xs : List X) → length xs ≡ 0 → xs ≡ []
  none_left [] e = refl
  none_left (x ∷ xs) e = absurd (cc)

  still_open : (text more : List ℕ) → is_more None text ≡ true → is_more None (text ++ more) ≡ true
  still_open [] more e = absurd (cc)
  still_open (x ∷ text) more e = refl

  -- a line that isn't whole stays one where no record is added
  more_stays : (bytes more : List ℕ) → new_records bytes more ≡ [] → is_more (fault_of bytes) (open_line bytes) ≡ true
      → is_more (fault_of (bytes ++ more)) (open_line (bytes ++ more)) ≡ true
  more_stays bytes more none e = by (fault_of bytes) refl e
    where
      open_on : fault_of bytes ≡ None → fault_of (bytes ++ more) ≡ None → is_more None (open_line bytes) ≡ true
          → is_more None (open_line (bytes ++ more)) ≡ true
      open_on f g h =
          let added : length (records_of (bytes ++ more)) ≡ length (records_of bytes) = new_count bytes more ∙ ap (λ (rs : List ProofRecord). length (records_of bytes) + length rs) none ∙ zero_more (length (records_of bytes)) in
          let old = lines_counted bytes f in
          let new = lines_counted (bytes ++ more) g in
          let lines = ap length (lines-append bytes more) in
          let both = length-append (lines_in bytes) (lines_in (open_line bytes ++ more)) in
          let gone = none_left (lines_in (open_line bytes ++ more)) (omega (arith, added, old, new, lines, both)) in
          ap (is_more None) (open-append bytes more ∙ no_line (open_line bytes ++ more) gone) ∙ still_open (open_line bytes) more h
        where
          zero_more : (n : ℕ) → n + 0 ≡ n
          zero_more n = omega arith

      by_new : (o : Option ReaderFault) → fault_of (bytes ++ more) ≡ o → fault_of bytes ≡ None → is_more None (open_line bytes) ≡ true
          → is_more o (open_line (bytes ++ more)) ≡ true
      by_new None g f h = open_on f g h
      by_new (Some fault) g f h = refl

      by : (o : Option ReaderFault) → fault_of bytes ≡ o → is_more o (open_line bytes) ≡ true → is_more (fault_of (bytes ++ more)) (open_line (bytes ++ more)) ≡ true
      by None f h = by_new (fault_of (bytes ++ more)) refl f h
      by (Some fault) f h = ap (λ o. is_more o (open_line (bytes ++ more))) (fault_stays bytes more fault f)

  -- where the last record was read and something stands behind it
  module _ (bytes more : List ℕ) (s : State) (w : walked c start 1 (records_of bytes) ≡ Ok s) where
    over_stays : s.is_over ≡ true → is_more (fault_of bytes) (open_line bytes) ≡ true
        → standing c (bytes ++ more) ≡ Err (refused Trail (length (records_of bytes) + 1))
    over_stays e f = by (new_records bytes more) refl
      where
        zero_more : (n : ℕ) → n + 0 ≡ n
        zero_more n = omega arith

        over_walk : (n : ℕ) (q : ProofRecord) (rest : List ProofRecord) → walked c s n (q ∷ rest) ≡ Err (refused Trail n)
        over_walk n q rest = ap (λ x. going_on x (λ t. walked c t (n + 1) rest)) (over_one n q)
          where
            over_one : (n : ℕ) (q : ProofRecord) → one_on c s n q ≡ Err (refused Trail n)
            over_one n q = one_over c s n q e

        by : (rs : List ProofRecord) → new_records bytes more ≡ rs → standing c (bytes ++ more) ≡ Err (refused Trail (length (records_of bytes) + 1))
        by [] g =
            let count : length (records_of (bytes ++ more)) ≡ length (records_of bytes) = new_count bytes more ∙ ap (λ (rs : List ProofRecord). length (records_of bytes) + length rs) g ∙ zero_more (length (records_of bytes)) in
            standing_ok (bytes ++ more) s (part_walked bytes more s w ∙ ap (λ rs. walked c s (length (records_of bytes) + 1) rs) g)
            ∙ ap (unless_refused s) (more_kept s (length (records_of (bytes ++ more)) + 1) (fault_of (bytes ++ more)) (open_line (bytes ++ more)) e (more_stays bytes more g f))
            ∙ ap (λ n. Err (refused Trail (n + 1))) count
        by (q ∷ rest) g =
            standing_err (bytes ++ more) (refused Trail (length (records_of bytes) + 1))
            (part_walked bytes more s w ∙ ap (λ rs. walked c s (length (records_of bytes) + 1) rs) g ∙ over_walk (length (records_of bytes) + 1) q rest)

    fault_kept : (fault : ReaderFault) (r : ProofRefused) → s.is_over ≡ false → fault_of bytes ≡ Some fault → line_refusal (Some fault) ≡ Some r
        → standing c (bytes ++ more) ≡ Err r
    fault_kept fault r e f g =
        standing_ok (bytes ++ more) s (part_walked bytes more s w ∙ ap (λ rs. walked c s (length (records_of bytes) + 1) rs) (none_new bytes more fault f))
        ∙ ap (unless_refused s)
        (ap (λ b. cond b (cond (is_more (fault_of (bytes ++ more)) (open_line (bytes ++ more))) (Some (refused Trail (length (records_of (bytes ++ more)) + 1))) None)
        (line_refusal (fault_of (bytes ++ more)))) e ∙ ap line_refusal (fault_stays bytes more fault f) ∙ g)

    behind_stays : (r : ProofRefused) → behind bytes s ≡ Some r → standing c (bytes ++ more) ≡ Err r
    behind_stays r e = by s.is_over refl e
      where
        over_by : s.is_over ≡ true → (m : Bool) → is_more (fault_of bytes) (open_line bytes) ≡ m
            → cond m (Some (refused Trail (length (records_of bytes) + 1))) None ≡ Some r → standing c (bytes ++ more) ≡ Err r
        over_by f true g h =
            let same : refused Trail (length (records_of bytes) + 1) ≡ r = cc in
            over_stays f g ∙ ap (λ (x : ProofRefused). Err x) same
        over_by f false g h = absurd (cc)

        line_by : s.is_over ≡ false → (o : Option ReaderFault) → fault_of bytes ≡ o → line_refusal o ≡ Some r → standing c (bytes ++ more) ≡ Err r
        line_by f None g h = absurd (cc)
        line_by f (Some fault) g h = fault_kept fault r f g h

        by : (b : Bool) → s.is_over ≡ b
            → cond b (cond (is_more (fault_of bytes) (open_line bytes)) (Some (refused Trail (length (records_of bytes) + 1))) None) (line_refusal (fault_of bytes)) ≡ Some r
            → standing c (bytes ++ more) ≡ Err r
        by true f g = over_by f (is_more (fault_of bytes) (open_line bytes)) refl g
        by false f g = line_by f (fault_of bytes) refl g

  -- A refusal stays, whatever follows.
  pub refused_stays : (bytes more : List ℕ) (r : ProofRefused) → standing c bytes ≡ Err r → standing c (bytes ++ more) ≡ Err r
  unfolding standing
  refused_stays bytes more r e = by (walked c start 1 (records_of bytes)) refl e
    where
      walk_stays : (q : ProofRefused) → walked c start 1 (records_of bytes) ≡ Err q → walked c start 1 (records_of (bytes ++ more)) ≡ Err q
      walk_stays q f =
          ap (λ rs. walked c start 1 rs) (records-split bytes more) ∙ walked-append c start 1 (records_of bytes) (new_records bytes more)
          ∙ ap (λ x. going_on x (λ t. walked c t (1 + length (records_of bytes)) (new_records bytes more))) f

      left : (s : State) (o : Option ProofRefused) → behind bytes s ≡ o → unless_refused s o ≡ Err r → behind bytes s ≡ Some r
      left s None f g = absurd (cc)
      left s (Some q) f g = let same : q ≡ r = cc in f ∙ ap (λ x. Some x) same

      by : (x : Result State ProofRefused) → walked c start 1 (records_of bytes) ≡ x → going_on x (λ s. unless_refused s (behind bytes s)) ≡ Err r
          → standing c (bytes ++ more) ≡ Err r
      by (Ok s) f g = behind_stays bytes more s f r (left s (behind bytes s) refl g)
      by (Err q) f g =
          let same : q ≡ r = cc in
          standing_err (bytes ++ more) q (walk_stays q f) ∙ ap (λ (x : ProofRefused). Err x) same

  -- Where nothing is refused there is no fault.
  pub clean_standing : (bytes : List ℕ) (s : State) → (fault_of bytes ≡ Some NoBytes → ⊥) → standing c bytes ≡ Ok s → fault_of bytes ≡ None
  clean_standing bytes s no_memory e = by (fault_of bytes) refl
    where
      allowed : (o : Option ProofRefused) → unless_refused s o ≡ Ok s → o ≡ None
      allowed None f = refl
      allowed (Some r) f = absurd (cc)

      nothing : behind bytes s ≡ None
      nothing = allowed (behind bytes s) (sym (standing_ok bytes s (walked_is bytes s e)) ∙ e)

      never : (fault : ReaderFault) → fault_of bytes ≡ Some fault → ⊥
      never fault f = by_over s.is_over (ap (λ o. cond s.is_over (cond (is_more o (open_line bytes)) (Some (refused Trail (length (records_of bytes) + 1))) None) (line_refusal o)) (sym f) ∙ nothing)
        where
          line_never : (x : ReaderFault) → fault_of bytes ≡ Some x → line_refusal (Some x) ≡ None → ⊥
          line_never NoBytes g h = no_memory g
          line_never (ShapeAt n) g h = cc
          line_never (NumberAt n) g h = cc
          line_never (CutAt n) g h = cc

          by_over : (b : Bool) → cond b (Some (refused Trail (length (records_of bytes) + 1))) (line_refusal (Some fault)) ≡ None → ⊥
          by_over true g = cc
          by_over false g = line_never fault f g

      by : (o : Option ReaderFault) → fault_of bytes ≡ o → fault_of bytes ≡ None
      by None f = f
      by (Some fault) f = absurd (never fault f)
