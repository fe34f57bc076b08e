-- What a plan file is read as, and the text of a plan.
use Rattle.std.proofs.Common.{◌≡◌, ℕ, zero, suc, ◌+◌, ◌-◌, ◌<◌, ◌≤◌, Bool, true, false, cond, nat_eq, nat_lt, List, [], ◌∷◌, ◌++◌, map, length, get_or, None, Some, Option, Result, Ok, Err, refl, sym, ◌∙◌, ap, subst, arith, append_assoc, add-one, zero-add}
use Rattle.std.specs.Prelude.{flat_map, slice_index, option_map, ◌↔◌, IfOk, IsErrAnd, MatchResult}
use Rattle.std.specs.List.{range_with_len}
use Rattle.std.proofs.lemmas.Bool.Decides.{nat_tests}
use Rattle.std.proofs.lemmas.List.Folds.{flat_map-map}
use Rattle.std.proofs.lemmas.List.Concat.{flat_map-append}
use Rattle.std.proofs.lemmas.List.FromFn.{get_or-map-range_with_len, length-map-range_with_len, map-range_with_len_more}
use Rattle.std.proofs.lemmas.List.{append-nil}
use Rattle.std.proofs.lemmas.Grind.{same_number_lists}
use Rattle.station.specs.Allowed.{numbers}
use Rattle.patterns.specs.Book.{offers_of, IsBook}
use Rattle.patterns.proofs.Steps.{flat_map_numbers_more}
use Rattle.pair_prices.specs.Case.{CaseRecord}
use Rattle.pair_prices.specs.Plan.{Fits}
use Rattle.plan_cost.specs.declared.record.PlanRecord.{PlanRecord}
use Rattle.plan_cost.specs.declared.record.PlanRecord.TheVariants.{Header, Choice, End}
use Rattle.plan_cost.specs.declared.refusal.PlanKind.{PlanKind}
use Rattle.plan_cost.specs.declared.refusal.PlanKind.TheVariants.{Record, Train, Choice as NoChoice, Trail}
use Rattle.plan_cost.specs.declared.refusal.PlanRefused.{PlanRefused}
use Rattle.plan_cost.specs.declared.refusal.PlanFault.{PlanFault}
use Rattle.plan_cost.specs.declared.refusal.PlanFault.TheVariants.{Memory, Refused}
use Rattle.plan_cost.specs.declared.plan.Plan.{Plan}
use Rattle.plan_cost.specs.First.{or_else, first_of}
use Rattle.plan_cost.specs.PlanText.{record_line, IsRecord, plan_records, plan_text, IsWritable}
use Rattle.plan_cost.specs.PlanLine.{after_line, record_at}
use Rattle.plan_cost.specs.PlanReading.{header_fault, choice_fault, end_fault, trail_fault, refused_at, header_refusal, choice_refusal, end_refusal, trail_refusal, behind, choice_refusals, refusals, first_refusal, number_of, numbers_read, PlanReading, taken, refused, reading_by, plan_reading, Answers, Refuses}
use Rattle.plan_cost.proofs.FirstLemmas.{first_of-append, each_found, each_passed}
use Rattle.plan_cost.proofs.RecordLines.{body, after_record, bodies_equal, same_headers, same_choices, record_there, there_is_line}

behind_suc : (lines : ℕ) (bytes : List ℕ) → behind (suc lines) bytes ≡ after_line (behind lines bytes)
behind_suc zero bytes = refl
behind_suc (suc k) bytes = behind_suc k (after_line bytes)

pub behind_more : (lines : ℕ) (bytes : List ℕ) → behind (lines + 1) bytes ≡ after_line (behind lines bytes)
behind_more lines bytes = ap (λ k. behind k bytes) (add-one lines) ∙ behind_suc lines bytes

-- the line of the choice that a plan has for a train
abbrev pub choice_line : (ℕ → ℕ) → ℕ → List ℕ
choice_line number train = record_line (Choice train (number train))

pub text_is : (plan : List ℕ)
    → plan_text plan ≡ record_line (Header (length plan)) ++ (flat_map (choice_line (slice_index plan)) (numbers (length plan)) ++ record_line End)
unfolding plan_text
text_is plan =
    ap (λ l. record_line (Header (length plan)) ++ l)
    (flat_map-append record_line (map (λ t. Choice t (slice_index plan t)) (numbers (length plan))) (End ∷ [])
    ∙ ap (λ l. l ++ (record_line End ++ [])) (flat_map-map record_line (λ t. Choice t (slice_index plan t)) (numbers (length plan)))
    ∙ ap (λ l. flat_map (choice_line (slice_index plan)) (numbers (length plan)) ++ l) (append-nil (record_line End)))

-- no fault and no refusal
no_fault : (number : ℕ) (fault : Option PlanKind) → refused_at number fault ≡ None → fault ≡ None
no_fault number None e = refl
no_fault number (Some kind) e = absurd (cc e)

first_none : {B : Type 0} (o r : Option B) → or_else o r ≡ None → (o ≡ None) × (r ≡ None)
first_none None r e = (refl, e)
first_none (Some x) r e = absurd (cc e)

abbrev read_as : PlanRecord → Result PlanRecord PlanKind
read_as r = Ok r

-- the record that is due is there where there is no fault
header_there : (trains : ℕ) (at : Result PlanRecord PlanKind) → header_fault trains at ≡ None → at ≡ Ok (Header trains)
header_there trains (Err kind) e = absurd (cc e)
header_there trains (Ok (Header told)) e = by_test (nat_eq told trains) refl e
  where
    by_test : (b : Bool) → nat_eq told trains ≡ b → cond b None (Some Train) ≡ None → read_as (Header told) ≡ read_as (Header trains)
    by_test true f g = let same : told ≡ trains = grind (arith, nat_tests) in ap (λ n. read_as (Header n)) same
    by_test false f g = absurd (cc g)
header_there trains (Ok (Choice train number)) e = absurd (cc e)
header_there trains (Ok End) e = absurd (cc e)

choice_there : (train patterns : ℕ) (at : Result PlanRecord PlanKind) → choice_fault train patterns at ≡ None
    → (at ≡ Ok (Choice train (number_of at))) × (number_of at < patterns)
choice_there train patterns (Err kind) e = absurd (cc e)
choice_there train patterns (Ok (Header told)) e = absurd (cc e)
choice_there train patterns (Ok (Choice told number)) e = by_tests (nat_eq told train) refl (nat_lt number patterns) refl e
  where
    by_tests : (b : Bool) → nat_eq told train ≡ b → (d : Bool) → nat_lt number patterns ≡ d → cond b (cond d None (Some NoChoice)) (Some Train) ≡ None
        → (read_as (Choice told number) ≡ read_as (Choice train number)) × (number < patterns)
    by_tests true f true g h = let same : told ≡ train = grind (arith, nat_tests) in (ap (λ t. read_as (Choice t number)) same, grind (arith, nat_tests))
    by_tests true f false g h = absurd (cc h)
    by_tests false f d g h = absurd (cc h)
choice_there train patterns (Ok End) e = absurd (cc e)

end_there : (at : Result PlanRecord PlanKind) → end_fault at ≡ None → at ≡ Ok End
end_there (Err kind) e = absurd (cc e)
end_there (Ok (Header told)) e = absurd (cc e)
end_there (Ok (Choice train number)) e = absurd (cc e)
end_there (Ok End) e = refl

nothing_there : (bytes : List ℕ) → trail_fault bytes ≡ None → bytes ≡ []
nothing_there [] e = refl
nothing_there (byte ∷ bytes) e = absurd (cc e)

none_left : (n : ℕ) → n ≡ n + 0
none_left n = omega arith

abbrev number_at : List ℕ → ℕ → ℕ
number_at start train = number_of (record_at (behind train start))

-- where no choice from this train on is refused, the bytes are their lines and what stands behind them
record Chosen (c : CaseRecord) (start : List ℕ) (train left : ℕ) : Type 0 where
  text : behind train start ≡ flat_map (choice_line (number_at start)) (range_with_len train left) ++ behind (train + left) start
  there : (k : ℕ) → train ≤ k → k < train + left → number_at start k < length (offers_of c.book k)

choices_there : (c : CaseRecord) (start : List ℕ) (train left : ℕ)
    → first_of (λ r. r) (map (λ t. choice_refusal c t (behind t start)) (range_with_len train left)) ≡ None → Chosen c start train left
choices_there c start train zero e = record {
  text = ap (λ k. behind k start) (none_left train);
  there = λ k h i. absurd (omega (arith, h, i));
}
choices_there c start train (suc left) e =
    let parts = first_none (choice_refusal c train (behind train start)) (first_of (λ r. r) (map (λ t. choice_refusal c t (behind t start)) (range_with_len (train + 1) left))) e in
    let own = choice_there train (length (offers_of c.book train)) (record_at (behind train start)) (no_fault (train + 2) (choice_fault train (length (offers_of c.book train)) (record_at (behind train start))) parts.0) in
    let line = there_is_line (behind train start) (Choice train (number_at start train)) own.0 in
    let rest = choices_there c start (train + 1) left parts.1 in
    let lines = flat_map (choice_line (number_at start)) (range_with_len (train + 1) left) in
    record {
      text =
          line.0 ∙ ap (λ l. choice_line (number_at start) train ++ l) (sym (behind_more train start) ∙ rest.text ∙ ap (λ k. lines ++ behind k start) (count train left))
          ∙ sym (append_assoc (choice_line (number_at start) train) lines (behind (train + suc left) start));
      there = λ k h i. by_place k h i own.1 rest.there (nat_eq k train) refl;
    }
  where
    count : (m n : ℕ) → m + 1 + n ≡ m + suc n
    count m n = omega arith

    by_place : (k : ℕ) → train ≤ k → k < train + suc left → number_at start train < length (offers_of c.book train)
        → ((j : ℕ) → train + 1 ≤ j → j < train + 1 + left → number_at start j < length (offers_of c.book j))
        → (b : Bool) → nat_eq k train ≡ b → number_at start k < length (offers_of c.book k)
    by_place k h i own rest true f =
        let same : k ≡ train = grind (arith, nat_tests) in
        subst (λ j. number_at start j < length (offers_of c.book j)) (sym same) own
    by_place k h i own rest false f =
        let apart : train + 1 ≤ k = grind (arith, nat_tests) in
        rest k apart (omega (arith, i))

-- the lines of two plans with the same numbers
lines_same : (f g : ℕ → ℕ) (train left : ℕ) → ((k : ℕ) → train ≤ k → k < train + left → f k ≡ g k)
    → flat_map (choice_line f) (range_with_len train left) ≡ flat_map (choice_line g) (range_with_len train left)
lines_same f g train zero e = refl
lines_same f g train (suc left) e =
    ap (λ n. record_line (Choice train n) ++ flat_map (choice_line f) (range_with_len (train + 1) left)) (e train (omega arith) (omega arith))
    ∙ ap (λ l. choice_line g train ++ l) (lines_same f g (train + 1) left (λ k h i. e k (omega (arith, h)) (omega (arith, i))))

-- where the bytes are the lines of a plan that fits, no choice is refused, and the plan's numbers are read
record Written (c : CaseRecord) (start : List ℕ) (number : ℕ → ℕ) (tail : List ℕ) (train left : ℕ) : Type 0 where
  none : first_of (λ r. r) (map (λ t. choice_refusal c t (behind t start)) (range_with_len train left)) ≡ None
  numbers : map (number_at start) (range_with_len train left) ≡ map number (range_with_len train left)
  rest : behind (train + left) start ≡ tail

choice_right : (train patterns number : ℕ) (at : Result PlanRecord PlanKind) → at ≡ Ok (Choice train number) → number < patterns
    → refused_at (train + 2) (choice_fault train patterns at) ≡ None
choice_right train patterns number at e h =
    ap (λ a. refused_at (train + 2) (choice_fault train patterns a)) e
    ∙ ap (λ b. refused_at (train + 2) (cond b (cond (nat_lt number patterns) None (Some NoChoice)) (Some Train))) (same train)
    ∙ ap (λ b. refused_at (train + 2) (cond b None (Some NoChoice))) (less number patterns h)
  where
    same : (t : ℕ) → nat_eq t t ≡ true
    same t = grind (arith, nat_tests)

    less : (m n : ℕ) → m < n → nat_lt m n ≡ true
    less m n l = grind (arith, nat_tests)

choices_written : (c : CaseRecord) (start : List ℕ) (number : ℕ → ℕ) (tail : List ℕ) (train left : ℕ)
    → train + left ≤ 200
    → ((k : ℕ) → train ≤ k → k < train + left → number k < length (offers_of c.book k))
    → ((k : ℕ) → train ≤ k → k < train + left → number k ≤ 4095)
    → behind train start ≡ flat_map (choice_line number) (range_with_len train left) ++ tail → Written c start number tail train left
choices_written c start number tail train zero few fits small e = record {
  none = refl;
  numbers = refl;
  rest = ap (λ k. behind k start) (sym (none_left train)) ∙ e;
}
choices_written c start number tail train (suc left) few fits small e =
    let lines = flat_map (choice_line number) (range_with_len (train + 1) left) in
    let split : behind train start ≡ choice_line number train ++ (lines ++ tail) = e ∙ append_assoc (choice_line number train) lines tail in
    let own = Choice train (number train) in
    let at : record_at (behind train start) ≡ Ok own = ap record_at split ∙ record_there own (lines ++ tail) (omega (arith, few), small train (omega arith) (omega arith)) in
    let next : behind (train + 1) start ≡ lines ++ tail = behind_more train start ∙ ap after_line split ∙ after_record own (lines ++ tail) in
    let rest = choices_written c start number tail (train + 1) left (omega (arith, few)) (λ k h i. fits k (omega (arith, h)) (omega (arith, i))) (λ k h i. small k (omega (arith, h)) (omega (arith, i))) next in
    let right = choice_right train (length (offers_of c.book train)) (number train) (record_at (behind train start)) at (fits train (omega arith) (omega arith)) in
    record {
      none = ap (λ o. or_else o (first_of (λ r. r) (map (λ t. choice_refusal c t (behind t start)) (range_with_len (train + 1) left)))) right ∙ rest.none;
      numbers = ap (λ a. number_of a ∷ map (number_at start) (range_with_len (train + 1) left)) at ∙ ap (λ l. number train ∷ l) rest.numbers;
      rest = ap (λ k. behind k start) (count train left) ∙ rest.rest;
    }
  where
    count : (m n : ℕ) → m + suc n ≡ m + 1 + n
    count m n = omega arith

-- the first of all refusals, part by part
abbrev by_parts : CaseRecord → List ℕ → Option PlanRefused
by_parts c bytes =
    let trains = length c.book in
    or_else (header_refusal trains bytes) (or_else (first_refusal (choice_refusals c (behind 1 bytes)))
    (or_else (end_refusal trains (behind (suc trains) bytes)) (or_else (trail_refusal trains (behind (suc (suc trains)) bytes)) None)))

refusals_are : (c : CaseRecord) (bytes : List ℕ) → first_refusal (refusals c bytes) ≡ by_parts c bytes
refusals_are c bytes =
    let trains = length c.book in
    ap (or_else (header_refusal trains bytes))
    (first_of-append (λ r. r) (choice_refusals c (behind 1 bytes)) (end_refusal trains (behind (suc trains) bytes) ∷ trail_refusal trains (behind (suc (suc trains)) bytes) ∷ []))

reading_is : (c : CaseRecord) (bytes : List ℕ) → plan_reading c bytes ≡ reading_by (by_parts c bytes) (numbers_read (length c.book) (behind 1 bytes))
unfolding plan_reading
reading_is c bytes = ap (λ o. reading_by o (numbers_read (length c.book) (behind 1 bytes))) (refusals_are c bytes)

pick : {A : Type 0} (o p q r : Option A) → o ≡ None → p ≡ None → q ≡ None → or_else o (or_else p (or_else q (or_else r None))) ≡ r
pick None None None None e f g = refl
pick None None None (Some x) e f g = refl
pick None None (Some x) r e f g = absurd (cc g)
pick None (Some x) q r e f g = absurd (cc f)
pick (Some x) p q r e f g = absurd (cc e)

-- the first refusal is what the bytes are read as
pub header_refused : (c : CaseRecord) (bytes : List ℕ) (count : ℕ) (r : PlanRefused) → count ≡ length c.book → header_refusal count bytes ≡ Some r
    → plan_reading c bytes ≡ refused r
header_refused c bytes count r counted f =
    let trains = length c.book in
    let e : header_refusal trains bytes ≡ Some r = ap (λ n. header_refusal n bytes) (sym counted) ∙ f in
    reading_is c bytes
    ∙ ap (λ o. reading_by (or_else o (or_else (first_refusal (choice_refusals c (behind 1 bytes)))
    (or_else (end_refusal trains (behind (suc trains) bytes)) (or_else (trail_refusal trains (behind (suc (suc trains)) bytes)) None)))) (numbers_read trains (behind 1 bytes))) e

pub choice_refused : (c : CaseRecord) (bytes : List ℕ) (r : PlanRefused) → header_refusal (length c.book) bytes ≡ None
    → first_refusal (choice_refusals c (behind 1 bytes)) ≡ Some r → plan_reading c bytes ≡ refused r
choice_refused c bytes r e f =
    let trains = length c.book in
    let end = end_refusal trains (behind (suc trains) bytes) in
    let trail = trail_refusal trains (behind (suc (suc trains)) bytes) in
    reading_is c bytes
    ∙ ap (λ o. reading_by (or_else o (or_else (first_refusal (choice_refusals c (behind 1 bytes))) (or_else end (or_else trail None)))) (numbers_read trains (behind 1 bytes))) e
    ∙ ap (λ o. reading_by (or_else o (or_else end (or_else trail None))) (numbers_read trains (behind 1 bytes))) f

pub end_refused : (c : CaseRecord) (bytes : List ℕ) (r : PlanRefused) → header_refusal (length c.book) bytes ≡ None
    → first_refusal (choice_refusals c (behind 1 bytes)) ≡ None → end_refusal (length c.book) (behind (suc (length c.book)) bytes) ≡ Some r → plan_reading c bytes ≡ refused r
end_refused c bytes r e f g =
    let trains = length c.book in
    let end = end_refusal trains (behind (suc trains) bytes) in
    let trail = trail_refusal trains (behind (suc (suc trains)) bytes) in
    reading_is c bytes
    ∙ ap (λ o. reading_by (or_else o (or_else (first_refusal (choice_refusals c (behind 1 bytes))) (or_else end (or_else trail None)))) (numbers_read trains (behind 1 bytes))) e
    ∙ ap (λ o. reading_by (or_else o (or_else end (or_else trail None))) (numbers_read trains (behind 1 bytes))) f
    ∙ ap (λ o. reading_by (or_else o (or_else trail None)) (numbers_read trains (behind 1 bytes))) g

-- nothing but what stands behind the end may be wrong
pub end_reached : (c : CaseRecord) (bytes : List ℕ) → header_refusal (length c.book) bytes ≡ None
    → first_refusal (choice_refusals c (behind 1 bytes)) ≡ None → end_refusal (length c.book) (behind (suc (length c.book)) bytes) ≡ None
    → plan_reading c bytes ≡ reading_by (trail_refusal (length c.book) (behind (suc (suc (length c.book))) bytes)) (numbers_read (length c.book) (behind 1 bytes))
end_reached c bytes e f g =
    let trains = length c.book in
    reading_is c bytes
    ∙ ap (λ o. reading_by o (numbers_read trains (behind 1 bytes)))
    (pick (header_refusal trains bytes) (first_refusal (choice_refusals c (behind 1 bytes))) (end_refusal trains (behind (suc trains) bytes))
    (trail_refusal trains (behind (suc (suc trains)) bytes)) e f g)

taken_by : (o : Option PlanRefused) (plan other : List ℕ) → reading_by o plan ≡ taken other → (o ≡ None) × (plan ≡ other)
taken_by None plan other e = (refl, cc)
taken_by (Some r) plan other e = absurd (cc e)

-- a list as its numbers by their places
listed : (xs : List ℕ) → map (slice_index xs) (numbers (length xs)) ≡ xs
listed xs = same_number_lists (map (slice_index xs) (numbers (length xs))) xs (length-map-range_with_len (slice_index xs) 0 (length xs))
    (λ k h. get_or-map-range_with_len (slice_index xs) 0 (length xs) k k 0 (omega (arith, h, length-map-range_with_len (slice_index xs) 0 (length xs))) (omega arith))

-- bytes that are read as a plan are its text, and it fits
pub read_is_text : (c : CaseRecord) (bytes plan : List ℕ) → plan_reading c bytes ≡ taken plan → (bytes ≡ plan_text plan) × Fits c plan
read_is_text c bytes plan e =
    let trains = length c.book in
    let start = behind 1 bytes in
    let own = taken_by (by_parts c bytes) (numbers_read trains start) plan (sym (reading_is c bytes) ∙ e) in
    let rest = first_none (header_refusal trains bytes) (or_else (first_refusal (choice_refusals c start)) (or_else (end_refusal trains (behind trains start)) (or_else (trail_refusal trains (behind (suc trains) start)) None))) own.0 in
    let after = first_none (first_refusal (choice_refusals c start)) (or_else (end_refusal trains (behind trains start)) (or_else (trail_refusal trains (behind (suc trains) start)) None)) rest.1 in
    let last = first_none (end_refusal trains (behind trains start)) (or_else (trail_refusal trains (behind (suc trains) start)) None) after.1 in
    let trail = (first_none (trail_refusal trains (behind (suc trains) start)) None last.1).0 in
    let header = there_is_line bytes (Header trains) (header_there trains (record_at bytes) (no_fault 1 (header_fault trains (record_at bytes)) rest.0)) in
    let chosen = choices_there c start 0 trains after.0 in
    let end = there_is_line (behind trains start) End (end_there (record_at (behind trains start)) (no_fault (trains + 2) (end_fault (record_at (behind trains start))) last.0)) in
    let nothing : after_line (behind trains start) ≡ [] = sym (behind_suc trains start) ∙ nothing_there (behind (suc trains) start) (no_fault (trains + 3) (trail_fault (behind (suc trains) start)) trail) in
    let read = numbers_read trains start in
    let long : length read ≡ trains = length-map-range_with_len (number_at start) 0 trains in
    let at = λ (k : ℕ) (h : k < trains). get_or-map-range_with_len (number_at start) 0 trains k k 0 h (omega arith) in
    let ended : behind (0 + trains) start ≡ record_line End = ap (λ k. behind k start) (zero-add trains) ∙ end.0 ∙ ap (λ l. record_line End ++ l) nothing ∙ append-nil (record_line End) in
    let text : bytes ≡ record_line (Header trains) ++ (flat_map (choice_line (slice_index read)) (numbers trains) ++ record_line End) =
    header.0 ∙ ap (λ l. record_line (Header trains) ++ l)
    (chosen.text ∙ ap (λ l. flat_map (choice_line (number_at start)) (numbers trains) ++ l) ended
    ∙ ap (λ l. l ++ record_line End) (lines_same (number_at start) (slice_index read) 0 trains (λ k h i. sym (at k (omega (arith, i)))))) in
    let fits : Fits c read = record {
      trains = long;
      numbers = λ train h. subst (λ n. n < length (offers_of c.book train)) (sym (at train h)) (chosen.there train (omega arith) (omega (arith, h)));
    } in
    let whole : bytes ≡ plan_text read =
    text ∙ ap (λ n. record_line (Header n) ++ (flat_map (choice_line (slice_index read)) (numbers n) ++ record_line End)) (sym long) ∙ sym (text_is read) in
    (whole ∙ ap plan_text own.1, subst (Fits c) own.1 fits)

-- the text of a plan that fits is read as it
pub text_is_read : (c : CaseRecord) (bytes plan : List ℕ) → IsWritable plan → bytes ≡ plan_text plan → Fits c plan → plan_reading c bytes ≡ taken plan
text_is_read c bytes plan small e fits =
    let trains = length c.book in
    let start = behind 1 bytes in
    let number = slice_index plan in
    let choices = flat_map (choice_line number) (numbers trains) in
    let text : bytes ≡ record_line (Header trains) ++ (choices ++ record_line End) =
    e ∙ text_is plan ∙ ap (λ n. record_line (Header n) ++ (flat_map (choice_line number) (numbers n) ++ record_line End)) fits.trains in
    let few : trains ≤ 200 = omega (arith, small.few, fits.trains) in
    let header : record_at bytes ≡ Ok (Header trains) = ap record_at text ∙ record_there (Header trains) (choices ++ record_line End) few in
    let begins : start ≡ choices ++ record_line End = ap after_line text ∙ after_record (Header trains) (choices ++ record_line End) in
    let written = choices_written c start number (record_line End) 0 trains (omega (arith, few)) (λ k h i. fits.numbers k (omega (arith, i)))
    (λ k h i. omega (arith, small.small k (omega (arith, i, fits.trains)))) begins in
    let ended : behind trains start ≡ record_line End ++ [] = ap (λ k. behind k start) (sym (zero-add trains)) ∙ written.rest ∙ sym (append-nil (record_line End)) in
    let end : record_at (behind trains start) ≡ Ok End = ap record_at ended ∙ record_there End [] tt in
    let nothing : behind (suc trains) start ≡ [] = behind_suc trains start ∙ ap after_line ended ∙ after_record End [] in
    end_reached c bytes
    (ap (λ a. refused_at 1 (header_fault trains a)) header ∙ ap (λ b. refused_at 1 (cond b None (Some Train))) (same trains))
    written.none
    (ap (λ a. refused_at (trains + 2) (end_fault a)) end)
    ∙ ap (λ l. reading_by (trail_refusal trains l) (numbers_read trains start)) nothing
    ∙ ap taken (written.numbers ∙ ap (λ n. map number (numbers n)) (sym fits.trains) ∙ listed plan)
  where
    same : (n : ℕ) → nat_eq n n ≡ true
    same n = grind (arith, nat_tests)

choices_unique : (f g : ℕ → ℕ) (train left : ℕ) (tail other : List ℕ)
    → flat_map (choice_line f) (range_with_len train left) ++ tail ≡ flat_map (choice_line g) (range_with_len train left) ++ other
    → map f (range_with_len train left) ≡ map g (range_with_len train left)
choices_unique f g train zero tail other e = refl
choices_unique f g train (suc left) tail other e =
    let mine = flat_map (choice_line f) (range_with_len (train + 1) left) in
    let yours = flat_map (choice_line g) (range_with_len (train + 1) left) in
    let parts = bodies_equal (Choice train (f train)) (Choice train (g train)) (mine ++ tail) (yours ++ other)
    (sym (append_assoc (choice_line f train) mine tail) ∙ e ∙ append_assoc (choice_line g train) yours other) in
    ap (λ n. n ∷ map f (range_with_len (train + 1) left)) (same_choices train (f train) (g train) parts.0)
    ∙ ap (λ l. g train ∷ l) (choices_unique f g (train + 1) left tail other parts.1)

-- two plans with equal texts are equal
pub texts_unique : (plan other : List ℕ) → plan_text plan ≡ plan_text other → plan ≡ other
texts_unique plan other e =
    let mine = flat_map (choice_line (slice_index plan)) (numbers (length plan)) ++ record_line End in
    let yours = flat_map (choice_line (slice_index other)) (numbers (length other)) ++ record_line End in
    let parts = bodies_equal (Header (length plan)) (Header (length other)) mine yours (sym (text_is plan) ∙ e ∙ text_is other) in
    let long = same_headers (length plan) (length other) parts.0 in
    let same = choices_unique (slice_index plan) (slice_index other) 0 (length plan) (record_line End) (record_line End)
    (parts.1 ∙ ap (λ n. flat_map (choice_line (slice_index other)) (numbers n) ++ record_line End) (sym long)) in
    sym (listed plan) ∙ same ∙ ap (λ n. map (slice_index other) (numbers n)) long ∙ listed other

-- a plan that fits a case can be written
pub fitting_is_writable : (c : CaseRecord) (plan : List ℕ) → IsBook c.book → Fits c plan → IsWritable plan
fitting_is_writable c plan book fits = record {
  few = omega (arith, book.trains, fits.trains);
  small = λ train h.
      let there : train < length c.book = omega (arith, h, fits.trains) in
      omega (arith, fits.numbers train there, book.counts train [] there);
}

-- one more turn of the loop over the choices
abbrev refusals_from : CaseRecord → List ℕ → ℕ → ℕ → Option PlanRefused
refusals_from c bytes train trains = first_of (λ r. r) (map (λ t. choice_refusal c t (behind t bytes)) (range_with_len train (trains - train)))

pub first_found : (c : CaseRecord) (bytes : List ℕ) (trains train : ℕ) (rest : List ℕ) (r : PlanRefused)
    → first_refusal (choice_refusals c bytes) ≡ refusals_from c bytes train trains → rest ≡ behind train bytes → train < trains
    → choice_refusal c train rest ≡ Some r → first_refusal (choice_refusals c bytes) ≡ Some r
first_found c bytes trains train rest r first here h e =
    let own : Some r ≡ choice_refusal c train (behind train bytes) = sym e ∙ ap (choice_refusal c train) here in
    sym (each_found (λ o. o) (λ t. choice_refusal c t (behind t bytes)) (first_refusal (choice_refusals c bytes)) (Some r) train trains first h own refl)

pub first_passed : (c : CaseRecord) (bytes : List ℕ) (trains train : ℕ) (rest : List ℕ)
    → first_refusal (choice_refusals c bytes) ≡ refusals_from c bytes train trains → rest ≡ behind train bytes → train < trains
    → choice_refusal c train rest ≡ None → first_refusal (choice_refusals c bytes) ≡ refusals_from c bytes (train + 1) trains
first_passed c bytes trains train rest first here h e =
    let own : None ≡ choice_refusal c train (behind train bytes) = sym e ∙ ap (choice_refusal c train) here in
    each_passed (λ o. o) (λ t. choice_refusal c t (behind t bytes)) (first_refusal (choice_refusals c bytes)) None train trains first h own refl

pub numbers_more_read : (bytes : List ℕ) (train : ℕ) (rest before after : List ℕ) (number : ℕ)
    → before ≡ numbers_read train bytes → rest ≡ behind train bytes → number ≡ number_of (record_at rest) → after ≡ before ++ number ∷ []
    → after ≡ numbers_read (train + 1) bytes
numbers_more_read bytes train rest before after number e here own f =
    f ∙ ap (λ l. l ++ number ∷ []) e ∙ ap (λ n. numbers_read train bytes ++ n ∷ []) (own ∙ ap (λ l. number_of (record_at l)) here)
    ∙ sym (map-range_with_len_more (number_at bytes) 0 train train (zero-add train))

-- a plan that was read fits
pub read_fits : (c : CaseRecord) (bytes : List ℕ) (result : Result Plan PlanFault) → Answers (plan_reading c bytes) result → IfOk result (λ plan. Fits c plan.choice)
read_fits c bytes (Ok plan) e = (read_is_text c bytes plan.choice e).1
read_fits c bytes (Err fault) e = tt

-- a refusal that is handed on
pub hands_on : {V : Type 0} (P : V → Type 0) (first : Option PlanRefused) (r : PlanRefused) (result : Result V PlanFault)
    → IsErrAnd result (λ fault. fault ≡ Refused r) → first ≡ Some r → MatchResult result P (Refuses first)
hands_on P first r (Ok v) e f = absurd e
hands_on P first r (Err fault) e f = subst (Refuses first) (sym e) f

pub answers_refused : (reading : PlanReading) (r : PlanRefused) (result : Result Plan PlanFault)
    → IsErrAnd result (λ fault. fault ≡ Refused r) → reading ≡ refused r → Answers reading result
answers_refused reading r (Ok plan) e f = absurd e
answers_refused reading r (Err fault) e f = subst (λ g. Answers reading (Err g)) (sym e) f

-- a fault of the choices that is handed on
pub answers_choices : (c : CaseRecord) (bytes : List ℕ) (fault : PlanFault) (result : Result Plan PlanFault)
    → IsErrAnd result (λ g. g ≡ fault) → header_refusal (length c.book) bytes ≡ None
    → Refuses (first_refusal (choice_refusals c (behind 1 bytes))) fault → Answers (plan_reading c bytes) result
answers_choices c bytes fault (Ok plan) e h k = absurd e
answers_choices c bytes Memory (Err g) e h k = subst (λ f. Answers (plan_reading c bytes) (Err f)) (sym e) tt
answers_choices c bytes (Refused r) (Err g) e h k = subst (λ f. Answers (plan_reading c bytes) (Err f)) (sym e) (choice_refused c bytes r h k)

-- what is known once the header, the choices and the end were read
module _ (c : CaseRecord) (bytes : List ℕ) (trains : ℕ) (choices : List ℕ) (trains_is : trains ≡ length c.book)
    (header : header_refusal trains bytes ≡ None) (begins : choices ≡ after_line bytes) where
  pub no_header_refusal : header_refusal (length c.book) bytes ≡ None
  no_header_refusal = subst (λ n. header_refusal n bytes ≡ None) trains_is header

  -- a fault of the choices
  pub choices_fault : (fault : PlanFault) (result : Result Plan PlanFault) → IsErrAnd result (λ g. g ≡ fault)
      → Refuses (first_refusal (choice_refusals c choices)) fault → Answers (plan_reading c bytes) result
  choices_fault fault result e f =
      answers_choices c bytes fault result e no_header_refusal (subst (λ l. Refuses (first_refusal (choice_refusals c l)) fault) begins f)

  module _ (end : List ℕ) (none : first_refusal (choice_refusals c choices) ≡ None) (ends : end ≡ behind trains choices) where
    no_choice_refusal : first_refusal (choice_refusals c (behind 1 bytes)) ≡ None
    no_choice_refusal = subst (λ l. first_refusal (choice_refusals c l) ≡ None) begins none

    end_is : end ≡ behind (suc (length c.book)) bytes
    end_is = ends ∙ ap (behind trains) begins ∙ ap (λ n. behind n (after_line bytes)) trains_is

    pub end_fault_is : (r : PlanRefused) → end_refusal trains end ≡ Some r → plan_reading c bytes ≡ refused r
    end_fault_is r e =
        end_refused c bytes r no_header_refusal no_choice_refusal
        (ap (λ l. end_refusal (length c.book) l) (sym end_is) ∙ ap (λ n. end_refusal n end) (sym trains_is) ∙ e)

    module _ (rest : List ℕ) (none_at_end : end_refusal trains end ≡ None) (over : rest ≡ after_line end) where
      reached : plan_reading c bytes ≡ reading_by (trail_refusal (length c.book) rest) (numbers_read (length c.book) (behind 1 bytes))
      reached =
          end_reached c bytes no_header_refusal no_choice_refusal
          (ap (λ l. end_refusal (length c.book) l) (sym end_is) ∙ ap (λ n. end_refusal n end) (sym trains_is) ∙ none_at_end)
          ∙ ap (λ l. reading_by (trail_refusal (length c.book) l) (numbers_read (length c.book) (behind 1 bytes)))
          (behind_suc (length c.book) (after_line bytes) ∙ ap after_line (sym end_is) ∙ sym over)

      pub trail_is : 0 < length rest → plan_reading c bytes ≡ refused (record { kind = Trail; at = trains + 3 })
      trail_is some =
          reached ∙ ap (λ f. reading_by (refused_at (length c.book + 3) f) (numbers_read (length c.book) (behind 1 bytes))) (something rest some)
          ∙ ap (λ n. refused (record { kind = Trail; at = n + 3 })) (sym trains_is)
        where
          something : (l : List ℕ) → 0 < length l → trail_fault l ≡ Some Trail
          something [] h = absurd (omega (arith, h))
          something (byte ∷ l) h = refl

      pub plan_is : (numbers : List ℕ) → numbers ≡ numbers_read trains choices → length rest ≡ 0 → plan_reading c bytes ≡ taken numbers
      plan_is numbers e none =
          reached ∙ ap (λ f. reading_by (refused_at (length c.book + 3) f) (numbers_read (length c.book) (behind 1 bytes))) (nothing rest none)
          ∙ ap taken (sym (e ∙ ap (numbers_read trains) begins ∙ ap (λ n. numbers_read n (after_line bytes)) trains_is))
        where
          nothing : (l : List ℕ) → length l ≡ 0 → trail_fault l ≡ None
          nothing [] h = refl
          nothing (byte ∷ l) h = absurd (omega (arith, h))

-- the text of a plan as it is written
pub choice_written : (plan : List ℕ) (train number : ℕ) (before after : List ℕ)
    → before ≡ record_line (Header (length plan)) ++ flat_map (choice_line (slice_index plan)) (numbers train)
    → after ≡ before ++ record_line (Choice train number) → number ≡ slice_index plan train
    → after ≡ record_line (Header (length plan)) ++ flat_map (choice_line (slice_index plan)) (numbers (train + 1))
choice_written plan train number before after e f g =
    let header = record_line (Header (length plan)) in
    let lines = flat_map (choice_line (slice_index plan)) (numbers train) in
    f ∙ ap (λ l. l ++ record_line (Choice train number)) e ∙ ap (λ n. (header ++ lines) ++ record_line (Choice train n)) g
    ∙ append_assoc header lines (choice_line (slice_index plan) train)
    ∙ ap (λ l. header ++ l) (sym (flat_map_numbers_more (choice_line (slice_index plan)) train))

pub plan_written : (plan : List ℕ) (count : ℕ) (before after : List ℕ) → count ≡ length plan
    → before ≡ record_line (Header (length plan)) ++ flat_map (choice_line (slice_index plan)) (numbers count)
    → after ≡ before ++ record_line End → after ≡ plan_text plan
plan_written plan count before after counted e f =
    let header = record_line (Header (length plan)) in
    let lines = flat_map (choice_line (slice_index plan)) (numbers (length plan)) in
    f ∙ ap (λ l. l ++ record_line End) (e ∙ ap (λ n. header ++ flat_map (choice_line (slice_index plan)) (numbers n)) counted)
    ∙ append_assoc header lines (record_line End) ∙ sym (text_is plan)
