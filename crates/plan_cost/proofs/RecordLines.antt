-- The lines of a plan file's records: how they are told apart, and what stands behind them.
use Rattle.std.proofs.Common.{◌≡◌, ℕ, suc, ◌+◌, ◌-◌, ◌<◌, ◌≤◌, ◌^◌, Bool, true, false, cond, not, nat_eq, nat_lt, nat_le, ◌&&◌, List, [], ◌∷◌, ◌++◌, map, length, take, drop, get_or, None, Some, Option, Result, Ok, Err, refl, sym, ◌∙◌, ap, subst, arith, append_assoc, length-append, IsTrue}
use Rattle.std.specs.Prelude.{ℤ, pos, negsuc, codes, flat_map, ◌↔◌, ◌≢◌, IsErrOf, unsigned_abs, option_map}
use Rattle.std.specs.Option.{ok_or}
use Rattle.std.specs.Result.{result_ok}
use Rattle.std.specs.List.{list_all, before_first, after_first, position_or_len}
use Rattle.std.specs.Int.Digits.{digits_of}
use Rattle.std.proofs.lemmas.Bool.Decides.{nat_tests}
use Rattle.std.proofs.lemmas.List.{take_at, drop_at, length-map, append_cancel_left}
use Rattle.std.proofs.lemmas.List.Folds.{list_all-append}
use Rattle.std.proofs.lemmas.List.Sums.{split_at_first, prefix_len_stops, prefix_len_is}
use Rattle.std.proofs.lemmas.Int.Digits.{length-digits_of-le}
use Rattle.record_table.specs.declared.kind.Range.{Range}
use Rattle.record_table.specs.declared.read.RecordFault.{RecordFault}
use Rattle.record_table.specs.declared.read.RecordFault.TheVariants.{Word, Shape, Number}
use Rattle.record_table.specs.Line.{natural, field, line, is_word, is_in_range, are_in_range}
use Rattle.record_table.specs.Judge.{word_of, answer_for}
use Rattle.record_table.specs.Reading.{fields_at}
use Rattle.record_table.proofs.Records.{exact_answer, word_answer, shape_answer, number_answer}
use Rattle.record_table.proofs.Numbers.{fields_complete}
use Rattle.plan_cost.specs.declared.record.PlanRecord.{PlanRecord}
use Rattle.plan_cost.specs.declared.record.PlanRecord.TheVariants.{Header, Choice, End}
use Rattle.plan_cost.specs.declared.refusal.PlanKind.{PlanKind}
use Rattle.plan_cost.specs.declared.refusal.PlanKind.TheVariants.{Record, Short}
use Rattle.plan_cost.specs.First.{or_else}
use Rattle.plan_cost.specs.PlanText.{record_line, IsRecord}
use Rattle.plan_cost.specs.PlanLine.{range, header_ranges, choice_ranges, values_in, value_at, header_of, choice_of, record_in, is_newline, line_length, line_in, after_line, record_at}

-- a line is read as the values, the numbers in range
abbrev IsReadAs : ℕ → List ℕ → List Range → List ℕ → List ℤ → Type 0
IsReadAs n word ranges text values = (length values ≡ n) × (text ++ 10 ∷ [] ≡ line word values) × IsTrue (are_in_range ranges values)

-- what the four clauses of a reading say is the answer for the line
pub read_is_answer : (r : Result (List ℤ) RecordFault) (n : ℕ) (word : List ℕ) (ranges : List Range) (text : List ℕ) → IsTrue (is_word word)
    → ((values : List ℤ) → (r ≡ Ok values) ↔ IsReadAs n word ranges text values)
    → (IsErrOf r Word ↔ (word_of text ≢ word))
    → (IsErrOf r Shape ↔ ((word_of text ≡ word) × ((values : List ℤ) → length values ≡ n → text ++ 10 ∷ [] ≢ line word values)))
    → (IsErrOf r Number ↔ ((values : List ℤ) × (length values ≡ n) × (text ++ 10 ∷ [] ≡ line word values) × (are_in_range ranges values ≡ false)))
    → r ≡ answer_for n word ranges text
read_is_answer (Ok values) n word ranges text valid exact wrong shape number =
    sym ((exact_answer n word ranges text (answer_for n word ranges text) valid refl values).1 ((exact values).0 refl))
read_is_answer (Err Word) n word ranges text valid exact wrong shape number =
    sym ((word_answer n word ranges text (answer_for n word ranges text) valid refl).1 (wrong.0 refl))
read_is_answer (Err Shape) n word ranges text valid exact wrong shape number =
    sym ((shape_answer n word ranges text (answer_for n word ranges text) valid refl).1 (shape.0 refl))
read_is_answer (Err Number) n word ranges text valid exact wrong shape number =
    sym ((number_answer n word ranges text (answer_for n word ranges text) valid refl).1 (number.0 refl))

-- a byte that is no newline
abbrev is_plain : ℕ → Bool
is_plain byte = not (is_newline byte)

and_parts : (a b : Bool) → (a && b) ≡ true → (a ≡ true) × (b ≡ true)
and_parts true true e = (refl, refl)
and_parts true false e = absurd (cc e)
and_parts false b e = absurd (cc e)

digit_plain : (d : ℕ) → not (nat_eq (48 + d) 10) ≡ true
digit_plain d = grind (arith, nat_tests)

digits_plain : (ds : List ℕ) → list_all is_plain (map (λ d. 48 + d) ds) ≡ true
digits_plain [] = refl
digits_plain (d ∷ ds) = rw (digit_plain d, digits_plain ds) refl

natural_plain : (n : ℕ) → list_all is_plain (natural n) ≡ true
unfolding natural
natural_plain n =
    elim (nat_eq n 0) as (λ b. list_all is_plain (cond b (48 ∷ []) (map (λ d. 48 + d) (digits_of 10 n))) ≡ true) [
      | true ↦ refl
      | false ↦ digits_plain (digits_of 10 n)
    ]

natural_short : (n : ℕ) → n < 10000 → length (natural n) ≤ 4
unfolding natural
natural_short n h =
    elim (nat_eq n 0) as (λ b. length (cond b (48 ∷ []) (map (λ d. 48 + d) (digits_of 10 n))) ≤ 4) [
      | true ↦ omega arith
      | false ↦ omega (arith, length-map (digits_of 10 n) (λ d. 48 + d), length-digits_of-le 10 4 n (omega arith) (omega arith))
    ]

-- the numbers of a record, and its line without the newline
abbrev word_for : PlanRecord → List ℕ
word_for (Header trains) = codes "tpp-plan"
word_for (Choice train number) = codes "choice"
word_for End = codes "end"

abbrev values_for : PlanRecord → List ℤ
values_for (Header trains) = pos 1 ∷ pos trains ∷ []
values_for (Choice train number) = pos train ∷ pos number ∷ []
values_for End = []

abbrev pub body : PlanRecord → List ℕ
body r = word_for r ++ flat_map field (values_for r)

line_is : (r : PlanRecord) → record_line r ≡ body r ++ 10 ∷ []
line_is (Header trains) = refl
line_is (Choice train number) = refl
line_is End = refl

two_plain : (word : List ℕ) (a b : ℕ) → list_all is_plain word ≡ true → list_all is_plain (word ++ flat_map field (pos a ∷ pos b ∷ [])) ≡ true
two_plain word a b e =
    list_all-append is_plain word (flat_map field (pos a ∷ pos b ∷ []))
    ∙ ap (λ t. t && list_all is_plain (flat_map field (pos a ∷ pos b ∷ []))) e
    ∙ list_all-append is_plain (32 ∷ natural a) (flat_map field (pos b ∷ []))
    ∙ ap (λ t. t && list_all is_plain (flat_map field (pos b ∷ []))) (natural_plain a)
    ∙ list_all-append is_plain (32 ∷ natural b) []
    ∙ ap (λ t. t && true) (natural_plain b)

body_plain : (r : PlanRecord) → list_all is_plain (body r) ≡ true
body_plain (Header trains) = two_plain (codes "tpp-plan") 1 trains refl
body_plain (Choice train number) = two_plain (codes "choice") train number refl
body_plain End = refl

two_short : (word : List ℕ) (a b : ℕ) → length word ≤ 10 → a < 10000 → b < 10000 → length (word ++ flat_map field (pos a ∷ pos b ∷ [])) ≤ 80
two_short word a b h i j =
    omega (arith, length-append word (flat_map field (pos a ∷ pos b ∷ [])), length-append (32 ∷ natural a) (flat_map field (pos b ∷ [])), length-append (32 ∷ natural b) [], natural_short a i, natural_short b j)

body_short : (r : PlanRecord) → IsRecord r → length (body r) ≤ 80
body_short (Header trains) h = two_short (codes "tpp-plan") 1 trains (omega arith) (omega arith) (omega (arith, h))
body_short (Choice train number) h = two_short (codes "choice") train number (omega arith) (omega (arith, h.0)) (omega (arith, h.1))
body_short End h = omega arith

-- the first line of bytes with no newline, a newline, and more
plain_length : (xs more : List ℕ) → list_all is_plain xs ≡ true → line_length (xs ++ 10 ∷ more) ≡ length xs
plain_length [] more e = refl
plain_length (x ∷ xs) more e =
    let parts = and_parts (is_plain x) (list_all is_plain xs) e in
    let rest = plain_length xs more parts.1 in
    ap (λ b. cond b (1 + line_length (xs ++ 10 ∷ more)) 0) parts.0 ∙ omega (arith, rest)

plain_line : (xs more : List ℕ) → list_all is_plain xs ≡ true → line_in (xs ++ 10 ∷ more) ≡ xs
plain_line xs more e = take_at xs (10 ∷ more) (line_length (xs ++ 10 ∷ more)) (sym (plain_length xs more e))

plain_after : (xs more : List ℕ) → list_all is_plain xs ≡ true → after_line (xs ++ 10 ∷ more) ≡ more
plain_after xs more e =
    ap (λ l. drop (line_length (xs ++ 10 ∷ more) + 1) l) (sym (append_assoc xs (10 ∷ []) more))
    ∙ drop_at (xs ++ 10 ∷ []) more (line_length (xs ++ 10 ∷ more) + 1) (omega (arith, length-append xs (10 ∷ []), plain_length xs more e))

newline : (b : ℕ) → b ≡ 10 → is_plain b ≡ false
newline b e = grind (arith, nat_tests)

no_newline : (b : ℕ) → b ≢ 10 → is_plain b ≡ true
no_newline b e = grind (arith, nat_tests)

-- the line ends at the first newline, or at the end
pub line_length_is : (bytes : List ℕ) (end : ℕ) → end ≤ length bytes → ((k : ℕ) → k < end → get_or bytes k 0 ≢ 10)
    → (end < length bytes → get_or bytes end 0 ≡ 10) → end ≡ line_length bytes
line_length_is bytes end within before at =
    sym (prefix_len_is is_plain bytes end 0 within (λ k h. no_newline (get_or bytes k 0) (before k h)) (λ h. newline (get_or bytes end 0) (at h)))

-- a record's line and more
line_and : (r : PlanRecord) (more : List ℕ) → record_line r ++ more ≡ body r ++ 10 ∷ more
line_and r more = ap (λ l. l ++ more) (line_is r) ∙ append_assoc (body r) (10 ∷ []) more

pub after_record : (r : PlanRecord) (more : List ℕ) → after_line (record_line r ++ more) ≡ more
after_record r more = ap after_line (line_and r more) ∙ plain_after (body r) more (body_plain r)

-- the bodies and the rest are equal where the whole is
pub bodies_equal : (r s : PlanRecord) (more other : List ℕ) → record_line r ++ more ≡ record_line s ++ other → (body r ≡ body s) × (more ≡ other)
bodies_equal r s more other e =
    let same : body r ++ 10 ∷ more ≡ body s ++ 10 ∷ other = sym (line_and r more) ∙ e ∙ line_and s other in (
      sym (plain_line (body r) more (body_plain r)) ∙ ap line_in same ∙ plain_line (body s) other (body_plain s),
      sym (plain_after (body r) more (body_plain r)) ∙ ap after_line same ∙ plain_after (body s) other (body_plain s),
    )

values_equal : (word : List ℕ) (vs ws : List ℤ) → length vs ≡ length ws → word ++ flat_map field vs ≡ word ++ flat_map field ws → vs ≡ ws
values_equal word vs ws n e =
    let same : flat_map field vs ≡ flat_map field ws = append_cancel_left word (flat_map field vs) (flat_map field ws) e in
    let read : Some vs ≡ Some ws = sym (fields_complete vs) ∙ ap (λ l. fields_at (length vs) l) same ∙ ap (λ k. fields_at k (flat_map field ws)) n ∙ fields_complete ws in
    cc

pub same_headers : (m n : ℕ) → body (Header m) ≡ body (Header n) → m ≡ n
same_headers m n e =
    let same : (pos 1 ∷ pos m ∷ []) ≡ (pos 1 ∷ pos n ∷ []) = values_equal (codes "tpp-plan") (pos 1 ∷ pos m ∷ []) (pos 1 ∷ pos n ∷ []) refl e in cc

pub same_choices : (t m n : ℕ) → body (Choice t m) ≡ body (Choice t n) → m ≡ n
same_choices t m n e =
    let same : (pos t ∷ pos m ∷ []) ≡ (pos t ∷ pos n ∷ []) = values_equal (codes "choice") (pos t ∷ pos m ∷ []) (pos t ∷ pos n ∷ []) refl e in cc

-- numbers in range
in_header : (n : ℕ) → n ≤ 200 → are_in_range header_ranges (pos 1 ∷ pos n ∷ []) ≡ true
in_header n h = grind (arith, nat_tests)

in_choice : (t n : ℕ) → t ≤ 199 → n ≤ 4095 → are_in_range choice_ranges (pos t ∷ pos n ∷ []) ≡ true
in_choice t n h i = grind (arith, nat_tests)

-- a record's line without its newline is read as the record
read_header : (n : ℕ) → n ≤ 200 → record_in (body (Header n)) ≡ Some (Header n)
unfolding record_in
read_header n h =
    let text = body (Header n) in
    let read = (exact_answer 2 (codes "tpp-plan") header_ranges text (answer_for 2 (codes "tpp-plan") header_ranges text) refl refl (pos 1 ∷ pos n ∷ [])).1 (refl, refl, in_header n h) in
    ap (λ a. or_else (option_map header_of (result_ok a)) (or_else (option_map choice_of (values_in 2 (codes "choice") choice_ranges text)) (option_map (λ values. End) (values_in 0 (codes "end") [] text)))) read

read_choice : (t n : ℕ) → t ≤ 199 → n ≤ 4095 → record_in (body (Choice t n)) ≡ Some (Choice t n)
unfolding record_in
read_choice t n h i =
    let text = body (Choice t n) in
    let read = (exact_answer 2 (codes "choice") choice_ranges text (answer_for 2 (codes "choice") choice_ranges text) refl refl (pos t ∷ pos n ∷ [])).1 (refl, refl, in_choice t n h i) in
    ap (λ a. or_else (option_map choice_of (result_ok a)) (option_map (λ values. End) (values_in 0 (codes "end") [] text))) read

read_body : (r : PlanRecord) → IsRecord r → record_in (body r) ≡ Some r
read_body (Header trains) h = read_header trains h
read_body (Choice train number) h = read_choice train number h.0 h.1
read_body End h = unfold record_in in refl

at_line : (b c : Bool) (o : Option PlanRecord) (r : PlanRecord) → b ≡ false → c ≡ true → o ≡ Some r
    → cond b (Err Record) (cond c (ok_or o Record) (Err Short)) ≡ Ok r
at_line b c o r e f g = rw (e, f, g) refl

-- the bytes begin with the record where its line stands in front
pub record_there : (r : PlanRecord) (more : List ℕ) → IsRecord r → record_at (record_line r ++ more) ≡ Ok r
unfolding record_at
record_there r more h =
    let text = body r ++ 10 ∷ more in
    let long = plain_length (body r) more (body_plain r) in
    let short : nat_lt 80 (line_length text) ≡ false = not_less (line_length text) (omega (arith, long, body_short r h)) in
    let ended : nat_lt (line_length text) (length text) ≡ true = less (line_length text) (length text) (omega (arith, long, length-append (body r) (10 ∷ more))) in
    let read : record_in (line_in text) ≡ Some r = ap record_in (plain_line (body r) more (body_plain r)) ∙ read_body r h in
    ap record_at (line_and r more)
    ∙ at_line (nat_lt 80 (line_length text)) (nat_lt (line_length text) (length text)) (record_in (line_in text)) r short ended read
  where
    less : (m n : ℕ) → m < n → nat_lt m n ≡ true
    less m n l = grind (arith, nat_tests)

    not_less : (m : ℕ) → m ≤ 80 → nat_lt 80 m ≡ false
    not_less m l = grind (arith, nat_tests)

-- a whole number in a range of natural numbers is one of them
between : (least most : ℕ) (z : ℤ) → is_in_range (range least most) z ≡ true
    → (z ≡ pos (unsigned_abs z)) × (least ≤ unsigned_abs z) × (unsigned_abs z ≤ most)
between least most (pos m) e = (refl, grind (arith, nat_tests), grind (arith, nat_tests))
between least most (negsuc m) e = absurd (cc e)

and_false : (b : Bool) → (b && false) ≡ true → ⊥
and_false true e = cc e
and_false false e = cc e

-- two numbers in two ranges
two_values : (r s : Range) (values : List ℤ) → are_in_range (r ∷ s ∷ []) values ≡ true
    → (values ≡ get_or values 0 (pos 0) ∷ get_or values 1 (pos 0) ∷ []) × (is_in_range r (get_or values 0 (pos 0)) ≡ true) × (is_in_range s (get_or values 1 (pos 0)) ≡ true)
two_values r s [] e = absurd (cc e)
two_values r s (a ∷ []) e = absurd (and_false (is_in_range r a) e)
two_values r s (a ∷ b ∷ []) e =
    let parts = and_parts (is_in_range r a) (is_in_range s b && true) e in
    (refl, parts.0, (and_parts (is_in_range s b) true parts.1).0)
two_values r s (a ∷ b ∷ c ∷ rest) e =
    let parts = and_parts (is_in_range r a) (is_in_range s b && false) e in
    absurd (and_false (is_in_range s b) parts.1)

pub header_values : (values : List ℤ) → are_in_range header_ranges values ≡ true
    → (values ≡ pos 1 ∷ pos (value_at values 1) ∷ []) × (value_at values 1 ≤ 200)
header_values values e =
    let two = two_values (range 1 1) (range 0 200) values e in
    let version = between 1 1 (get_or values 0 (pos 0)) two.1 in
    let trains = between 0 200 (get_or values 1 (pos 0)) two.2 in
    let one : value_at values 0 ≡ 1 = omega (arith, version.1, version.2) in
    (two.0 ∙ ap (λ z. z ∷ get_or values 1 (pos 0) ∷ []) (version.0 ∙ ap pos one) ∙ ap (λ z. pos 1 ∷ z ∷ []) trains.0, trains.2)

pub choice_values : (values : List ℤ) → are_in_range choice_ranges values ≡ true
    → (values ≡ pos (value_at values 0) ∷ pos (value_at values 1) ∷ []) × (value_at values 0 ≤ 199) × (value_at values 1 ≤ 4095)
choice_values values e =
    let two = two_values (range 0 199) (range 0 4095) values e in
    let train = between 0 199 (get_or values 0 (pos 0)) two.1 in
    let number = between 0 4095 (get_or values 1 (pos 0)) two.2 in
    (two.0 ∙ ap (λ z. z ∷ get_or values 1 (pos 0) ∷ []) train.0 ∙ ap (λ z. pos (value_at values 0) ∷ z ∷ []) number.0, train.2, number.2)

no_values : (values : List ℤ) → are_in_range [] values ≡ true → values ≡ []
no_values [] e = refl
no_values (a ∷ rest) e = absurd (cc e)

was_ok : {V F : Type 0} (a : Result V F) (v : V) → result_ok a ≡ Some v → a ≡ Ok v
was_ok (Ok w) v e = cc
was_ok (Err f) v e = absurd (cc e)

-- what was read of a line is its numbers
read_of : (n : ℕ) (word : List ℕ) (ranges : List Range) (text : List ℕ) (values : List ℤ) → IsTrue (is_word word)
    → values_in n word ranges text ≡ Some values → IsReadAs n word ranges text values
read_of n word ranges text values valid e =
    let a = answer_for n word ranges text in
    (exact_answer n word ranges text a valid refl values).0 (was_ok a values e)

-- a record that is read of a line has that line
abbrev IsLineOf : List ℕ → PlanRecord → Type 0
IsLineOf text r = (text ++ 10 ∷ [] ≡ record_line r) × IsRecord r

pub record_read : (text : List ℕ) (r : PlanRecord) → record_in text ≡ Some r → IsLineOf text r
unfolding record_in
record_read text r e =
    by_kind (values_in 2 (codes "tpp-plan") header_ranges text) refl (values_in 2 (codes "choice") choice_ranges text) refl (values_in 0 (codes "end") [] text) refl e
  where
    by_kind : (o : Option (List ℤ)) → values_in 2 (codes "tpp-plan") header_ranges text ≡ o
        → (p : Option (List ℤ)) → values_in 2 (codes "choice") choice_ranges text ≡ p
        → (q : Option (List ℤ)) → values_in 0 (codes "end") [] text ≡ q
        → or_else (option_map header_of o) (or_else (option_map choice_of p) (option_map (λ values. End) q)) ≡ Some r → IsLineOf text r
    by_kind (Some values) f p g q h e =
        let read = read_of 2 (codes "tpp-plan") header_ranges text values refl f in
        let known = header_values values read.2 in
        let same : header_of values ≡ r = cc in
        subst (IsLineOf text) same (read.1 ∙ ap (line (codes "tpp-plan")) known.0, known.1)
    by_kind None f (Some values) g q h e =
        let read = read_of 2 (codes "choice") choice_ranges text values refl g in
        let known = choice_values values read.2 in
        let same : choice_of values ≡ r = cc in
        subst (IsLineOf text) same (read.1 ∙ ap (line (codes "choice")) known.0, (known.1, known.2))
    by_kind None f None g (Some values) h e =
        let read = read_of 0 (codes "end") [] text values refl h in
        let same : End ≡ r = cc in
        subst (IsLineOf text) same (read.1 ∙ ap (line (codes "end")) (no_values values read.2), tt)
    by_kind None f None g None h e = absurd (cc e)

tests_of : (b c : Bool) (o : Option PlanRecord) (r : PlanRecord) → cond b (Err Record) (cond c (ok_or o Record) (Err Short)) ≡ Ok r
    → (c ≡ true) × (o ≡ Some r)
tests_of true c o r e = absurd (cc e)
tests_of false true None r e = absurd (cc e)
tests_of false true (Some s) r e = (refl, cc)
tests_of false false o r e = absurd (cc e)

is_ten : (b : ℕ) → not (is_newline b) ≡ false → b ≡ 10
is_ten b e = grind (arith, nat_tests)

-- where the bytes begin with a record, its line stands in front
pub there_is_line : (bytes : List ℕ) (r : PlanRecord) → record_at bytes ≡ Ok r
    → (bytes ≡ record_line r ++ after_line bytes) × IsRecord r
unfolding record_at
there_is_line bytes r e =
    let tests = tests_of (nat_lt 80 (line_length bytes)) (nat_lt (line_length bytes) (length bytes)) (record_in (line_in bytes)) r e in
    let ended : line_length bytes < length bytes = less (line_length bytes) (length bytes) tests.0 in
    let read = record_read (line_in bytes) r tests.1 in
    let ten : get_or bytes (line_length bytes) 0 ≡ 10 = is_ten (get_or bytes (line_length bytes) 0) (prefix_len_stops is_plain bytes 0 ended) in (
      split_at_first is_newline bytes 0 ended ∙ ap (λ b. line_in bytes ++ b ∷ after_line bytes) ten
          ∙ sym (append_assoc (line_in bytes) (10 ∷ []) (after_line bytes)) ∙ ap (λ l. l ++ after_line bytes) read.0,
      read.1,
    )
  where
    less : (m n : ℕ) → nat_lt m n ≡ true → m < n
    less m n l = grind (arith, nat_tests)
