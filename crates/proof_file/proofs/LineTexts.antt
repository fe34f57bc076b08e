-- A record's line is that of no other record, whatever stands behind it.
use Rattle.std.proofs.Common.{◌≡◌, ℕ, suc, ◌+◌, Bool, true, false, cond, nat_eq, ◌||◌, ◌&&◌, List, [], ◌∷◌, ◌++◌, length, map, Some, Ok, Err, refl, sym, ◌∙◌, ap, arith, append_assoc, length-append, IsTrue}
use Rattle.std.specs.Prelude.{ℤ, pos, negsuc, flat_map}
use Rattle.std.specs.List.{list_any}
use Rattle.std.specs.Int.Digits.{digits_of}
use Rattle.std.specs.Str.{bytes_eq}
use Rattle.std.proofs.lemmas.Int.{ints}
use Rattle.std.proofs.lemmas.Bool.Decides.{nat_tests}
use Rattle.std.proofs.lemmas.List.{append_cancel_left}
use Rattle.std.proofs.lemmas.Slice.Eq.{bytes_eq-Decides}
use Rattle.record_table.specs.declared.kind.Range.{Range}
use Rattle.record_table.specs.declared.read.RecordFault.TheVariants.{Word}
use Rattle.record_table.specs.Line.{natural, field, is_word, is_in_range, are_in_range}
use Rattle.record_table.specs.Judge.{word_of, rest_of, judged, answer_for}
use Rattle.record_table.specs.Reading.{fields_at}
use Rattle.record_table.proofs.Records.{exact_answer}
use Rattle.record_table.proofs.Numbers.{fields_complete}
use Rattle.proof_file.specs.declared.record.ProofRecord.{ProofRecord}
use Rattle.proof_file.specs.declared.record.ProofRecord.TheVariants.{Head, Table, Ta, Tb, Split, Leaf, U, V, A, B, Use, Close, End, Nothing}
use Rattle.proof_file.specs.Kind.{RecordKind, range, kinds_of, kind_of, values_of, line_of, none_kind}
use Rattle.proof_file.specs.Text.{text_of}
use Rattle.proof_file.specs.Reading.{is_newline, lines_in}
use Rattle.proof_file.proofs.CutLemmas.{IsPlain, plain_append, lines_ended}

-- a record's line without its newline
abbrev pub body : ProofRecord → List ℕ
body r = (kind_of r).word ++ flat_map field (values_of r)

pub line_is : (r : ProofRecord) → line_of r ≡ body r ++ 10 ∷ []
unfolding line_of
line_is r = refl

pub line_and : (r : ProofRecord) (more : List ℕ) → line_of r ++ more ≡ body r ++ 10 ∷ more
line_and r more = ap (λ l. l ++ more) (line_is r) ∙ append_assoc (body r) (10 ∷ []) more

-- there is no newline in it
digit_plain : (d : ℕ) → is_newline (48 + d) ≡ false
digit_plain d = grind (arith, nat_tests)

digits_plain : (ds : List ℕ) → IsPlain (map (λ d. 48 + d) ds)
digits_plain [] = refl
digits_plain (d ∷ ds) = ap (λ b. b || list_any is_newline (map (λ n. 48 + n) ds)) (digit_plain d) ∙ digits_plain ds

natural_plain : (n : ℕ) → IsPlain (natural n)
unfolding natural
natural_plain n =
    elim (nat_eq n 0) as (λ b. IsPlain (cond b (48 ∷ []) (map (λ d. 48 + d) (digits_of 10 n)))) [
      | true ↦ refl
      | false ↦ digits_plain (digits_of 10 n)
    ]

field_plain : (z : ℤ) → IsPlain (field z)
field_plain (pos n) = natural_plain n
field_plain (negsuc n) = natural_plain (suc n)

fields_plain : (values : List ℤ) → IsPlain (flat_map field values)
fields_plain [] = refl
fields_plain (z ∷ values) = plain_append (field z) (flat_map field values) (field_plain z) (fields_plain values)

word_plain : (r : ProofRecord) → IsPlain (kind_of r).word
word_plain (Head x) = refl
word_plain (Table x) = refl
word_plain (Ta x) = refl
word_plain (Tb x) = refl
word_plain (Split x) = refl
word_plain (Leaf q) = refl
word_plain (U x) = refl
word_plain (V x) = refl
word_plain (A x) = refl
word_plain (B x) = refl
word_plain (Use x) = refl
word_plain Close = refl
word_plain (End bound) = refl
word_plain Nothing = refl

pub body_plain : (r : ProofRecord) → IsPlain (body r)
body_plain r = plain_append (kind_of r).word (flat_map field (values_of r)) (word_plain r) (fields_plain (values_of r))

pub word_valid : (r : ProofRecord) → IsTrue (is_word (kind_of r).word)
word_valid (Head x) = refl
word_valid (Table x) = refl
word_valid (Ta x) = refl
word_valid (Tb x) = refl
word_valid (Split x) = refl
word_valid (Leaf q) = refl
word_valid (U x) = refl
word_valid (V x) = refl
word_valid (A x) = refl
word_valid (B x) = refl
word_valid (Use x) = refl
word_valid Close = refl
word_valid (End bound) = refl
word_valid Nothing = refl

-- as many numbers as ranges
pub count_is : (r : ProofRecord) → length (values_of r) ≡ length (kind_of r).ranges
count_is (Head x) = refl
count_is (Table x) = refl
count_is (Ta x) = refl
count_is (Tb x) = refl
count_is (Split x) = refl
count_is (Leaf q) = refl
count_is (U x) = refl
count_is (V x) = refl
count_is (A x) = refl
count_is (B x) = refl
count_is (Use x) = refl
count_is Close = refl
count_is (End bound) = refl
count_is Nothing = refl

-- the record is made of its numbers
pub made_again : (r : ProofRecord) → (kind_of r).make (values_of r) ≡ r
made_again (Head x) = refl
made_again (Table x) = refl
made_again (Ta x) = refl
made_again (Tb x) = refl
made_again (Split x) = refl
made_again (Leaf q) = refl
made_again (U x) = refl
made_again (V x) = refl
made_again (A x) = refl
made_again (B x) = refl
made_again (Use x) = refl
made_again Close = refl
made_again (End bound) = refl
made_again Nothing = refl

-- the kind that has this word
first_kind : List RecordKind → List ℕ → RecordKind
first_kind [] word = none_kind
first_kind (k ∷ kinds) word = cond (bytes_eq k.word word) k (first_kind kinds word)

kind_found : (r : ProofRecord) → first_kind (kinds_of 2) (kind_of r).word ≡ kind_of r
unfolding first_kind
kind_found (Head x) = refl
kind_found (Table x) = refl
kind_found (Ta x) = refl
kind_found (Tb x) = refl
kind_found (Split x) = refl
kind_found (Leaf q) = refl
kind_found (U x) = refl
kind_found (V x) = refl
kind_found (A x) = refl
kind_found (B x) = refl
kind_found (Use x) = refl
kind_found Close = refl
kind_found (End bound) = refl
kind_found Nothing = refl

-- the word stands in front of the first space
points : List ℤ → List Range
points [] = []
points (z ∷ values) = range z z ∷ points values

at_point : (z : ℤ) → is_in_range (range z z) z ≡ true
at_point z = grind (arith, ints, nat_tests)

in_points : (values : List ℤ) → are_in_range (points values) values ≡ true
unfolding points
in_points [] = refl
in_points (z ∷ values) = ap (λ b. b && are_in_range (points values) values) (at_point z) ∙ in_points values

word_read : (n : ℕ) (word : List ℕ) (ranges : List Range) (text : List ℕ) (values : List ℤ) → answer_for n word ranges text ≡ Ok values → word_of text ≡ word
word_read n word ranges text values e = by_test (bytes_eq (word_of text) word) refl e
  where
    by_test : (b : Bool) → bytes_eq (word_of text) word ≡ b → cond b (judged ranges (fields_at n (rest_of text))) (Err Word) ≡ Ok values → word_of text ≡ word
    by_test true f g = (bytes_eq-Decides (word_of text) word).0 f
    by_test false f g = absurd (cc g)

pub word_there : (r : ProofRecord) → word_of (body r) ≡ (kind_of r).word
word_there r =
    let n = length (values_of r) in
    let ranges = points (values_of r) in
    let answer = answer_for n (kind_of r).word ranges (body r) in
    word_read n (kind_of r).word ranges (body r) (values_of r)
    ((exact_answer n (kind_of r).word ranges (body r) answer (word_valid r) refl (values_of r)).1 (refl, refl, in_points (values_of r)))

same_values : (vs ws : List ℤ) → length vs ≡ length ws → flat_map field vs ≡ flat_map field ws → vs ≡ ws
same_values vs ws n e =
    let read : Some vs ≡ Some ws =
    sym (fields_complete vs) ∙ ap (λ l. fields_at (length vs) l) e ∙ ap (λ k. fields_at k (flat_map field ws)) n ∙ fields_complete ws in
    cc

pub same_record : (r s : ProofRecord) → body r ≡ body s → r ≡ s
same_record r s e =
    let word : (kind_of r).word ≡ (kind_of s).word = sym (word_there r) ∙ ap word_of e ∙ word_there s in
    let kind : kind_of r ≡ kind_of s = sym (kind_found r) ∙ ap (first_kind (kinds_of 2)) word ∙ kind_found s in
    let fields : flat_map field (values_of r) ≡ flat_map field (values_of s) =
    append_cancel_left (kind_of r).word (flat_map field (values_of r)) (flat_map field (values_of s))
    (e ∙ ap (λ w. w ++ flat_map field (values_of s)) (sym word)) in
    let count : length (values_of r) ≡ length (values_of s) = count_is r ∙ ap (λ (k : RecordKind). length k.ranges) kind ∙ sym (count_is s) in
    let values = same_values (values_of r) (values_of s) count fields in
    sym (made_again r) ∙ ap (λ (k : RecordKind). k.make (values_of r)) kind ∙ ap (kind_of s).make values ∙ made_again s

first_of_lines : (text other : List ℕ) (lines more : List (List ℕ)) → text ∷ lines ≡ other ∷ more → text ≡ other
first_of_lines text other lines more e = cc

pub record IsSameStart (r s : ProofRecord) (more other : List ℕ) : Type 0 where
  pub same : r ≡ s
  pub rest : more ≡ other

pub lines_same : (r s : ProofRecord) (more other : List ℕ) → line_of r ++ more ≡ line_of s ++ other → IsSameStart r s more other
lines_same r s more other e =
    let whole : body r ++ 10 ∷ more ≡ body s ++ 10 ∷ other = sym (line_and r more) ∙ e ∙ line_and s other in
    let bodies = first_of_lines (body r) (body s) (lines_in more) (lines_in other)
    (sym (lines_ended (body r) more (body_plain r)) ∙ ap lines_in whole ∙ lines_ended (body s) other (body_plain s)) in
    let same = same_record r s bodies in
    record { same = same; rest = append_cancel_left (line_of r) more other (e ∙ ap (λ t. line_of t ++ other) (sym same)) }

some_line : (r : ProofRecord) (more : List ℕ) → line_of r ++ more ≡ [] → ⊥
some_line r more e =
    let none = ap length (sym (line_and r more) ∙ e) in
    absurd (omega (arith, none, length-append (body r) (10 ∷ more)))

-- Equal texts are those of the same records.
pub texts_same : (records others : List ProofRecord) → text_of records ≡ text_of others → records ≡ others
texts_same [] [] e = refl
texts_same [] (s ∷ others) e = absurd (some_line s (text_of others) (sym e))
texts_same (r ∷ records) [] e = absurd (some_line r (text_of records) e)
texts_same (r ∷ records) (s ∷ others) e =
    let start = lines_same r s (text_of records) (text_of others) e in
    let same = start.same in
    let rest = texts_same records others start.rest in
    ap (λ t. t ∷ records) same ∙ ap (λ l. s ∷ l) rest
