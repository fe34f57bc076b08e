-- What a line is read as.
use Rattle.std.proofs.Common.{◌≡◌, ◌≢◌, ℕ, ◌<◌, ◌≤◌, Bool, true, false, cond, nat_eq, nat_lt, List, [], ◌∷◌, ◌++◌, length, None, Some, Option, Result, Ok, Err, refl, sym, ◌∙◌, ap, IsTrue}
use Rattle.std.specs.Prelude.{ℤ, ◌↔◌, IsErrOf, unwrap_or}
use Rattle.std.specs.Option.{option_or}
use borrow.Author.Tests.{le-ltb, lt-ltb, ltb-false, ltb-true}
use Rattle.record_table.specs.declared.kind.Range.{Range}
use Rattle.record_table.specs.declared.read.RecordFault.{RecordFault}
use Rattle.record_table.specs.declared.read.RecordFault.TheVariants.{Word, Shape as WrongShape, Number as WrongNumber}
use Rattle.record_table.specs.Line.{line, is_word, are_in_range}
use Rattle.record_table.specs.Judge.{word_of, answer_for}
use Rattle.record_table.proofs.Records.{exact_answer, word_answer, shape_answer, number_answer}
use Rattle.proof_file.specs.declared.record.ProofRecord.{ProofRecord}
use Rattle.proof_file.specs.declared.fault.LineFault.{LineFault}
use Rattle.proof_file.specs.declared.fault.LineFault.TheVariants.{Shape}
use Rattle.proof_file.specs.Kind.{RecordKind, tree_kinds, number_kinds, table_kinds, kinds_of}
use Rattle.proof_file.specs.Reading.{answer_in, answer_by, line_read}

-- a line is read as the values, the numbers in range
abbrev IsReadAs : ℕ → List ℕ → List Range → List ℕ → List ℤ → Type 0
IsReadAs n word ranges text values = (length values ≡ n) × (text ++ 10 ∷ [] ≡ line word values) × IsTrue (are_in_range ranges values)

-- what the four clauses of a reading say is the answer for the line
pub read_is_answer : (r : Result (List ℤ) RecordFault) (n : ℕ) (word : List ℕ) (ranges : List Range) (text : List ℕ) → IsTrue (is_word word)
    → ((values : List ℤ) → (r ≡ Ok values) ↔ IsReadAs n word ranges text values)
    → (IsErrOf r Word ↔ (word_of text ≢ word))
    → (IsErrOf r WrongShape ↔ ((word_of text ≡ word) × ((values : List ℤ) → length values ≡ n → text ++ 10 ∷ [] ≢ line word values)))
    → (IsErrOf r WrongNumber ↔ ((values : List ℤ) × (length values ≡ n) × (text ++ 10 ∷ [] ≡ line word values) × (are_in_range ranges values ≡ false)))
    → r ≡ answer_for n word ranges text
read_is_answer (Ok values) n word ranges text valid exact wrong shape number =
    sym ((exact_answer n word ranges text (answer_for n word ranges text) valid refl values).1 ((exact values).0 refl))
read_is_answer (Err Word) n word ranges text valid exact wrong shape number =
    sym ((word_answer n word ranges text (answer_for n word ranges text) valid refl).1 (wrong.0 refl))
read_is_answer (Err WrongShape) n word ranges text valid exact wrong shape number =
    sym ((shape_answer n word ranges text (answer_for n word ranges text) valid refl).1 (shape.0 refl))
read_is_answer (Err WrongNumber) n word ranges text valid exact wrong shape number =
    sym ((number_answer n word ranges text (answer_for n word ranges text) valid refl).1 (number.0 refl))

or_assoc : {A : Type 0} (o p q : Option A) → option_or (option_or o p) q ≡ option_or o (option_or p q)
or_assoc None p q = refl
or_assoc (Some x) p q = refl

pub answer_by-append : (kinds more : List RecordKind) (text : List ℕ) → answer_by (kinds ++ more) text ≡ option_or (answer_by kinds text) (answer_by more text)
answer_by-append [] more text = refl
answer_by-append (k ∷ kinds) more text =
    ap (option_or (answer_in k text)) (answer_by-append kinds more text) ∙ sym (or_assoc (answer_in k text) (answer_by kinds text) (answer_by more text))

-- the kinds that a version adds
abbrev more_kinds : ℕ → List RecordKind
more_kinds version = cond (nat_eq version 2) table_kinds []

abbrev first_answer : List ℕ → Option (Result ProofRecord LineFault)
first_answer text = option_or (answer_by tree_kinds text) (answer_by number_kinds text)

answer_is : (version : ℕ) (text : List ℕ) → answer_by (kinds_of version) text ≡ option_or (first_answer text) (answer_by (more_kinds version) text)
answer_is version text =
    answer_by-append (tree_kinds ++ number_kinds) (more_kinds version) text
    ∙ ap (λ o. option_or o (answer_by (more_kinds version) text)) (answer_by-append tree_kinds number_kinds text)

pub long_line : (version : ℕ) (text : List ℕ) → 80 < length text → line_read version text ≡ Err Shape
unfolding line_read
long_line version text h =
    ap (λ b. cond b (Err Shape) (unwrap_or (answer_by (kinds_of version) text) (Err Shape))) (lt-ltb 80 (length text) h)

read_is : (version : ℕ) (text : List ℕ) → length text ≤ 80
    → line_read version text ≡ unwrap_or (option_or (first_answer text) (answer_by (more_kinds version) text)) (Err Shape)
unfolding line_read
read_is version text h =
    ap (λ b. cond b (Err Shape) (unwrap_or (answer_by (kinds_of version) text) (Err Shape))) (le-ltb 80 (length text) h)
    ∙ ap (λ o. unwrap_or o (Err Shape)) (answer_is version text)

-- the answer of each group of kinds
pub tree_answered : (version : ℕ) (text : List ℕ) (answer : Result ProofRecord LineFault) → length text ≤ 80
    → Some answer ≡ answer_by tree_kinds text → answer ≡ line_read version text
tree_answered version text answer h e =
    sym (read_is version text h
    ∙ ap (λ o. unwrap_or (option_or (option_or o (answer_by number_kinds text)) (answer_by (more_kinds version) text)) (Err Shape)) (sym e))

pub number_answered : (version : ℕ) (text : List ℕ) (answer : Result ProofRecord LineFault) → length text ≤ 80
    → None ≡ answer_by tree_kinds text → Some answer ≡ answer_by number_kinds text → answer ≡ line_read version text
number_answered version text answer h e f =
    sym (read_is version text h
    ∙ ap (λ o. unwrap_or (option_or (option_or o (answer_by number_kinds text)) (answer_by (more_kinds version) text)) (Err Shape)) (sym e)
    ∙ ap (λ o. unwrap_or (option_or o (answer_by (more_kinds version) text)) (Err Shape)) (sym f))

pub table_answered : (version : ℕ) (text : List ℕ) (answer : Result ProofRecord LineFault) → length text ≤ 80
    → None ≡ answer_by tree_kinds text → None ≡ answer_by number_kinds text → version ≡ 2
    → Some answer ≡ answer_by table_kinds text → answer ≡ line_read version text
table_answered version text answer h e f g i =
    sym (read_is version text h
    ∙ ap (λ o. unwrap_or (option_or (option_or o (answer_by number_kinds text)) (answer_by (more_kinds version) text)) (Err Shape)) (sym e)
    ∙ ap (λ o. unwrap_or (option_or o (answer_by (more_kinds version) text)) (Err Shape)) (sym f)
    ∙ ap (λ n. unwrap_or (answer_by (more_kinds n) text) (Err Shape)) g
    ∙ ap (λ o. unwrap_or o (Err Shape)) (sym i))

-- a record of version 1 is the same in each version
pub read_again : (version : ℕ) (text : List ℕ) (r : ProofRecord) → line_read 1 text ≡ Ok r → line_read version text ≡ Ok r
read_again version text r e = by_length (nat_lt 80 (length text)) refl
  where
    by_answer : (o p : Option (Result ProofRecord LineFault)) → unwrap_or (option_or o None) (Err Shape) ≡ Ok r → unwrap_or (option_or o p) (Err Shape) ≡ Ok r
    by_answer None p f = absurd (cc f)
    by_answer (Some x) p f = f

    by_length : (b : Bool) → nat_lt 80 (length text) ≡ b → line_read version text ≡ Ok r
    by_length true f =
        let long : line_read 1 text ≡ Err Shape = long_line 1 text (ltb-true 80 (length text) f) in
        absurd (cc (long, e))
    by_length false f =
        read_is version text (ltb-false 80 (length text) f)
        ∙ by_answer (first_answer text) (answer_by (more_kinds version) text) (sym (read_is 1 text (ltb-false 80 (length text) f)) ∙ e)
