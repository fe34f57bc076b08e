-- A line is read as a record exactly where it is the record's line.
use Rattle.std.proofs.Common.{◌≡◌, ℕ, ◌≤◌, Bool, true, false, cond, nat_eq, nat_lt, List, [], ◌∷◌, ◌++◌, length, None, Some, Option, Result, Ok, Err, refl, sym, ◌∙◌, ap, subst, IsTrue}
use Rattle.std.specs.Prelude.{ℤ, pos, negsuc, unsigned_abs, unwrap_or}
use Rattle.std.specs.Option.{option_or, option_map}
use Rattle.std.specs.Str.{bytes_eq}
use Rattle.std.proofs.lemmas.List.{append_cancel_right}
use borrow.Author.Tests.{eqb-true, le-ltb}
use Rattle.record_table.specs.declared.kind.Range.{Range}
use Rattle.record_table.specs.declared.read.RecordFault.{RecordFault}
use Rattle.record_table.specs.declared.read.RecordFault.TheVariants.{Word, Shape as WrongShape, Number as WrongNumber}
use Rattle.record_table.specs.Line.{line, is_word, is_in_range as in_range, are_in_range}
use Rattle.record_table.specs.Judge.{word_of, rest_of, judged, answer_for}
use Rattle.record_table.specs.Reading.{fields_at}
use Rattle.record_table.proofs.Records.{exact_answer}
use Rattle.proof_file.proofs.TruthLemmas.{and_parts}
use Rattle.proof_file.specs.declared.record.ProofRecord.{ProofRecord}
use Rattle.proof_file.specs.declared.record.ProofRecord.TheVariants.{Head, Table, Ta, Tb, Split, Leaf, U, V, A, B, Use, Close, End, Nothing}
use Rattle.proof_file.specs.declared.fault.LineFault.{LineFault}
use Rattle.proof_file.specs.declared.fault.LineFault.TheVariants.{Shape, Number}
use Rattle.proof_file.specs.Kind.{RecordKind, range, kinds_of, kind_of, is_of_version, values_of, line_of, is_in_range, tree_kinds, number_kinds, table_kinds, head_kind, table_kind, ta_kind, tb_kind, split_kind, leaf_kind, u_kind, v_kind, a_kind, b_kind, use_kind, close_kind, end_kind, none_kind, scales, bounds, minutes, positive_values, signed_values}
use Rattle.proof_file.specs.Reading.{answered, made_of, answer_in, answer_by, line_read}
use Rattle.proof_file.specs.Whole.{IsLineOf}
use Rattle.proof_file.proofs.LineTexts.{body, line_is, word_valid, count_is, made_again, word_there}
use Rattle.proof_file.proofs.WidthLemmas.{body_short}

-- a line of another word gives no answer, and one of the word gives some
no_answer : (k : RecordKind) (text : List ℕ) → bytes_eq (word_of text) k.word ≡ false → answer_in k text ≡ None
no_answer k text e =
    ap (λ b. option_map (made_of k) (answered (cond b (judged k.ranges (fields_at (length k.ranges) (rest_of text))) (Err Word)))) e

some_answer : (k : RecordKind) (text : List ℕ) → bytes_eq (word_of text) k.word ≡ true
    → (x : Result ProofRecord LineFault) × (answer_in k text ≡ Some x)
some_answer k text e = by_judged (judged k.ranges (fields_at (length k.ranges) (rest_of text))) refl
  where
    not_word : (o : Option (List ℤ)) → judged k.ranges o ≡ Err Word → ⊥
    not_word None f = cc (f)
    not_word (Some values) f = by_test (are_in_range k.ranges values) f
      where
        by_test : (b : Bool) → cond b (Ok values) (Err WrongNumber) ≡ Err Word → ⊥
        by_test true g = cc (g)
        by_test false g = cc (g)

    given : (r : Result (List ℤ) RecordFault) → judged k.ranges (fields_at (length k.ranges) (rest_of text)) ≡ r
        → answer_in k text ≡ option_map (made_of k) (answered r)
    given r f =
        ap (λ b. option_map (made_of k) (answered (cond b (judged k.ranges (fields_at (length k.ranges) (rest_of text))) (Err Word)))) e
        ∙ ap (λ s. option_map (made_of k) (answered s)) f

    by_judged : (r : Result (List ℤ) RecordFault) → judged k.ranges (fields_at (length k.ranges) (rest_of text)) ≡ r
        → (x : Result ProofRecord LineFault) × (answer_in k text ≡ Some x)
    by_judged (Ok values) f = (Ok (k.make values), given (Ok values) f)
    by_judged (Err Word) f = absurd (not_word (fields_at (length k.ranges) (rest_of text)) f)
    by_judged (Err WrongShape) f = (Err Shape, given (Err WrongShape) f)
    by_judged (Err WrongNumber) f = (Err Number, given (Err WrongNumber) f)

-- the first kind of this word
find_kind : List RecordKind → List ℕ → Option RecordKind
find_kind [] word = None
find_kind (k ∷ kinds) word = cond (bytes_eq word k.word) (Some k) (find_kind kinds word)

abbrev answer_of : Option RecordKind → List ℕ → Option (Result ProofRecord LineFault)
answer_of None text = None
answer_of (Some k) text = answer_in k text

answer_found : (kinds : List RecordKind) (text : List ℕ) → answer_by kinds text ≡ answer_of (find_kind kinds (word_of text)) text
unfolding find_kind
answer_found [] text = refl
answer_found (k ∷ kinds) text = by_test (bytes_eq (word_of text) k.word) refl (answer_found kinds text)
  where
    by_test : (b : Bool) → bytes_eq (word_of text) k.word ≡ b → answer_by kinds text ≡ answer_of (find_kind kinds (word_of text)) text
        → option_or (answer_in k text) (answer_by kinds text) ≡ answer_of (cond b (Some k) (find_kind kinds (word_of text))) text
    by_test true e rest =
        let some = some_answer k text e in
        ap (λ o. option_or o (answer_by kinds text)) some.1 ∙ sym some.1
    by_test false e rest = ap (λ o. option_or o (answer_by kinds text)) (no_answer k text e) ∙ rest

-- each record's kind is found by its word
find_own : (version : ℕ) (r : ProofRecord) → IsTrue (is_of_version version r) → find_kind (kinds_of version) (kind_of r).word ≡ Some (kind_of r)
unfolding find_kind
find_own version (Head x) h = refl
find_own version (Table x) h = ap (λ v. find_kind (kinds_of v) (kind_of (Table x)).word) (eqb-true version 2 h)
find_own version (Ta x) h = ap (λ v. find_kind (kinds_of v) (kind_of (Ta x)).word) (eqb-true version 2 h)
find_own version (Tb x) h = ap (λ v. find_kind (kinds_of v) (kind_of (Tb x)).word) (eqb-true version 2 h)
find_own version (Split x) h = refl
find_own version (Leaf q) h = refl
find_own version (U x) h = refl
find_own version (V x) h = refl
find_own version (A x) h = refl
find_own version (B x) h = refl
find_own version (Use x) h = ap (λ v. find_kind (kinds_of v) (kind_of (Use x)).word) (eqb-true version 2 h)
find_own version Close h = refl
find_own version (End bound) h = refl
find_own version Nothing h = refl

short_read : (version : ℕ) (text : List ℕ) → length text ≤ 80 → line_read version text ≡ unwrap_or (answer_by (kinds_of version) text) (Err Shape)
unfolding line_read
short_read version text h =
    ap (λ b. cond b (Err Shape) (unwrap_or (answer_by (kinds_of version) text) (Err Shape))) (le-ltb 80 (length text) h)

own_answer : (r : ProofRecord) → IsTrue (is_in_range r) → answer_in (kind_of r) (body r) ≡ Some (Ok r)
unfolding is_in_range
own_answer r h =
    let k = kind_of r in
    let answer = answer_for (length k.ranges) k.word k.ranges (body r) in
    let read : answer ≡ Ok (values_of r) =
    (exact_answer (length k.ranges) k.word k.ranges (body r) answer (word_valid r) refl (values_of r)).1 (count_is r, refl, h) in
    ap (λ s. option_map (made_of k) (answered s)) read ∙ ap (λ s. Some (Ok s)) (made_again r)

-- the record's line is read as it
pub body_read : (version : ℕ) (r : ProofRecord) → IsTrue (is_in_range r) → IsTrue (is_of_version version r) → line_read version (body r) ≡ Ok r
body_read version r h v =
    short_read version (body r) (body_short r h)
    ∙ ap (λ o. unwrap_or o (Err Shape))
    (answer_found (kinds_of version) (body r)
    ∙ ap (λ w. answer_of (find_kind (kinds_of version) w) (body r)) (word_there r)
    ∙ ap (λ o. answer_of o (body r)) (find_own version r v)
    ∙ own_answer r h)

-- what numbers in range make
record IsMade (version : ℕ) (k : RecordKind) (values : List ℤ) : Type 0 where
  kind : kind_of (k.make values) ≡ k
  same : values_of (k.make values) ≡ values
  of_version : IsTrue (is_of_version version (k.make values))

natural_is : (least most : ℕ) (z : ℤ) → in_range (range (pos least) (pos most)) z ≡ true → pos (unsigned_abs z) ≡ z
natural_is least most (pos m) e = refl
natural_is least most (negsuc m) e = absurd (cc e)

-- numbers in range, one by one
by_nil : (P : List ℤ → Type 0) → P [] → (values : List ℤ) → are_in_range [] values ≡ true → P values
by_nil P p [] e = p
by_nil P p (z ∷ values) e = absurd (cc e)

by_next : (r : Range) (ranges : List Range) (P : List ℤ → Type 0)
    → ((a : ℤ) → in_range r a ≡ true → (rest : List ℤ) → are_in_range ranges rest ≡ true → P (a ∷ rest))
    → (values : List ℤ) → are_in_range (r ∷ ranges) values ≡ true → P values
by_next r ranges P f [] e = absurd (cc e)
by_next r ranges P f (z ∷ values) e =
    let both = and_parts (in_range r z) (are_in_range ranges values) e in f z both.0 values both.1

by_one : (r : Range) (P : List ℤ → Type 0) → ((a : ℤ) → in_range r a ≡ true → P (a ∷ []))
    → (values : List ℤ) → are_in_range (r ∷ []) values ≡ true → P values
by_one r P f values e = by_next r [] P (λ a p rest q. by_nil (λ t. P (a ∷ t)) (f a p) rest q) values e

by_two : (r s : Range) (P : List ℤ → Type 0) → ((a : ℤ) → in_range r a ≡ true → (b : ℤ) → in_range s b ≡ true → P (a ∷ b ∷ []))
    → (values : List ℤ) → are_in_range (r ∷ s ∷ []) values ≡ true → P values
by_two r s P f values e = by_next r (s ∷ []) P (λ a p rest q. by_one s (λ t. P (a ∷ t)) (f a p) rest q) values e

by_three : (r s u : Range) (P : List ℤ → Type 0)
    → ((a : ℤ) → in_range r a ≡ true → (b : ℤ) → in_range s b ≡ true → (c : ℤ) → in_range u c ≡ true → P (a ∷ b ∷ c ∷ []))
    → (values : List ℤ) → are_in_range (r ∷ s ∷ u ∷ []) values ≡ true → P values
by_three r s u P f values e = by_next r (s ∷ u ∷ []) P (λ a p rest q. by_two s u (λ t. P (a ∷ t)) (f a p) rest q) values e

by_four : (r s u v : Range) (P : List ℤ → Type 0)
    → ((a : ℤ) → in_range r a ≡ true → (b : ℤ) → in_range s b ≡ true → (c : ℤ) → in_range u c ≡ true → (d : ℤ) → in_range v d ≡ true → P (a ∷ b ∷ c ∷ d ∷ []))
    → (values : List ℤ) → are_in_range (r ∷ s ∷ u ∷ v ∷ []) values ≡ true → P values
by_four r s u v P f values e = by_next r (s ∷ u ∷ v ∷ []) P (λ a p rest q. by_three s u v (λ t. P (a ∷ t)) (f a p) rest q) values e

-- Each kind's word is one, and numbers in its ranges make a record of it.
record IsSound (version : ℕ) (k : RecordKind) : Type 0 where
  word : IsTrue (is_word k.word)
  makes : (values : List ℤ) → are_in_range k.ranges values ≡ true → IsMade version k values

abbrev AreSound : ℕ → List RecordKind → Type 0
AreSound version [] = Unit {0}
AreSound version (k ∷ kinds) = IsSound version k × AreSound version kinds

-- a natural number and a signed one
natural_signed : (least most : ℕ) (a b : ℤ) → in_range (range (pos least) (pos most)) a ≡ true
    → pos (unsigned_abs a) ∷ b ∷ [] ≡ a ∷ b ∷ []
natural_signed least most a b p = ap (λ z. z ∷ b ∷ []) (natural_is least most a p)

head_sound : (version : ℕ) → IsSound version head_kind
head_sound version = record {
  word = refl;
  makes = by_two (range (pos 1) (pos 2)) (range (pos 0) (pos 200)) (IsMade version head_kind) (λ a p b q. record {
    kind = refl;
    same = ap (λ z. z ∷ pos (unsigned_abs b) ∷ []) (natural_is 1 2 a p) ∙ ap (λ z. a ∷ z ∷ []) (natural_is 0 200 b q);
    of_version = refl;
  });
}

split_sound : (version : ℕ) → IsSound version split_kind
split_sound version = record {
  word = refl;
  makes = by_two (range (pos 0) (pos 199)) (range (pos 0) (pos 4095)) (IsMade version split_kind) (λ a p b q. record {
    kind = refl;
    same = ap (λ z. z ∷ pos (unsigned_abs b) ∷ []) (natural_is 0 199 a p) ∙ ap (λ z. a ∷ z ∷ []) (natural_is 0 4095 b q);
    of_version = refl;
  });
}

leaf_sound : (version : ℕ) → IsSound version leaf_kind
leaf_sound version = record {
  word = refl;
  makes = by_one scales (IsMade version leaf_kind) (λ a p. record { kind = refl; same = refl; of_version = refl });
}

close_sound : (version : ℕ) → IsSound version close_kind
close_sound version = record { word = refl; makes = by_nil (IsMade version close_kind) (record { kind = refl; same = refl; of_version = refl }) }

end_sound : (version : ℕ) → IsSound version end_kind
end_sound version = record {
  word = refl;
  makes = by_one bounds (IsMade version end_kind) (λ a p. record { kind = refl; same = refl; of_version = refl });
}

none_sound : (version : ℕ) → IsSound version none_kind
none_sound version = record { word = refl; makes = by_nil (IsMade version none_kind) (record { kind = refl; same = refl; of_version = refl }) }

u_sound : (version : ℕ) → IsSound version u_kind
u_sound version = record {
  word = refl;
  makes = by_two (range (pos 0) (pos 199)) signed_values (IsMade version u_kind)
      (λ a p b q. record { kind = refl; same = natural_signed 0 199 a b p; of_version = refl });
}

v_sound : (version : ℕ) → IsSound version v_kind
v_sound version = record {
  word = refl;
  makes = by_three (range (pos 0) (pos 63)) minutes positive_values (IsMade version v_kind)
      (λ a p b q c r. record { kind = refl; same = ap (λ z. z ∷ b ∷ c ∷ []) (natural_is 0 63 a p); of_version = refl });
}

-- two trains, a pattern's number and a value
four_same : (a b c d : ℤ) → in_range (range (pos 0) (pos 199)) a ≡ true → in_range (range (pos 0) (pos 199)) b ≡ true
    → in_range (range (pos 0) (pos 4095)) c ≡ true → pos (unsigned_abs a) ∷ pos (unsigned_abs b) ∷ pos (unsigned_abs c) ∷ d ∷ [] ≡ a ∷ b ∷ c ∷ d ∷ []
four_same a b c d p q r =
    ap (λ z. z ∷ pos (unsigned_abs b) ∷ pos (unsigned_abs c) ∷ d ∷ []) (natural_is 0 199 a p)
    ∙ ap (λ z. a ∷ z ∷ pos (unsigned_abs c) ∷ d ∷ []) (natural_is 0 199 b q) ∙ ap (λ z. a ∷ b ∷ z ∷ d ∷ []) (natural_is 0 4095 c r)

a_sound : (version : ℕ) → IsSound version a_kind
a_sound version = record {
  word = refl;
  makes = by_four (range (pos 0) (pos 199)) (range (pos 0) (pos 199)) (range (pos 0) (pos 4095)) signed_values (IsMade version a_kind)
      (λ a p b q c r d s. record { kind = refl; same = four_same a b c d p q r; of_version = refl });
}

b_sound : (version : ℕ) → IsSound version b_kind
b_sound version = record {
  word = refl;
  makes = by_four (range (pos 0) (pos 199)) (range (pos 0) (pos 199)) (range (pos 0) (pos 4095)) signed_values (IsMade version b_kind)
      (λ a p b q c r d s. record { kind = refl; same = four_same a b c d p q r; of_version = refl });
}

table_sound : (version : ℕ) → nat_eq version 2 ≡ true → IsSound version table_kind
table_sound version v = record {
  word = refl;
  makes = by_three (range (pos 0) (pos 65535)) (range (pos 0) (pos 199)) (range (pos 0) (pos 199)) (IsMade version table_kind) (λ a p b q c r. record {
    kind = refl;
    same = ap (λ z. z ∷ pos (unsigned_abs b) ∷ pos (unsigned_abs c) ∷ []) (natural_is 0 65535 a p)
        ∙ ap (λ z. a ∷ z ∷ pos (unsigned_abs c) ∷ []) (natural_is 0 199 b q) ∙ ap (λ z. a ∷ b ∷ z ∷ []) (natural_is 0 199 c r);
    of_version = v;
  });
}

ta_sound : (version : ℕ) → nat_eq version 2 ≡ true → IsSound version ta_kind
ta_sound version v = record {
  word = refl;
  makes = by_two (range (pos 0) (pos 4095)) signed_values (IsMade version ta_kind)
      (λ a p b q. record { kind = refl; same = natural_signed 0 4095 a b p; of_version = v });
}

tb_sound : (version : ℕ) → nat_eq version 2 ≡ true → IsSound version tb_kind
tb_sound version v = record {
  word = refl;
  makes = by_two (range (pos 0) (pos 4095)) signed_values (IsMade version tb_kind)
      (λ a p b q. record { kind = refl; same = natural_signed 0 4095 a b p; of_version = v });
}

use_sound : (version : ℕ) → nat_eq version 2 ≡ true → IsSound version use_kind
use_sound version v = record {
  word = refl;
  makes = by_two (range (pos 0) (pos 65535)) scales (IsMade version use_kind)
      (λ a p b q. record { kind = refl; same = natural_signed 0 65535 a b p; of_version = v });
}

kinds_sound : (version : ℕ) (b : Bool) → nat_eq version 2 ≡ b → AreSound version (tree_kinds ++ number_kinds ++ cond b table_kinds [])
kinds_sound version true v = (
  head_sound version,
  (
    split_sound version,
    (
      leaf_sound version,
      (
        close_sound version,
        (
          end_sound version,
          (
            none_sound version,
            (
              u_sound version,
              (
                v_sound version,
                (
                  a_sound version,
                  (
                    b_sound version,
                    (table_sound version v, (ta_sound version v, (tb_sound version v, (use_sound version v, tt)))),
                  ),
                ),
              ),
            ),
          ),
        ),
      ),
    ),
  ),
)
kinds_sound version false v = (
  head_sound version,
  (
    split_sound version,
    (
      leaf_sound version,
      (
        close_sound version,
        (
          end_sound version,
          (
            none_sound version,
            (u_sound version, (v_sound version, (a_sound version, (b_sound version, tt)))),
          ),
        ),
      ),
    ),
  ),
)

was_taken : (k : RecordKind) (a : Result (List ℤ) RecordFault) (r : ProofRecord) → option_map (made_of k) (answered a) ≡ Some (Ok r)
    → (values : List ℤ) × (a ≡ Ok values) × (k.make values ≡ r)
was_taken k (Ok values) r e = (values, refl, cc)
was_taken k (Err Word) r e = absurd (cc e)
was_taken k (Err WrongShape) r e = absurd (cc e)
was_taken k (Err WrongNumber) r e = absurd (cc e)

own_line : (version : ℕ) (k : RecordKind) (values : List ℤ) (text : List ℕ) → IsMade version k values → text ++ 10 ∷ [] ≡ line k.word values
    → are_in_range k.ranges values ≡ true → IsLineOf version text (k.make values)
unfolding line_of is_in_range
own_line version k values text m e range = record {
  whole = e ∙ ap (λ (h : RecordKind). line h.word values) (sym m.kind) ∙ ap (line (kind_of (k.make values)).word) (sym m.same);
  in_range = ap (λ (h : RecordKind). are_in_range h.ranges (values_of (k.make values))) m.kind ∙ ap (are_in_range k.ranges) m.same ∙ range;
  of_version = m.of_version;
}

read_of_kind : (version : ℕ) (k : RecordKind) (text : List ℕ) (r : ProofRecord) → IsSound version k → answer_in k text ≡ Some (Ok r) → IsLineOf version text r
read_of_kind version k text r s e =
    let answer = answer_for (length k.ranges) k.word k.ranges text in
    let taken = was_taken k answer r e in
    let exact = (exact_answer (length k.ranges) k.word k.ranges text answer s.word refl taken.0).0 taken.1 in
    subst (IsLineOf version text) taken.2 (own_line version k taken.0 text (s.makes taken.0 exact.2) exact.1 exact.2)

read_of_kinds : (version : ℕ) (kinds : List RecordKind) (text : List ℕ) (r : ProofRecord) → AreSound version kinds → answer_by kinds text ≡ Some (Ok r)
    → IsLineOf version text r
read_of_kinds version [] text r s e = absurd (cc e)
read_of_kinds version (k ∷ kinds) text r s e = by_answer (answer_in k text) refl e (λ f. read_of_kinds version kinds text r s.1 f)
  where
    by_answer : (o : Option (Result ProofRecord LineFault)) → answer_in k text ≡ o → option_or o (answer_by kinds text) ≡ Some (Ok r)
        → (answer_by kinds text ≡ Some (Ok r) → IsLineOf version text r) → IsLineOf version text r
    by_answer None f g rest = rest g
    by_answer (Some x) f g rest = read_of_kind version k text r s.0 (f ∙ g)

pub line_is_record : (version : ℕ) (text : List ℕ) (r : ProofRecord) → line_read version text ≡ Ok r → IsLineOf version text r
unfolding line_read
line_is_record version text r e = by_length (nat_lt 80 (length text)) e
  where
    was_ok : (o : Option (Result ProofRecord LineFault)) → unwrap_or o (Err Shape) ≡ Ok r → o ≡ Some (Ok r)
    was_ok None f = absurd (cc f)
    was_ok (Some x) f = ap (λ y. Some y) f

    by_length : (b : Bool) → cond b (Err Shape) (unwrap_or (answer_by (kinds_of version) text) (Err Shape)) ≡ Ok r → IsLineOf version text r
    by_length true f = absurd (cc f)
    by_length false f =
        read_of_kinds version (kinds_of version) text r (kinds_sound version (nat_eq version 2) refl) (was_ok (answer_by (kinds_of version) text) f)

pub record_is_line : (version : ℕ) (text : List ℕ) (r : ProofRecord) → IsLineOf version text r → line_read version text ≡ Ok r
record_is_line version text r h =
    let same : text ≡ body r = append_cancel_right text (body r) (10 ∷ []) (h.whole ∙ line_is r) in
    ap (line_read version) same ∙ body_read version r h.in_range h.of_version
