-- The line of a record whose numbers are in range has at most 80 bytes.
use Rattle.std.proofs.Common.{◌≡◌, ℕ, suc, ◌+◌, ◌<◌, ◌≤◌, ◌^◌, Bool, true, false, cond, nat_eq, nat_lt, nat_le, ◌&&◌, List, [], ◌∷◌, length, map, refl, arith, length-append, IsTrue}
use Rattle.std.specs.Prelude.{ℤ, pos, negsuc, int_le, unsigned_abs, flat_map}
use Rattle.std.specs.Int.Digits.{digits_of}
use Rattle.std.proofs.lemmas.Int.Digits.{length-digits_of-le}
use Rattle.std.proofs.lemmas.Bool.Decides.{nat_tests}
use Rattle.std.proofs.lemmas.List.{length-map}
use borrow.Author.Tests.{leb-true, ltb-true}
use Rattle.record_table.specs.declared.kind.Range.{Range}
use Rattle.record_table.specs.Line.{natural, field, is_in_range as in_range, are_in_range}
use Rattle.proof_file.proofs.TruthLemmas.{and_parts}
use Rattle.proof_file.specs.declared.record.ProofRecord.{ProofRecord}
use Rattle.proof_file.specs.declared.record.ProofRecord.TheVariants.{Head, Table, Ta, Tb, Split, Leaf, U, V, A, B, Use, Close, End, Nothing}
use Rattle.proof_file.specs.Kind.{kind_of, values_of, is_in_range}
use Rattle.proof_file.proofs.LineTexts.{body}

natural_short : (n k : ℕ) → 0 < k → n < 10 ^ k → length (natural n) ≤ k
unfolding natural
natural_short n k some h =
    elim (nat_eq n 0) as (λ b. length (cond b (48 ∷ []) (map (λ d. 48 + d) (digits_of 10 n))) ≤ k) [
      | true ↦ omega (arith, some)
      | false ↦ omega (arith, length-map (digits_of 10 n) (λ d. 48 + d), length-digits_of-le 10 k n (omega arith) h)
    ]

field_short : (z : ℤ) (k : ℕ) → 0 < k → unsigned_abs z < 10 ^ k → length (field z) ≤ k + 2
field_short (pos n) k some h = omega (arith, natural_short n k some h)
field_short (negsuc n) k some h = omega (arith, natural_short (suc n) k some h)

-- a number in range is no larger than the range's ends
size_below : (least most z : ℤ) (n : ℕ) → unsigned_abs least < n → unsigned_abs most < n → int_le least z ≡ true → int_le z most ≡ true → unsigned_abs z < n
size_below least (pos p) (pos m) n h i e f = let below : m ≤ p = grind (arith, nat_tests) in omega (arith, i, below)
size_below least (negsuc p) (pos m) n h i e f = absurd (cc f)
size_below (pos p) most (negsuc m) n h i e f = absurd (cc e)
size_below (negsuc p) most (negsuc m) n h i e f = let below : m ≤ p = grind (arith, nat_tests) in omega (arith, h, below)

-- the numbers of these ranges have at most so many digits each
abbrev fits_in : List ℕ → List Range → Bool
fits_in [] [] = true
fits_in [] (r ∷ ranges) = false
fits_in (k ∷ widths) [] = false
fits_in (k ∷ widths) (r ∷ ranges) =
    nat_lt 0 k && (nat_lt (unsigned_abs r.least) (10 ^ k) && (nat_lt (unsigned_abs r.most) (10 ^ k) && fits_in widths ranges))

abbrev room : List ℕ → ℕ
room [] = 0
room (k ∷ widths) = k + 2 + room widths

fields_short : (widths : List ℕ) (ranges : List Range) (values : List ℤ) → fits_in widths ranges ≡ true → are_in_range ranges values ≡ true
    → length (flat_map field values) ≤ room widths
fields_short [] [] [] e f = omega arith
fields_short [] [] (z ∷ values) e f = absurd (cc f)
fields_short [] (r ∷ ranges) values e f = absurd (cc e)
fields_short (k ∷ widths) [] values e f = absurd (cc e)
fields_short (k ∷ widths) (r ∷ ranges) [] e f = absurd (cc f)
fields_short (k ∷ widths) (r ∷ ranges) (z ∷ values) e f =
    let some = and_parts (nat_lt 0 k) (nat_lt (unsigned_abs r.least) (10 ^ k) && (nat_lt (unsigned_abs r.most) (10 ^ k) && fits_in widths ranges)) e in
    let least = and_parts (nat_lt (unsigned_abs r.least) (10 ^ k)) (nat_lt (unsigned_abs r.most) (10 ^ k) && fits_in widths ranges) some.1 in
    let most = and_parts (nat_lt (unsigned_abs r.most) (10 ^ k)) (fits_in widths ranges) least.1 in
    let own = and_parts (in_range r z) (are_in_range ranges values) f in
    let ends = and_parts (int_le r.least z) (int_le z r.most) own.0 in
    let size = size_below r.least r.most z (10 ^ k) (ltb-true (unsigned_abs r.least) (10 ^ k) least.0) (ltb-true (unsigned_abs r.most) (10 ^ k) most.0) ends.0 ends.1 in
    omega (arith, length-append (field z) (flat_map field values), field_short z k (ltb-true 0 k some.0) size, fields_short widths ranges values most.1 own.1)

abbrev widths_of : ProofRecord → List ℕ
widths_of (Head x) = 1 ∷ 3 ∷ []
widths_of (Table x) = 5 ∷ 3 ∷ 3 ∷ []
widths_of (Ta x) = 4 ∷ 31 ∷ []
widths_of (Tb x) = 4 ∷ 31 ∷ []
widths_of (Split x) = 3 ∷ 4 ∷ []
widths_of (Leaf q) = 19 ∷ []
widths_of (U x) = 3 ∷ 31 ∷ []
widths_of (V x) = 2 ∷ 4 ∷ 31 ∷ []
widths_of (A x) = 3 ∷ 3 ∷ 4 ∷ 31 ∷ []
widths_of (B x) = 3 ∷ 3 ∷ 4 ∷ 31 ∷ []
widths_of (Use x) = 5 ∷ 19 ∷ []
widths_of Close = []
widths_of (End bound) = 37 ∷ []
widths_of Nothing = []

fits : (r : ProofRecord) → (fits_in (widths_of r) (kind_of r).ranges && nat_le (length (kind_of r).word + room (widths_of r)) 80) ≡ true
fits (Head x) = refl
fits (Table x) = refl
fits (Ta x) = refl
fits (Tb x) = refl
fits (Split x) = refl
fits (Leaf q) = refl
fits (U x) = refl
fits (V x) = refl
fits (A x) = refl
fits (B x) = refl
fits (Use x) = refl
fits Close = refl
fits (End bound) = refl
fits Nothing = refl

pub body_short : (r : ProofRecord) → IsTrue (is_in_range r) → length (body r) ≤ 80
unfolding is_in_range
body_short r h =
    let both = and_parts (fits_in (widths_of r) (kind_of r).ranges) (nat_le (length (kind_of r).word + room (widths_of r)) 80) (fits r) in
    omega (
      arith,
      length-append (kind_of r).word (flat_map field (values_of r)),
      fields_short (widths_of r) (kind_of r).ranges (values_of r) both.0 h,
      leb-true (length (kind_of r).word + room (widths_of r)) 80 both.1,
    )
