-- Starts of parts, as a loop adds them up.
use Rattle.std.proofs.Common.{◌≡◌, ℕ, zero, suc, ◌+◌, ◌-◌, ◌<◌, ◌≤◌, Bool, true, false, List, [], ◌∷◌, ◌++◌, length, refl, sym, ap, ◌∙◌, subst, arith}
use Rattle.std.specs.Prelude.{nat_lt, sum_by, slice_index}
use borrow.Author.Tests.{ltb-true, ltb-false}
use Rattle.std.proofs.lemmas.List.{length-append, get_or_append_left, get_or_push}
use Rattle.station.specs.Allowed.{numbers}
use Rattle.pair_prices.proofs.TopLemmas.{sum_numbers_more}
use Rattle.pattern_pricing.specs.Kept.{AreStarts}

pub first_start : (size : ℕ → ℕ) (xs : List ℕ) → xs ≡ 0 ∷ [] → AreStarts size 0 xs
first_start size xs e = record {
  long = ap length e;
  each = λ part h. let same : part ≡ 0 = omega arith in rw (e, same) refl;
  most = λ part h. let same : part ≡ 0 = omega arith in rw (e, same) (omega arith);
}

pub next_start : (size : ℕ → ℕ) (k : ℕ) (xs ys : List ℕ) (n : ℕ) → AreStarts size k xs → ys ≡ xs ++ n ∷ [] → n ≡ sum_by size (numbers k) + size k → n ≤ 819_200
    → AreStarts size (k + 1) ys
next_start size k xs ys n before e is most =
    let long = before.long in
    let more = length-append xs (n ∷ []) in
    let last : slice_index (xs ++ n ∷ []) (k + 1) ≡ n = get_or_push xs n 0 (k + 1) (omega (arith, long)) in
    let P : List ℕ → Type 0 = λ zs. AreStarts size (k + 1) zs in
    subst P (sym e) (record {
      long = omega (arith, long, more);
      each = λ part h. each part h (nat_lt part (k + 1)) refl last;
      most = λ part h. small part h (nat_lt part (k + 1)) refl last;
    })
  where
    earlier : (part : ℕ) → part < k + 1 → slice_index (xs ++ n ∷ []) part ≡ slice_index xs part
    earlier part h = let long = before.long in get_or_append_left xs (n ∷ []) 0 part (omega (arith, long, h))

    each : (part : ℕ) → part ≤ k + 1 → (b : Bool) → nat_lt part (k + 1) ≡ b → slice_index (xs ++ n ∷ []) (k + 1) ≡ n
        → slice_index (xs ++ n ∷ []) part ≡ sum_by size (numbers part)
    each part h true t last =
        let l = ltb-true part (k + 1) t in
        earlier part l ∙ before.each part (omega (arith, l))
    each part h false t last =
        let l = ltb-false part (k + 1) t in
        let same : k + 1 ≡ part = omega arith in
        let Q : ℕ → Type 0 = λ p. slice_index (xs ++ n ∷ []) p ≡ sum_by size (numbers p) in
        subst Q same (last ∙ is ∙ sym (sum_numbers_more size k))

    small : (part : ℕ) → part ≤ k + 1 → (b : Bool) → nat_lt part (k + 1) ≡ b → slice_index (xs ++ n ∷ []) (k + 1) ≡ n
        → slice_index (xs ++ n ∷ []) part ≤ 819_200
    small part h true t last =
        let l = ltb-true part (k + 1) t in
        let a = earlier part l in
        let b = before.most part (omega (arith, l)) in
        omega (arith, a, b)
    small part h false t last =
        let l = ltb-false part (k + 1) t in
        let same : k + 1 ≡ part = omega arith in
        let Q : ℕ → Type 0 = λ p. slice_index (xs ++ n ∷ []) p ≤ 819_200 in
        subst Q same (omega (arith, last, most))

has_part : (size : ℕ → ℕ) (count n : ℕ) → n < sum_by size (numbers count) → 0 < count
has_part size zero n h = absurd (omega (arith, h))
has_part size (suc count) n h = omega arith

pub record IsIn (size : ℕ → ℕ) (count part n offset : ℕ) : Type 0 where
  pub inside : part < count
  pub below : offset < size part
  pub adds : sum_by size (numbers part) + offset ≡ n

-- a number below the sum of all sizes, and the part that it is in
module _ (size : ℕ → ℕ) (count : ℕ) (xs : List ℕ) (starts : AreStarts size count xs) (n : ℕ) (below : n < sum_by size (numbers count)) where
  pub parts_some : 1 < length xs
  parts_some = let a = starts.long in let b = has_part size count n below in omega (arith, a, b)

  pub parts_last : n < slice_index xs (length xs - 1)
  parts_last =
      let long = starts.long in
      let e : count ≡ length xs - 1 = omega (arith, long) in
      let P : ℕ → Type 0 = λ k. n < slice_index xs k in
      let whole = starts.each count (omega arith) in
      subst P e (omega (arith, whole, below))

  pub part_is : (part : ℕ) → part + 1 < length xs → slice_index xs part ≤ n → n < slice_index xs (part + 1) → IsIn size count part n (n - slice_index xs part)
  part_is part h begins ends =
      let long = starts.long in
      let inside : part < count = omega (arith, long, h) in
      let here = starts.each part (omega (arith, inside)) in
      let next = starts.each (part + 1) (omega (arith, inside)) in
      let more = sum_numbers_more size part in
      record {
        inside = inside;
        below = omega (arith, here, next, more, begins, ends);
        adds = omega (arith, here, begins);
      }
