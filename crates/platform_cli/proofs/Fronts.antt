-- The front of a plan's bytes that is long enough is read as all of them.
use Rattle.std.proofs.Common.{◌≡◌, inl, inr, ℕ, zero, suc, ◌+◌, ◌-◌, ◌*◌, ◌<◌, ◌≤◌, min, Bool, true, false, cond, not, nat_lt, List, [], ◌∷◌, map, length, take, drop, None, Some, Option, Result, Err, refl, sym, ◌∙◌, ap, subst, arith, add-one, zero-add, length-take}
use Rattle.std.specs.Option.{ok_or}
use Rattle.std.specs.List.{prefix_len, range_with_len}
use Rattle.std.proofs.lemmas.Bool.{lt-ltb}
use Rattle.std.proofs.lemmas.Bool.Decides.{leb_tells}
use Rattle.std.proofs.lemmas.List.{drop-take, take-take, take_all}
use Rattle.pair_prices.specs.Case.{CaseRecord}
use Rattle.patterns.specs.Book.{offers_of}
use Rattle.plan_cost.specs.declared.refusal.PlanKind.{PlanKind}
use Rattle.plan_cost.specs.declared.refusal.PlanKind.TheVariants.{Record, Short}
use Rattle.plan_cost.specs.declared.refusal.PlanRefused.{PlanRefused}
use Rattle.plan_cost.specs.First.{or_else, first_of}
use Rattle.plan_cost.specs.PlanLine.{after_line, is_newline, line_in, line_length, record_at, record_in}
use Rattle.plan_cost.specs.PlanReading.{behind, choice_fault, choice_refusal, choice_refusals, end_fault, end_refusal, first_refusal, header_fault, header_refusal, number_of, numbers_read, plan_reading, reading_by, refused_at, trail_fault, trail_refusal}
use Rattle.plan_cost.proofs.PlanTexts.{behind_more, header_refused, choice_refused, end_refused, end_reached}

-- the first of one text are those of another, and at least so many
abbrev pub Near : ℕ → List ℕ → List ℕ → Type 0
Near least x y = (most : ℕ) × (least ≤ most) × (x ≡ take most y)

prefix-take : (p : ℕ → Bool) (m : ℕ) (xs : List ℕ) → prefix_len p (take m xs) ≡ min m (prefix_len p xs)
prefix-take p zero xs = omega arith
prefix-take p (suc m) [] = omega arith
prefix-take p (suc m) (x ∷ xs) = by_test (p x) (prefix-take p m xs)
  where
    by_test : (b : Bool) → prefix_len p (take m xs) ≡ min m (prefix_len p xs) → cond b (1 + prefix_len p (take m xs)) 0 ≡ min (suc m) (cond b (1 + prefix_len p xs) 0)
    by_test true rest = omega (arith, rest)
    by_test false rest = omega arith

line-take : (m : ℕ) (xs : List ℕ) → line_length (take m xs) ≡ min m (line_length xs)
line-take m xs = prefix-take (λ b. not (is_newline b)) m xs

-- what a line is, by two tests
abbrev shape : {A : Type 0} → (List ℕ → Option A) → Bool → Bool → List ℕ → Result A PlanKind
shape read long ended line = cond long (Err Record) (cond ended (ok_or (read line) Record) (Err Short))

shaped : (xs : List ℕ) → record_at xs ≡ shape record_in (nat_lt 80 (line_length xs)) (nat_lt (line_length xs) (length xs)) (line_in xs)
unfolding record_at
shaped xs = refl

long_line : (xs : List ℕ) → 80 < line_length xs → record_at xs ≡ Err Record
long_line xs above = shaped xs ∙ ap (λ b. shape record_in b (nat_lt (line_length xs) (length xs)) (line_in xs)) (lt-ltb 80 (line_length xs) above)

record_same : (m : ℕ) (xs : List ℕ) → 81 ≤ m → record_at (take m xs) ≡ record_at xs
record_same m xs room = elim (leb_tells (length xs) m) [
  | inl all ↦ ap record_at (take_all m xs all.1)
  | inr more ↦ elim (leb_tells (line_length xs) 80) [
    | inr long ↦ long_line (take m xs) (omega (arith, line-take m xs, long.1, room)) ∙ sym (long_line xs long.1)
    | inl short ↦
        let same : line_length (take m xs) ≡ line_length xs = omega (arith, line-take m xs, short.1, room) in
        let le : line_length xs ≤ m = omega (arith, short.1, room) in
        let front : nat_lt (line_length (take m xs)) (length (take m xs)) ≡ true = lt-ltb _ _ (omega (arith, same, length-take m xs, short.1, room, more.1)) in
        let whole : nat_lt (line_length xs) (length xs) ≡ true = lt-ltb _ _ (omega (arith, short.1, room, more.1)) in
        shaped (take m xs)
        ∙ ap (λ k. shape record_in (nat_lt 80 k) (nat_lt (line_length (take m xs)) (length (take m xs))) (take k (take m xs))) same
        ∙ ap (λ b. shape record_in (nat_lt 80 (line_length xs)) b (take (line_length xs) (take m xs))) (front ∙ sym whole)
        ∙ ap (λ l. shape record_in (nat_lt 80 (line_length xs)) (nat_lt (line_length xs) (length xs)) l) (take-take (line_length xs) m xs le)
        ∙ sym (shaped xs)
  ]
]

near_record : (k : ℕ) (x y : List ℕ) → Near (k + 81) x y → record_at x ≡ record_at y
near_record k x y (most, room, is) = ap record_at is ∙ record_same most y (omega (arith, room))

-- a line takes at most 81 bytes with its newline
near_after : (k : ℕ) (x y : List ℕ) → Near (k + 81) x y → line_length y ≤ 80 → Near k (after_line x) (after_line y)
near_after k x y (most, room, is) short =
    let same : line_length (take most y) ≡ line_length y = omega (arith, line-take most y, short, room) in
    let split : most ≡ line_length y + 1 + (most - (line_length y + 1)) = omega (arith, short, room) in (
      most - (line_length y + 1),
      omega (arith, short, room),
      ap after_line is
          ∙ ap (λ j. drop (j + 1) (take most y)) same
          ∙ ap (λ j. drop (line_length y + 1) (take j y)) split
          ∙ drop-take (line_length y + 1) (most - (line_length y + 1)) y,
    )

-- Where no record is refused its line has at most 80 bytes: a longer one would be.
short_unless : (xs : List ℕ) → (record_at xs ≡ Err Record → ⊥) → line_length xs ≤ 80
short_unless xs refused = elim (leb_tells (line_length xs) 80) [
  | inl short ↦ short.1
  | inr long ↦ absurd (refused (long_line xs long.1))
]

header_short : (trains : ℕ) (xs : List ℕ) → header_refusal trains xs ≡ None → line_length xs ≤ 80
header_short trains xs none = short_unless xs (λ wrong. let fault = ap (λ at. refused_at 1 (header_fault trains at)) wrong in cc (fault, none))

choice_short : (c : CaseRecord) (train : ℕ) (xs : List ℕ) → choice_refusal c train xs ≡ None → line_length xs ≤ 80
choice_short c train xs none =
    short_unless xs (λ wrong. let fault = ap (λ at. refused_at (train + 2) (choice_fault train (length (offers_of c.book train)) at)) wrong in cc (fault, none))

end_short : (trains : ℕ) (xs : List ℕ) → end_refusal trains xs ≡ None → line_length xs ≤ 80
end_short trains xs none = short_unless xs (λ wrong. let fault = ap (λ at. refused_at (trains + 2) (end_fault at)) wrong in cc (fault, none))

-- the first refusal of so many choices from a train on
abbrev refusals_from : CaseRecord → List ℕ → ℕ → ℕ → Option PlanRefused
refusals_from c start train left = first_of (λ r. r) (map (λ t. choice_refusal c t (behind t start)) (range_with_len train left))

abbrev number_at : List ℕ → ℕ → ℕ
number_at start train = number_of (record_at (behind train start))

choice_same : (c : CaseRecord) (train k : ℕ) (x y : List ℕ) → Near (k + 81) (behind train x) (behind train y) → choice_refusal c train (behind train x) ≡ choice_refusal c train (behind train y)
choice_same c train k x y near =
    ap (λ at. refused_at (train + 2) (choice_fault train (length (offers_of c.book train)) at)) (near_record k (behind train x) (behind train y) near)

next_near : (c : CaseRecord) (train k : ℕ) (x y : List ℕ) → Near (k + 81) (behind train x) (behind train y) → choice_refusal c train (behind train y) ≡ None → Near k (behind (train + 1) x) (behind (train + 1) y)
next_near c train k x y near none =
    let after = near_after k (behind train x) (behind train y) near (choice_short c train (behind train y) none) in
    (after.0, after.1, behind_more train x ∙ after.2 ∙ ap (λ l. take after.0 l) (sym (behind_more train y)))

lines_more : (left k : ℕ) (x y : List ℕ) → Near (81 * suc left + k) x y → Near (81 * left + k + 81) x y
lines_more left k x y (most, room, is) = (most, omega (arith, room), is)

refusals_same : (c : CaseRecord) (x y : List ℕ) (train left k : ℕ) → Near (81 * left + k) (behind train x) (behind train y) → refusals_from c x train left ≡ refusals_from c y train left
refusals_same c x y train zero k near = refl
refusals_same c x y train (suc left) k near =
    by_first (choice_refusal c train (behind train y)) refl (λ after. refusals_same c x y (train + 1) left k after)
  where
    here : Near (81 * left + k + 81) (behind train x) (behind train y)
    here = lines_more left k (behind train x) (behind train y) near

    by_first : (o : Option PlanRefused) → choice_refusal c train (behind train y) ≡ o
        → (Near (81 * left + k) (behind (train + 1) x) (behind (train + 1) y) → refusals_from c x (train + 1) left ≡ refusals_from c y (train + 1) left)
        → or_else (choice_refusal c train (behind train x)) (refusals_from c x (train + 1) left) ≡ or_else (choice_refusal c train (behind train y)) (refusals_from c y (train + 1) left)
    by_first (Some r) is rest =
        ap (λ o. or_else o (refusals_from c x (train + 1) left)) (choice_same c train (81 * left + k) x y here ∙ is) ∙ ap (λ o. or_else o (refusals_from c y (train + 1) left)) (sym is)
    by_first None is rest =
        ap (λ o. or_else o (refusals_from c x (train + 1) left)) (choice_same c train (81 * left + k) x y here ∙ is)
        ∙ rest (next_near c train (81 * left + k) x y here is)
        ∙ ap (λ o. or_else o (refusals_from c y (train + 1) left)) (sym is)

or_none : {B : Type 0} (o r : Option B) → or_else o r ≡ None → (o ≡ None) × (r ≡ None)
or_none None r e = (refl, e)
or_none (Some x) r e = absurd (cc e)

-- where no choice is refused: what stands behind them, and their numbers
record Passed (c : CaseRecord) (x y : List ℕ) (train left k : ℕ) : Type 0 where
  near : Near k (behind (train + left) x) (behind (train + left) y)
  numbers : map (number_at x) (range_with_len train left) ≡ map (number_at y) (range_with_len train left)

passed : (c : CaseRecord) (x y : List ℕ) (train left k : ℕ) → Near (81 * left + k) (behind train x) (behind train y) → refusals_from c y train left ≡ None → Passed c x y train left k
passed c x y train zero k near none = record {
  near = subst (λ t. Near k (behind t x) (behind t y)) (at_end train) (near.0, omega (arith, near.1), near.2);
  numbers = refl;
}
  where
    at_end : (n : ℕ) → n ≡ n + 0
    at_end n = omega arith
passed c x y train (suc left) k near none =
    let parts = or_none (choice_refusal c train (behind train y)) (refusals_from c y (train + 1) left) none in
    let here = lines_more left k (behind train x) (behind train y) near in
    let rest = passed c x y (train + 1) left k (next_near c train (81 * left + k) x y here parts.0) parts.1 in
    record {
      near = subst (λ t. Near k (behind t x) (behind t y)) (count train left) rest.near;
      numbers =
          ap (λ n. n ∷ map (number_at x) (range_with_len (train + 1) left)) (ap number_of (near_record (81 * left + k) (behind train x) (behind train y) here))
          ∙ ap (λ l. number_at y train ∷ l) rest.numbers;
    }
  where
    count : (m n : ℕ) → m + 1 + n ≡ m + suc n
    count m n = omega arith

trail_same : (x y : List ℕ) → Near 1 x y → trail_fault x ≡ trail_fault y
trail_same x y (most, room, is) = ap trail_fault is ∙ by_end y most room
  where
    by_end : (y : List ℕ) (most : ℕ) → 1 ≤ most → trail_fault (take most y) ≡ trail_fault y
    by_end y zero room = absurd (omega (arith, room))
    by_end [] (suc most) room = refl
    by_end (b ∷ y) (suc most) room = refl

-- A plan's bytes and their front are read alike: the header, each choice and the end take at most 81 bytes, and one more
-- byte tells whether something stands behind.
module _ (c : CaseRecord) (x y : List ℕ) (near : Near (81 * length c.book + 82 + 81) x y) where
  header_same : header_refusal (length c.book) x ≡ header_refusal (length c.book) y
  header_same = ap (λ at. refused_at 1 (header_fault (length c.book) at)) (near_record (81 * length c.book + 82) x y near)

  start_near : header_refusal (length c.book) y ≡ None → Near (81 * length c.book + 82) (behind 1 x) (behind 1 y)
  start_near none = near_after (81 * length c.book + 82) x y near (header_short (length c.book) y none)

  choices_alike : header_refusal (length c.book) y ≡ None → first_refusal (choice_refusals c (behind 1 x)) ≡ first_refusal (choice_refusals c (behind 1 y))
  choices_alike none = refusals_same c (behind 1 x) (behind 1 y) 0 (length c.book) 82 (start_near none)

  choices_passed : header_refusal (length c.book) y ≡ None → first_refusal (choice_refusals c (behind 1 y)) ≡ None → Passed c (behind 1 x) (behind 1 y) 0 (length c.book) 82
  choices_passed none passes = passed c (behind 1 x) (behind 1 y) 0 (length c.book) 82 (start_near none) passes

  end_near : header_refusal (length c.book) y ≡ None → first_refusal (choice_refusals c (behind 1 y)) ≡ None → Near 82 (behind (suc (length c.book)) x) (behind (suc (length c.book)) y)
  end_near none passes = subst (λ t. Near 82 (behind t (behind 1 x)) (behind t (behind 1 y))) (zero-add (length c.book)) (choices_passed none passes).near

  end_same : header_refusal (length c.book) y ≡ None → first_refusal (choice_refusals c (behind 1 y)) ≡ None
      → end_refusal (length c.book) (behind (suc (length c.book)) x) ≡ end_refusal (length c.book) (behind (suc (length c.book)) y)
  end_same none passes =
      ap (λ at. refused_at (length c.book + 2) (end_fault at)) (near_record 1 (behind (suc (length c.book)) x) (behind (suc (length c.book)) y) (end_near none passes))

  rest_near : header_refusal (length c.book) y ≡ None → first_refusal (choice_refusals c (behind 1 y)) ≡ None → end_refusal (length c.book) (behind (suc (length c.book)) y) ≡ None
      → Near 1 (behind (suc (suc (length c.book))) x) (behind (suc (suc (length c.book))) y)
  rest_near none passes ends =
      let after = near_after 1 (behind (suc (length c.book)) x) (behind (suc (length c.book)) y) (end_near none passes) (end_short (length c.book) (behind (suc (length c.book)) y) ends) in
      let line = λ (l : List ℕ). ap (λ t. behind t l) (sym (add-one (suc (length c.book)))) ∙ behind_more (suc (length c.book)) l in
      (after.0, after.1, line x ∙ after.2 ∙ ap (λ l. take after.0 l) (sym (line y)))

  by_end : (o : Option PlanRefused) → header_refusal (length c.book) y ≡ None → first_refusal (choice_refusals c (behind 1 y)) ≡ None → end_refusal (length c.book) (behind (suc (length c.book)) y) ≡ o
      → plan_reading c x ≡ plan_reading c y
  by_end (Some r) none passes is =
      end_refused c x r (header_same ∙ none) (choices_alike none ∙ passes) (end_same none passes ∙ is) ∙ sym (end_refused c y r none passes is)
  by_end None none passes is =
      end_reached c x (header_same ∙ none) (choices_alike none ∙ passes) (end_same none passes ∙ is)
      ∙ ap (λ o. reading_by (refused_at (length c.book + 3) o) (numbers_read (length c.book) (behind 1 x)))
      (trail_same (behind (suc (suc (length c.book))) x) (behind (suc (suc (length c.book))) y) (rest_near none passes is))
      ∙ ap (λ l. reading_by (trail_refusal (length c.book) (behind (suc (suc (length c.book))) y)) l) (choices_passed none passes).numbers
      ∙ sym (end_reached c y none passes is)

  by_choices : (o : Option PlanRefused) → header_refusal (length c.book) y ≡ None → first_refusal (choice_refusals c (behind 1 y)) ≡ o → plan_reading c x ≡ plan_reading c y
  by_choices (Some r) none is = choice_refused c x r (header_same ∙ none) (choices_alike none ∙ is) ∙ sym (choice_refused c y r none is)
  by_choices None none is = by_end (end_refusal (length c.book) (behind (suc (length c.book)) y)) none is refl

  by_header : (o : Option PlanRefused) → header_refusal (length c.book) y ≡ o → plan_reading c x ≡ plan_reading c y
  by_header (Some r) is = header_refused c x (length c.book) r refl (header_same ∙ is) ∙ sym (header_refused c y (length c.book) r refl is)
  by_header None is = by_choices (first_refusal (choice_refusals c (behind 1 y))) is refl

  pub read_alike : plan_reading c x ≡ plan_reading c y
  read_alike = by_header (header_refusal (length c.book) y) refl

pub plan_front : (c : CaseRecord) (most : ℕ) (bytes : List ℕ) → length c.book ≤ 200 → 16_363 ≤ most → plan_reading c (take most bytes) ≡ plan_reading c bytes
plan_front c most bytes trains room = read_alike c (take most bytes) bytes (most, omega (arith, trains, room), refl)
