-- What the first trains take, train by train, and that it makes a feasible plan.
use Rattle.std.proofs.Common.{◌≡◌, ℕ, zero, suc, ◌+◌, ◌-◌, ◌<◌, ◌≤◌, ◌⊎◌, inl, inr, Bool, true, false, List, [], ◌∷◌, ◌++◌, length, refl, sym, ap, ◌∙◌, subst, arith, Option, None, Some}
use Rattle.std.specs.Prelude.{slice_index, option_map}
use Rattle.std.specs.List.{list_any}
use Rattle.std.proofs.lemmas.Bool.{cases_lt}
use Rattle.std.proofs.lemmas.List.{get_or_append_left, get_or-append-add, length-append}
use borrow.Author.Tests.{not-true}
use Rattle.station.specs.Allowed.{numbers}
use Rattle.patterns.specs.Book.{offers_of, pattern_at}
use Rattle.pair_prices.specs.Case.{CaseRecord}
use Rattle.pair_prices.specs.Pair.{are_forbidden}
use Rattle.pair_prices.specs.Plan.{IsFeasible, chosen}
use Rattle.plan_cost.proofs.CostLemmas.{any_numbers_at}
use Rattle.primal_heuristic.specs.Greedy.{greedy_plan, is_against, is_free, number_taken, taken_by, with_next}
use Rattle.primal_heuristic.specs.Looks.{AreEarlier}
use Rattle.primal_heuristic.proofs.Least.{taken_is_free}

-- the numbers are in the lists of the first `count` trains, and no two of them are forbidden together
pub record IsPart (c : CaseRecord) (count : ℕ) (taken : List ℕ) : Type 0 where
  pub trains : length taken ≡ count
  pub there : (t : ℕ) → t < count → slice_index taken t < length (offers_of c.book t)
  pub apart : (s t : ℕ) → s < t → t < count → are_forbidden c.station (chosen c taken s) (chosen c taken t) ≡ false

before : (taken : List ℕ) (number k : ℕ) → k < length taken → slice_index (taken ++ number ∷ []) k ≡ slice_index taken k
before taken number k h = get_or_append_left taken (number ∷ []) 0 k h

behind : (taken : List ℕ) (number k : ℕ) → k ≡ length taken → slice_index (taken ++ number ∷ []) k ≡ number
behind taken number k h = ap (slice_index (taken ++ number ∷ [])) (h ∙ plain (length taken)) ∙ get_or-append-add taken (number ∷ []) 0 0
  where
    plain : (n : ℕ) → n ≡ n + 0
    plain n = omega arith

free_beside : (c : CaseRecord) (taken : List ℕ) (number s : ℕ) → is_free c taken number ≡ true → s < length taken
    → (b : Bool) → is_against c taken number s ≡ b → b ≡ false
unfolding is_free
free_beside c taken number s free h true e =
    let any = any_numbers_at (is_against c taken number) (length taken) s h e in
    let none = not-true (list_any (is_against c taken number) (numbers (length taken))) free in
    sym any ∙ none
free_beside c taken number s free h false e = refl

split_last : (k end : ℕ) → k < suc end → (k < end) ⊎ (k ≡ end)
split_last k end h = by_order (cases_lt k end)
  where
    by_order : (k < end) ⊎ (end ≤ k) → (k < end) ⊎ (k ≡ end)
    by_order (inl b) = inl b
    by_order (inr a) = inr (omega arith)

part_more : (c : CaseRecord) (count : ℕ) (taken : List ℕ) (number : ℕ) → IsPart c count taken → number_taken c taken ≡ Some number
    → IsPart c (suc count) (taken ++ number ∷ [])
part_more c count taken number h e = record {
  trains = let a = length-append taken (number ∷ []) in let b = h.trains in omega (arith, a, b);
  there = λ t l. there_at t (split_last t count l);
  apart = λ s t l m. apart_at s t l (split_last t count m);
}
  where
    free : (is_free c taken number ≡ true) × (number < length (offers_of c.book (length taken)))
    free = taken_is_free c taken number e

    early : (k : ℕ) → k < count → slice_index (taken ++ number ∷ []) k ≡ slice_index taken k
    early k l = let b = h.trains in before taken number k (omega (arith, b))

    last : (k : ℕ) → k ≡ count → slice_index (taken ++ number ∷ []) k ≡ number
    last k l = behind taken number k (l ∙ sym h.trains)

    there_at : (t : ℕ) → (t < count) ⊎ (t ≡ count) → slice_index (taken ++ number ∷ []) t < length (offers_of c.book t)
    there_at t (inl l) = let a = early t l in let b = h.there t l in omega (arith, a, b)
    there_at t (inr l) =
        let a = last t l in
        let b = free.1 in
        let P : ℕ → Type 0 = λ k. number < length (offers_of c.book k) in
        let d = subst P (h.trains ∙ sym l) b in
        omega (arith, a, d)

    apart_at : (s t : ℕ) → s < t → (t < count) ⊎ (t ≡ count)
        → are_forbidden c.station (chosen c (taken ++ number ∷ []) s) (chosen c (taken ++ number ∷ []) t) ≡ false
    apart_at s t l (inl m) =
        ap (λ i. are_forbidden c.station (pattern_at c.book s i) (chosen c (taken ++ number ∷ []) t)) (early s (omega arith))
        ∙ ap (λ i. are_forbidden c.station (chosen c taken s) (pattern_at c.book t i)) (early t m)
        ∙ h.apart s t l m
    apart_at s t l (inr m) =
        let b = h.trains in
        ap (λ i. are_forbidden c.station (pattern_at c.book s i) (chosen c (taken ++ number ∷ []) t)) (early s (omega arith))
        ∙ ap (λ i. are_forbidden c.station (chosen c taken s) (pattern_at c.book t i)) (last t m)
        ∙ ap (λ k. are_forbidden c.station (chosen c taken s) (pattern_at c.book k number)) (m ∙ sym h.trains)
        ∙ free_beside c taken number s free.0 (omega (arith, b)) (is_against c taken number s) refl

part_next : (c : CaseRecord) (count : ℕ) (earlier taken : List ℕ) (o : Option ℕ) → number_taken c earlier ≡ o → IsPart c count earlier
    → option_map (λ number. earlier ++ number ∷ []) o ≡ Some taken → IsPart c (suc count) taken
part_next c count earlier taken None is h e = cc
part_next c count earlier taken (Some number) is h e =
    let same : earlier ++ number ∷ [] ≡ taken = cc in
    subst (IsPart c (suc count)) same (part_more c count earlier number h is)

part_after : (c : CaseRecord) (count : ℕ) (o : Option (List ℕ)) (taken : List ℕ) → ((xs : List ℕ) → o ≡ Some xs → IsPart c count xs)
    → with_next c o ≡ Some taken → IsPart c (suc count) taken
part_after c count None taken h e = cc
part_after c count (Some earlier) taken h e = part_next c count earlier taken (number_taken c earlier) refl (h earlier refl) e

pub part_taken : (c : CaseRecord) (count : ℕ) (taken : List ℕ) → taken_by c count ≡ Some taken → IsPart c count taken
part_taken c zero taken e =
    let same : [] ≡ taken = cc in
    subst (IsPart c 0) same (record { trains = refl; there = λ t l. absurd (omega arith); apart = λ s t l m. absurd (omega arith) })
part_taken c (suc count) taken e = part_after c count (taken_by c count) taken (λ xs f. part_taken c count xs f) e

pub earlier_taken : (c : CaseRecord) (count : ℕ) (taken : List ℕ) → taken_by c count ≡ Some taken → count < length c.book → AreEarlier c taken
earlier_taken c count taken e h =
    let p = part_taken c count taken e in
    let same = p.trains in
    record { few = omega (arith, same); there = λ s l. p.there s (omega (arith, same)) }

pub taken_more : (c : CaseRecord) (count : ℕ) (taken : List ℕ) (number : ℕ) → taken_by c count ≡ Some taken → Some number ≡ number_taken c taken
    → taken_by c (count + 1) ≡ Some (taken ++ number ∷ [])
taken_more c count taken number e f =
    ap (taken_by c) (next count) ∙ ap (with_next c) e ∙ ap (option_map (λ k. taken ++ k ∷ [])) (sym f)
  where
    next : (n : ℕ) → n + 1 ≡ suc n
    next n = omega arith

none_behind : (c : CaseRecord) (count more : ℕ) → taken_by c count ≡ None → taken_by c (more + count) ≡ None
none_behind c count zero e = ap (taken_by c) (plain count) ∙ e
  where
    plain : (n : ℕ) → 0 + n ≡ n
    plain n = omega arith
none_behind c count (suc more) e =
    ap (taken_by c) (next more count) ∙ ap (with_next c) (none_behind c count more e)
  where
    next : (m n : ℕ) → suc m + n ≡ suc (m + n)
    next m n = omega arith

pub none_taken : (c : CaseRecord) (count : ℕ) (taken : List ℕ) → taken_by c count ≡ Some taken → None ≡ number_taken c taken
    → count < length c.book → None ≡ greedy_plan c
unfolding greedy_plan
none_taken c count taken e f h =
    let here : taken_by c (suc count) ≡ None = ap (with_next c) e ∙ ap (option_map (λ k. taken ++ k ∷ [])) (sym f) in
    sym (ap (taken_by c) (rest count (length c.book) h) ∙ none_behind c (suc count) (length c.book - suc count) here)
  where
    rest : (n m : ℕ) → n < m → m ≡ m - suc n + suc n
    rest n m l = omega arith

pub all_taken : (c : CaseRecord) (count : ℕ) (taken : List ℕ) → taken_by c count ≡ Some taken → count ≡ length c.book
    → Some taken ≡ greedy_plan c
unfolding greedy_plan
all_taken c count taken e h = sym (ap (taken_by c) (sym h) ∙ e)

pub feasible_taken : (c : CaseRecord) (taken : List ℕ) → Some taken ≡ greedy_plan c → IsFeasible c taken
unfolding greedy_plan
feasible_taken c taken e =
    let p = part_taken c (length c.book) taken (sym e) in
    record { fits = record { trains = p.trains; numbers = p.there }; apart = p.apart }
