-- The first of the free numbers that adds least.
use Rattle.std.proofs.Common.{◌≡◌, ℕ, zero, suc, ◌+◌, ◌<◌, ◌≤◌, ◌⊎◌, inl, inr, Bool, true, false, ◌&&◌, cond, List, ◌∷◌, length, refl, sym, ap, ◌∙◌, subst, arith, Option, None, Some}
use Rattle.std.specs.Prelude.{filter, find, nat_le}
use Rattle.std.specs.List.{list_all, range_with_len}
use Rattle.std.proofs.lemmas.Bool.{cases_lt}
use borrow.Author.Tests.{le-leb, lt-leb, leb-true, leb-false, both_ways}
use Rattle.patterns.specs.Book.{offers_of}
use Rattle.pair_prices.specs.Case.{CaseRecord}
use Rattle.primal_heuristic.specs.declared.greedy_plan.Added.{Added}
use Rattle.primal_heuristic.specs.Greedy.{added_cost, adds_least, free_numbers, is_free, number_taken}
use Rattle.primal_heuristic.specs.Looks.{less_of, look_at}

-- of the numbers from a on, those that pass
abbrev passing : (ℕ → Bool) → ℕ → ℕ → List ℕ
passing q a n = filter q (range_with_len a n)

find_none : (q p : ℕ → Bool) (a n : ℕ) → ((k : ℕ) → k < a + n → q k ≡ false) → find p (passing q a n) ≡ None
find_none q p a zero h = refl
find_none q p a (suc n) h =
    ap (λ b. find p (cond b (a ∷ passing q (a + 1) n) (passing q (a + 1) n))) (h a (omega arith))
    ∙ find_none q p (a + 1) n (λ k l. h k (omega arith))

find_at : (q p : ℕ → Bool) (a n m : ℕ) → a ≤ m → q m ≡ true → p m ≡ true → ((k : ℕ) → k < m → q k ≡ true → p k ≡ false)
    → (a < m → find p (passing q (a + 1) n) ≡ Some m) → find p (passing q a (suc n)) ≡ Some m
find_at q p a n m l g e h rest = by_order (cases_lt a m)
  where
    passed : a < m → (b : Bool) → q a ≡ b → find p (cond b (a ∷ passing q (a + 1) n) (passing q (a + 1) n)) ≡ Some m
    passed before true is = ap (λ b. cond b (Some a) (find p (passing q (a + 1) n))) (h a before is) ∙ rest before
    passed before false is = rest before

    here : a ≡ m → find p (cond (q a) (a ∷ passing q (a + 1) n) (passing q (a + 1) n)) ≡ Some m
    here same =
        ap (λ b. find p (cond b (a ∷ passing q (a + 1) n) (passing q (a + 1) n))) (ap q same ∙ g)
        ∙ ap (λ b. cond b (Some a) (find p (passing q (a + 1) n))) (ap p same ∙ e) ∙ ap Some same

    by_order : (a < m) ⊎ (m ≤ a) → find p (passing q a (suc n)) ≡ Some m
    by_order (inl before) = passed before (q a) refl
    by_order (inr after) = here (omega arith)

find_first : (q p : ℕ → Bool) (a n m : ℕ) → a ≤ m → m < a + n → q m ≡ true → p m ≡ true
    → ((k : ℕ) → k < m → q k ≡ true → p k ≡ false) → find p (passing q a n) ≡ Some m
find_first q p a zero m l u g e h = absurd (omega arith)
find_first q p a (suc n) m l u g e h =
    find_at q p a n m l g e h (λ before. find_first q p (a + 1) n m (omega arith) (omega arith) g e h)

pass_at : (q p : ℕ → Bool) (a n : ℕ) → (q a ≡ true → p a ≡ true) → list_all p (passing q (a + 1) n) ≡ true
    → list_all p (passing q a (suc n)) ≡ true
pass_at q p a n h rest = by_test (q a) refl
  where
    by_test : (b : Bool) → q a ≡ b → list_all p (cond b (a ∷ passing q (a + 1) n) (passing q (a + 1) n)) ≡ true
    by_test true is = ap (λ b. b && list_all p (passing q (a + 1) n)) (h is) ∙ rest
    by_test false is = rest

all_pass : (q p : ℕ → Bool) (a n : ℕ) → ((k : ℕ) → k < a + n → q k ≡ true → p k ≡ true) → list_all p (passing q a n) ≡ true
all_pass q p a zero h = refl
all_pass q p a (suc n) h = pass_at q p a n (h a (omega arith)) (all_pass q p (a + 1) n (λ k l g. h k (omega arith) g))

and_false : (b : Bool) → b && false ≡ false
and_false true = refl
and_false false = refl

fails_at : (q p : ℕ → Bool) (a n m : ℕ) → a ≤ m → q m ≡ true → p m ≡ false
    → (a < m → list_all p (passing q (a + 1) n) ≡ false) → list_all p (passing q a (suc n)) ≡ false
fails_at q p a n m l g e rest = by_order (cases_lt a m)
  where
    passed : a < m → (b : Bool) → list_all p (cond b (a ∷ passing q (a + 1) n) (passing q (a + 1) n)) ≡ false
    passed before true = ap (λ b. p a && b) (rest before) ∙ and_false (p a)
    passed before false = rest before

    here : a ≡ m → list_all p (cond (q a) (a ∷ passing q (a + 1) n) (passing q (a + 1) n)) ≡ false
    here same =
        ap (λ b. list_all p (cond b (a ∷ passing q (a + 1) n) (passing q (a + 1) n))) (ap q same ∙ g)
        ∙ ap (λ b. b && list_all p (passing q (a + 1) n)) (ap p same ∙ e)

    by_order : (a < m) ⊎ (m ≤ a) → list_all p (passing q a (suc n)) ≡ false
    by_order (inl before) = passed before (q a)
    by_order (inr after) = here (omega arith)

one_fails : (q p : ℕ → Bool) (a n m : ℕ) → a ≤ m → m < a + n → q m ≡ true → p m ≡ false → list_all p (passing q a n) ≡ false
one_fails q p a zero m l u g e = absurd (omega arith)
one_fails q p a (suc n) m l u g e =
    fails_at q p a n m l g e (λ before. one_fails q p (a + 1) n m (omega arith) (omega arith) g e)

-- what is found among the numbers below `end`: a free one that adds least, the first of those
pub record IsLeastBelow (c : CaseRecord) (earlier : List ℕ) (end : ℕ) (a : Added) : Type 0 where
  pub below : a.number < end
  pub free : is_free c earlier a.number ≡ true
  pub value : a.cost ≡ added_cost c earlier a.number
  pub least : (k : ℕ) → k < end → is_free c earlier k ≡ true → a.cost ≤ added_cost c earlier k
  pub first : (k : ℕ) → k < a.number → is_free c earlier k ≡ true → a.cost < added_cost c earlier k

-- nothing where none is free
abbrev pub IsFoundBelow : CaseRecord → List ℕ → ℕ → Option Added → Type 0
IsFoundBelow c earlier end None = (k : ℕ) → k < end → is_free c earlier k ≡ false
IsFoundBelow c earlier end (Some a) = IsLeastBelow c earlier end a

split_last : (k end : ℕ) → k < end + 1 → (k < end) ⊎ (k ≡ end)
split_last k end h = by_order (cases_lt k end)
  where
    by_order : (k < end) ⊎ (end ≤ k) → (k < end) ⊎ (k ≡ end)
    by_order (inl before) = inl before
    by_order (inr after) = inr (omega arith)

abbrev added : CaseRecord → List ℕ → ℕ → Added
added c earlier number = record { number = number; cost = added_cost c earlier number }

none_more : (c : CaseRecord) (earlier : List ℕ) (end : ℕ) → IsFoundBelow c earlier end None → is_free c earlier end ≡ false
    → IsFoundBelow c earlier (end + 1) None
none_more c earlier end h e k l = by_place (split_last k end l)
  where
    by_place : (k < end) ⊎ (k ≡ end) → is_free c earlier k ≡ false
    by_place (inl before) = h k before
    by_place (inr same) = ap (is_free c earlier) same ∙ e

-- the one before stays where the next isn't free, or adds no less
kept_more : (c : CaseRecord) (earlier : List ℕ) (end : ℕ) (a : Added) → IsLeastBelow c earlier end a
    → (is_free c earlier end ≡ true → a.cost ≤ added_cost c earlier end) → IsLeastBelow c earlier (end + 1) a
kept_more c earlier end a h e = record {
  below = let b = h.below in omega (arith, b);
  free = h.free;
  value = h.value;
  least = λ k l f. by_place k f (split_last k end l);
  first = h.first;
}
  where
    by_place : (k : ℕ) → is_free c earlier k ≡ true → (k < end) ⊎ (k ≡ end) → a.cost ≤ added_cost c earlier k
    by_place k f (inl before) = h.least k before f
    by_place k f (inr same) =
        let P : ℕ → Type 0 = λ n. a.cost ≤ added_cost c earlier n in
        subst P (sym same) (e (ap (is_free c earlier) (sym same) ∙ f))

-- the next is the one where it adds less than all free ones before it
taken_more : (c : CaseRecord) (earlier : List ℕ) (end : ℕ) → is_free c earlier end ≡ true
    → ((k : ℕ) → k < end → is_free c earlier k ≡ true → added_cost c earlier end < added_cost c earlier k)
    → IsLeastBelow c earlier (end + 1) (added c earlier end)
taken_more c earlier end free less = record {
  below = omega arith;
  free = free;
  value = refl;
  least = λ k l f. by_place k f (split_last k end l);
  first = less;
}
  where
    by_place : (k : ℕ) → is_free c earlier k ≡ true → (k < end) ⊎ (k ≡ end) → added_cost c earlier end ≤ added_cost c earlier k
    by_place k f (inl before) = let b = less k before f in omega (arith, b)
    by_place k f (inr same) = let e = ap (added_cost c earlier) same in omega (arith, e)

by_free : (c : CaseRecord) (earlier : List ℕ) (end : ℕ) (best : Option Added) (b : Bool) → is_free c earlier end ≡ b
    → IsFoundBelow c earlier end best → IsFoundBelow c earlier (end + 1) (less_of best (cond b (Some (added c earlier end)) None))
by_free c earlier end None true e h =
    taken_more c earlier end e (λ k l f. absurd (both_ways (is_free c earlier k) (h k l) f))
by_free c earlier end None false e h = none_more c earlier end h e
by_free c earlier end (Some a) false e h = kept_more c earlier end a h (λ f. absurd (both_ways (is_free c earlier end) e f))
by_free c earlier end (Some a) true e h = by_cost (nat_le a.cost (added_cost c earlier end)) refl
  where
    by_cost : (b : Bool) → nat_le a.cost (added_cost c earlier end) ≡ b
        → IsFoundBelow c earlier (end + 1) (cond b (Some a) (Some (added c earlier end)))
    by_cost true is = kept_more c earlier end a h (λ f. leb-true a.cost (added_cost c earlier end) is)
    by_cost false is =
        let less = leb-false a.cost (added_cost c earlier end) is in
        taken_more c earlier end e (λ k l f. let b = h.least k l f in omega (arith, less, b))

pub found_more : (c : CaseRecord) (earlier : List ℕ) (end : ℕ) (best : Option Added) → IsFoundBelow c earlier end best
    → IsFoundBelow c earlier (end + 1) (less_of best (look_at c earlier end))
found_more c earlier end best h = by_free c earlier end best (is_free c earlier end) refl h

pub found_none : (c : CaseRecord) (earlier : List ℕ) (end : ℕ) → end ≡ length (offers_of c.book (length earlier))
    → IsFoundBelow c earlier end None → None ≡ number_taken c earlier
unfolding number_taken free_numbers
found_none c earlier end same h =
    sym (find_none (is_free c earlier) (adds_least c earlier) 0 (length (offers_of c.book (length earlier))) (λ k l. h k (omega (arith, same))))

pub found_some : (c : CaseRecord) (earlier : List ℕ) (end : ℕ) (a : Added) → end ≡ length (offers_of c.book (length earlier))
    → IsLeastBelow c earlier end a → Some a.number ≡ number_taken c earlier
unfolding number_taken free_numbers
found_some c earlier end a same h =
    let below = h.below in
    let value = h.value in
    sym (find_first (is_free c earlier) (adds_least c earlier) 0 (length (offers_of c.book (length earlier))) a.number
    (omega arith) (omega (arith, same, below)) h.free
    (all_pass (is_free c earlier) (λ other. nat_le (added_cost c earlier a.number) (added_cost c earlier other)) 0 (length (offers_of c.book (length earlier)))
    (λ k l f. let b = h.least k (omega (arith, same)) f in le-leb (added_cost c earlier a.number) (added_cost c earlier k) (omega (arith, b, value))))
    (λ k l f. let b = h.first k l f in
    one_fails (is_free c earlier) (λ other. nat_le (added_cost c earlier k) (added_cost c earlier other)) 0 (length (offers_of c.book (length earlier)))
    a.number (omega arith) (omega (arith, same, below)) h.free
    (lt-leb (added_cost c earlier k) (added_cost c earlier a.number) (omega (arith, b, value)))))

-- what is found passes, and is one of the numbers
passes_at : (q p : ℕ → Bool) (a n m : ℕ) → (find p (passing q (a + 1) n) ≡ Some m → (q m ≡ true) × (m < a + suc n))
    → find p (passing q a (suc n)) ≡ Some m → (q m ≡ true) × (m < a + suc n)
passes_at q p a n m rest e = by_test (q a) refl e
  where
    chosen : (b : Bool) → q a ≡ true → cond b (Some a) (find p (passing q (a + 1) n)) ≡ Some m → (q m ≡ true) × (m < a + suc n)
    chosen true is f = let same : a ≡ m = cc in (ap q (sym same) ∙ is, omega (arith, same))
    chosen false is f = rest f

    by_test : (b : Bool) → q a ≡ b → find p (cond b (a ∷ passing q (a + 1) n) (passing q (a + 1) n)) ≡ Some m → (q m ≡ true) × (m < a + suc n)
    by_test true is f = chosen (p a) is f
    by_test false is f = rest f

find_passes : (q p : ℕ → Bool) (a n m : ℕ) → find p (passing q a n) ≡ Some m → (q m ≡ true) × (m < a + n)
find_passes q p a zero m e = cc
find_passes q p a (suc n) m e =
    passes_at q p a n m (λ f. let b = find_passes q p (a + 1) n m f in let l = b.1 in (b.0, omega (arith, l))) e

pub taken_is_free : (c : CaseRecord) (earlier : List ℕ) (number : ℕ) → number_taken c earlier ≡ Some number
    → (is_free c earlier number ≡ true) × (number < length (offers_of c.book (length earlier)))
unfolding number_taken free_numbers
taken_is_free c earlier number e =
    let b = find_passes (is_free c earlier) (adds_least c earlier) 0 (length (offers_of c.book (length earlier))) number e in
    let l = b.1 in (b.0, omega (arith, l))
