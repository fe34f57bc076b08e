-- How many plans the first lists have.
use Rattle.std.proofs.Common.{◌≡◌, ℕ, zero, suc, ◌+◌, ◌-◌, ◌*◌, ◌<◌, ◌≤◌, ◌⊎◌, min, [], ◌∷◌, length, take, take_all, sym, ap, ◌∙◌, inl, inr, arith}
use Rattle.std.proofs.lemmas.Bool.{cases_lt}
use Rattle.std.proofs.lemmas.List.FromFn.{length-range_with_len}
use Rattle.std.proofs.lemmas.Nat.{mul-le}
use Rattle.std.proofs.Math.Nat.{mul_assoc}
use Rattle.patterns.specs.Allowed.{Lists, list_of, full_lists}
use Rattle.patterns.specs.Book.{Offers, offers_of}
use Rattle.patterns.proofs.ListLemmas.{full_fits, full_list-is}
use Rattle.pair_prices.specs.Case.{CaseRecord}
use Rattle.leaf_bounds.specs.Tree.{plan_count}
use Rattle.branching.specs.Answer.{split_bound}

one_more : (a : ℕ) → a * 1 ≡ 1 * a
one_more a = omega arith

next_is : (k : ℕ) → k + 1 ≡ suc k
next_is k = omega arith

count_suc : (lists : Lists) (k : ℕ) → k < length lists → plan_count (take (suc k) lists) ≡ plan_count (take k lists) * length (list_of lists k)
count_suc [] k h = absurd (omega arith)
count_suc (m ∷ lists) zero h = one_more (length m)
count_suc (m ∷ lists) (suc k) h =
    ap (λ (n : ℕ). length m * n) (count_suc lists k (omega arith)) ∙ sym (mul_assoc (length m) (plan_count (take k lists)) (length (list_of lists k)))

count_more : (lists : Lists) (k : ℕ) → k < length lists → plan_count (take (k + 1) lists) ≡ plan_count (take k lists) * length (list_of lists k)
count_more lists k h = ap (λ n. plan_count (take n lists)) (next_is k) ∙ count_suc lists k h

none_left : (a b : ℕ) → a ≡ 0 → a * b ≡ 0
none_left a b e = ap (λ (n : ℕ). n * b) e ∙ zero_left b
  where
    zero_left : (n : ℕ) → 0 * n ≡ 0
    zero_left n = omega arith

none_right : (a b : ℕ) → b ≡ 0 → a * b ≡ 0
none_right a b e = ap (λ (n : ℕ). a * n) e ∙ zero_right a
  where
    zero_right : (n : ℕ) → n * 0 ≡ 0
    zero_right n = omega arith

none_if : (lists : Lists) (k : ℕ) → k < length lists → length (list_of lists k) ≡ 0 → plan_count lists ≡ 0
none_if [] k h e = absurd (omega arith)
none_if (m ∷ lists) zero h e = none_left (length m) (plan_count lists) e
none_if (m ∷ lists) (suc k) h e = none_right (length m) (plan_count lists) (none_if lists k (omega arith) e)

full_length : (book : Offers) (k : ℕ) → length (list_of (full_lists book) k) ≡ length (offers_of book k)
full_length book k = ap length (full_list-is book k) ∙ length-range_with_len 0 (length (offers_of book k))

full_count : (book : Offers) → length (full_lists book) ≡ length book
full_count book = (full_fits book).trains

-- where a train has no pattern
pub none_bound : (c : CaseRecord) (book : Offers) (k n : ℕ) → book ≡ c.book → k < length book → n ≡ length (offers_of book k) → n ≡ 0 → 0 ≡ split_bound c
unfolding split_bound
none_bound c book k n same h e z =
    let count = full_count book in
    let none = none_if (full_lists book) k (omega (arith, h, count)) (full_length book k ∙ sym e ∙ z) in
    sym (ap (λ (b : Offers). min (plan_count (full_lists b) - 1) 340282366920938463463374607431768211455) (sym same)
    ∙ ap (λ (p : ℕ). min (p - 1) 340282366920938463463374607431768211455) none)

-- the step of the bound
bound_suc : (q n b m r most : ℕ) → 1 ≤ n → b ≡ min q most → m ≡ min (b * n) most → r ≡ min (m + (n - 1)) most → r ≡ min (n + q * n - 1) most
bound_suc q n b m r most some e f g = by_size (cases_lt most q)
  where
    by_size : (most < q) ⊎ (q ≤ most) → r ≡ min (n + q * n - 1) most
    by_size (inl l) =
        let own : b ≡ most = omega (arith, e, l) in
        let product : b * n ≡ most * n = ap (λ (k : ℕ). k * n) own in
        let enough = mul-le most 1 most n (omega arith) some in
        let more = mul-le q 1 q n (omega arith) some in
        let one : most * 1 ≡ most = omega arith in
        let two : q * 1 ≡ q = omega arith in
        omega (arith, product, enough, more, one, two, l, f, g)
    by_size (inr l) =
        let own : b ≡ q = omega (arith, e, l) in
        let product : b * n ≡ q * n = ap (λ (k : ℕ). k * n) own in
        omega (arith, product, f, g, some)

one_of : (p : ℕ) → 1 ≤ p → p ≡ suc (p - 1)
one_of p h = omega arith

whole_of : (q n : ℕ) → n + q * n ≡ suc q * n
whole_of q n = omega arith

bound_next : (p n b m r most : ℕ) → 1 ≤ p → 1 ≤ n → b ≡ min (p - 1) most → m ≡ min (b * n) most → r ≡ min (m + (n - 1)) most → r ≡ min (p * n - 1) most
bound_next p n b m r most some each e f g =
    bound_suc (p - 1) n b m r most each e f g
    ∙ ap (λ (k : ℕ). min (k - 1) most) (whole_of (p - 1) n ∙ ap (λ (k : ℕ). k * n) (sym (one_of p some)))

module _ (book : Offers) (k n : ℕ) (there : k < length book) (count : n ≡ length (offers_of book k)) (each : n ≡ 0 → ⊥)
    (some : 1 ≤ plan_count (take k (full_lists book))) where
  plans_more : plan_count (take (k + 1) (full_lists book)) ≡ plan_count (take k (full_lists book)) * n
  plans_more =
      let all = full_count book in
      count_more (full_lists book) k (omega (arith, there, all)) ∙ ap (λ (m : ℕ). plan_count (take k (full_lists book)) * m) (full_length book k ∙ sym count)

  pub some_more : 1 ≤ plan_count (take (k + 1) (full_lists book))
  some_more =
      let product = mul-le 1 1 (plan_count (take k (full_lists book))) n some (omega (arith, each)) in
      let more = plans_more in
      omega (arith, product, more)

  pub bound_more : (b m r most : ℕ) → b ≡ min (plan_count (take k (full_lists book)) - 1) most → m ≡ min (b * n) most → r ≡ min (m + (n - 1)) most
      → r ≡ min (plan_count (take (k + 1) (full_lists book)) - 1) most
  bound_more b m r most e f g =
      bound_next (plan_count (take k (full_lists book))) n b m r most some (omega (arith, each)) e f g
      ∙ ap (λ (p : ℕ). min (p - 1) most) (sym plans_more)

-- after all trains
pub whole_bound : (c : CaseRecord) (book : Offers) (k b : ℕ) → book ≡ c.book → length book ≤ k
    → b ≡ min (plan_count (take k (full_lists book)) - 1) 340282366920938463463374607431768211455 → b ≡ split_bound c
unfolding split_bound
whole_bound c book k b same h e =
    let count = full_count book in
    e ∙ ap (λ (ls : Lists). min (plan_count ls - 1) 340282366920938463463374607431768211455) (take_all k (full_lists book) (omega (arith, h, count)))
    ∙ ap (λ (o : Offers). min (plan_count (full_lists o) - 1) 340282366920938463463374607431768211455) same
