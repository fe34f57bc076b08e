-- Grouping lines one after the other.
use Rattle.std.proofs.Common.{◌≡◌, ◌≢◌, ℕ, ◌+◌, ◌<◌, ◌≤◌, List, [], ◌∷◌, ◌++◌, length, Bool, true, false, nat_lt, refl, sym, ap, ◌∙◌, arith, ℤ, ◌⊎◌, inl, inr}
use Rattle.std.specs.Prelude.{slice_index}
use Rattle.std.specs.List.{All}
use Rattle.std.proofs.lemmas.List.{get_or_append_left, get_or_push, length-append}
use Rattle.std.proofs.lemmas.Bool.{ltb-true}
use borrow.Author.Tests.{ltb-false}
use Rattle.pair_classes.specs.Groups.{AreGroups, Joins, line_at}

-- the first n lines have their classes
pub record GroupsTo (lines : List (List ℤ)) (n : ℕ) (classes heads : List ℕ) : Type 0 where
  pub count : length classes ≡ n
  pub class : (i : ℕ) → i < n → slice_index classes i < length heads
  pub same : (i : ℕ) → i < n → line_at lines (slice_index heads (slice_index classes i)) ≡ line_at lines i
  -- no earlier class has the line
  pub first : (i k : ℕ) → i < n → k < slice_index classes i → line_at lines (slice_index heads k) ≢ line_at lines i
  pub there : All (λ h. h < n) heads
  pub most : length heads ≤ n

-- whether a number below n + 1 is below n or n itself
pub last_or : (i n : ℕ) → i < n + 1 → (i < n) ⊎ (i ≡ n)
last_or i n h = by (nat_lt i n) refl
  where
    by : (b : Bool) → nat_lt i n ≡ b → (i < n) ⊎ (i ≡ n)
    by true e = inl (ltb-true i n e)
    by false e = let f = ltb-false i n e in inr (omega arith)

pub group_more : (lines : List (List ℤ)) (n k : ℕ) (classes old new : List ℕ) → GroupsTo lines n classes old → Joins lines n k old new
    → GroupsTo lines (n + 1) (classes ++ k ∷ []) new
group_more lines n k classes old new g j = record {
  count = length-append classes (k ∷ []) ∙ ap (λ m. m + 1) g.count;
  class = λ i h. class_of i (last_or i n h);
  same = λ i h. same_at i (last_or i n h);
  first = λ i l h less same. first_at i l (last_or i n h) less same;
  there = j.there;
  most = j.most;
}
  where
    earlier : (i : ℕ) → i < n → slice_index (classes ++ k ∷ []) i ≡ slice_index classes i
    earlier i h = get_or_append_left classes (k ∷ []) 0 i (omega (arith, g.count, h))

    newest : (i : ℕ) → i ≡ n → slice_index (classes ++ k ∷ []) i ≡ k
    newest i h = get_or_push classes k 0 i (g.count ∙ sym h)

    class_of : (i : ℕ) → (i < n) ⊎ (i ≡ n) → slice_index (classes ++ k ∷ []) i < length new
    class_of i (inl h) = let e = earlier i h in let f = g.class i h in omega (arith, e, f, j.least)
    class_of i (inr h) = let e = newest i h in omega (arith, e, j.counted)

    same_at : (i : ℕ) → (i < n) ⊎ (i ≡ n) → line_at lines (slice_index new (slice_index (classes ++ k ∷ []) i)) ≡ line_at lines i
    same_at i (inl h) =
        ap (λ m. line_at lines (slice_index new m)) (earlier i h)
        ∙ ap (line_at lines) (j.kept (slice_index classes i) (g.class i h))
        ∙ g.same i h
    same_at i (inr h) = ap (λ m. line_at lines (slice_index new m)) (newest i h) ∙ j.same ∙ ap (line_at lines) (sym h)

    first_at : (i l : ℕ) → (i < n) ⊎ (i ≡ n) → l < slice_index (classes ++ k ∷ []) i → line_at lines (slice_index new l) ≡ line_at lines i → ⊥
    first_at i l (inl h) less same =
        let e = earlier i h in
        let below = g.class i h in
        g.first i l h (omega (arith, less, e)) (ap (line_at lines) (sym (j.kept l (omega (arith, less, e, below)))) ∙ same)
    first_at i l (inr h) less same =
        let e = newest i h in
        j.first l (omega (arith, less, e)) (same ∙ ap (line_at lines) h)

-- the first class with a line is one for equal lines
one_class : (lines : List (List ℤ)) (n : ℕ) (classes heads : List ℕ) → GroupsTo lines n classes heads
    → (i j : ℕ) → i < n → j < n → line_at lines i ≡ line_at lines j → slice_index classes i ≡ slice_index classes j
one_class lines n classes heads g i j hi hj e =
    by (nat_lt (slice_index classes i) (slice_index classes j)) refl (nat_lt (slice_index classes j) (slice_index classes i)) refl
  where
    by : (a : Bool) → nat_lt (slice_index classes i) (slice_index classes j) ≡ a → (b : Bool) → nat_lt (slice_index classes j) (slice_index classes i) ≡ b
        → slice_index classes i ≡ slice_index classes j
    by true f b q =
        let bad : ⊥ = g.first j (slice_index classes i) hj (ltb-true (slice_index classes i) (slice_index classes j) f) (g.same i hi ∙ e) in
        absurd bad
    by false f true q =
        let bad : ⊥ = g.first i (slice_index classes j) hi (ltb-true (slice_index classes j) (slice_index classes i) q) (g.same j hj ∙ sym e) in
        absurd bad
    by false f false q =
        let up = ltb-false (slice_index classes i) (slice_index classes j) f in
        let down = ltb-false (slice_index classes j) (slice_index classes i) q in
        omega (arith, up, down)

pub grouped : (lines : List (List ℤ)) (n : ℕ) (classes heads : List ℕ) → GroupsTo lines n classes heads → n ≡ length lines
    → AreGroups lines classes heads
grouped lines n classes heads g e = record {
  count = g.count ∙ e;
  class = λ i h. g.class i (omega (arith, g.count, h));
  same = λ i h. g.same i (omega (arith, g.count, h));
  whole = λ i j hi hj e. one_class lines n classes heads g i j (omega (arith, g.count, hi)) (omega (arith, g.count, hj)) e;
  there = λ k h. let below = g.there k 0 h in omega (arith, below, e);
  most = omega (arith, g.most, e);
}

pub no_groups : (lines : List (List ℤ)) → GroupsTo lines 0 [] []
no_groups lines = record {
  count = refl;
  class = λ i h. omega (arith, h);
  same = λ i h. let bad : ⊥ = omega (arith, h) in absurd bad;
  first = λ i k h. let bad : ⊥ = omega (arith, h) in absurd bad;
  there = λ k d h. let bad : ⊥ = omega (arith, h) in absurd bad;
  most = omega arith;
}

-- one more line that differs
pub differs_next : (lines : List (List ℤ)) (heads : List ℕ) (line : List ℤ) (place : ℕ) → ((k : ℕ) → k < place → line_at lines (slice_index heads k) ≢ line)
    → line_at lines (slice_index heads place) ≢ line → (k : ℕ) → k < place + 1 → line_at lines (slice_index heads k) ≢ line
differs_next lines heads line place before here k h e = by (last_or k place h)
  where
    by : (k < place) ⊎ (k ≡ place) → ⊥
    by (inl l) = before k l e
    by (inr l) = here (ap (λ i. line_at lines (slice_index heads i)) (sym l) ∙ e)
