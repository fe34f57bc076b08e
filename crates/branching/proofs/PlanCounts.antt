-- A tree with a leaf that may be split further has at least two splits less than there are plans.
use Rattle.std.proofs.Common.{◌≡◌, ℕ, zero, suc, ◌+◌, ◌*◌, ◌<◌, ◌≤◌, Bool, true, false, not, List, [], ◌∷◌, length, inl, inr, refl, sym, ap, ◌∙◌, arith}
use Rattle.std.specs.Prelude.{nat_lt, nat_le, ◌≢◌}
use Rattle.std.specs.List.{filter}
use Rattle.std.proofs.lemmas.Nat.{mul-le}
use Rattle.std.proofs.Math.Nat.{add-mul, mul-add}
use Rattle.std.proofs.lemmas.List.Filters.{length-filter_both}
use borrow.Author.Tests.{ltb-true, ltb-false, le-leb, lt-leb}
use Rattle.patterns.specs.Allowed.{Lists, list_of, part_below, part_from, with_list}
use Rattle.leaf_bounds.specs.Tree.{SplitTree, end, split, lists_below, lists_from, tree_stands, split_count, plan_count}
use Rattle.branching.proofs.ShapeLemmas.{SomeLeaf}

other_part : (m n : ℕ) (b : Bool) → nat_lt n m ≡ b → nat_le m n ≡ not b
other_part m n true e = lt-leb m n (ltb-true n m e)
other_part m n false e = le-leb m n (ltb-false n m e)

parts_whole : (m : ℕ) (ns : List ℕ) → length (part_below m ns) + length (part_from m ns) ≡ length ns
unfolding part_below part_from
parts_whole m ns = length-filter_both (λ n. nat_lt n m) (λ n. nat_le m n) (λ n. other_part m n (nat_lt n m) refl) ns

count_parts : (lists : Lists) (t : ℕ) (a b : List ℕ) → t < length lists → length a + length b ≡ length (list_of lists t)
    → plan_count (with_list lists t a) + plan_count (with_list lists t b) ≡ plan_count lists
count_parts [] t a b h e = absurd (omega arith)
count_parts (m ∷ lists) zero a b h e =
    sym (add-mul (length a) (length b) (plan_count lists)) ∙ ap (λ (n : ℕ). n * plan_count lists) e
count_parts (m ∷ lists) (suc t) a b h e =
    sym (mul-add (length m) (plan_count (with_list lists t a)) (plan_count (with_list lists t b)))
    ∙ ap (λ (n : ℕ). length m * n) (count_parts lists t a b (omega arith) e)

some_left : (a b : ℕ) → 1 ≤ a * b → 1 ≤ a
some_left zero b h = absurd (omega arith)
some_left (suc a) b h = omega arith

some_right : (a b : ℕ) → 1 ≤ a * b → 1 ≤ b
some_right a zero h = absurd (omega arith)
some_right a (suc b) h = omega arith

pub some_length : (ns : List ℕ) → ns ≢ [] → 1 ≤ length ns
some_length [] h = absurd (h refl)
some_length (n ∷ ns) h = omega arith

some_with : (lists : Lists) (t : ℕ) (ns : List ℕ) → ns ≢ [] → 1 ≤ plan_count lists → 1 ≤ plan_count (with_list lists t ns)
some_with [] t ns h l = l
some_with (m ∷ lists) zero ns h l = mul-le 1 1 (length ns) (plan_count lists) (some_length ns h) (some_right (length m) (plan_count lists) l)
some_with (m ∷ lists) (suc t) ns h l =
    mul-le 1 1 (length m) (plan_count (with_list lists t ns)) (some_left (length m) (plan_count lists) l)
    (some_with lists t ns h (some_right (length m) (plan_count lists) l))

there_if_some : (lists : Lists) (t : ℕ) → list_of lists t ≢ [] → t < length lists
there_if_some [] t h = absurd (h refl)
there_if_some (m ∷ lists) zero h = omega arith
there_if_some (m ∷ lists) (suc t) h = let rest = there_if_some lists t h in omega (arith, rest)

below_some : (m : ℕ) (ns : List ℕ) → part_below m ns ≢ [] → ns ≢ []
unfolding part_below
below_some m ns h = λ e. h (ap (filter (λ n. nat_lt n m)) e)

module _ {L : Type 0} (stands : Lists → L → Type 0) where
  fewer : (lists : Lists) (tree : SplitTree L) → tree_stands stands lists tree → 1 ≤ plan_count lists → split_count tree < plan_count lists
  fewer lists (end l) h some = omega (arith, some)
  fewer lists (split cut a b) h some =
      let first = fewer (lists_below lists cut) a h.1 (some_with lists cut.train (part_below cut.at (list_of lists cut.train)) h.0.below some) in
      let second = fewer (lists_from lists cut) b h.2 (some_with lists cut.train (part_from cut.at (list_of lists cut.train)) h.0.rest some) in
      let whole = count_parts lists cut.train (part_below cut.at (list_of lists cut.train)) (part_from cut.at (list_of lists cut.train))
      (there_if_some lists cut.train (below_some cut.at (list_of lists cut.train) h.0.below)) (parts_whole cut.at (list_of lists cut.train)) in
      omega (arith, first, second, whole)

  two_fewer : (lists : Lists) (tree : SplitTree L) → tree_stands stands lists tree → 1 ≤ plan_count lists
      → SomeLeaf (λ ns l. 2 ≤ plan_count ns) lists tree → split_count tree + 2 ≤ plan_count lists
  two_fewer lists (end l) h some s = omega (arith, s)
  two_fewer lists (split cut a b) h some (inl s) =
      let first = two_fewer (lists_below lists cut) a h.1 (some_with lists cut.train (part_below cut.at (list_of lists cut.train)) h.0.below some) s in
      let second = fewer (lists_from lists cut) b h.2 (some_with lists cut.train (part_from cut.at (list_of lists cut.train)) h.0.rest some) in
      let whole = count_parts lists cut.train (part_below cut.at (list_of lists cut.train)) (part_from cut.at (list_of lists cut.train))
      (there_if_some lists cut.train (below_some cut.at (list_of lists cut.train) h.0.below)) (parts_whole cut.at (list_of lists cut.train)) in
      omega (arith, first, second, whole)
  two_fewer lists (split cut a b) h some (inr s) =
      let first = fewer (lists_below lists cut) a h.1 (some_with lists cut.train (part_below cut.at (list_of lists cut.train)) h.0.below some) in
      let second = two_fewer (lists_from lists cut) b h.2 (some_with lists cut.train (part_from cut.at (list_of lists cut.train)) h.0.rest some) s in
      let whole = count_parts lists cut.train (part_below cut.at (list_of lists cut.train)) (part_from cut.at (list_of lists cut.train))
      (there_if_some lists cut.train (below_some cut.at (list_of lists cut.train) h.0.below)) (parts_whole cut.at (list_of lists cut.train)) in
      omega (arith, first, second, whole)

  -- the lists of some leaf have plans, and so have all
  some_above : (lists : Lists) (tree : SplitTree L) → tree_stands stands lists tree → SomeLeaf (λ ns l. 2 ≤ plan_count ns) lists tree → 1 ≤ plan_count lists
  some_above lists (end l) h s = omega (arith, s)
  some_above lists (split cut a b) h (inl s) =
      let first = some_above (lists_below lists cut) a h.1 s in
      let whole = count_parts lists cut.train (part_below cut.at (list_of lists cut.train)) (part_from cut.at (list_of lists cut.train))
      (there_if_some lists cut.train (below_some cut.at (list_of lists cut.train) h.0.below)) (parts_whole cut.at (list_of lists cut.train)) in
      omega (arith, first, whole)
  some_above lists (split cut a b) h (inr s) =
      let second = some_above (lists_from lists cut) b h.2 s in
      let whole = count_parts lists cut.train (part_below cut.at (list_of lists cut.train)) (part_from cut.at (list_of lists cut.train))
      (there_if_some lists cut.train (below_some cut.at (list_of lists cut.train) h.0.below)) (parts_whole cut.at (list_of lists cut.train)) in
      omega (arith, second, whole)

  pub more_plans : (lists : Lists) (tree : SplitTree L) → tree_stands stands lists tree → SomeLeaf (λ ns l. 2 ≤ plan_count ns) lists tree
      → split_count tree + 2 ≤ plan_count lists
  more_plans lists tree h s = two_fewer lists tree h (some_above lists tree h s) s

-- each list has a member, and one has two
pub two_plans : (lists : Lists) (t : ℕ) → ((s : ℕ) → s < length lists → list_of lists s ≢ []) → t < length lists → 2 ≤ length (list_of lists t)
    → 2 ≤ plan_count lists
two_plans [] t h i l = absurd (omega arith)
two_plans (m ∷ lists) zero h i l = mul-le 2 1 (length m) (plan_count lists) l (some_plans lists (λ s k. h (suc s) (omega arith)))
  where
    some_plans : (rest : Lists) → ((s : ℕ) → s < length rest → list_of rest s ≢ []) → 1 ≤ plan_count rest
    some_plans [] g = omega arith
    some_plans (k ∷ rest) g = mul-le 1 1 (length k) (plan_count rest) (some_length k (g 0 (omega arith))) (some_plans rest (λ s j. g (suc s) (omega arith)))
two_plans (m ∷ lists) (suc t) h i l =
    mul-le 1 2 (length m) (plan_count lists) (some_length m (h 0 (omega arith))) (two_plans lists t (λ s k. h (suc s) (omega arith)) (omega arith) l)
