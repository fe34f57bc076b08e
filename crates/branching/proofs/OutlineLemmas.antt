-- The entries of a tree whose leaf in a slot is split.
use Rattle.std.proofs.Common.{◌≡◌, ℕ, zero, suc, ◌+◌, ◌≤◌, ◌==◌, Bool, true, false, cond, List, [], ◌∷◌, ◌++◌, length, drop, refl, sym, ap, ◌∙◌, arith, Some}
use Rattle.std.specs.Prelude.{count_by, slice_get, nat_lt, slice_set}
use Rattle.std.specs.List.{insert}
use Rattle.std.proofs.lemmas.Bool.Decides.{nat_tests}
use Rattle.std.proofs.lemmas.List.Concat.{flat_map-append}
use Rattle.std.proofs.lemmas.List.Sums.{sum_by-cons, sum_by-append}
use borrow.Author.Tests.{eqb-true}
use Rattle.leaf_bounds.specs.declared.tree.Cut.{Cut}
use Rattle.leaf_bounds.specs.Tree.{SplitTree, end, split, split_count}
use Rattle.branching.specs.declared.outline.Entry.{Entry}
use Rattle.branching.specs.declared.outline.Entry.TheVariants.{Split, Leaf}
use Rattle.branching.specs.Outline.{entries_of, is_leaf, grown_entry, grown_entries, grown_tree}
use Rattle.branching.specs.Searching.{AreSlots}

-- a test as a number
abbrev pub one_if : Bool → ℕ
one_if b = cond b 1 0

pub count_cons : (slot : ℕ) (e : Entry) (xs : List Entry) → count_by (is_leaf slot) (e ∷ xs) ≡ cond (is_leaf slot e) 1 0 + count_by (is_leaf slot) xs
count_cons slot e xs = sum_by-cons (λ x. cond (is_leaf slot x) 1 0) e xs

pub count_append : (slot : ℕ) (xs ys : List Entry) → count_by (is_leaf slot) (xs ++ ys) ≡ count_by (is_leaf slot) xs + count_by (is_leaf slot) ys
count_append slot xs ys = sum_by-append (λ x. cond (is_leaf slot x) 1 0) xs ys

count_if : (b : Bool) (k : ℕ) → cond b 1 0 + k ≡ 0 → b ≡ false
count_if true k h = absurd (omega arith)
count_if false k h = refl

pub own_leaf : (slot : ℕ) → is_leaf slot (Leaf slot) ≡ true
own_leaf slot = grind (arith, nat_tests)

-- a leaf that stands somewhere is counted
pub counted : (slot : ℕ) (xs : List Entry) (p : ℕ) → slice_get xs p ≡ Some (Leaf slot) → 1 ≤ count_by (is_leaf slot) xs
counted slot [] p h = cc
counted slot (x ∷ xs) zero h =
    let same : x ≡ Leaf slot = cc in
    let one : one_if (is_leaf slot x) ≡ 1 = ap (λ e. cond (is_leaf slot e) 1 0) same ∙ ap (λ b. cond b 1 0) (own_leaf slot) in
    omega (arith, count_cons slot x xs, one)
counted slot (x ∷ xs) (suc p) h = let rest = counted slot xs p h in omega (arith, count_cons slot x xs, rest)

kept_by : (slot : ℕ) (cut : Cut) (new other : ℕ) (b : Bool) → b ≡ false
    → cond b (Split cut ∷ Leaf slot ∷ Leaf new ∷ []) (Leaf other ∷ []) ≡ Leaf other ∷ []
kept_by slot cut new other true h = cc
kept_by slot cut new other false h = refl

-- an entry that isn't that leaf is kept
kept_entry : (slot : ℕ) (cut : Cut) (new : ℕ) (e : Entry) → is_leaf slot e ≡ false → grown_entry slot cut new e ≡ e ∷ []
kept_entry slot cut new (Split other) h = refl
kept_entry slot cut new (Leaf other) h = kept_by slot cut new other (other == slot) h

kept_entries : (slot : ℕ) (cut : Cut) (new : ℕ) (xs : List Entry) → count_by (is_leaf slot) xs ≡ 0 → grown_entries slot cut new xs ≡ xs
unfolding grown_entries
kept_entries slot cut new [] h = refl
kept_entries slot cut new (x ∷ xs) h =
    let both = count_cons slot x xs in
    let here = count_if (is_leaf slot x) (count_by (is_leaf slot) xs) (omega (arith, both, h)) in
    ap (λ ys. ys ++ grown_entries slot cut new xs) (kept_entry slot cut new x here)
    ∙ ap (λ ys. x ∷ ys) (kept_entries slot cut new xs (omega (arith, both, h)))

not_counted : (b : Bool) (k : ℕ) → cond b 1 0 + k ≡ 1 → 1 ≤ k → b ≡ false
not_counted true k h l = absurd (omega arith)
not_counted false k h l = refl

own_grown : (slot : ℕ) (cut : Cut) (new : ℕ) (b : Bool) → b ≡ true
    → cond b (Split cut ∷ Leaf slot ∷ Leaf new ∷ []) (Leaf slot ∷ []) ≡ Split cut ∷ Leaf slot ∷ Leaf new ∷ []
own_grown slot cut new true h = refl
own_grown slot cut new false h = cc

-- what the code makes of the entries
pub grown_at : (slot : ℕ) (cut : Cut) (new : ℕ) (xs : List Entry) (p : ℕ) → slice_get xs p ≡ Some (Leaf slot) → count_by (is_leaf slot) xs ≡ 1
    → insert (insert (slice_set xs p (Split cut)) (suc p) (Leaf new)) (suc p) (Leaf slot) ≡ grown_entries slot cut new xs
unfolding grown_entries
grown_at slot cut new [] p h one = cc
grown_at slot cut new (x ∷ xs) zero h one =
    let same : x ≡ Leaf slot = cc in
    let here : one_if (is_leaf slot x) ≡ 1 = ap (λ e. cond (is_leaf slot e) 1 0) same ∙ ap (λ b. cond b 1 0) (own_leaf slot) in
    let none : count_by (is_leaf slot) xs ≡ 0 = omega (arith, count_cons slot x xs, one, here) in
    sym (ap (λ e. grown_entry slot cut new e ++ grown_entries slot cut new xs) same
    ∙ ap (λ ys. ys ++ grown_entries slot cut new xs) (own_grown slot cut new (slot == slot) (own_leaf slot))
    ∙ ap (λ ys. Split cut ∷ Leaf slot ∷ Leaf new ∷ ys) (kept_entries slot cut new xs none))
grown_at slot cut new (x ∷ xs) (suc p) h one =
    let some = counted slot xs p h in
    let both = count_cons slot x xs in
    let here = not_counted (is_leaf slot x) (count_by (is_leaf slot) xs) (sym both ∙ one) some in
    let zero_here : one_if (is_leaf slot x) ≡ 0 = ap (λ b. cond b 1 0) here in
    let rest = grown_at slot cut new xs p h (omega (arith, both, one, zero_here)) in
    ap (λ ys. x ∷ ys) rest ∙ sym (ap (λ ys. ys ++ grown_entries slot cut new xs) (kept_entry slot cut new x here))

leaf_grown : (slot : ℕ) (cut : Cut) (new other : ℕ) (b : Bool)
    → entries_of (cond b (split cut (end slot) (end new)) (end other)) ≡ cond b (Split cut ∷ Leaf slot ∷ Leaf new ∷ []) (Leaf other ∷ []) ++ []
leaf_grown slot cut new other true = refl
leaf_grown slot cut new other false = refl

-- the entries of the grown tree
pub entries_grown : (slot : ℕ) (cut : Cut) (new : ℕ) (t : SplitTree ℕ) → entries_of (grown_tree slot cut new t) ≡ grown_entries slot cut new (entries_of t)
unfolding grown_entries
entries_grown slot cut new (end other) = leaf_grown slot cut new other (other == slot)
entries_grown slot cut new (split other a b) =
    ap (λ xs. Split other ∷ xs ++ entries_of (grown_tree slot cut new b)) (entries_grown slot cut new a)
    ∙ ap (λ ys. Split other ∷ grown_entries slot cut new (entries_of a) ++ ys) (entries_grown slot cut new b)
    ∙ ap (λ xs. Split other ∷ xs) (sym (flat_map-append (grown_entry slot cut new) (entries_of a) (entries_of b)))

leaf_splits : (slot : ℕ) (cut : Cut) (new other : ℕ) (b : Bool) → split_count (cond b (split cut (end slot) (end new)) (end other)) ≡ cond b 1 0
leaf_splits slot cut new other true = refl
leaf_splits slot cut new other false = refl

-- one split more for each leaf that is split
pub splits_grown : (slot : ℕ) (cut : Cut) (new : ℕ) (t : SplitTree ℕ)
    → split_count (grown_tree slot cut new t) ≡ split_count t + count_by (is_leaf slot) (entries_of t)
splits_grown slot cut new (end other) =
    let one = count_cons slot (Leaf other) [] in
    let made = leaf_splits slot cut new other (other == slot) in
    omega (arith, one, made)
splits_grown slot cut new (split other a b) =
    let first = splits_grown slot cut new a in
    let second = splits_grown slot cut new b in
    let head = count_cons slot (Split other) (entries_of a ++ entries_of b) in
    let both = count_append slot (entries_of a) (entries_of b) in
    omega (arith, first, second, head, both)

nothing : (t : Bool) → ◌≡◌ {A = ℕ} (cond t 0 0) 0
nothing true = refl
nothing false = refl

-- how often a leaf stands in what is made of one entry
entry_count : (slot : ℕ) (cut : Cut) (new a other : ℕ) (b : Bool) → (other == slot) ≡ b
    → count_by (is_leaf a) (cond b (Split cut ∷ Leaf slot ∷ Leaf new ∷ []) (Leaf other ∷ []))
    ≡ cond (other == a) 1 0 + cond (new == a) (cond b 1 0) 0
entry_count slot cut new a other true e =
    let same : other ≡ slot = eqb-true other slot e in
    let first = count_cons a (Split cut) (Leaf slot ∷ Leaf new ∷ []) in
    let second = count_cons a (Leaf slot) (Leaf new ∷ []) in
    let third = count_cons a (Leaf new) [] in
    let here : one_if (other == a) ≡ one_if (slot == a) = ap (λ k. cond (k == a) 1 0) same in
    omega (arith, first, second, third, here)
entry_count slot cut new a other false e =
    let only = count_cons a (Leaf other) [] in
    let none = nothing (new == a) in
    omega (arith, only, none)

joined : (t : Bool) (k m : ℕ) → cond t (k + m) 0 ≡ cond t k 0 + cond t m 0
joined true k m = refl
joined false k m = refl

one_entry : (slot : ℕ) (cut : Cut) (new a : ℕ) (e : Entry)
    → count_by (is_leaf a) (grown_entry slot cut new e) ≡ cond (is_leaf a e) 1 0 + cond (new == a) (cond (is_leaf slot e) 1 0) 0
one_entry slot cut new a (Split other) = let only = count_cons a (Split other) [] in let none = nothing (new == a) in omega (arith, only, none)
one_entry slot cut new a (Leaf other) = entry_count slot cut new a other (other == slot) refl

-- the new leaf stands as often as the leaf that is split did, and each other as often as before
pub counts_grown : (slot : ℕ) (cut : Cut) (new a : ℕ) (xs : List Entry)
    → count_by (is_leaf a) (grown_entries slot cut new xs) ≡ count_by (is_leaf a) xs + cond (new == a) (count_by (is_leaf slot) xs) 0
unfolding grown_entries
counts_grown slot cut new a [] = let none = nothing (new == a) in omega (arith, none)
counts_grown slot cut new a (x ∷ xs) =
    let parts = count_append a (grown_entry slot cut new x) (grown_entries slot cut new xs) in
    let here = one_entry slot cut new a x in
    let rest = counts_grown slot cut new a xs in
    let own = count_cons a x xs in
    let split_up : cond (new == a) (count_by (is_leaf slot) (x ∷ xs)) 0
    ≡ cond (new == a) (cond (is_leaf slot x) 1 0) 0 + cond (new == a) (count_by (is_leaf slot) xs) 0 =
    ap (λ k. cond (new == a) k 0) (count_cons slot x xs) ∙ joined (new == a) (cond (is_leaf slot x) 1 0) (count_by (is_leaf slot) xs) in
    omega (arith, parts, here, rest, own, split_up)

next_slot : (n a : ℕ) → cond (nat_lt a n) 1 0 + cond (n == a) 1 0 ≡ cond (nat_lt a (n + 1)) 1 0
next_slot n a = grind (arith, nat_tests)

pub slots_grown : (slot : ℕ) (cut : Cut) (n : ℕ) (xs : List Entry) → AreSlots xs n → count_by (is_leaf slot) xs ≡ 1
    → AreSlots (grown_entries slot cut n xs) (n + 1)
slots_grown slot cut n xs h one a =
    counts_grown slot cut n a xs
    ∙ ap (λ k. k + cond (n == a) (count_by (is_leaf slot) xs) 0) (h a)
    ∙ ap (λ k. cond (nat_lt a n) 1 0 + cond (n == a) k 0) one
    ∙ next_slot n a

next_is : (p : ℕ) → suc p ≡ p + 1
next_is p = omega arith

pub grown_there : (slot : ℕ) (cut : Cut) (new : ℕ) (xs ys zs ws : List Entry) (p : ℕ) → slice_get xs p ≡ Some (Leaf slot)
    → count_by (is_leaf slot) xs ≡ 1 → ys ≡ slice_set xs p (Split cut) → zs ≡ insert ys (p + 1) (Leaf new) → ws ≡ insert zs (p + 1) (Leaf slot)
    → ws ≡ grown_entries slot cut new xs
grown_there slot cut new xs ys zs ws p h one e f g =
    g ∙ ap (λ vs. insert vs (p + 1) (Leaf slot)) (f ∙ ap (λ vs. insert vs (p + 1) (Leaf new)) e)
    ∙ ap (λ k. insert (insert (slice_set xs p (Split cut)) k (Leaf new)) k (Leaf slot)) (sym (next_is p))
    ∙ grown_at slot cut new xs p h one

pub none_behind : (slot : ℕ) (xs : List Entry) (k : ℕ) → count_by (is_leaf slot) (drop k xs) ≡ 1 → length xs ≤ k → ⊥
none_behind slot [] zero h l = omega (arith, h)
none_behind slot [] (suc k) h l = omega (arith, h)
none_behind slot (x ∷ xs) zero h l = omega arith
none_behind slot (x ∷ xs) (suc k) h l = none_behind slot xs k h (omega arith)
