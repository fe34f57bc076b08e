-- Keys in a heap.
use Rattle.std.proofs.Common.{◌≡◌, ◌<◌, Bool, true, false, cond, List, [], ◌∷◌, ◌++◌, map, length, get_or, refl, sym, ◌∙◌, subst, arith, ℤ, ◌≤ℤ◌, Option}
use Rattle.std.specs.Prelude.{All, int_lt}
use Rattle.std.specs.Ordering.{int_cmp, nat_cmp, ordering_then, is_lt}
use Rattle.std.specs.declared.cmp.Ordering.{Ordering}
use Rattle.std.specs.declared.cmp.Reverse.{Reverse}
use Rattle.std.specs.BinaryHeap.{IsUpperBound}
use Rattle.std.specs.List.Sorted.{IsPermutation}
use Rattle.std.proofs.lemmas.Int.{ints}
use Rattle.std.proofs.lemmas.List.Elements.{All-from_recursion, All-map, All-weaker}
use Rattle.std.proofs.lemmas.List.Sorted.{IsPermutation-map}
use Rattle.leaf_bounds.specs.declared.tree.Bound.TheVariants.{AtLeast}
use Rattle.branching.specs.declared.found.Priced.{Priced}
use Rattle.branching.specs.declared.waiting.Key.{Key}
use Rattle.branching.specs.Keys.{IsNext, IsNoneNext}
use Rattle.branching.specs.Known.{is_settled}
use Rattle.branching.proofs.KnownLemmas.{settled_more}

-- the order of the heap: the least key is the greatest
abbrev pub by_key : Reverse Key → Reverse Key → Ordering
by_key x y = ordering_then (int_cmp y.0.bound x.0.bound) (ordering_then (nat_cmp y.0.order x.0.order) (nat_cmp y.0.slot x.0.slot))

not_below : (a b : ℤ) (o : Ordering) (t : Bool) → int_lt b a ≡ t → is_lt (ordering_then (cond t Ordering.Less (cond (int_lt a b) Ordering.Greater Ordering.Equal)) o) ≡ false → a ≤ℤ b
not_below a b o true e h = cc
not_below a b o false e h = grind (arith, ints)

no_less : (x y : Reverse Key) → is_lt (by_key x y) ≡ false → x.0.bound ≤ℤ y.0.bound
no_less x y h =
    not_below x.0.bound y.0.bound (ordering_then (nat_cmp y.0.order x.0.order) (nat_cmp y.0.slot x.0.slot)) (int_lt y.0.bound x.0.bound) refl h

pub least_keys : (x : Reverse Key) (xs : List (Reverse Key)) → IsUpperBound by_key x xs → All (λ k. x.0.bound ≤ℤ k.bound) (map (λ r. r.0) xs)
least_keys x xs h =
    All-map (λ k. x.0.bound ≤ℤ k.bound) (λ r. r.0) xs
    (All-weaker (λ y. is_lt (by_key x y) ≡ false) (λ y. x.0.bound ≤ℤ y.0.bound) (no_less x) xs (All-from_recursion (λ y. is_lt (by_key x y) ≡ false) xs h))

pub added : (key : Key) (b : Bool) → b ≡ false → (xs ys : List (Reverse Key)) (ks : List Key) → map (λ r. r.0) xs ≡ ks
    → IsPermutation (record { 0 = key } ∷ xs) ys → IsPermutation (cond b [] (key ∷ []) ++ ks) (map (λ r. r.0) ys)
added key true e xs ys ks f h = cc
added key false e xs ys ks f h =
    subst (λ (zs : List Key). IsPermutation (key ∷ zs) (map (λ r. r.0) ys)) f (IsPermutation-map (λ (r : Reverse Key). r.0) (record { 0 = key } ∷ xs) ys h)

pub none_next : (best : Option Priced) (x : Reverse Key) (xs : List (Reverse Key)) (ks : List Key) → map (λ r. r.0) xs ≡ ks
    → IsUpperBound by_key x xs → is_settled best (AtLeast x.0.bound) ≡ true → IsNoneNext best ks ks
none_next best x xs ks e h settled = record {
  same = refl;
  settled = subst (All (λ k. is_settled best (AtLeast k.bound) ≡ true)) e
      (All-weaker (λ k. x.0.bound ≤ℤ k.bound) (λ k. is_settled best (AtLeast k.bound) ≡ true)
      (λ k l. settled_more best x.0.bound k.bound l settled) (map (λ r. r.0) xs) (least_keys x xs h));
}

head_same : {X : Type 0} (xs : List X) (a b : X) → 0 < length xs → a ≡ get_or xs 0 a → b ≡ get_or xs 0 b → a ≡ b
head_same [] a b h e f = absurd (omega arith)
head_same (x ∷ xs) a b h e f = e ∙ sym f

pub is_next : (best : Option Priced) (top x : Reverse Key) (xs ys : List (Reverse Key)) (ks : List Key) → map (λ r. r.0) xs ≡ ks → 0 < length xs
    → top ≡ get_or xs 0 top → x ≡ get_or xs 0 x → IsPermutation xs (x ∷ ys) → IsUpperBound by_key x ys
    → is_settled best (AtLeast top.0.bound) ≡ false → IsNext best ks (map (λ r. r.0) ys) x.0
is_next best top x xs ys ks e some at there taken h unsettled = record {
  taken = subst (λ (zs : List Key). IsPermutation zs (x.0 ∷ map (λ r. r.0) ys)) e (IsPermutation-map (λ (r : Reverse Key). r.0) xs (x ∷ ys) taken);
  least = least_keys x ys h;
  unsettled = subst (λ (r : Reverse Key). is_settled best (AtLeast r.0.bound) ≡ false) (head_same xs top x some at there) unsettled;
}
