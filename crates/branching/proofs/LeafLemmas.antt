-- What a check says of a leaf, and the best of several.
use Rattle.std.proofs.Common.{◌≡◌, List, [], ◌∷◌, ◌++◌, length, subst, inl, inr, ◌⊎◌, arith, Option, Some, None, Ok}
use Rattle.std.specs.Prelude.{Contains}
use Rattle.std.proofs.lemmas.List.Elements.{Contains-push_cases}
use Rattle.patterns.specs.Allowed.{Lists}
use Rattle.pair_prices.specs.Case.{CaseRecord}
use Rattle.leaf_bounds.specs.declared.check.LeafValue.{LeafValue}
use Rattle.leaf_bounds.specs.declared.check.PairPlace.{PairPlace}
use Rattle.leaf_bounds.specs.declared.check.PatternPlace.{PatternPlace}
use Rattle.leaf_bounds.specs.declared.leaf.Leaf.{Leaf}
use Rattle.leaf_bounds.specs.declared.tree.Bound.{Bound}
use Rattle.leaf_bounds.specs.declared.tree.Bound.TheVariants.{AtLeast, Nothing}
use Rattle.leaf_bounds.specs.Leaf.{LeafRecord}
use Rattle.leaf_bounds.specs.Verdict.{answer_of, first_pair, first_pattern, verdict_by, verdict_of}
use Rattle.branching.specs.Bounds.{IsNoLess}
use Rattle.std.proofs.lemmas.Int.{ints}

answer_by : (o : Option PairPlace) (p : Option PatternPlace) (answer v : LeafValue) → verdict_by o p answer ≡ Ok v → v ≡ answer
answer_by (Some a) p answer v e = cc
answer_by None (Some b) answer v e = cc
answer_by None None answer v e = cc

pub checked : (c : CaseRecord) (lists : Lists) (l : LeafRecord) (v : LeafValue) → verdict_of c lists l ≡ Ok v → v ≡ answer_of c l
unfolding verdict_of
checked c lists l v e = answer_by (first_pair c lists l) (first_pattern c lists l) (answer_of c l) v e

pub no_less_twice : (a b d : Bound) → IsNoLess a b → IsNoLess b d → IsNoLess a d
no_less_twice Nothing Nothing d h g = g
no_less_twice Nothing (AtLeast m) d h g = absurd h
no_less_twice (AtLeast n) Nothing Nothing h g = tt
no_less_twice (AtLeast n) Nothing (AtLeast k) h g = absurd g
no_less_twice (AtLeast n) (AtLeast m) Nothing h g = tt
no_less_twice (AtLeast n) (AtLeast m) (AtLeast k) h g = omega (arith, ints, h, g)

pub no_less_same : (b : Bound) → IsNoLess b b
no_less_same Nothing = tt
no_less_same (AtLeast n) = omega (arith, ints)

-- one more leaf is seen
pub seen_more : (bound : Leaf → Bound) (xs ys : List Leaf) (x : Leaf) (old new : Bound) → ys ≡ xs ++ x ∷ [] → IsNoLess old new → IsNoLess (bound x) new
    → (l : Leaf) → Contains ys l ⊎ IsNoLess (bound l) old → Contains xs l ⊎ IsNoLess (bound l) new
seen_more bound xs ys x old new e f g l (inr h) = inr (no_less_twice (bound l) old new h f)
seen_more bound xs ys x old new e f g l (inl h) = by_place (Contains-push_cases xs x l (subst (λ (zs : List Leaf). Contains zs l) e h))
  where
    by_place : Contains xs l ⊎ (x ≡ l) → Contains xs l ⊎ IsNoLess (bound l) new
    by_place (inl i) = inl i
    by_place (inr i) = inr (subst (λ (k : Leaf). IsNoLess (bound k) new) i g)

pub all_seen : (P : Leaf → Type 0) (xs : List Leaf) (l : Leaf) → length xs ≡ 0 → Contains xs l ⊎ P l → P l
all_seen P xs l e (inl h) = absurd (omega (arith, h.1))
all_seen P xs l e (inr h) = h
