-- The expansion of a shared leaf is the leaf.
use Rattle.std.proofs.Common.{◌≡◌, ℕ, zero, suc, ◌<◌, ◌==◌, ◌&&◌, ◌||◌, Bool, true, false, cond, not, List, [], ◌∷◌, length, map, take, refl, sym, ap, ◌∙◌, subst, arith, zero-add, Option, Some, slice_get, ℤ, pos, ◌+ℤ◌, ◌*ℤ◌}
use Rattle.std.specs.Prelude.{Contains}
use Rattle.std.specs.List.{filter, list_any}
use Rattle.std.proofs.lemmas.Int.{ints}
use Rattle.station.proofs.Lists.{Rising}
use Rattle.patterns.specs.Allowed.{Lists, list_of}
use Rattle.pair_prices.specs.Trains.{TrainPair}
use Rattle.leaf_bounds.specs.declared.leaf.Leaf.{Leaf}
use Rattle.leaf_bounds.specs.declared.number.NumberValue.{NumberValue}
use Rattle.leaf_bounds.specs.declared.number.PairValue.{PairValue}
use Rattle.leaf_bounds.specs.declared.shared.SharedLeaf.{SharedLeaf}
use Rattle.leaf_bounds.specs.declared.table.PotTable.{PotTable}
use Rattle.leaf_bounds.specs.declared.uses.UseOf.{UseOf}
use Rattle.leaf_bounds.specs.Group.{Group, group_in}
use Rattle.leaf_bounds.specs.Total.{only_if, total}
use Rattle.leaf_bounds.specs.Listed.{IsSmall, is_at, number_listed, pair_listed, u_listed, v_listed}
use Rattle.leaf_bounds.specs.Expansion.{AreSmall, expanded, expansion, in_list, is_of, table_alpha, table_beta}
use Rattle.leaf_bounds.specs.Sharing.{entries_of, group_of, is_carried, is_entry_of, stays, uses_from, IsSharedLeafOf}
use Rattle.leaf_bounds.specs.Shown.{numbers_of}
use Rattle.leaf_bounds.proofs.RowLemmas.{alpha_values, beta_values}
use Rattle.shared_trees.specs.Expanded.{AreInLists, IsExpansion}
use Rattle.shared_trees.proofs.OnceLemmas.{Differs, every_of_all, rising-take}
use Rattle.shared_trees.proofs.ListedLemmas.{at_key, left_listed, listed_small, outside}
use Rattle.shared_trees.proofs.UseLemmas.{carried_groups, front, groups_total, uses_total}

-- whether the leaf uses a table of the pair
abbrev is_used : Leaf → List Group → TrainPair → Bool
is_used l gs p = list_any (is_of p) (carried_groups l gs)

entry_used : (p : TrainPair) (x : PairValue) → x.first ≡ p.first → x.second ≡ p.second → (hs : List Group)
    → is_entry_of (map (λ (g : Group). record { first = g.first; second = g.second }) hs) x ≡ list_any (is_of p) hs
entry_used p x first second [] = refl
entry_used p x first second (h ∷ hs) =
    let rest = entry_used p x first second hs in
    (λ j. (h.first == first j && h.second == second j) || rest j)

stays_is : (l : Leaf) (gs : List Group) (p : TrainPair) (i : ℕ) (x : PairValue) → is_at p i x ≡ true → stays gs l x ≡ not (is_used l gs p)
stays_is l gs p i x e =
    let k = at_key p i x e in
    ap not (entry_used p x k.first k.second (carried_groups l gs))

-- what is left and what is used are together what was there
whole_is : (u b : Bool) (a : ℤ) → (b ≡ false → a ≡ pos 0) → only_if (not u) a +ℤ only_if b (only_if u a) ≡ a
whole_is true true a h = omega (arith, ints)
whole_is true false a h = let e = h refl in omega (arith, ints, e)
whole_is false true a h = omega (arith, ints)
whole_is false false a h = omega (arith, ints)

part_small : (u w b : Bool) (a : ℤ) → (w ≡ true → u ≡ true) → IsSmall a → IsSmall (only_if (not u) a +ℤ only_if b (only_if w a))
part_small true true true a h s = omega (arith, ints, s)
part_small true true false a h s = omega (arith, ints, s)
part_small true false true a h s = omega (arith, ints, s)
part_small true false false a h s = omega (arith, ints, s)
part_small false true b a h s = let e = h refl in cc
part_small false false true a h s = omega (arith, ints, s)
part_small false false false a h s = omega (arith, ints, s)

slice_get-take : (few : ℕ) (gs : List Group) (j : ℕ) → j < length (take few gs) → slice_get gs j ≡ slice_get (take few gs) j
slice_get-take zero gs j h = absurd (omega arith)
slice_get-take (suc few) [] j h = refl
slice_get-take (suc few) (g ∷ gs) zero h = refl
slice_get-take (suc few) (g ∷ gs) (suc j) h = slice_get-take few gs j (omega arith)

used_by : (l : Leaf) (p : TrainPair) (g : Group) (gs hs : List Group) (b : Bool)
    → (list_any (is_of p) hs ≡ true → list_any (is_of p) gs ≡ true)
    → list_any (is_of p) (cond b (g ∷ hs) hs) ≡ true → list_any (is_of p) (cond b (g ∷ gs) gs) ≡ true
used_by l p g gs hs true h e = either (is_of p g) e
  where
    either : (d : Bool) → (d || list_any (is_of p) hs) ≡ true → (d || list_any (is_of p) gs) ≡ true
    either true f = refl
    either false f = h f
used_by l p g gs hs false h e = h e

used_more : (l : Leaf) (p : TrainPair) (few : ℕ) (gs : List Group) → is_used l (take few gs) p ≡ true → is_used l gs p ≡ true
used_more l p zero gs e = cc
used_more l p (suc few) [] e = cc
used_more l p (suc few) (g ∷ gs) e =
    used_by l p g (carried_groups l gs) (carried_groups l (take few gs)) (is_carried l g) (used_more l p few gs) e

-- one side of a leaf's pairs, for the groups that stand in tables
module _ (l : Leaf) (gs : List Group) (once : Rising Differs gs) (entries : Group → List NumberValue) (xs : List PairValue)
    (of_leaf : (p : TrainPair) → entries (group_of l p) ≡ entries_of p xs) (p : TrainPair) (i : ℕ) (table : Option Group → ℤ)
    (table_is : (g : Group) → table (Some g) ≡ only_if (is_of p g) (number_listed (entries g) i)) where
  abbrev used : List UseOf → ℤ
  used uses = total (λ x. x.factor *ℤ table (slice_get gs x.table)) uses

  used_is : (hs : List Group) → Rising Differs hs → ((j : ℕ) → j < length hs → slice_get gs j ≡ slice_get hs j)
      → used (uses_from 0 l hs) ≡ only_if (is_used l hs p) (pair_listed xs p i)
  used_is hs r same =
      uses_total table l (slice_get gs) 0 hs (λ j m. ap (slice_get gs) (zero-add j) ∙ same j m)
      ∙ (λ j. total (λ g. table_is g j) (carried_groups l hs))
      ∙ groups_total l entries xs of_leaf p i hs r

  rest_is : pair_listed (filter (stays gs l) xs) p i ≡ only_if (not (is_used l gs p)) (pair_listed xs p i)
  rest_is = left_listed (stays gs l) (is_used l gs p) p i xs (λ x e. stays_is l gs p i x e)

  pub side_is : (rest : List PairValue) (uses : List UseOf) (b : Bool) → rest ≡ filter (stays gs l) xs → uses ≡ uses_from 0 l gs
      → (b ≡ false → pair_listed xs p i ≡ pos 0) → pair_listed rest p i +ℤ only_if b (used uses) ≡ pair_listed xs p i
  side_is rest uses b e f h =
      let first = ap (λ ys. pair_listed ys p i) e ∙ rest_is in
      let second = ap used f ∙ used_is gs once (λ j m. refl) in
      (λ j. first j +ℤ only_if b (second j)) ∙ whole_is (is_used l gs p) b (pair_listed xs p i) h

  pub side_small : (rest : List PairValue) (uses : List UseOf) (b : Bool) (n : ℕ) → rest ≡ filter (stays gs l) xs → uses ≡ uses_from 0 l gs
      → IsSmall (pair_listed xs p i) → IsSmall (pair_listed rest p i +ℤ only_if b (used (take n uses)))
  side_small rest uses b n e f s =
      let part = front l gs n 0 in
      let first = ap (λ ys. pair_listed ys p i) e ∙ rest_is in
      let second = ap used (ap (take n) f ∙ part.is)
      ∙ used_is (take part.few gs) (rising-take Differs part.few gs once) (slice_get-take part.few gs) in
      subst (λ (z : ℤ). IsSmall z) (sym (λ j. first j +ℤ only_if b (second j)))
      (part_small (is_used l gs p) (is_used l (take part.few gs) p) b (pair_listed xs p i) (used_more l p part.few gs) s)

-- a shared leaf
module _ (tables : List PotTable) (l : Leaf) (s : SharedLeaf) (once : Rising Differs (map group_in tables)) (h : IsSharedLeafOf (map group_in tables) l s) where
  alpha_is : (lists : Lists) → AreInLists lists l → (p : TrainPair) (i : ℕ) → (expanded tables lists s).alpha p i ≡ pair_listed l.alpha p i
  alpha_is lists a p i =
      side_is l (map group_in tables) once (λ g. g.alpha) l.alpha (λ q. refl) p i (table_alpha p i) (λ g. refl) s.rest.alpha s.uses (in_list lists p.first i)
      h.alpha h.uses
      (outside lists (λ x. x.first) p.first p i l.alpha (λ x k. k.first) (every_of_all (λ x. Contains (list_of lists x.first) x.number) l.alpha a.alpha))

  beta_is : (lists : Lists) → AreInLists lists l → (p : TrainPair) (i : ℕ) → (expanded tables lists s).beta p i ≡ pair_listed l.beta p i
  beta_is lists a p i =
      side_is l (map group_in tables) once (λ g. g.beta) l.beta (λ q. refl) p i (table_beta p i) (λ g. refl) s.rest.beta s.uses (in_list lists p.second i)
      h.beta h.uses
      (outside lists (λ x. x.second) p.second p i l.beta (λ x k. k.second) (every_of_all (λ x. Contains (list_of lists x.second) x.number) l.beta a.beta))

  pub leaf_expands : (lists : Lists) → AreInLists lists l → IsExpansion tables lists s l
  leaf_expands lists a =
      let q = h.q in
      let u = h.u in
      let v = h.v in
      let alpha = alpha_is lists a in
      let beta = beta_is lists a in
      (λ j. record { q = q j; u = u_listed (u j); v = v_listed (v j); alpha = λ p i. alpha p i j; beta = λ p i. beta p i j })

  -- no number on the way is too large
  pub leaf_small : (lists : Lists) (n : ℕ) → AreSmall (expansion (map group_in tables) lists (numbers_of s.rest) (take n s.uses))
  leaf_small lists n = record {
    alpha = λ p i. side_small l (map group_in tables) once (λ g. g.alpha) l.alpha (λ q. refl) p i (table_alpha p i) (λ g. refl) s.rest.alpha s.uses
        (in_list lists p.first i) n h.alpha h.uses (listed_small p i l.alpha (alpha_values l));
    beta = λ p i. side_small l (map group_in tables) once (λ g. g.beta) l.beta (λ q. refl) p i (table_beta p i) (λ g. refl) s.rest.beta s.uses
        (in_list lists p.second i) n h.beta h.uses (listed_small p i l.beta (beta_values l));
  }
