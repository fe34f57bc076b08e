-- What the uses of a leaf add up to.
use Rattle.std.proofs.Common.{◌≡◌, ℕ, zero, suc, ◌+◌, ◌<◌, ◌==◌, Bool, true, false, cond, List, [], ◌∷◌, length, take, refl, sym, ap, ◌∙◌, arith, Option, Some, slice_get, ℤ, pos, ◌+ℤ◌, ◌*ℤ◌}
use Rattle.std.specs.List.{filter, list_any}
use Rattle.std.proofs.lemmas.Int.{ints}
use Rattle.std.proofs.lemmas.Bool.{eqb-true}
use Rattle.station.proofs.Lists.{Every, Rising, any-found, every-at, rising-filter}
use Rattle.pair_prices.specs.Trains.{TrainPair}
use Rattle.leaf_bounds.specs.declared.leaf.Leaf.{Leaf}
use Rattle.leaf_bounds.specs.declared.number.NumberValue.{NumberValue}
use Rattle.leaf_bounds.specs.declared.number.PairValue.{PairValue}
use Rattle.leaf_bounds.specs.declared.uses.UseOf.{UseOf}
use Rattle.leaf_bounds.specs.Group.{Group}
use Rattle.leaf_bounds.specs.Total.{only_if, total}
use Rattle.leaf_bounds.specs.Listed.{number_listed, pair_listed}
use Rattle.leaf_bounds.specs.Expansion.{is_of}
use Rattle.leaf_bounds.specs.Sharing.{entries_of, group_of, groups_of, is_carried, same_group, uses_from}
use Rattle.leaf_bounds.proofs.SharingLemmas.{group_same}
use Rattle.shared_trees.proofs.OnceLemmas.{Differs, groups_every, passes}
use Rattle.shared_trees.proofs.ListedLemmas.{both_true, entries_listed, one_of}

one_times : (z : ℤ) → pos 1 *ℤ z ≡ z
one_times z = omega (arith, ints)

abbrev pub use_of : ℕ → UseOf
use_of k = record { table = k; factor = pos 1 }

-- ---- a sum over uses is a sum over groups that the leaf carries

step : (f : Option Group → ℤ) (look : ℕ → Option Group) (k : ℕ) (g : Group) (uses : List UseOf) (gs : List Group) (b : Bool) → look k ≡ Some g
    → total (λ x. x.factor *ℤ f (look x.table)) uses ≡ total (λ h. f (Some h)) gs
    → total (λ x. x.factor *ℤ f (look x.table)) (cond b (use_of k ∷ uses) uses) ≡ total (λ h. f (Some h)) (cond b (g ∷ gs) gs)
step f look k g uses gs true e rest =
    let here = one_times (f (look k)) ∙ ap f e in
    (λ i. here i +ℤ rest i)
step f look k g uses gs false e rest = rest

pub uses_total : (f : Option Group → ℤ) (l : Leaf) (look : ℕ → Option Group) (k : ℕ) (gs : List Group)
    → ((j : ℕ) → j < length gs → look (k + j) ≡ slice_get gs j)
    → total (λ x. x.factor *ℤ f (look x.table)) (uses_from k l gs) ≡ total (λ g. f (Some g)) (filter (is_carried l) gs)
uses_total f l look k [] h = refl
uses_total f l look k (g ∷ gs) h =
    step f look k g (uses_from (suc k) l gs) (filter (is_carried l) gs) (is_carried l g) (ap look (here k) ∙ h 0 (omega arith))
    (uses_total f l look (suc k) gs (λ j m. ap look (next k j) ∙ h (suc j) (omega arith)))
  where
    here : (n : ℕ) → n ≡ n + 0
    here n = omega arith

    next : (n j : ℕ) → suc n + j ≡ n + suc j
    next n j = omega arith

-- ---- the first uses are those of the first groups

pub record IsFront (k : ℕ) (l : Leaf) (gs : List Group) (uses : List UseOf) : Type 0 where
  pub few : ℕ
  pub is : uses ≡ uses_from k l (take few gs)

front_by : (n k : ℕ) (l : Leaf) (g : Group) (gs : List Group) (b : Bool) → is_carried l g ≡ b
    → IsFront (suc k) l gs (take n (uses_from (suc k) l gs)) → IsFront (suc k) l gs (take (suc n) (uses_from (suc k) l gs))
    → IsFront k l (g ∷ gs) (take (suc n) (cond b (use_of k ∷ uses_from (suc k) l gs) (uses_from (suc k) l gs)))
front_by n k l g gs true e r s =
    let rest = uses_from (suc k) l (take r.few gs) in
    record { few = suc r.few; is = ap (λ us. use_of k ∷ us) r.is ∙ ap (λ c. cond c (use_of k ∷ rest) rest) (sym e) }
front_by n k l g gs false e r s =
    let rest = uses_from (suc k) l (take s.few gs) in
    record { few = suc s.few; is = s.is ∙ ap (λ c. cond c (use_of k ∷ rest) rest) (sym e) }

pub front : (l : Leaf) (gs : List Group) (n k : ℕ) → IsFront k l gs (take n (uses_from k l gs))
front l [] zero k = record { few = 0; is = refl }
front l [] (suc n) k = record { few = 0; is = refl }
front l (g ∷ gs) zero k = record { few = 0; is = refl }
front l (g ∷ gs) (suc n) k = front_by n k l g gs (is_carried l g) refl (front l gs n (suc k)) (front l gs (suc n) (suc k))

-- ---- a group that a leaf carries is its group of that pair

abbrev pair_of_group : Group → TrainPair
pair_of_group g = record { first = g.first; second = g.second }

record IsOwn (l : Leaf) (g : Group) : Type 0 where
  same : same_group g (group_of l (pair_of_group g)) ≡ true

own : (l : Leaf) (g : Group) → is_carried l g ≡ true → IsOwn l g
own l g e =
    let found = any-found (same_group g) (groups_of l) e in
    let h = found.1 in
    let is : h ≡ group_of l (pair_of_group h) =
    every-at (λ k. k ≡ group_of l (pair_of_group k)) (groups_of l) (groups_every (λ k. k ≡ group_of l (pair_of_group k)) l (λ p t. refl)) found.0 h found.2 in
    let same = group_same g h found.3 in
    let pair = ap pair_of_group (sym same) in
    record { same = ap (same_group g) (sym (is ∙ ap (group_of l) pair)) ∙ found.3 }

pub own_at : (l : Leaf) (p : TrainPair) (g : Group) → is_carried l g ≡ true → is_of p g ≡ true → same_group g (group_of l p) ≡ true
own_at l p g e t =
    let both = both_true (g.first == p.first) (g.second == p.second) t in
    let first = eqb-true g.first p.first both.0 in
    let second = eqb-true g.second p.second both.1 in
    let pair : pair_of_group g ≡ p = (λ i. record { first = first i; second = second i }) in
    ap (λ q. same_group g (group_of l q)) (sym pair) ∙ (own l g e).same

-- two of them can't be of one pair
apart : (l : Leaf) (p : TrainPair) (g h : Group) → Differs g h → is_carried l g ≡ true → is_carried l h ≡ true → is_of p g ≡ true → is_of p h ≡ true → ⊥
apart l p g h d e f t u =
    let one = own_at l p g e t in
    let other = group_same h (group_of l p) (own_at l p h f u) in
    let same : same_group g h ≡ true = ap (same_group g) other ∙ one in
    cc

-- the groups that a leaf carries
abbrev pub carried_groups : Leaf → List Group → List Group
carried_groups l gs = filter (is_carried l) gs

apart_all : (l : Leaf) (p : TrainPair) (gs : List Group) → Rising Differs gs → Every (λ g. is_carried l g ≡ true) gs
    → Rising (λ g h. is_of p g ≡ true → is_of p h ≡ true → ⊥) gs
apart_all l p [] r e = tt
apart_all l p (g ∷ gs) r e = (each gs r.0 e.1, apart_all l p gs r.1 e.1)
  where
    each : (hs : List Group) → Every (Differs g) hs → Every (λ h. is_carried l h ≡ true) hs → Every (λ h. is_of p g ≡ true → is_of p h ≡ true → ⊥) hs
    each [] a b = tt
    each (h ∷ hs) a b = ((λ t u. apart l p g h a.0 e.0 b.0 t u), each hs a.1 b.1)

-- ---- what the uses of one side of a leaf's pairs add

module _ (l : Leaf) (entries : Group → List NumberValue) (xs : List PairValue) (of_leaf : (p : TrainPair) → entries (group_of l p) ≡ entries_of p xs)
    (p : TrainPair) (i : ℕ) where
  value_is : (g : Group) → is_carried l g ≡ true → is_of p g ≡ true → number_listed (entries g) i ≡ pair_listed xs p i
  value_is g e t =
      let same = group_same g (group_of l p) (own_at l p g e t) in
      ap (λ h. number_listed (entries h) i) same ∙ ap (λ ns. number_listed ns i) (of_leaf p) ∙ entries_listed p i xs

  values_are : (gs : List Group) → Every (λ g. is_carried l g ≡ true) gs → Every (λ g. is_of p g ≡ true → number_listed (entries g) i ≡ pair_listed xs p i) gs
  values_are [] e = tt
  values_are (g ∷ gs) e = ((λ t. value_is g e.0 t), values_are gs e.1)

  pub groups_total : (gs : List Group) → Rising Differs gs
      → total (λ g. only_if (is_of p g) (number_listed (entries g) i)) (carried_groups l gs)
      ≡ only_if (list_any (is_of p) (carried_groups l gs)) (pair_listed xs p i)
  groups_total gs r =
      one_of (is_of p) (λ g. number_listed (entries g) i) (pair_listed xs p i) (carried_groups l gs)
      (values_are (carried_groups l gs) (passes (is_carried l) gs))
      (apart_all l p (carried_groups l gs) (rising-filter Differs (is_carried l) gs r) (passes (is_carried l) gs))
