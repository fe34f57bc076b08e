-- The groups that are shared stand once each, and what is true of the groups of all leaves is true of them.
use Rattle.std.proofs.Common.{◌≡◌, ℕ, zero, suc, Bool, true, false, cond, not, List, [], ◌∷◌, map, take, refl, sym, subst}
use Rattle.std.specs.List.{All, filter, flat_map}
use Rattle.std.proofs.lemmas.List.Elements.{All-cons, All-head, All-nil, All-tail}
use Rattle.station.proofs.Lists.{Every, Rising, every-append, every-filter, every-weaker, rising-filter}
use Rattle.pair_prices.specs.Trains.{TrainPair, train_pairs}
use Rattle.leaf_bounds.specs.declared.leaf.Leaf.{Leaf}
use Rattle.leaf_bounds.specs.declared.table.PotTable.{PotTable}
use Rattle.leaf_bounds.specs.declared.tree.Node.{Node}
use Rattle.leaf_bounds.specs.Group.{Group, group_in}
use Rattle.leaf_bounds.specs.Sharing.{carried, common_groups, each_once, group_of, groups_of, is_some_group, is_twice, leaves_of, most_tables, most_trains, same_group, shared_groups}

-- ---- what is true of each element

pub every-take : {X : Type 0} (P : X → Type 0) (n : ℕ) (xs : List X) → Every P xs → Every P (take n xs)
every-take P zero xs h = tt
every-take P (suc n) [] h = tt
every-take P (suc n) (x ∷ xs) h = (h.0, every-take P n xs h.1)

pub rising-take : {X : Type 0} (R : X → X → Type 0) (n : ℕ) (xs : List X) → Rising R xs → Rising R (take n xs)
rising-take R zero xs h = tt
rising-take R (suc n) [] h = tt
rising-take R (suc n) (x ∷ xs) h = (every-take (R x) n xs h.0, rising-take R n xs h.1)

pub every_of_all : {X : Type 0} (P : X → Type 0) (xs : List X) → All P xs → Every P xs
every_of_all P [] h = tt
every_of_all P (x ∷ xs) h = (All-head P x xs h, every_of_all P xs (All-tail P x xs h))

pub all_of_every : {X : Type 0} (P : X → Type 0) (xs : List X) → Every P xs → All P xs
all_of_every P [] h = All-nil P
all_of_every P (x ∷ xs) h = All-cons P x xs h.0 (all_of_every P xs h.1)

passes_by : {X : Type 0} (p : X → Bool) (x : X) (xs : List X) (b : Bool) → p x ≡ b → Every (λ y. p y ≡ true) xs
    → Every (λ y. p y ≡ true) (cond b (x ∷ xs) xs)
passes_by p x xs true e h = (e, h)
passes_by p x xs false e h = h

pub passes : {X : Type 0} (p : X → Bool) (xs : List X) → Every (λ x. p x ≡ true) (filter p xs)
passes p [] = tt
passes p (x ∷ xs) = passes_by p x (filter p xs) (p x) refl (passes p xs)

pub both_every : {X : Type 0} (P Q R : X → Type 0) → ((x : X) → P x → Q x → R x) → (xs : List X) → Every P xs → Every Q xs → Every R xs
both_every P Q R h [] a b = tt
both_every P Q R h (x ∷ xs) a b = (h x a.0 b.0, both_every P Q R h xs a.1 b.1)

picked_by : {Y : Type 0} (P : Y → Type 0) (y : Y) (ys : List Y) (b : Bool) → (b ≡ true → P y) → Every P ys → Every P (cond b (y ∷ ys) ys)
picked_by P y ys true h rest = (h refl, rest)
picked_by P y ys false h rest = rest

-- elements that are made of others and pass a test
pub every_picked : {X Y : Type 0} (P : Y → Type 0) (test : Y → Bool) (f : X → Y) → ((x : X) → test (f x) ≡ true → P (f x)) → (xs : List X)
    → Every P (filter test (map f xs))
every_picked P test f h [] = tt
every_picked P test f h (x ∷ xs) = picked_by P (f x) (filter test (map f xs)) (test (f x)) (h x) (every_picked P test f h xs)

pub every_flat : {X Y : Type 0} (P : Y → Type 0) (f : X → List Y) (xs : List X) → Every (λ x. Every P (f x)) xs → Every P (flat_map f xs)
every_flat P f [] h = tt
every_flat P f (x ∷ xs) h = every-append P (f x) (flat_map f xs) h.0 (every_flat P f xs h.1)

pub every_made : {X Y : Type 0} (P : Y → Type 0) (f : X → Y) (xs : List X) → Every P (map f xs) → Every (λ x. P (f x)) xs
every_made P f [] h = tt
every_made P f (x ∷ xs) h = (h.0, every_made P f xs h.1)

-- ---- groups that stand once

-- the first isn't the second
abbrev pub Differs : Group → Group → Type 0
Differs g h = same_group g h ≡ false

not_true : (b : Bool) → not b ≡ true → b ≡ false
not_true true e = cc
not_true false e = refl

differs_all : (g : Group) (gs : List Group) → Every (Differs g) (filter (λ h. not (same_group g h)) gs)
differs_all g gs =
    every-weaker (λ h. not (same_group g h) ≡ true) (Differs g) (λ h e. not_true (same_group g h) e) (filter (λ h. not (same_group g h)) gs)
    (passes (λ h. not (same_group g h)) gs)

once_rises : (gs : List Group) → Rising Differs (each_once gs)
once_rises [] = tt
once_rises (g ∷ gs) = (differs_all g (each_once gs), rising-filter Differs (λ h. not (same_group g h)) (each_once gs) (once_rises gs))

once_every : (P : Group → Type 0) (gs : List Group) → Every P gs → Every P (each_once gs)
once_every P [] h = tt
once_every P (g ∷ gs) h = (h.0, every-filter P (λ h. not (same_group g h)) (each_once gs) (once_every P gs h.1))

pub shared_once : (nodes : List Node) → Rising Differs (shared_groups nodes)
unfolding shared_groups
shared_once nodes = rising-take Differs most_tables (common_groups (carried nodes)) (once_rises (filter (is_twice (carried nodes)) (carried nodes)))

shared_every : (P : Group → Type 0) (nodes : List Node) → Every P (carried nodes) → Every P (shared_groups nodes)
unfolding shared_groups
shared_every P nodes h =
    every-take P most_tables (common_groups (carried nodes))
    (once_every P (filter (is_twice (carried nodes)) (carried nodes)) (every-filter P (is_twice (carried nodes)) (carried nodes) h))

-- ---- the groups of leaves

pub groups_every : (P : Group → Type 0) (l : Leaf) → ((p : TrainPair) → is_some_group (group_of l p) ≡ true → P (group_of l p)) → Every P (groups_of l)
unfolding groups_of
groups_every P l h = every_picked P is_some_group (group_of l) h (train_pairs most_trains)

-- what is true of all groups of all leaves is true of all tables
pub tables_every : (P : Group → Type 0) (nodes : List Node) (tables : List PotTable) → map group_in tables ≡ shared_groups nodes
    → Every (λ l. (p : TrainPair) → is_some_group (group_of l p) ≡ true → P (group_of l p)) (leaves_of nodes)
    → Every (λ t. P (group_in t)) tables
tables_every P nodes tables e h =
    every_made P group_in tables
    (subst (λ (gs : List Group). Every P gs) (sym e)
    (shared_every P nodes (every_flat P groups_of (leaves_of nodes) (leaves_every (leaves_of nodes) h))))
  where
    leaves_every : (ls : List Leaf) → Every (λ l. (p : TrainPair) → is_some_group (group_of l p) ≡ true → P (group_of l p)) ls
        → Every (λ l. Every P (groups_of l)) ls
    leaves_every [] g = tt
    leaves_every (l ∷ ls) g = (groups_every P l g.0, leaves_every ls g.1)
