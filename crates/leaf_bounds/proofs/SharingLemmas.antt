-- Groups that several leaves carry.
use Rattle.std.proofs.Common.{◌≡◌, ℕ, zero, suc, ◌+◌, ◌<◌, ◌≤◌, ◌==◌, ◌&&◌, ◌||◌, not, Bool, true, false, cond, List, [], ◌∷◌, ◌++◌, map, length, get_or, take, drop, refl, sym, ap, ◌∙◌, subst, arith, append_assoc, drop-cons, ℤ, pos, ◌<ℤ◌}
use Rattle.std.specs.List.{filter, list_any}
use Rattle.std.specs.Ordering.{int_eq}
use Rattle.std.proofs.lemmas.Int.{ints}
use Rattle.std.proofs.lemmas.Bool.{eqb-true}
use Rattle.std.proofs.lemmas.Bool.Decides.{Decides-int_eq}
use Rattle.std.proofs.lemmas.List.{drop_all, map-append, take_all, take_more}
use Rattle.std.proofs.lemmas.List.Elements.{filter-append}
use Rattle.station.proofs.Lists.{Every, Rising, any-made, every-weaker}
use Rattle.leaf_bounds.specs.declared.number.NumberValue.{NumberValue}
use Rattle.leaf_bounds.specs.declared.leaf.Leaf.{Leaf}
use Rattle.leaf_bounds.specs.declared.table.PotTable.{PotTable}
use Rattle.leaf_bounds.specs.declared.uses.TablePair.{TablePair}
use Rattle.leaf_bounds.specs.declared.uses.UseOf.{UseOf}
use Rattle.leaf_bounds.specs.declared.tree.Node.{Node}
use Rattle.leaf_bounds.specs.declared.tree.Node.TheVariants.{Split as SplitNode, Leaf as LeafNode}
use Rattle.leaf_bounds.specs.declared.shared.SharedNode.{SharedNode}
use Rattle.leaf_bounds.specs.Group.{Group, group_in}
use Rattle.leaf_bounds.specs.Listed.{AreUses}
use Rattle.leaf_bounds.specs.Sharing.{carried, common_groups, each_once, groups_at, groups_of, is_among, is_carried, is_twice, most_tables, same_entries, same_group, shared_groups, used_pairs, uses_from, AreSharedNodesOf, IsSharedNodeOf}
use Rattle.leaf_bounds.proofs.GroupLemmas.{added_step, append_nothing}
use Rattle.leaf_bounds.proofs.RisingLemmas.{Before, ascends_from}

both_true : (a b : Bool) → (a && b) ≡ true → (a ≡ true) × (b ≡ true)
both_true true true e = (refl, refl)
both_true true false e = cc
both_true false b e = cc

int_same : (a b : ℤ) → int_eq a b ≡ true → a ≡ b
int_same a b e = (Decides-int_eq a b).0 e

record AreTrue (a b d : Bool) : Type 0 where
  first : a ≡ true
  second : b ≡ true
  third : d ≡ true

three_true : (a b d : Bool) → (a && b && d) ≡ true → AreTrue a b d
three_true true true true e = record { first = refl; second = refl; third = refl }
three_true true true false e = cc
three_true true false d e = cc
three_true false b d e = cc

entries_same : (a b : List NumberValue) → same_entries a b ≡ true → a ≡ b
entries_same [] [] e = refl
entries_same [] (y ∷ ys) e = cc
entries_same (x ∷ xs) [] e = cc
entries_same (x ∷ xs) (y ∷ ys) e =
    let t = three_true (x.number == y.number) (int_eq x.value y.value) (same_entries xs ys) e in
    let number = eqb-true x.number y.number t.first in
    let value = int_same x.value y.value t.second in
    let rest = entries_same xs ys t.third in
    (λ i. record { number = number i; value = value i } ∷ rest i)

record AreFour (a b d e : Bool) : Type 0 where
  first : a ≡ true
  second : b ≡ true
  third : d ≡ true
  fourth : e ≡ true

four_true : (a b d e : Bool) → (a && b && d && e) ≡ true → AreFour a b d e
four_true true true true true h = record { first = refl; second = refl; third = refl; fourth = refl }
four_true true true true false h = cc
four_true true true false e h = cc
four_true true false d e h = cc
four_true false b d e h = cc

-- groups that pass the test are equal
pub group_same : (g h : Group) → same_group g h ≡ true → g ≡ h
group_same g h e =
    let t = four_true (g.first == h.first) (g.second == h.second) (same_entries g.alpha h.alpha) (same_entries g.beta h.beta) e in
    let first = eqb-true g.first h.first t.first in
    let second = eqb-true g.second h.second t.second in
    let alpha = entries_same g.alpha h.alpha t.third in
    let beta = entries_same g.beta h.beta t.fourth in
    (λ i. record { first = first i; second = second i; alpha = alpha i; beta = beta i })

-- each group once, one group more
kept_one : (s b : Bool) (g : Group) → cond (not s) (cond b [] (g ∷ [])) [] ≡ cond (s || b) [] (g ∷ [])
kept_one true b g = refl
kept_one false b g = refl

nothing_kept : (d : Bool) → ◌≡◌ {A = List Group} [] (cond d [] [])
nothing_kept true = refl
nothing_kept false = refl

filter_one : (keep : Group → Bool) (b : Bool) (g : Group) → filter keep (cond b [] (g ∷ [])) ≡ cond (keep g) (cond b [] (g ∷ [])) []
filter_one keep true g = nothing_kept (keep g)
filter_one keep false g = refl

each_once_more : (gs : List Group) (g : Group) → each_once (gs ++ g ∷ []) ≡ each_once gs ++ cond (is_among gs g) [] (g ∷ [])
each_once_more [] g = refl
each_once_more (x ∷ gs) g =
    ap (λ hs. x ∷ filter (λ h. not (same_group x h)) hs) (each_once_more gs g)
    ∙ ap (λ hs. x ∷ hs)
    (filter-append (λ h. not (same_group x h)) (each_once gs) (cond (is_among gs g) [] (g ∷ []))
    ∙ ap (λ hs. filter (λ h. not (same_group x h)) (each_once gs) ++ hs)
    (filter_one (λ h. not (same_group x h)) (is_among gs g) g ∙ kept_one (same_group x g) (is_among gs g) g))

any_by : {X : Type 0} (p keep : X → Bool) (y : X) (ys : List X) (b d : Bool) → keep y ≡ b → p y ≡ d → (p y ≡ true → keep y ≡ true)
    → list_any p (filter keep ys) ≡ list_any p ys → list_any p (cond b (y ∷ filter keep ys) (filter keep ys)) ≡ (d || list_any p ys)
any_by p keep y ys true d e f h rest = (λ i. f i || rest i)
any_by p keep y ys false true e f h rest = let g = h f in cc
any_by p keep y ys false false e f h rest = rest

any_kept : {X : Type 0} (p keep : X → Bool) (ys : List X) → ((y : X) → p y ≡ true → keep y ≡ true) → list_any p (filter keep ys) ≡ list_any p ys
any_kept p keep [] h = refl
any_kept p keep (y ∷ ys) h = any_by p keep y ys (keep y) (p y) refl refl (h y) (any_kept p keep ys h)

among_by : (x g : Group) (gs : List Group) (b : Bool) → same_group x g ≡ b → is_among (each_once gs) g ≡ is_among gs g
    → (b || is_among (filter (λ h. not (same_group x h)) (each_once gs)) g) ≡ (b || is_among gs g)
among_by x g gs true e rest = refl
among_by x g gs false e rest =
    any_kept (λ h. same_group h g) (λ h. not (same_group x h)) (each_once gs)
    (λ h t. ap (λ k. not (same_group x k)) (group_same h g t) ∙ ap not e)
    ∙ rest

among_once : (gs : List Group) (g : Group) → is_among (each_once gs) g ≡ is_among gs g
among_once [] g = refl
among_once (x ∷ gs) g = among_by x g gs (same_group x g) refl (among_once gs g)

once_step : (gs old new : List Group) (g : Group) (common b : Bool) → old ≡ each_once gs → b ≡ (not (is_among old g) && common)
    → new ≡ old ++ cond b (g ∷ []) [] → new ≡ each_once (gs ++ cond common (g ∷ []) [])
once_step gs old new g true b e f h =
    h ∙ ap (λ d. old ++ cond d (g ∷ []) []) f
    ∙ ap (λ hs. hs ++ cond (not (is_among hs g) && true) (g ∷ []) []) e
    ∙ ap (λ d. each_once gs ++ cond (not d && true) (g ∷ []) []) (among_once gs g)
    ∙ ap (λ hs. each_once gs ++ hs) (turned (is_among gs g))
    ∙ sym (each_once_more gs g)
  where
    turned : (d : Bool) → cond (not d && true) (g ∷ []) [] ≡ cond d [] (g ∷ [])
    turned true = refl
    turned false = refl
once_step gs old new g false b e f h =
    h ∙ ap (λ d. old ++ cond d (g ∷ []) []) (f ∙ none (not (is_among old g)))
    ∙ append_nothing old ∙ e ∙ ap each_once (sym (append_nothing gs))
  where
    none : (d : Bool) → (d && false) ≡ false
    none true = refl
    none false = refl

-- the loop that lists the tables
pub tables_more : (all : List PotTable) (k : ℕ) (t : PotTable) (old new : List Group) (b : Bool) → k < length all → t ≡ get_or all k t
    → old ≡ each_once (filter (is_twice (map group_in all)) (map group_in (take k all)))
    → b ≡ (not (is_among old (group_in t)) && is_twice (map group_in all) (group_in t))
    → new ≡ old ++ cond b (group_in t ∷ []) []
    → new ≡ each_once (filter (is_twice (map group_in all)) (map group_in (take (k + 1) all)))
tables_more all k t old new b l is e f h =
    once_step (filter (is_twice (map group_in all)) (map group_in (take k all))) old new (group_in t)
    (is_twice (map group_in all) (group_in t)) b e f h
    ∙ ap each_once
    (sym (ap (λ xs. filter (is_twice (map group_in all)) (map group_in xs)) (take_more all k t l ∙ ap (λ x. take k all ++ x ∷ []) (sym is))
    ∙ ap (filter (is_twice (map group_in all))) (map-append group_in (take k all) (t ∷ []))
    ∙ filter-append (is_twice (map group_in all)) (map group_in (take k all)) (group_in t ∷ [])))

pub among_made : (tables : List PotTable) (g : Group) → list_any (λ h. same_group (group_in h) g) tables ≡ is_among (map group_in tables) g
among_made tables g = any-made (λ h. same_group h g) group_in tables

-- the groups of the nodes
pub carried_more : (nodes : List Node) (k : ℕ) (m : Node) (old new : List Group) → k < length nodes → m ≡ get_or nodes k m
    → carried nodes ≡ old ++ carried (drop k nodes) → new ≡ old ++ groups_at m → carried nodes ≡ new ++ carried (drop (k + 1) nodes)
carried_more nodes k m old new l is e f =
    e ∙ ap (λ ns. old ++ carried ns) (drop-cons nodes k m l ∙ ap (λ n. get_or nodes k m ∷ drop n nodes) (next k) ∙ ap (λ x. x ∷ drop (k + 1) nodes) (sym is))
    ∙ ap (λ gs. old ++ gs) (first_node m (drop (k + 1) nodes))
    ∙ sym (append_assoc old (groups_at m) (carried (drop (k + 1) nodes)))
    ∙ ap (λ gs. gs ++ carried (drop (k + 1) nodes)) (sym f)
  where
    next : (k : ℕ) → suc k ≡ k + 1
    next k = omega arith

    first_node : (n : Node) (ns : List Node) → carried (n ∷ ns) ≡ groups_at n ++ carried ns
    first_node (SplitNode cut) ns = refl
    first_node (LeafNode l) ns = refl

pub carried_end : (nodes : List Node) (k : ℕ) (found : List Group) → length nodes ≤ k → carried nodes ≡ found ++ carried (drop k nodes) → found ≡ carried nodes
carried_end nodes k found l e = sym (e ∙ ap (λ ns. found ++ carried ns) (drop_all k nodes l) ∙ append_nothing found)

-- the shared nodes
nodes_added : (gs : List Group) (ms : List Node) (ns : List SharedNode) (m : Node) (n : SharedNode) → AreSharedNodesOf gs ms ns → IsSharedNodeOf gs m n
    → AreSharedNodesOf gs (ms ++ m ∷ []) (ns ++ n ∷ [])
nodes_added gs [] [] m n h k = (k, tt)
nodes_added gs [] (y ∷ ns) m n h k = absurd h
nodes_added gs (x ∷ ms) [] m n h k = absurd h
nodes_added gs (x ∷ ms) (y ∷ ns) m n h k = (h.0, nodes_added gs ms ns m n h.1 k)

pub nodes_more : (gs : List Group) (nodes : List Node) (k : ℕ) (m : Node) (old : List SharedNode) (n : SharedNode) → k < length nodes → m ≡ get_or nodes k m
    → AreSharedNodesOf gs (take k nodes) old → IsSharedNodeOf gs m n → AreSharedNodesOf gs (take (k + 1) nodes) (old ++ n ∷ [])
nodes_more gs nodes k m old n l is h e =
    subst (λ (ms : List Node). AreSharedNodesOf gs ms (old ++ n ∷ [])) (sym (take_more nodes k m l ∙ ap (λ x. take k nodes ++ x ∷ []) (sym is)))
    (nodes_added gs (take k nodes) old m n h e)

-- the uses of a leaf
abbrev one_use : ℕ → UseOf
one_use k = record { table = k; factor = pos 1 }

record IsRising (k : ℕ) (xs : List UseOf) : Type 0 where
  least : Every (λ x. k ≤ x.table) xs
  rising : Rising (Before (λ x. pos x.table)) xs

use_first : (k : ℕ) (xs : List UseOf) (b : Bool) → IsRising (suc k) xs → IsRising k (cond b (one_use k ∷ xs) xs)
use_first k xs true h = record {
  least = (omega arith, every-weaker (λ x. suc k ≤ x.table) (λ x. k ≤ x.table) (λ x l. omega (arith, l)) xs h.least);
  rising = (every-weaker (λ x. suc k ≤ x.table) (λ x. pos k <ℤ pos x.table) (λ x l. omega (arith, ints, l)) xs h.least, h.rising);
}
use_first k xs false h = record {
  least = every-weaker (λ x. suc k ≤ x.table) (λ x. k ≤ x.table) (λ x l. omega (arith, l)) xs h.least;
  rising = h.rising;
}

uses_rise : (k : ℕ) (l : Leaf) (gs : List Group) → IsRising k (uses_from k l gs)
uses_rise k l [] = record { least = tt; rising = tt }
uses_rise k l (g ∷ gs) = use_first k (uses_from (suc k) l gs) (is_carried l g) (uses_rise (suc k) l gs)

pub uses_kept : (l : Leaf) (gs : List Group) (uses : List UseOf) → uses ≡ uses_from 0 l gs → AreUses uses
uses_kept l gs uses e = subst AreUses (sym e) (ascends_from (λ x. pos x.table) (uses_from 0 l gs) (uses_rise 0 l gs).rising)

pub carried_by : (l : Leaf) (groups : List PotTable) (t : PotTable) (b : Bool) → map group_in groups ≡ groups_of l
    → b ≡ list_any (λ h. same_group (group_in t) (group_in h)) groups → b ≡ is_carried l (group_in t)
carried_by l groups t b e f = f ∙ any-made (same_group (group_in t)) group_in groups ∙ ap (list_any (same_group (group_in t))) e

next_place : (k : ℕ) → suc k ≡ k + 1
next_place k = omega arith

open_tables : (tables : List PotTable) (k : ℕ) (t : PotTable) → k < length tables → t ≡ get_or tables k t
    → map group_in (drop k tables) ≡ group_in t ∷ map group_in (drop (k + 1) tables)
open_tables tables k t l is =
    ap (map group_in) (drop-cons tables k t l ∙ ap (λ n. get_or tables k t ∷ drop n tables) (next_place k) ∙ ap (λ x. x ∷ drop (k + 1) tables) (sym is))

pub uses_more : (l : Leaf) (tables : List PotTable) (k : ℕ) (t : PotTable) (old new whole : List UseOf) (b : Bool) → k < length tables → t ≡ get_or tables k t
    → whole ≡ old ++ uses_from k l (map group_in (drop k tables)) → b ≡ is_carried l (group_in t)
    → new ≡ old ++ cond b (one_use k ∷ []) [] → whole ≡ new ++ uses_from (k + 1) l (map group_in (drop (k + 1) tables))
uses_more l tables k t old new whole b m is e f h =
    e ∙ ap (λ gs. old ++ uses_from k l gs) (open_tables tables k t m is)
    ∙ ap (λ c. old ++ cond c (one_use k ∷ uses_from (suc k) l (map group_in (drop (k + 1) tables))) (uses_from (suc k) l (map group_in (drop (k + 1) tables)))) (sym f)
    ∙ added_step b (one_use k) old new (uses_from (suc k) l (map group_in (drop (k + 1) tables))) h
    ∙ ap (λ n. new ++ uses_from n l (map group_in (drop (k + 1) tables))) (next_place k)

pub uses_end : (l : Leaf) (tables : List PotTable) (k : ℕ) (found whole : List UseOf) → length tables ≤ k
    → whole ≡ found ++ uses_from k l (map group_in (drop k tables)) → found ≡ whole
uses_end l tables k found whole m e =
    sym (e ∙ ap (λ ts. found ++ uses_from k l (map group_in ts)) (drop_all k tables m) ∙ append_nothing found)

abbrev pair_in : Group → TablePair
pair_in g = record { first = g.first; second = g.second }

pairs_first : (l : Leaf) (g : Group) (gs : List Group) → used_pairs (g ∷ gs) l ≡ cond (is_carried l g) (pair_in g ∷ used_pairs gs l) (used_pairs gs l)
pairs_first l g gs = by_test (is_carried l g)
  where
    by_test : (b : Bool) → map pair_in (cond b (g ∷ filter (is_carried l) gs) (filter (is_carried l) gs))
        ≡ cond b (pair_in g ∷ map pair_in (filter (is_carried l) gs)) (map pair_in (filter (is_carried l) gs))
    by_test true = refl
    by_test false = refl

pub used_more : (l : Leaf) (tables : List PotTable) (k : ℕ) (t : PotTable) (old new whole : List TablePair) (b : Bool) → k < length tables → t ≡ get_or tables k t
    → whole ≡ old ++ used_pairs (map group_in (drop k tables)) l → b ≡ is_carried l (group_in t)
    → new ≡ old ++ cond b (pair_in (group_in t) ∷ []) [] → whole ≡ new ++ used_pairs (map group_in (drop (k + 1) tables)) l
used_more l tables k t old new whole b m is e f h =
    e ∙ ap (λ gs. old ++ used_pairs gs l) (open_tables tables k t m is)
    ∙ ap (λ ps. old ++ ps) (pairs_first l (group_in t) (map group_in (drop (k + 1) tables)))
    ∙ ap (λ c. old ++ cond c (pair_in (group_in t) ∷ used_pairs (map group_in (drop (k + 1) tables)) l) (used_pairs (map group_in (drop (k + 1) tables)) l)) (sym f)
    ∙ added_step b (pair_in (group_in t)) old new (used_pairs (map group_in (drop (k + 1) tables)) l) h

pub used_end : (l : Leaf) (tables : List PotTable) (k : ℕ) (found whole : List TablePair) → length tables ≤ k
    → whole ≡ found ++ used_pairs (map group_in (drop k tables)) l → found ≡ whole
used_end l tables k found whole m e =
    sym (e ∙ ap (λ ts. found ++ used_pairs (map group_in ts) l) (drop_all k tables m) ∙ append_nothing found)

-- at most so many tables
limit_is : 65536 ≡ most_tables
unfolding most_tables
limit_is = refl

take_map : (n : ℕ) (ts : List PotTable) → map group_in (take n ts) ≡ take n (map group_in ts)
take_map zero ts = refl
take_map (suc n) [] = refl
take_map (suc n) (t ∷ ts) = ap (λ gs. group_in t ∷ gs) (take_map n ts)

pub tables_cut : (nodes : List Node) (tables : List PotTable) (n : ℕ) → n ≡ 65536 → map group_in tables ≡ common_groups (carried nodes)
    → map group_in (take n tables) ≡ shared_groups nodes
unfolding shared_groups
tables_cut nodes tables n e f = take_map n tables ∙ ap (take n) f ∙ ap (λ m. take m (common_groups (carried nodes))) (e ∙ limit_is)

pub tables_end : (all : List PotTable) (k : ℕ) (found : List Group) → length all ≤ k
    → found ≡ each_once (filter (is_twice (map group_in all)) (map group_in (take k all))) → found ≡ common_groups (map group_in all)
tables_end all k found l e =
    e ∙ ap (λ ts. each_once (filter (is_twice (map group_in all)) (map group_in ts))) (take_all k all l)

-- what the code asks of a group, in the words of groups
pub new_among : (all slice tables : List PotTable) (t : PotTable) (b : Bool)
    → b ≡ (not (list_any (λ h. same_group (group_in h) (group_in t)) slice) && is_twice (map group_in all) (group_in t)) → slice ≡ tables
    → b ≡ (not (is_among (map group_in tables) (group_in t)) && is_twice (map group_in all) (group_in t))
new_among all slice tables t b e f =
    e ∙ ap (λ d. not d && is_twice (map group_in all) (group_in t))
    (ap (list_any (λ h. same_group (group_in h) (group_in t))) f ∙ among_made tables (group_in t))
