-- The sharing of a tree that stands can be written.
use Rattle.std.proofs.Common.{◌≡◌, ℕ, zero, suc, ◌+◌, ◌<◌, ◌≤◌, List, [], ◌∷◌, length, map, refl, sym, ap, ◌∙◌, subst, arith, Some, slice_get, true}
use Rattle.std.specs.List.{All}
use Rattle.std.proofs.lemmas.Int.{ints}
use Rattle.std.proofs.lemmas.List.{length-take}
use Rattle.station.proofs.Lists.{Every, chosen-every, every-at, every-weaker, length-made}
use Rattle.patterns.specs.Book.{IsBook}
use Rattle.patterns.specs.Allowed.{full_lists}
use Rattle.pair_prices.specs.Case.{CaseRecord, IsCase}
use Rattle.pair_prices.specs.Trains.{TrainPair}
use Rattle.leaf_bounds.specs.declared.leaf.Leaf.{Leaf}
use Rattle.leaf_bounds.specs.declared.number.PairValue.{PairValue}
use Rattle.leaf_bounds.specs.declared.shared.SharedLeaf.{SharedLeaf}
use Rattle.leaf_bounds.specs.declared.shared.SharedNode.{SharedNode}
use Rattle.leaf_bounds.specs.declared.shared.SharedNode.TheVariants.{Split as SharedSplit, Leaf as SharedLeafNode}
use Rattle.leaf_bounds.specs.declared.table.PotTable.{PotTable}
use Rattle.leaf_bounds.specs.declared.tree.Bound.{Bound}
use Rattle.leaf_bounds.specs.declared.tree.Cut.{Cut}
use Rattle.leaf_bounds.specs.declared.tree.Node.{Node}
use Rattle.leaf_bounds.specs.declared.tree.Node.TheVariants.{Split as SplitNode, Leaf as LeafNode}
use Rattle.leaf_bounds.specs.declared.uses.UseOf.{UseOf}
use Rattle.leaf_bounds.specs.Group.{Group, group_in}
use Rattle.leaf_bounds.specs.Listed.{IsPairValue}
use Rattle.leaf_bounds.specs.Sharing.{carried, common_groups, group_of, is_carried, is_some_group, leaves_of, most_tables, shared_groups, uses_from, ArePairsInOrder, AreSharedNodesOf, IsSharing}
use Rattle.leaf_bounds.proofs.RisingLemmas.{every_from}
use Rattle.leaf_bounds.proofs.RowLemmas.{offers_few}
use Rattle.proof_file.specs.Writable.{IsCutInRange, IsNumberInRange, IsSharedWritable, IsTableInRange, IsUseInRange}
use Rattle.shared_trees.specs.Written.{IsShownBy}
use Rattle.shared_trees.proofs.OnceLemmas.{all_of_every, both_every, tables_every}
use Rattle.shared_trees.proofs.UseLemmas.{use_of}
use Rattle.shared_trees.proofs.NodeLemmas.{nodes_of_tables}
use Rattle.shared_trees.proofs.ThereLemmas.{IsCutThere, IsEntryThere, IsLeafThere, IsNodeThere, leaves_there}
use Rattle.shared_trees.proofs.TableLemmas.{IsGroupThere, entries_every, groups_there}
use Rattle.shared_trees.proofs.SharedTreeLemmas.{tree_nodes_there}
use Rattle.shared_trees.proofs.BoundLemmas.{last_in_range}

-- ---- what is asked of a tree that is shared

entries_in_order : (c : CaseRecord) (train : PairValue → ℕ) (xs : List PairValue) → Every (IsEntryThere c train) xs → All (λ x. x.first < x.second) xs
entries_in_order c train xs h =
    all_of_every (λ x. x.first < x.second) xs (every-weaker (IsEntryThere c train) (λ x. x.first < x.second) (λ x e. e.order) xs h)

pub in_order : (c : CaseRecord) (nodes : List Node) → Every (IsLeafThere c) (leaves_of nodes) → ArePairsInOrder nodes
in_order c nodes h =
    all_of_every (λ l. All (λ x. x.first < x.second) l.alpha × All (λ x. x.first < x.second) l.beta) (leaves_of nodes)
    (every-weaker (IsLeafThere c) (λ l. All (λ x. x.first < x.second) l.alpha × All (λ x. x.first < x.second) l.beta)
    (λ l e. (entries_in_order c (λ x. x.first) l.alpha e.alpha, entries_in_order c (λ x. x.second) l.beta e.beta)) (leaves_of nodes) h)

pub nodes_there : (c : CaseRecord) (nodes : List Node) (bound : Bound) → IsShownBy c nodes bound → Every (IsNodeThere c) nodes
nodes_there c nodes bound h = tree_nodes_there c nodes h.tree h.order h.stands

-- ---- tables

most_is : most_tables ≡ 65536
unfolding most_tables
most_is = refl

few_groups : (nodes : List Node) → length (shared_groups nodes) ≤ 65536
unfolding shared_groups
few_groups nodes =
    let count = length-take most_tables (common_groups (carried nodes)) in
    let most = most_is in
    omega (arith, count, most)

pub few_tables : (nodes : List Node) (tables : List PotTable) (shared : List SharedNode) → IsSharing nodes tables shared → length tables ≤ 65536
few_tables nodes tables shared h =
    let same = length-made group_in tables in
    let groups = ap length h.groups in
    let few = few_groups nodes in
    omega (arith, same, groups, few)

record IsGroupInRange (g : Group) : Type 0 where
  alpha : Every IsNumberInRange g.alpha
  beta : Every IsNumberInRange g.beta

group_in_range : (l : Leaf) (p : TrainPair) → IsGroupInRange (group_of l p)
group_in_range l p = record {
  alpha = entries_every IsPairValue IsNumberInRange p (λ x o v. record { number = v.number; value = v.value }) l.alpha
      (every_from IsPairValue l.alpha l.kept.alpha_each);
  beta = entries_every IsPairValue IsNumberInRange p (λ x o v. record { number = v.number; value = v.value }) l.beta
      (every_from IsPairValue l.beta l.kept.beta_each);
}

groups_in_range : (nodes : List Node) (tables : List PotTable) → map group_in tables ≡ shared_groups nodes → Every (λ t. IsGroupInRange (group_in t)) tables
groups_in_range nodes tables e = tables_every IsGroupInRange nodes tables e (each (leaves_of nodes))
  where
    each : (ls : List Leaf) → Every (λ l. (p : TrainPair) → is_some_group (group_of l p) ≡ true → IsGroupInRange (group_of l p)) ls
    each [] = tt
    each (l ∷ ls) = ((λ p t. group_in_range l p), each ls)

table_in_range : (c : CaseRecord) → IsBook c.book → (t : PotTable) → IsGroupThere c (group_in t) → IsGroupInRange (group_in t) → IsTableInRange t
table_in_range c book t there inside = record {
  second = let a = there.second in let b = book.trains in omega (arith, a, b);
  alpha = every-at IsNumberInRange t.alpha inside.alpha;
  beta = every-at IsNumberInRange t.beta inside.beta;
}

-- ---- splits and uses

cut_in_range : (c : CaseRecord) → IsBook c.book → (cut : Cut) → IsCutThere c cut → IsCutInRange cut
cut_in_range c book cut h =
    let train = h.train in
    let at = h.at in
    let trains = book.trains in
    let few = offers_few c.book cut.train book h.train in
    record { train = omega (arith, train, trains); at = omega (arith, at, few) }

shared_cut : (c : CaseRecord) (gs : List Group) (nodes : List Node) (shared : List SharedNode) → AreSharedNodesOf gs nodes shared
    → Every (IsNodeThere c) nodes → (k : ℕ) (cut : Cut) → slice_get shared k ≡ Some (SharedSplit cut) → IsCutThere c cut
shared_cut c gs [] [] h t k cut e = cc
shared_cut c gs [] (m ∷ shared) h t k cut e = absurd h
shared_cut c gs (n ∷ nodes) [] h t k cut e = absurd h
shared_cut c gs (SplitNode own ∷ nodes) (SharedSplit other ∷ shared) h t zero cut e =
    let same : other ≡ cut = cc in
    subst (IsCutThere c) (h.0 ∙ same) t.0
shared_cut c gs (SplitNode own ∷ nodes) (SharedLeafNode s ∷ shared) h t zero cut e = absurd h.0
shared_cut c gs (LeafNode l ∷ nodes) (SharedSplit other ∷ shared) h t zero cut e = absurd h.0
shared_cut c gs (LeafNode l ∷ nodes) (SharedLeafNode s ∷ shared) h t zero cut e = cc
shared_cut c gs (n ∷ nodes) (m ∷ shared) h t (suc k) cut e = shared_cut c gs nodes shared h.1 t.1 k cut e

record AreUsesFrom (gs : List Group) (uses : List UseOf) : Type 0 where
  leaf : Leaf
  is : uses ≡ uses_from 0 leaf gs

shared_uses : (gs : List Group) (nodes : List Node) (shared : List SharedNode) → AreSharedNodesOf gs nodes shared
    → (k : ℕ) (s : SharedLeaf) → slice_get shared k ≡ Some (SharedLeafNode s) → AreUsesFrom gs s.uses
shared_uses gs [] [] h k s e = cc
shared_uses gs [] (m ∷ shared) h k s e = absurd h
shared_uses gs (n ∷ nodes) [] h k s e = absurd h
shared_uses gs (SplitNode own ∷ nodes) (SharedSplit other ∷ shared) h zero s e = cc
shared_uses gs (SplitNode own ∷ nodes) (SharedLeafNode r ∷ shared) h zero s e = absurd h.0
shared_uses gs (LeafNode l ∷ nodes) (SharedSplit other ∷ shared) h zero s e = absurd h.0
shared_uses gs (LeafNode l ∷ nodes) (SharedLeafNode r ∷ shared) h zero s e =
    let same : r ≡ s = cc in
    record { leaf = l; is = ap (λ (x : SharedLeaf). x.uses) (sym same) ∙ h.0.uses }
shared_uses gs (n ∷ nodes) (m ∷ shared) h (suc k) s e = shared_uses gs nodes shared h.1 k s e

use_in_range : (k : ℕ) (l : Leaf) (gs : List Group) → k + length gs ≤ 65536 → Every IsUseInRange (uses_from k l gs)
use_in_range k l [] h = tt
use_in_range k l (g ∷ gs) h =
    chosen-every IsUseInRange (is_carried l g) (use_of k) (uses_from (suc k) l gs)
    (record { table = omega (arith, h); least = omega (arith, ints); most = omega (arith, ints) })
    (use_in_range (suc k) l gs (omega (arith, h)))

uses_in_range : (gs : List Group) (uses : List UseOf) → length gs ≤ 65536 → AreUsesFrom gs uses → Every IsUseInRange uses
uses_in_range gs uses h u = subst (Every IsUseInRange) (sym u.is) (use_in_range 0 u.leaf gs (omega (arith, h)))

-- ---- the whole

pub writable : (c : CaseRecord) → IsCase c → (nodes : List Node) (tables : List PotTable) (shared : List SharedNode) (bound : Bound) → IsShownBy c nodes bound
    → IsSharing nodes tables shared → IsSharedWritable (length c.book) tables shared bound
writable c case nodes tables shared bound h s =
    let there = nodes_there c nodes bound h in
    let same = nodes_of_tables nodes tables shared s in
    let few = few_tables nodes tables shared s in
    let many = length-made group_in tables in
    record {
      few = case.book.trains;
      few_tables = few;
      each_table = every-at IsTableInRange tables
          (both_every (λ t. IsGroupThere c (group_in t)) (λ t. IsGroupInRange (group_in t)) IsTableInRange (table_in_range c case.book) tables
          (groups_there c nodes tables s.groups (leaves_there c nodes there)) (groups_in_range nodes tables s.groups));
      cuts = λ k cut e. cut_in_range c case.book cut (shared_cut c (map group_in tables) nodes shared same there k cut e);
      uses = λ k l e. every-at IsUseInRange l.uses
          (uses_in_range (map group_in tables) l.uses (omega (arith, few, many)) (shared_uses (map group_in tables) nodes shared same k l e));
      last = last_in_range c case (full_lists c.book) h.tree bound h.least;
    }
