-- The shared tree of a tree: potentials that several leaves have in common are named once.
use Rattle.std.specs.Prelude.{◌≡◌, ℕ, suc, pos, All, ◌<◌, ◌&&◌, ◌==◌, Bool, true, false, not, List, [], ◌∷◌, Option, None, Some, map, filter, flat_map, take, count_by, nat_le, if◌then◌else◌}
use Rattle.std.specs.List.{list_any}
use Rattle.std.specs.Ordering.{int_eq}
use Rattle.pair_prices.specs.Trains.{TrainPair, train_pairs}
use Rattle.leaf_bounds.specs.declared.number.NumberValue.{NumberValue}
use Rattle.leaf_bounds.specs.declared.number.PairValue.{PairValue}
use Rattle.leaf_bounds.specs.declared.leaf.Leaf.{Leaf}
use Rattle.leaf_bounds.specs.declared.uses.TablePair.{TablePair}
use Rattle.leaf_bounds.specs.declared.table.PotTable.{PotTable}
use Rattle.leaf_bounds.specs.Group.{Group, group_in}
use Rattle.leaf_bounds.specs.declared.uses.UseOf.{UseOf}
use Rattle.leaf_bounds.specs.declared.shared.SharedLeaf.{SharedLeaf}
use Rattle.leaf_bounds.specs.declared.tree.Node.{Node}
use Rattle.leaf_bounds.specs.declared.tree.Node.TheVariants.{Split as SplitNode, Leaf as LeafNode}
use Rattle.leaf_bounds.specs.declared.shared.SharedNode.{SharedNode}
use Rattle.leaf_bounds.specs.declared.shared.SharedNode.TheVariants.{Split as SharedSplit, Leaf as SharedLeafNode}

-- A group of a leaf is a pair of trains with all its alpha and beta entries there.
abbrev pub is_pair_of : TrainPair → PairValue → Bool
is_pair_of p x = x.first == p.first && x.second == p.second

abbrev pub number_entry : PairValue → NumberValue
number_entry x = record { number = x.number; value = x.value }

abbrev pub entry_list : Option PairValue → List NumberValue
entry_list None = []
entry_list (Some x) = number_entry x ∷ []

unfoldable pub entries_of : TrainPair → List PairValue → List NumberValue
entries_of p xs = map number_entry (filter (is_pair_of p) xs)

abbrev pub group_of : Leaf → TrainPair → Group
group_of l p = record { first = p.first; second = p.second; alpha = entries_of p l.alpha; beta = entries_of p l.beta }

abbrev pub is_none : List NumberValue → Bool
is_none [] = true
is_none (x ∷ xs) = false

abbrev pub is_some_group : Group → Bool
is_some_group g = not (is_none g.alpha && is_none g.beta)

-- there are at most so many trains
unfoldable pub most_trains : ℕ
most_trains = 200

-- the groups that a leaf carries, by pair
unfoldable pub groups_of : Leaf → List Group
groups_of l = filter is_some_group (map (group_of l) (train_pairs most_trains))

abbrev pub same_entries : List NumberValue → List NumberValue → Bool
same_entries [] [] = true
same_entries [] (y ∷ ys) = false
same_entries (x ∷ xs) [] = false
same_entries (x ∷ xs) (y ∷ ys) = x.number == y.number && int_eq x.value y.value && same_entries xs ys

abbrev pub same_group : Group → Group → Bool
same_group g h = g.first == h.first && g.second == h.second && same_entries g.alpha h.alpha && same_entries g.beta h.beta

-- each group at its first place
abbrev pub each_once : List Group → List Group
each_once [] = []
each_once (g ∷ gs) = g ∷ filter (λ h. not (same_group g h)) (each_once gs)

-- the groups of a node: those of its leaf, if it is one
abbrev pub groups_at : Node → List Group
groups_at (SplitNode cut) = []
groups_at (LeafNode l) = groups_of l

abbrev pub leaves_of : List Node → List Leaf
leaves_of [] = []
leaves_of (SplitNode cut ∷ nodes) = leaves_of nodes
leaves_of (LeafNode l ∷ nodes) = l ∷ leaves_of nodes

-- all groups of all leaves. A leaf carries a group once, so a group stands here as often as leaves carry it.
abbrev pub carried : List Node → List Group
carried nodes = flat_map groups_of (leaves_of nodes)

-- at least two of the groups are this one
abbrev pub is_twice : List Group → Group → Bool
is_twice gs g = nat_le 2 (count_by (same_group g) gs)

-- the groups that stand there at least twice, each once
abbrev pub common_groups : List Group → List Group
common_groups gs = each_once (filter (is_twice gs) gs)

-- the group is one of those
abbrev pub is_among : List Group → Group → Bool
is_among gs g = list_any (λ h. same_group h g) gs

-- there are at most so many tables
unfoldable pub most_tables : ℕ
most_tables = 65536

-- the groups that at least two leaves carry, in the order of their first leaf and within it by pair
unfoldable pub shared_groups : List Node → List Group
shared_groups nodes = take most_tables (common_groups (carried nodes))

abbrev pub is_carried : Leaf → Group → Bool
is_carried l g = list_any (same_group g) (groups_of l)

-- the tables that a leaf uses, each with factor 1
abbrev pub uses_from : ℕ → Leaf → List Group → List UseOf
uses_from k l [] = []
uses_from k l (g ∷ gs) =
    if is_carried l g then record { table = k; factor = pos 1 } ∷ uses_from (suc k) l gs else uses_from (suc k) l gs

-- the pairs of the tables that the leaf uses
abbrev pub used_pairs : List Group → Leaf → List TablePair
used_pairs gs l = map (λ g. record { first = g.first; second = g.second }) (filter (is_carried l) gs)

abbrev pub is_entry_of : List TablePair → PairValue → Bool
is_entry_of pairs x = list_any (λ p. p.first == x.first && p.second == x.second) pairs

-- the entry isn't of a group that stands in a table
abbrev pub stays : List Group → Leaf → PairValue → Bool
stays gs l x = not (is_entry_of (used_pairs gs l) x)

-- the leaf without its potentials of these pairs
pub record IsRestOf (pairs : List TablePair) (l n : Leaf) : Type 0 where
  pub q : n.q ≡ l.q
  pub u : n.u ≡ l.u
  pub v : n.v ≡ l.v
  pub alpha : n.alpha ≡ filter (λ x. not (is_entry_of pairs x)) l.alpha
  pub beta : n.beta ≡ filter (λ x. not (is_entry_of pairs x)) l.beta

-- the leaf, with uses of the tables for the groups that they hold
pub record IsSharedLeafOf (gs : List Group) (l : Leaf) (s : SharedLeaf) : Type 0 where
  pub q : s.rest.q ≡ l.q
  pub u : s.rest.u ≡ l.u
  pub v : s.rest.v ≡ l.v
  pub alpha : s.rest.alpha ≡ filter (stays gs l) l.alpha
  pub beta : s.rest.beta ≡ filter (stays gs l) l.beta
  pub uses : s.uses ≡ uses_from 0 l gs

abbrev pub IsSharedNodeOf : List Group → Node → SharedNode → Type 0
IsSharedNodeOf gs (SplitNode cut) (SharedSplit other) = cut ≡ other
IsSharedNodeOf gs (SplitNode cut) (SharedLeafNode s) = ⊥
IsSharedNodeOf gs (LeafNode l) (SharedSplit other) = ⊥
IsSharedNodeOf gs (LeafNode l) (SharedLeafNode s) = IsSharedLeafOf gs l s

-- node by node
abbrev pub AreSharedNodesOf : List Group → List Node → List SharedNode → Type 0
AreSharedNodesOf gs [] [] = Unit {0}
AreSharedNodesOf gs [] (n ∷ shared) = ⊥
AreSharedNodesOf gs (m ∷ nodes) [] = ⊥
AreSharedNodesOf gs (m ∷ nodes) (n ∷ shared) = IsSharedNodeOf gs m n × AreSharedNodesOf gs nodes shared

-- The tables and nodes are those of the tree with these nodes.
pub record IsSharing (nodes : List Node) (tables : List PotTable) (shared : List SharedNode) : Type 0 where
  pub groups : map group_in tables ≡ shared_groups nodes
  pub each_node : AreSharedNodesOf (shared_groups nodes) nodes shared

-- in each leaf the first train of a listed pair is below the second
abbrev pub ArePairsInOrder : List Node → Type 0
ArePairsInOrder nodes = All (λ l. All (λ x. x.first < x.second) l.alpha × All (λ x. x.first < x.second) l.beta) (leaves_of nodes)
