-- The tables of a tree that stands are there.
use Rattle.std.proofs.Common.{◌≡◌, ℕ, ◌<◌, ◌==◌, ◌&&◌, Bool, true, false, cond, not, List, [], ◌∷◌, length, map, refl, subst, arith}
use Rattle.std.specs.List.{All, filter}
use Rattle.std.proofs.lemmas.Bool.{eqb-true}
use Rattle.station.proofs.Lists.{Every, every-weaker}
use Rattle.patterns.specs.Book.{offers_of}
use Rattle.pair_prices.specs.Case.{CaseRecord}
use Rattle.pair_prices.specs.Trains.{TrainPair}
use Rattle.leaf_bounds.specs.declared.leaf.Leaf.{Leaf}
use Rattle.leaf_bounds.specs.declared.number.NumberValue.{NumberValue}
use Rattle.leaf_bounds.specs.declared.number.PairValue.{PairValue}
use Rattle.leaf_bounds.specs.declared.table.PotTable.{PotTable}
use Rattle.leaf_bounds.specs.declared.tree.Node.{Node}
use Rattle.leaf_bounds.specs.Group.{Group, group_in}
use Rattle.leaf_bounds.specs.Expansion.{IsTableThere}
use Rattle.leaf_bounds.specs.Sharing.{entries_of, group_of, is_none, is_pair_of, is_some_group, leaves_of, number_entry, shared_groups}
use Rattle.shared_trees.proofs.ListedLemmas.{both_true}
use Rattle.shared_trees.proofs.OnceLemmas.{all_of_every, tables_every}
use Rattle.shared_trees.proofs.ThereLemmas.{IsEntryThere, IsLeafThere}

pub record IsOfPair (p : TrainPair) (x : PairValue) : Type 0 where
  pub first : x.first ≡ p.first
  pub second : x.second ≡ p.second

of_pair : (p : TrainPair) (x : PairValue) → is_pair_of p x ≡ true → IsOfPair p x
of_pair p x e =
    let b = both_true (x.first == p.first) (x.second == p.second) e in
    record { first = eqb-true x.first p.first b.0; second = eqb-true x.second p.second b.1 }

entries_by : (Q : NumberValue → Type 0) (x : PairValue) (xs : List PairValue) (b : Bool) → (b ≡ true → Q (number_entry x)) → Every Q (map number_entry xs)
    → Every Q (map number_entry (cond b (x ∷ xs) xs))
entries_by Q x xs true h rest = (h refl, rest)
entries_by Q x xs false h rest = rest

-- what the entries of a pair take over from a leaf's entries
pub entries_every : (P : PairValue → Type 0) (Q : NumberValue → Type 0) (p : TrainPair) → ((x : PairValue) → IsOfPair p x → P x → Q (number_entry x))
    → (xs : List PairValue) → Every P xs → Every Q (entries_of p xs)
unfolding entries_of
entries_every P Q p h [] e = tt
entries_every P Q p h (x ∷ xs) e =
    entries_by Q x (filter (is_pair_of p) xs) (is_pair_of p x) (λ t. h x (of_pair p x t) e.0) (entries_every P Q p h xs e.1)

-- a group has an entry
some_entry : (T : Type 0) (a b : List NumberValue) → not (is_none a && is_none b) ≡ true → Every (λ x. T) a → Every (λ x. T) b → T
some_entry T [] [] e f g = cc
some_entry T [] (y ∷ b) e f g = g.0
some_entry T (x ∷ a) b e f g = f.0

pub record IsGroupThere (c : CaseRecord) (g : Group) : Type 0 where
  pub second : g.second < length c.book
  pub alpha : Every (λ x. x.number < length (offers_of c.book g.first)) g.alpha
  pub beta : Every (λ x. x.number < length (offers_of c.book g.second)) g.beta

second_of : (c : CaseRecord) (train : PairValue → ℕ) (p : TrainPair) (x : PairValue) → IsOfPair p x → IsEntryThere c train x → p.second < length c.book
second_of c train p x h e = let same = h.second in let there = e.there in omega (arith, same, there)

group_there : (c : CaseRecord) (l : Leaf) → IsLeafThere c l → (p : TrainPair) → is_some_group (group_of l p) ≡ true → IsGroupThere c (group_of l p)
group_there c l h p e = record {
  second = some_entry (p.second < length c.book) (entries_of p l.alpha) (entries_of p l.beta) e
      (entries_every (IsEntryThere c (λ x. x.first)) (λ x. p.second < length c.book) p (second_of c (λ x. x.first) p) l.alpha h.alpha)
      (entries_every (IsEntryThere c (λ x. x.second)) (λ x. p.second < length c.book) p (second_of c (λ x. x.second) p) l.beta h.beta);
  alpha = entries_every (IsEntryThere c (λ x. x.first)) (λ x. x.number < length (offers_of c.book p.first)) p
      (λ x o i. subst (λ (t : ℕ). x.number < length (offers_of c.book t)) o.first i.number) l.alpha h.alpha;
  beta = entries_every (IsEntryThere c (λ x. x.second)) (λ x. x.number < length (offers_of c.book p.second)) p
      (λ x o i. subst (λ (t : ℕ). x.number < length (offers_of c.book t)) o.second i.number) l.beta h.beta;
}

pub groups_there : (c : CaseRecord) (nodes : List Node) (tables : List PotTable) → map group_in tables ≡ shared_groups nodes
    → Every (IsLeafThere c) (leaves_of nodes) → Every (λ t. IsGroupThere c (group_in t)) tables
groups_there c nodes tables e h =
    tables_every (IsGroupThere c) nodes tables e
    (every-weaker (IsLeafThere c) (λ l. (p : TrainPair) → is_some_group (group_of l p) ≡ true → IsGroupThere c (group_of l p))
    (λ l there. group_there c l there) (leaves_of nodes) h)

pub tables_there : (c : CaseRecord) (tables : List PotTable) → Every (λ t. IsGroupThere c (group_in t)) tables → All (IsTableThere c) tables
tables_there c tables h =
    all_of_every (IsTableThere c) tables
    (every-weaker (λ t. IsGroupThere c (group_in t)) (IsTableThere c)
    (λ t g. record {
      there = g.second;
      alpha = all_of_every (λ x. x.number < length (offers_of c.book t.first)) t.alpha g.alpha;
      beta = all_of_every (λ x. x.number < length (offers_of c.book t.second)) t.beta g.beta;
    }) tables h)
