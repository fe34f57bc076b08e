-- Where a leaf stands, so does the shared leaf that is made of it, with the same bound.
use Rattle.std.proofs.Common.{◌≡◌, ℕ, suc, ◌+◌, ◌<◌, List, [], ◌∷◌, length, map, sym, ap, subst, arith}
use Rattle.std.specs.Prelude.{Contains}
use Rattle.std.specs.List.{All}
use Rattle.std.proofs.lemmas.List.Elements.{All-filter}
use Rattle.station.proofs.Lists.{Every, Rising, chosen-every, every-weaker, length-made}
use Rattle.patterns.specs.Allowed.{Lists, list_of}
use Rattle.pair_prices.specs.Case.{CaseRecord}
use Rattle.leaf_bounds.specs.declared.leaf.Leaf.{Leaf}
use Rattle.leaf_bounds.specs.declared.shared.SharedLeaf.{SharedLeaf}
use Rattle.leaf_bounds.specs.declared.table.PotTable.{PotTable}
use Rattle.leaf_bounds.specs.declared.uses.UseOf.{UseOf}
use Rattle.leaf_bounds.specs.Group.{Group, group_in}
use Rattle.leaf_bounds.specs.Leaf.{LeafRecord, StandsFor, bound_of}
use Rattle.leaf_bounds.specs.Expansion.{SharedLeafStands, bound_of_shared_leaf}
use Rattle.leaf_bounds.specs.Sharing.{is_carried, stays, uses_from, IsSharedLeafOf}
use Rattle.leaf_bounds.specs.Shown.{ArePlaces, IsPairThere, LeafStands, bound_of_leaf}
use Rattle.shared_trees.specs.Expanded.{AreInLists, IsExpansion}
use Rattle.shared_trees.proofs.OnceLemmas.{Differs, all_of_every}
use Rattle.shared_trees.proofs.UseLemmas.{use_of}
use Rattle.shared_trees.proofs.ExpandedLemmas.{leaf_expands, leaf_small}

-- a leaf that stands lies in its lists
in_lists : (c : CaseRecord) (lists : Lists) (l : Leaf) → LeafStands c lists l → AreInLists lists l
in_lists c lists l h = record { alpha = h.places.alpha_numbers; beta = h.places.beta_numbers }

-- the uses name tables
uses_named : (k : ℕ) (l : Leaf) (gs : List Group) → Every (λ x. x.table < k + length gs) (uses_from k l gs)
uses_named k l [] = tt
uses_named k l (g ∷ gs) =
    chosen-every (λ x. x.table < k + suc (length gs)) (is_carried l g) (use_of k) (uses_from (suc k) l gs) (omega arith)
    (every-weaker (λ x. x.table < suc k + length gs) (λ x. x.table < k + suc (length gs)) (λ x m. omega (arith, m)) (uses_from (suc k) l gs)
    (uses_named (suc k) l gs))

uses_below : (tables : List PotTable) (l : Leaf) (uses : List UseOf) → uses ≡ uses_from 0 l (map group_in tables) → All (λ x. x.table < length tables) uses
uses_below tables l uses e =
    let many = length-made group_in tables in
    subst (All (λ x. x.table < length tables)) (sym e)
    (all_of_every (λ x. x.table < length tables) (uses_from 0 l (map group_in tables))
    (every-weaker (λ x. x.table < 0 + length (map group_in tables)) (λ x. x.table < length tables) (λ x m. omega (arith, m, many))
    (uses_from 0 l (map group_in tables)) (uses_named 0 l (map group_in tables))))

rest_places : (c : CaseRecord) (lists : Lists) (gs : List Group) (l : Leaf) (s : SharedLeaf) → IsSharedLeafOf gs l s → ArePlaces c lists l
    → ArePlaces c lists s.rest
rest_places c lists gs l s h p = record {
  trains = subst (All (λ x. x.train < length c.book)) (sym h.u) p.trains;
  platforms = subst (All (λ x. x.platform < length c.station.platforms)) (sym h.v) p.platforms;
  alpha_pairs = subst (All (IsPairThere c)) (sym h.alpha) (All-filter (stays gs l) (IsPairThere c) l.alpha p.alpha_pairs);
  alpha_numbers = subst (All (λ x. Contains (list_of lists x.first) x.number)) (sym h.alpha)
      (All-filter (stays gs l) (λ x. Contains (list_of lists x.first) x.number) l.alpha p.alpha_numbers);
  beta_pairs = subst (All (IsPairThere c)) (sym h.beta) (All-filter (stays gs l) (IsPairThere c) l.beta p.beta_pairs);
  beta_numbers = subst (All (λ x. Contains (list_of lists x.second) x.number)) (sym h.beta)
      (All-filter (stays gs l) (λ x. Contains (list_of lists x.second) x.number) l.beta p.beta_numbers);
}

module _ (c : CaseRecord) (tables : List PotTable) (once : Rising Differs (map group_in tables)) (lists : Lists) (l : Leaf) (s : SharedLeaf)
    (h : IsSharedLeafOf (map group_in tables) l s) (t : LeafStands c lists l) where
  pub leaf_is : IsExpansion tables lists s l
  leaf_is = leaf_expands tables l s once h lists (in_lists c lists l t)

  pub leaf_stands : SharedLeafStands c tables lists s
  leaf_stands = record {
    places = rest_places c lists (map group_in tables) l s h t.places;
    uses = uses_below tables l s.uses h.uses;
    small = λ k m. leaf_small tables l s once h lists k;
    stands = subst (λ (r : LeafRecord). StandsFor c lists r) (sym leaf_is) t.stands;
  }

  pub leaf_bound : bound_of_shared_leaf c tables lists s ≡ bound_of_leaf c lists l
  leaf_bound = ap (bound_of c) leaf_is
