-- The text of a tree's sharing is accepted.
use Rattle.std.proofs.Common.{◌≡◌, ℕ, List, length, sym, ◌∙◌, subst, inr}
use Rattle.pair_prices.specs.Case.{CaseRecord, IsCase}
use Rattle.leaf_bounds.specs.declared.shared.SharedNode.{SharedNode}
use Rattle.leaf_bounds.specs.declared.table.PotTable.{PotTable}
use Rattle.leaf_bounds.specs.declared.tree.Bound.{Bound}
use Rattle.leaf_bounds.specs.declared.tree.Node.{Node}
use Rattle.leaf_bounds.specs.Sharing.{ArePairsInOrder, IsSharing}
use Rattle.proof_file.specs.Accepted.{IsAccepted}
use Rattle.proof_file.specs.Text.{AreInRange, shared_records, shared_text}
use Rattle.proof_file.proofs.RangeLemmas.{shared_tree_is_in_range}
use Rattle.shared_trees.specs.Laws.{IsStandIn}
use Rattle.shared_trees.specs.Written.{IsShownBy, IsWrittenOf}
use Rattle.shared_trees.proofs.SharedTreeLemmas.{shared_tree}
use Rattle.shared_trees.proofs.ThereLemmas.{leaves_there}
use Rattle.shared_trees.proofs.WritableLemmas.{in_order, nodes_there, writable}

pub pairs_in_order : (c : CaseRecord) (nodes : List Node) (bound : Bound) → IsShownBy c nodes bound → ArePairsInOrder nodes
pairs_in_order c nodes bound h = in_order c nodes (leaves_there c nodes (nodes_there c nodes bound h))

module _ (c : CaseRecord) (case : IsCase c) (nodes : List Node) (tables : List PotTable) (shared : List SharedNode) (bound : Bound)
    (h : IsShownBy c nodes bound) (s : IsSharing nodes tables shared) (trains : ℕ) (count : trains ≡ length c.book) where
  in_range : AreInRange (shared_records (length c.book) tables shared bound)
  in_range = shared_tree_is_in_range (length c.book) tables shared bound (writable c case nodes tables shared bound h s)

  pub numbers_in_range : AreInRange (shared_records trains tables shared bound)
  numbers_in_range = subst (λ (n : ℕ). AreInRange (shared_records n tables shared bound)) (sym count) in_range

  made : IsStandIn c tables shared h.tree
  made = shared_tree c nodes tables shared h.tree h.order h.stands s

  text_of_case : (bytes : List ℕ) → bytes ≡ shared_text trains tables shared bound → bytes ≡ shared_text (length c.book) tables shared bound
  text_of_case bytes e = subst (λ (n : ℕ). bytes ≡ shared_text n tables shared bound) count e

  pub written : (bytes : List ℕ) → bytes ≡ shared_text trains tables shared bound → IsWrittenOf c nodes bound bytes
  written bytes e = record {
    tables = tables;
    shared = shared;
    sharing = s;
    text = text_of_case bytes e;
    tree = h.tree;
    order = h.order;
    stand_in = made;
  }

  pub accepted : (bytes : List ℕ) → bytes ≡ shared_text trains tables shared bound → IsAccepted c bound bytes
  accepted bytes e =
      let m = made in
      inr (record {
        tables = tables;
        nodes = shared;
        tree = m.made;
        order = m.order;
        stands = m.stands;
        least = h.least ∙ sym m.least;
        ranges = in_range;
        text = text_of_case bytes e;
      })
