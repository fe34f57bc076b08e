-- A least coupling is shown by the cut of its potentials.
use Rattle.std.proofs.Common.{◌≡◌, ℕ, ◌+◌, ◌≤◌, List, [], ◌∷◌, ◌++◌, length, get_or, take, refl, sym, ap, ◌∙◌, subst, arith, ℤ, pos}
use Rattle.std.proofs.lemmas.List.{length-take, take_all, take_more}
use Rattle.patterns.specs.declared.weights.Weights.{Weights}
use Rattle.patterns.specs.Weights.{FitsLists, choice_weights}
use Rattle.pair_prices.specs.Case.{IsCase}
use Rattle.pair_prices.specs.Fraction.{left_out}
use Rattle.transport.specs.declared.TableCell.{TableCell}
use Rattle.transport.specs.Coupling.{IsCoupling, IsLeastCost, IsLeastCoupling, at, cost_of}
use Rattle.pair_cuts.specs.declared.cut.PairCut.{PairCut}
use Rattle.pair_cuts.specs.Coupled.{IsLeastTable}
use Rattle.pair_cuts.specs.Table.{AreChoiceWeights, AreThere, TwoTrains, cost_at}
use Rattle.pair_cuts.proofs.Limits.{table_is}
use Rattle.pair_cuts.proofs.Least.{choice_weights_are, pair_cut, potentials, worth_is}

-- all but the last, and the last
parted : (xs : List ℤ) (n : ℕ) → length xs ≡ n + 1 → take n xs ++ at xs n ∷ [] ≡ xs
parted xs n long = sym (take_more xs n (pos 0) (omega (arith, long))) ∙ take_all (n + 1) xs (omega (arith, long))

module _ (v : TwoTrains) (h : IsCase v.case) (there : AreThere v) (w : Weights) (fits : FitsLists v.lists w)
    (rows : length (choice_weights w v.first) ≡ left_out v.lists v.first + 1) (columns : length (choice_weights w v.second) ≡ left_out v.lists v.second + 1)
    (cells : List TableCell) (alpha beta : List ℤ)
    (least : IsLeastCoupling (cost_at v) (choice_weights w v.first) (choice_weights w v.second) cells alpha beta) where
  abbrev value : ℤ
  value = cost_of (cost_at v) cells

  least_cost : IsLeastCost (cost_at v) (choice_weights w v.first) (choice_weights w v.second) value
  least_cost = record { reached = (cells, least.coupling, refl); least = least.least }

  abbrev own : PairCut
  own = record {
    first = v.first;
    second = v.second;
    alpha = take (left_out v.lists v.first) alpha;
    alpha_left = at alpha (left_out v.lists v.first);
    beta = take (left_out v.lists v.second) beta;
    beta_left = at beta (left_out v.lists v.second);
  }

  pub least_table_is : IsLeastTable v.case v.lists w v.first v.second cells
  least_table_is =
      let p = potentials (cost_at v) (cost_at v) (λ i j. omega arith) (choice_weights w v.first) (choice_weights w v.second) cells alpha beta value least least_cost in
      let is_alpha = parted alpha (left_out v.lists v.first) (least.alpha_length ∙ rows) in
      let is_beta = parted beta (left_out v.lists v.second) (least.beta_length ∙ columns) in
      record {
        coupling = least.coupling;
        cut = own;
        holds = pair_cut v h there w fits (pos 0) value least_cost alpha beta p own refl refl is_alpha is_beta;
        shown = ap (λ t. cost_of t cells) (sym (table_is v h)) ∙ worth_is v h there w fits (pos 0) value least_cost alpha beta p own refl refl is_alpha is_beta;
      }
