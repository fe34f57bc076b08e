-- Least tables of two trains' weights.
use Rattle.std.specs.Prelude.{◌≡◌, ℕ, List, ℤ}
use Rattle.transport.specs.declared.TableCell.{TableCell}
use Rattle.transport.specs.Coupling.{IsCoupling, cost_of}
use Rattle.patterns.specs.declared.weights.Weights.{Weights}
use Rattle.patterns.specs.Allowed.{Lists}
use Rattle.patterns.specs.Weights.{choice_weights}
use Rattle.pair_prices.specs.Case.{CaseRecord}
use Rattle.pair_cuts.specs.declared.cut.PairCut.{PairCut}
use Rattle.pair_cuts.specs.Cut.{IsPairCut, pair_costs, worth}

-- The cells are a coupling of the two trains' weights, and a cut that holds is worth what they cost. So no coupling costs less.
pub record IsLeastTable (c : CaseRecord) (lists : Lists) (w : Weights) (first second : ℕ) (cells : List TableCell) : Type 0 where
  pub coupling : IsCoupling (choice_weights w first) (choice_weights w second) cells
  pub cut : PairCut
  pub holds : IsPairCut c lists first second cut
  pub shown : cost_of (pair_costs c lists first second) cells ≡ worth w first second cut
