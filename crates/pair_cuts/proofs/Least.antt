-- From least couplings to potentials and to the answer.
use Rattle.std.proofs.Common.{◌≡◌, ℕ, ◌+◌, ◌<◌, ◌≤◌, List, [], ◌∷◌, ◌++◌, length, refl, sym, ap, ◌∙◌, subst, arith, ℤ, pos, ◌+ℤ◌, ◌≤ℤ◌, ◌<ℤ◌, ◌^◌, Option, None, Some, ◌↔◌, IsNone, IfSome, MatchOption}
use Rattle.std.specs.Prelude.{unsigned_abs}
use Rattle.std.specs.List.{All}
use Rattle.std.proofs.lemmas.Int.{ints}
use Rattle.std.proofs.lemmas.List.{length-append}
use Rattle.std.proofs.lemmas.List.Elements.{All-weaker}
use Rattle.patterns.specs.declared.weights.Weights.{Weights}
use Rattle.patterns.specs.Weights.{FitsLists, choice_weights, weights_of, left_of}
use Rattle.patterns.specs.Allowed.{Lists}
use Rattle.pair_prices.specs.Case.{CaseRecord, IsCase}
use Rattle.pair_prices.specs.Fraction.{left_out}
use Rattle.transport.specs.declared.TableCell.{TableCell}
use Rattle.transport.specs.Coupling.{at, weighted, cost_of, total, IsLeastCost, IsLeastCoupling}
use Rattle.transport.proofs.Signed.{total_is}
use Rattle.pair_cuts.specs.declared.cut.PairCut.{PairCut}
use Rattle.pair_cuts.specs.Cut.{pair_costs, alphas, betas, worth, IsPairCut, IsSmall, IsLeastPairCost, IsMet, IsViolated}
use Rattle.pair_cuts.specs.Table.{TwoTrains, AreThere, AreChoiceWeights, cost_at}
use Rattle.pair_cuts.specs.Potentials.{ArePotentials}
use Rattle.pair_cuts.proofs.Limits.{table_is}

antisym : (a b : ℤ) → a ≤ℤ b → b ≤ℤ a → a ≡ b
antisym a b h k = omega (arith, ints)

weaker : (z : ℤ) (n m : ℕ) → z ≤ℤ pos n → n ≤ m → z ≤ℤ pos m
weaker z n m h k = omega (arith, ints)

-- least costs under one table are one number
pub one_least : (t : ℕ → ℕ → ℕ) (left right : List ℤ) (x y : ℤ) → IsLeastCost t left right x → IsLeastCost t left right y → x ≡ y
one_least t left right x y p q =
    let (cells, coupling, cost) = p.reached in
    let (others, coupled, costs) = q.reached in
    let P : ℤ → Type 0 = λ z. y ≤ℤ z in
    let Q : ℤ → Type 0 = λ z. x ≤ℤ z in
    antisym x y (subst Q costs (p.least others coupled)) (subst P cost (q.least cells coupling))

-- a least coupling under a table has the least cost
cost_is : (t : ℕ → ℕ → ℕ) (left right : List ℤ) (cells : List TableCell) (alpha beta : List ℤ) (value : ℤ)
    → IsLeastCoupling t left right cells alpha beta → IsLeastCost t left right value → cost_of t cells ≡ value
cost_is t left right cells alpha beta value x least =
    one_least t left right (cost_of t cells) value (record { reached = (cells, x.coupling, refl); least = x.least }) least

-- potentials under lower costs, where the weights cost as much
pub potentials : (low t : ℕ → ℕ → ℕ) → ((i j : ℕ) → low i j ≤ t i j) → (left right : List ℤ) (cells : List TableCell) (alpha beta : List ℤ) (value : ℤ)
    → IsLeastCoupling low left right cells alpha beta → IsLeastCost low left right value → ArePotentials t left right value alpha beta
potentials low t lower left right cells alpha beta value x least = record {
  alpha_length = x.alpha_length;
  beta_length = x.beta_length;
  below = λ i j il jl. weaker (at alpha i +ℤ at beta j) (low i j) (t i j) (x.below i j il jl) (lower i j);
  worth = sym x.value ∙ cost_is low left right cells alpha beta value x least;
  alpha_size = x.alpha_size;
  beta_size = x.beta_size;
}

total_is_scale : (lists : Lists) (w : Weights) → FitsLists lists w → (t : ℕ) → t < length lists → total (choice_weights w t) ≡ w.scale
total_is_scale lists w fits t h = total_is (choice_weights w t) (fits.positive t h) ∙ fits.totals t h

choices_long : (lists : Lists) (w : Weights) → FitsLists lists w → (train : ℕ) → train < length lists
    → length (choice_weights w train) ≡ left_out lists train + 1
choices_long lists w fits train l =
    let a = length-append (weights_of w train) (left_of w train ∷ []) in
    let b = fits.lengths train l in
    omega (arith, a, b)

second_in : (v : TwoTrains) → AreThere v → v.second < length v.lists
second_in v there = let a = there.lists.trains in let b = there.second in omega (arith, a, b)

first_in : (v : TwoTrains) → AreThere v → v.first < length v.lists
first_in v there = let a = second_in v there in let b = there.order in omega (arith, a, b)

pub choice_weights_are : (v : TwoTrains) → AreThere v → (w : Weights) → FitsLists v.lists w → w.scale ≤ℤ pos (10 ^ 24)
    → AreChoiceWeights v (choice_weights w v.first) (choice_weights w v.second)
choice_weights_are v there w fits scale =
    let s = first_in v there in
    let t = second_in v there in
    let same = total_is_scale v.lists w fits v.first s in
    record {
      rows = choices_long v.lists w fits v.first s;
      columns = choices_long v.lists w fits v.second t;
      left_weights = fits.positive v.first s;
      right_weights = fits.positive v.second t;
      totals = same ∙ sym (total_is_scale v.lists w fits v.second t);
      scale = let P : ℤ → Type 0 = λ z. z ≤ℤ pos (10 ^ 24) in subst P (sym same) scale;
    }

own_length : (xs ys : List ℤ) (y : ℤ) (n : ℕ) → xs ++ y ∷ [] ≡ ys → length ys ≡ n + 1 → length xs ≡ n
own_length xs ys y n e l =
    let a = length-append xs (y ∷ []) in
    let b = ap length e in
    omega (arith, a, b, l)

small : (xs ys : List ℤ) → xs ≡ ys → All (λ a. unsigned_abs a ≤ 100000000000000) ys → All (λ a. unsigned_abs a ≤ 1_000_000_000_000_000) xs
small xs ys e l =
    let P : List ℤ → Type 0 = λ zs. All (λ a. unsigned_abs a ≤ 1_000_000_000_000_000) zs in
    subst P (sym e) (All-weaker (λ a. unsigned_abs a ≤ 100000000000000) (λ a. unsigned_abs a ≤ 1_000_000_000_000_000) (λ a k. omega (arith, k)) ys l)

module _ (v : TwoTrains) (h : IsCase v.case) (there : AreThere v) (w : Weights) (fits : FitsLists v.lists w) (pair_value value : ℤ)
    (least : IsLeastCost (cost_at v) (choice_weights w v.first) (choice_weights w v.second) value) where
  least_cost : IsLeastPairCost v.case v.lists w v.first v.second value
  least_cost =
      let P : (ℕ → ℕ → ℕ) → Type 0 = λ t. IsLeastCost t (choice_weights w v.first) (choice_weights w v.second) value in
      subst P (table_is v h) least

  pub met : value ≤ℤ pair_value → IsMet v.case v.lists w v.first v.second pair_value
  met l = (value, least_cost, l)

  module _ (alpha beta : List ℤ) (p : ArePotentials (cost_at v) (choice_weights w v.first) (choice_weights w v.second) value alpha beta)
      (cut : PairCut) (is_first : cut.first ≡ v.first) (is_second : cut.second ≡ v.second) (is_alpha : alphas cut ≡ alpha) (is_beta : betas cut ≡ beta) where
    pub worth_is : value ≡ worth w v.first v.second cut
    worth_is =
        sym p.worth
        ∙ ap (λ a. weighted a (choice_weights w v.first) +ℤ weighted beta (choice_weights w v.second)) (sym is_alpha)
        ∙ ap (λ b. weighted (alphas cut) (choice_weights w v.first) +ℤ weighted b (choice_weights w v.second)) (sym is_beta)

    pub pair_cut : IsPairCut v.case v.lists v.first v.second cut
    pair_cut =
        let rows = choices_long v.lists w fits v.first (first_in v there) in
        let columns = choices_long v.lists w fits v.second (second_in v there) in
        record {
          is_first = is_first;
          is_second = is_second;
          alpha = own_length cut.alpha alpha cut.alpha_left (left_out v.lists v.first) is_alpha (p.alpha_length ∙ rows);
          beta = own_length cut.beta beta cut.beta_left (left_out v.lists v.second) is_beta (p.beta_length ∙ columns);
          holds = λ i j il jl.
              let P : List ℤ → Type 0 = λ a. (at a i +ℤ at (betas cut) j) ≤ℤ pos (pair_costs v.case v.lists v.first v.second i j) in
              let Q : List ℤ → Type 0 = λ b. (at alpha i +ℤ at b j) ≤ℤ pos (pair_costs v.case v.lists v.first v.second i j) in
              let R : (ℕ → ℕ → ℕ) → Type 0 = λ t. (at alpha i +ℤ at beta j) ≤ℤ pos (t i j) in
              subst P (sym is_alpha) (subst Q (sym is_beta) (subst R (table_is v h) (p.below i j (omega (arith, il, rows)) (omega (arith, jl, columns)))));
        }

    pub violated : pair_value <ℤ value → IsViolated v.case v.lists w v.first v.second pair_value cut
    violated l = record {
      holds = pair_cut;
      small = record { alpha = small (alphas cut) alpha is_alpha p.alpha_size; beta = small (betas cut) beta is_beta p.beta_size };
      least = let P : ℤ → Type 0 = λ z. IsLeastPairCost v.case v.lists w v.first v.second z in subst P worth_is least_cost;
      above = let P : ℤ → Type 0 = λ z. pair_value <ℤ z in subst P worth_is l;
    }

not_both : (x y z : ℤ) → x <ℤ y → z ≤ℤ x → y ≡ z → ⊥
not_both x y z h k e = absurd (omega (arith, ints))

module _ (c : CaseRecord) (lists : Lists) (w : Weights) (s t : ℕ) (pair_value : ℤ) where
  pub holds_in : (o : Option PairCut) → MatchOption o (IsMet c lists w s t pair_value) (IsViolated c lists w s t pair_value)
      → IfSome o (IsPairCut c lists s t)
  holds_in None m = tt
  holds_in (Some cut) m = m.holds

  pub small_in : (o : Option PairCut) → MatchOption o (IsMet c lists w s t pair_value) (IsViolated c lists w s t pair_value) → IfSome o IsSmall
  small_in None m = tt
  small_in (Some cut) m = m.small

  pub least_in : (o : Option PairCut) → MatchOption o (IsMet c lists w s t pair_value) (IsViolated c lists w s t pair_value)
      → IfSome o (λ cut. IsLeastPairCost c lists w s t (worth w s t cut))
  least_in None m = tt
  least_in (Some cut) m = m.least

  pub above_in : (o : Option PairCut) → MatchOption o (IsMet c lists w s t pair_value) (IsViolated c lists w s t pair_value)
      → IfSome o (λ cut. pair_value <ℤ worth w s t cut)
  above_in None m = tt
  above_in (Some cut) m = m.above

  pub none_in : (o : Option PairCut) → MatchOption o (IsMet c lists w s t pair_value) (IsViolated c lists w s t pair_value)
      → IsNone o ↔ IsMet c lists w s t pair_value
  none_in None m = (λ _. m, λ _. refl)
  none_in (Some cut) m = (
    λ e. cc,
    λ met. absurd (not_both pair_value (worth w s t cut) met.0 m.above met.2
        (one_least (pair_costs c lists s t) (choice_weights w s) (choice_weights w t) (worth w s t cut) met.0 m.least met.1)),
  )
