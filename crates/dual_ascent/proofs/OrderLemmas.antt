-- Lists that were looked at entry by entry are in the order and the ranges of a leaf.
use Rattle.std.proofs.Common.{◌≡◌, ℕ, ◌+◌, ◌<◌, List, length, get_or, ap, subst, arith, Some, ℤ, pos, ◌<ℤ◌, ◌≤ℤ◌}
use Rattle.std.specs.Prelude.{slice_get, All, ◌^◌}
use Rattle.std.proofs.lemmas.Int.{ints}
use Rattle.std.proofs.lemmas.Option.{slice_get_within, get_or_from_slice_get}
use Rattle.leaf_bounds.specs.declared.number.TrainValue.{TrainValue}
use Rattle.leaf_bounds.specs.declared.number.MinuteValue.{MinuteValue}
use Rattle.leaf_bounds.specs.declared.number.PairValue.{PairValue}
use Rattle.leaf_bounds.specs.Building.{AreTrainValues}
use Rattle.leaf_bounds.specs.Listed.{Ascends, AreLeafLists, IsTrainValue, IsMinuteValue, IsPairValue, minute_key, pair_key}
use Rattle.leaf_bounds.specs.Places.{AreMinuteValues, ArePairValues}
use Rattle.dual_ascent.specs.Order.{AscendsInMinutes, AscendsInPairs, AscendsInTrains}

-- what holds of every entry, at a place
at_place : {X : Type 0} (P : X → Type 0) (xs : List X) → All P xs → (i : ℕ) (x : X) → slice_get xs i ≡ Some x → P x
at_place P xs all i x e = subst P (get_or_from_slice_get xs i x x e) (all i x (slice_get_within xs i x e))

-- entries in order ascend
ascending : {X : Type 0} (key : X → ℤ) (xs : List X)
    → ((k : ℕ) (d : X) → k + 1 < length xs → key (get_or xs k d) <ℤ key (get_or xs (k + 1) d)) → Ascends key xs
ascending {X} key xs rises i x y e f =
    let first : ℤ → Type 0 = λ z. z <ℤ key (get_or xs (i + 1) x) in
    let second : ℤ → Type 0 = λ z. key x <ℤ z in
    subst second (ap key (get_or_from_slice_get xs (i + 1) y x f))
    (subst first (ap key (get_or_from_slice_get xs i x x e)) (rises i x (slice_get_within xs (i + 1) y f)))

pub train_values : (xs : List TrainValue) → All IsTrainValue xs → AscendsInTrains xs → AreTrainValues xs
train_values xs each rises = record {
  each = at_place IsTrainValue xs each;
  ascends = ascending (λ x. pos x.train) xs
      (λ k d h. let less : (get_or xs k d).train < (get_or xs (k + 1) d).train = rises k d h in omega (arith, ints, less));
}

pub minute_values : (xs : List MinuteValue) → All IsMinuteValue xs → AscendsInMinutes xs → AreMinuteValues xs
minute_values xs each rises = record {
  each = at_place IsMinuteValue xs each;
  ascends = ascending minute_key xs rises;
}

pub pair_values : (xs : List PairValue) → All IsPairValue xs → AscendsInPairs xs → ArePairValues xs
pair_values xs each rises = record {
  each = at_place IsPairValue xs each;
  ascends = ascending (λ x. pos (pair_key x)) xs
      (λ k d h. let less : pair_key (get_or xs k d) < pair_key (get_or xs (k + 1) d) = rises k d h in omega (arith, ints, less));
}

pub leaf_lists : (q : ℤ) (u : List TrainValue) (v : List MinuteValue) (alpha beta : List PairValue) → pos 1 ≤ℤ q → q ≤ℤ pos (10 ^ 18)
    → AreTrainValues u → AreMinuteValues v → ArePairValues alpha → ArePairValues beta → AreLeafLists q u v alpha beta
leaf_lists q u v alpha beta least most us vs alphas betas = record {
  q_least = least;
  q_most = most;
  u_each = us.each;
  v_each = vs.each;
  alpha_each = alphas.each;
  beta_each = betas.each;
  u_ascends = us.ascends;
  v_ascends = vs.ascends;
  alpha_ascends = alphas.ascends;
  beta_ascends = betas.ascends;
}
