-- Each column of a layout is there, and trains' patterns stand one train behind the other.
use Rattle.std.proofs.Common.{◌≡◌, ℕ, zero, suc, ◌+◌, ◌-◌, ◌<◌, ◌≤◌, List, ◌++◌, length, map, ap, subst, arith, Some, inl, inr, ◌⊎◌}
use Rattle.std.specs.Prelude.{slice_get}
use Rattle.std.proofs.lemmas.List.Elements.{All-get_or}
use Rattle.std.proofs.lemmas.Option.{get_or_from_slice_get, slice_get_within}
use Rattle.station.specs.Allowed.{numbers}
use Rattle.pair_prices.specs.Trains.{TrainPair, train_pairs}
use Rattle.pair_prices.proofs.Above.{IsTrainPair, all_pairs_there}
use Rattle.pattern_pricing.specs.declared.column.Column.{Column}
use Rattle.pattern_pricing.specs.declared.column.Column.TheVariants.{LeftOut, PlatformUse}
use Rattle.pattern_pricing.specs.Layout.{LayoutRecord, IsColumn, columns_of, weight_columns, weight_columns_of, weight_column, pair_column}
use Rattle.pattern_pricing.specs.Positions.{list_size, patterns_in, start_of}
use Rattle.pattern_pricing.proofs.Places.{start_most, start_next}
use Rattle.pattern_pricing.proofs.Spots.{IsBehind, flat_found, found_in, mapped_any, mapped_found}

module _ (l : LayoutRecord) where
  abbrev trains : ℕ
  trains = length l.lists

  abbrev lefts : List Column
  lefts = map LeftOut (numbers trains)

  abbrev uses : List Column
  uses = map PlatformUse (numbers l.platforms)

  abbrev pairs : List Column
  pairs = map pair_column (train_pairs trains)

  weight_there : (n : ℕ) (col : Column) → slice_get (weight_columns l.lists) n ≡ Some col → IsColumn l col
  unfolding weight_columns
  weight_there n col e =
      let s = flat_found (weight_columns_of l.lists) trains n col e in
      let m = mapped_found (weight_column s.part) 0 (list_size l s.part) s.place col s.there in
      let inside = s.inside in
      let below = m.0 in
      subst (IsColumn l) m.1 (inside, omega (arith, below))

  pair_there : (n : ℕ) (p : TrainPair) → slice_get (train_pairs trains) n ≡ Some p → IsTrainPair trains p
  pair_there n p e =
      subst (IsTrainPair trains) (get_or_from_slice_get (train_pairs trains) n p p e)
      (All-get_or (IsTrainPair trains) (train_pairs trains) n p (slice_get_within (train_pairs trains) n p e) (all_pairs_there trains))

  pub column_there : (n : ℕ) (col : Column) → slice_get (columns_of l) n ≡ Some col → IsColumn l col
  unfolding columns_of
  column_there n col e = outer (found_in (weight_columns l.lists ++ lefts ++ uses) pairs n col e)
    where
      inner : ((n < length (weight_columns l.lists)) × (slice_get (weight_columns l.lists) n ≡ Some col)) ⊎ IsBehind (weight_columns l.lists) lefts n col
          → IsColumn l col
      inner (inl h) = weight_there n col h.1
      inner (inr h) =
          let m = mapped_found LeftOut 0 trains h.place col h.there in
          let below = m.0 in
          subst (IsColumn l) m.1 (omega (arith, below))

      middle : ((n < length (weight_columns l.lists ++ lefts)) × (slice_get (weight_columns l.lists ++ lefts) n ≡ Some col)) ⊎ IsBehind (weight_columns l.lists ++ lefts) uses n col
          → IsColumn l col
      middle (inl h) = inner (found_in (weight_columns l.lists) lefts n col h.1)
      middle (inr h) =
          let m = mapped_found PlatformUse 0 l.platforms h.place col h.there in
          let below = m.0 in
          subst (IsColumn l) m.1 (omega (arith, below))

      outer : ((n < length (weight_columns l.lists ++ lefts ++ uses)) × (slice_get (weight_columns l.lists ++ lefts ++ uses) n ≡ Some col))
          ⊎ IsBehind (weight_columns l.lists ++ lefts ++ uses) pairs n col → IsColumn l col
      outer (inl h) = middle (found_in (weight_columns l.lists ++ lefts) uses n col h.1)
      outer (inr h) =
          let m = mapped_any pair_column (train_pairs trains) h.place col h.there in
          let there = pair_there h.place m.0 m.1 in
          subst (IsColumn l) m.2 (there.order, there.there)

  starts_up : (s n : ℕ) → start_of l s ≤ start_of l (s + n)
  starts_up s zero = let e : s ≡ s + 0 = omega arith in let same = ap (start_of l) e in omega (arith, same)
  starts_up s (suc n) =
      let before = starts_up s n in
      let next = start_next l (s + n) in
      let e : s + n + 1 ≡ s + suc n = omega arith in
      let same = ap (start_of l) e in
      omega (arith, before, next, same)

  -- a train's patterns stand before those of each later train
  pub starts_order : (s t : ℕ) → s < t → start_of l s + list_size l s ≤ start_of l t
  starts_order s t h =
      let next = start_next l s in
      let n : ℕ = t - (s + 1) in
      let up = starts_up (s + 1) n in
      let e : s + 1 + n ≡ t = omega arith in
      let same = ap (start_of l) e in
      omega (arith, next, up, same)

  pub part_within : (t : ℕ) → t < trains → start_of l t + list_size l t ≤ patterns_in l
  part_within t h =
      let most = start_most l (t + 1) (omega arith) in
      let next = start_next l t in
      omega (arith, most, next)
