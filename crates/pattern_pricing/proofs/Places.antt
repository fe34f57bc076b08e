-- A column stands at its position, and nowhere else.
use Rattle.std.proofs.Common.{◌≡◌, ℕ, ◌+◌, ◌-◌, ◌<◌, ◌≤◌, List, ◌++◌, length, map, sym, ap, ◌∙◌, subst, arith, Some, inl, inr}
use Rattle.std.specs.Prelude.{slice_get, slice_index, ◌⊎◌}
use Rattle.std.proofs.lemmas.List.{length-append, length-map}
use Rattle.std.proofs.lemmas.List.FromFn.{length-map-range_with_len}
use Rattle.std.proofs.lemmas.Option.{slice_get-map, slice_get-get_or, get_or_from_slice_get}
use Rattle.std.specs.Option.{option_map}
use Rattle.station.specs.Allowed.{numbers}
use Rattle.pair_prices.specs.Case.{CaseRecord}
use Rattle.pair_prices.specs.Trains.{TrainPair, pairs_with, train_pairs}
use Rattle.pair_prices.proofs.TopLemmas.{sum_by_same, sum_numbers_more}
use Rattle.pattern_pricing.specs.declared.column.Column.{Column}
use Rattle.pattern_pricing.specs.declared.column.Column.TheVariants.{Weight, LeftOut, PlatformUse, PairValue}
use Rattle.pattern_pricing.specs.Layout.{LayoutRecord, IsColumn, columns_of, weight_columns, weight_columns_of, weight_column, pair_column}
use Rattle.pattern_pricing.specs.Positions.{list_size, later_trains, start_of, pair_start, patterns_in, pairs_in, position}
use Rattle.pattern_pricing.specs.Prices.{price_of_column, prices_of}
use Rattle.pattern_pricing.proofs.Spots.{get_left, get_right, IsBehind, found_in, mapped_at, mapped_found, mapped_any, flat_start, flat_length, flat_at, start_within, starts_rise, flat_found}

module _ (l : LayoutRecord) where
  abbrev trains : ℕ
  trains = length l.lists

  abbrev lefts : List Column
  lefts = map LeftOut (numbers trains)

  abbrev uses : List Column
  uses = map PlatformUse (numbers l.platforms)

  abbrev pairs : List Column
  pairs = map pair_column (train_pairs trains)

  is_start : (t : ℕ) → flat_start (weight_columns_of l.lists) t ≡ start_of l t
  unfolding start_of
  is_start t =
      sum_by_same (λ s. length (weight_columns_of l.lists s)) (list_size l)
      (λ s. length-map-range_with_len (weight_column s) 0 (list_size l s)) (numbers t)

  is_pair_start : (t : ℕ) → flat_start (pairs_with trains) t ≡ pair_start l t
  unfolding pair_start
  is_pair_start t =
      sum_by_same (λ s. length (pairs_with trains s)) (later_trains l)
      (λ s. length-map-range_with_len (λ u. let p : TrainPair = record { first = s; second = u } in p) (s + 1) (later_trains l s)) (numbers t)

  weights_long : length (weight_columns l.lists) ≡ patterns_in l
  unfolding weight_columns
  weights_long = flat_length (weight_columns_of l.lists) trains ∙ is_start trains

  lefts_long : length lefts ≡ trains
  lefts_long = length-map-range_with_len LeftOut 0 trains

  uses_long : length uses ≡ l.platforms
  uses_long = length-map-range_with_len PlatformUse 0 l.platforms

  pairs_long : length pairs ≡ pairs_in l
  unfolding train_pairs
  pairs_long = length-map (train_pairs trains) pair_column ∙ flat_length (pairs_with trains) trains ∙ is_pair_start trains

  two_long : length (weight_columns l.lists ++ lefts) ≡ patterns_in l + trains
  two_long =
      let a = length-append (weight_columns l.lists) lefts in
      let b = weights_long in
      let d = lefts_long in
      omega (arith, a, b, d)

  three_long : length (weight_columns l.lists ++ lefts ++ uses) ≡ patterns_in l + trains + l.platforms
  three_long =
      let a = length-append (weight_columns l.lists ++ lefts) uses in
      let b = two_long in
      let d = uses_long in
      omega (arith, a, b, d)

  pub count_is : length (columns_of l) ≡ patterns_in l + trains + l.platforms + pairs_in l
  unfolding columns_of
  count_is =
      let a = length-append (weight_columns l.lists ++ lefts ++ uses) pairs in
      let b = three_long in
      let d = pairs_long in
      omega (arith, a, b, d)

  in_three : (i : ℕ) → i < length (weight_columns l.lists ++ lefts ++ uses) → slice_get (columns_of l) i ≡ slice_get (weight_columns l.lists ++ lefts ++ uses) i
  unfolding columns_of
  in_three i h = get_left (weight_columns l.lists ++ lefts ++ uses) pairs i h

  in_pairs : (i j : ℕ) → i ≡ length (weight_columns l.lists ++ lefts ++ uses) + j → slice_get (columns_of l) i ≡ slice_get pairs j
  unfolding columns_of
  in_pairs i j h = get_right (weight_columns l.lists ++ lefts ++ uses) pairs i j h

  weight_here : (t i : ℕ) → t < trains → i < list_size l t → slice_get (weight_columns l.lists) (start_of l t + i) ≡ Some (weight_column t i)
  unfolding weight_columns
  weight_here t i h k =
      let long = length-map-range_with_len (weight_column t) 0 (list_size l t) in
      let starts = is_start t in
      flat_at (weight_columns_of l.lists) trains t i (start_of l t + i) h (omega (arith, long, k)) (omega (arith, starts))
      ∙ mapped_at (weight_column t) 0 (list_size l t) i k ∙ ap (λ n. Some (weight_column t n)) (omega arith)

  weight_inside : (t i : ℕ) → t < trains → i < list_size l t → start_of l t + i < patterns_in l
  weight_inside t i h k =
      let within = start_within (weight_columns_of l.lists) trains t h in
      let long = length-map-range_with_len (weight_column t) 0 (list_size l t) in
      let a = is_start t in
      let b = is_start trains in
      omega (arith, within, long, a, b, k)

  pair_here : (s t : ℕ) → s < t → t < trains → slice_get (train_pairs trains) (pair_start l s + (t - (s + 1))) ≡ Some (record { first = s; second = t })
  unfolding train_pairs
  pair_here s t h k =
      let i = t - (s + 1) in
      let make : ℕ → TrainPair = λ u. record { first = s; second = u } in
      let below : i < later_trains l s = omega arith in
      let long = length-map-range_with_len make (s + 1) (later_trains l s) in
      let starts = is_pair_start s in
      flat_at (pairs_with trains) trains s i (pair_start l s + i) (omega arith) (omega (arith, long, below)) (omega (arith, starts))
      ∙ mapped_at make (s + 1) (later_trains l s) i below ∙ ap (λ n. Some (make n)) (omega arith)

  pub at_position : (col : Column) → IsColumn l col → slice_get (columns_of l) (position l col) ≡ Some col
  at_position (Weight w) h =
      let n = start_of l w.train + w.place in
      let inside = weight_inside w.train w.place h.0 h.1 in
      let long = weights_long in
      let two = two_long in
      let three = three_long in
      in_three n (omega (arith, inside, three))
      ∙ get_left (weight_columns l.lists ++ lefts) uses n (omega (arith, inside, two))
      ∙ get_left (weight_columns l.lists) lefts n (omega (arith, inside, long))
      ∙ weight_here w.train w.place h.0 h.1
  at_position (LeftOut t) h =
      let n = patterns_in l + t in
      let long = weights_long in
      let two = two_long in
      let three = three_long in
      in_three n (omega (arith, h, three))
      ∙ get_left (weight_columns l.lists ++ lefts) uses n (omega (arith, h, two))
      ∙ get_right (weight_columns l.lists) lefts n t (omega (arith, long))
      ∙ mapped_at LeftOut 0 trains t h ∙ ap (λ k. Some (LeftOut k)) (omega arith)
  at_position (PlatformUse p) h =
      let n = patterns_in l + trains + p in
      let two = two_long in
      let three = three_long in
      in_three n (omega (arith, h, three))
      ∙ get_right (weight_columns l.lists ++ lefts) uses n p (omega (arith, two))
      ∙ mapped_at PlatformUse 0 l.platforms p h ∙ ap (λ k. Some (PlatformUse k)) (omega arith)
  at_position (PairValue p) h =
      let j = pair_start l p.first + (p.second - (p.first + 1)) in
      let three = three_long in
      in_pairs (patterns_in l + trains + l.platforms + j) j (omega (arith, three))
      ∙ slice_get-map pair_column (train_pairs trains) j ∙ ap (option_map pair_column) (pair_here p.first p.second h.0 h.1)

  of_weight : (n : ℕ) (col : Column) → slice_get (weight_columns l.lists) n ≡ Some col → n ≡ position l col
  unfolding weight_columns
  of_weight n col e =
      let s = flat_found (weight_columns_of l.lists) trains n col e in
      let m = mapped_found (weight_column s.part) 0 (list_size l s.part) s.place col s.there in
      let starts = is_start s.part in
      let is = s.is in
      let P : Column → Type 0 = λ c. n ≡ position l c in
      subst P m.1 (omega (arith, starts, is))

  of_pair : (n : ℕ) (p : TrainPair) → slice_get (train_pairs trains) n ≡ Some p → n ≡ pair_start l p.first + (p.second - (p.first + 1))
  unfolding train_pairs
  of_pair n p e =
      let s = flat_found (pairs_with trains) trains n p e in
      let make : ℕ → TrainPair = λ u. record { first = s.part; second = u } in
      let m = mapped_found make (s.part + 1) (later_trains l s.part) s.place p s.there in
      let starts = is_pair_start s.part in
      let is = s.is in
      let P : TrainPair → Type 0 = λ q. n ≡ pair_start l q.first + (q.second - (q.first + 1)) in
      subst P m.1 (omega (arith, starts, is))

  pub position_of : (n : ℕ) (col : Column) → slice_get (columns_of l) n ≡ Some col → n ≡ position l col
  unfolding columns_of
  position_of n col e = outer (found_in (weight_columns l.lists ++ lefts ++ uses) pairs n col e)
    where
      inner : ((n < length (weight_columns l.lists)) × (slice_get (weight_columns l.lists) n ≡ Some col)) ⊎ IsBehind (weight_columns l.lists) lefts n col
          → n ≡ position l col
      inner (inl h) = of_weight n col h.1
      inner (inr h) =
          let m = mapped_found LeftOut 0 trains h.place col h.there in
          let long = weights_long in
          let is = h.is in
          let P : Column → Type 0 = λ c. n ≡ position l c in
          subst P m.1 (omega (arith, long, is))

      middle : ((n < length (weight_columns l.lists ++ lefts)) × (slice_get (weight_columns l.lists ++ lefts) n ≡ Some col)) ⊎ IsBehind (weight_columns l.lists ++ lefts) uses n col
          → n ≡ position l col
      middle (inl h) = inner (found_in (weight_columns l.lists) lefts n col h.1)
      middle (inr h) =
          let m = mapped_found PlatformUse 0 l.platforms h.place col h.there in
          let two = two_long in
          let is = h.is in
          let P : Column → Type 0 = λ c. n ≡ position l c in
          subst P m.1 (omega (arith, two, is))

      outer : ((n < length (weight_columns l.lists ++ lefts ++ uses)) × (slice_get (weight_columns l.lists ++ lefts ++ uses) n ≡ Some col))
          ⊎ IsBehind (weight_columns l.lists ++ lefts ++ uses) pairs n col → n ≡ position l col
      outer (inl h) = middle (found_in (weight_columns l.lists ++ lefts) uses n col h.1)
      outer (inr h) =
          let m = mapped_any pair_column (train_pairs trains) h.place col h.there in
          let place = of_pair h.place m.0 m.1 in
          let three = three_long in
          let is = h.is in
          let P : Column → Type 0 = λ c. n ≡ position l c in
          subst P m.2 (omega (arith, three, is, place))

  pub start_most : (t : ℕ) → t ≤ trains → start_of l t ≤ patterns_in l
  start_most t h =
      let a = is_start t in
      let b = is_start trains in
      let c = starts_rise (weight_columns_of l.lists) trains t h in
      omega (arith, a, b, c)

  pub start_next : (t : ℕ) → start_of l (t + 1) ≡ start_of l t + list_size l t
  unfolding start_of
  start_next t = sum_numbers_more (list_size l) t

  pub pair_start_next : (t : ℕ) → pair_start l (t + 1) ≡ pair_start l t + later_trains l t
  unfolding pair_start
  pair_start_next t = sum_numbers_more (later_trains l) t

  module _ (c : CaseRecord) where
    pub price_here : (n : ℕ) (col : Column) → slice_get (columns_of l) n ≡ Some col → slice_index (prices_of c l) n ≡ price_of_column c l col
    unfolding prices_of
    price_here n col e =
        get_or_from_slice_get (map (price_of_column c l) (columns_of l)) n (price_of_column c l col) 0
        (slice_get-map (price_of_column c l) (columns_of l) n ∙ ap (option_map (price_of_column c l)) e)

    pub prices_long : length (prices_of c l) ≡ length (columns_of l)
    unfolding prices_of
    prices_long = length-map (columns_of l) (price_of_column c l)

    -- the columns behind the platforms are pair values
    pub pair_price_here : (n : ℕ) → patterns_in l + trains + l.platforms ≤ n → n < length (columns_of l) → slice_index (prices_of c l) n ≡ 1
    pair_price_here n h k =
        let three = three_long in
        let d : Column = LeftOut 0 in
        let j = n - (patterns_in l + trains + l.platforms) in
        let there = slice_get-get_or (columns_of l) n d k in
        let m = mapped_any pair_column (train_pairs trains) j _ (sym (in_pairs n j (omega (arith, three, h))) ∙ there) in
        price_here n _ there ∙ ap (price_of_column c l) (sym m.2)

    pub priced : (col : Column) → IsColumn l col → (n : ℕ) → position l col ≡ n → slice_index (prices_of c l) n ≡ price_of_column c l col
    priced col there n e =
        let P : ℕ → Type 0 = λ k. slice_get (columns_of l) k ≡ Some col in
        price_here n col (subst P e (at_position col there))
