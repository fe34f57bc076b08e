-- The lists of the leaf of one plan are in their ranges, and ascend.
use Rattle.std.proofs.Common.{◌≡◌, ℕ, ◌+◌, ◌-◌, ◌*◌, ◌<◌, ◌≤◌, ◌==◌, Bool, true, false, cond, List, [], ◌∷◌, ◌++◌, length, refl, sym, ap, ◌∙◌, subst, arith, Option, None, Some, ℤ, pos, ◌-ℤ◌, ◌≤ℤ◌, ◌<ℤ◌}
use Rattle.std.specs.Prelude.{find, slice_get, slice_index, ◌^◌}
use Rattle.std.specs.List.{All, flat_map, range_with_len}
use Rattle.std.proofs.lemmas.Int.{ints}
use Rattle.std.proofs.lemmas.Bool.{eqb-false}
use Rattle.std.proofs.lemmas.List.Elements.{All-head, All-tail}
use Rattle.std.proofs.lemmas.List.Folds.{flat_map-map}
use Rattle.std.proofs.lemmas.List.FromFn.{length-map-range_with_len}
use Rattle.std.proofs.lemmas.List.Sums.{sum_by-le}
use Rattle.std.proofs.lemmas.Nat.{mul-le}
use Rattle.station.specs.Allowed.{StationRecord, numbers}
use Rattle.station.specs.Station.{IsStation}
use Rattle.station.specs.declared.part.Platform.{Platform}
use Rattle.station.proofs.Lists.{Every, Rising, every-at}
use Rattle.patterns.specs.Sound.{IsSound}
use Rattle.patterns.proofs.SoundLemmas.{numbers_below}
use Rattle.patterns.proofs.Steps.{flat_map_numbers_more}
use Rattle.pair_prices.specs.Case.{CaseRecord, IsCase}
use Rattle.pair_prices.specs.Plan.{Fits, chosen, price_of_platform, platform_price}
use Rattle.pair_prices.specs.Trains.{TrainPair, pairs_with, train_pairs}
use Rattle.pair_prices.proofs.CaseLemmas.{sound_at}
use Rattle.leaf_bounds.specs.declared.number.TrainValue.{TrainValue}
use Rattle.leaf_bounds.specs.declared.number.MinuteValue.{MinuteValue}
use Rattle.leaf_bounds.specs.declared.number.PairValue.{PairValue}
use Rattle.leaf_bounds.specs.Building.{AreTrainValues, value_list}
use Rattle.leaf_bounds.specs.Fixed.{is_train, listed_minute, listed_pair, minute_list, opener, opening, pair_list, pairs_paid, paid, sealed_at}
use Rattle.leaf_bounds.specs.Listed.{AreLeafLists, Ascends, IsMinuteValue, IsPairValue, minute_key, pair_key}
use Rattle.leaf_bounds.proofs.BareLemmas.{are_values}
use Rattle.leaf_bounds.proofs.BoundedLemmas.{Each}
use Rattle.leaf_bounds.proofs.FindLemmas.{flat_map-flat_map}
use Rattle.leaf_bounds.proofs.PaidLemmas.{sealed_most}
use Rattle.leaf_bounds.proofs.PlainLemmas.{price_limit}
use Rattle.leaf_bounds.proofs.RisingLemmas.{Before, ascends_from, every_range, rising_range, rising_single}
use Rattle.leaf_bounds.proofs.RowLemmas.{offers_few}

-- the loop that lists the minutes
pub minute_list_none : (c : CaseRecord) (plan : List ℕ) → [] ≡ minute_list c plan 0
unfolding minute_list
minute_list_none c plan = refl

pub minute_list_more : (c : CaseRecord) (plan : List ℕ) (k : ℕ) (old new : List MinuteValue) → old ≡ minute_list c plan k
    → new ≡ old ++ listed_minute c plan k (opener c plan k) → new ≡ minute_list c plan (k + 1)
unfolding minute_list
minute_list_more c plan k old new e f =
    f ∙ ap (λ xs. xs ++ listed_minute c plan k (opener c plan k)) e ∙ sym (flat_map_numbers_more (λ j. listed_minute c plan j (opener c plan j)) k)

-- what holds of all holds of what is found
found_by : {X : Type 0} (p : X → Bool) (P : X → Type 0) (y x : X) (ys : List X) (b : Bool) → p y ≡ b → cond b (Some y) (find p ys) ≡ Some x
    → (p y ≡ true → P y) → (find p ys ≡ Some x → P x) → P x
found_by p P y x ys true e f here rest = let same : y ≡ x = cc in subst P same (here e)
found_by p P y x ys false e f here rest = rest f

pub find_holds : {X : Type 0} (p : X → Bool) (P : X → Type 0) (xs : List X) (x : X) → find p xs ≡ Some x → All P xs → P x
find_holds p P [] x e h = cc
find_holds p P (y ∷ ys) x e h =
    found_by p P y x ys (p y) refl e (λ t. All-head P y ys h) (λ f. find_holds p P ys x f (All-tail P y ys h))

pub find_passes : {X : Type 0} (p : X → Bool) (xs : List X) (x : X) → find p xs ≡ Some x → p x ≡ true
find_passes p [] x e = cc
find_passes p (y ∷ ys) x e = found_by p (λ z. p z ≡ true) y x ys (p y) refl e (λ t. t) (find_passes p ys x)

every_some : {X : Type 0} (P : X → Type 0) (n : ℕ) (b : Bool) (x : X) → (n == 0) ≡ b → (1 ≤ n → P x) → Every P (cond b [] (x ∷ []))
every_some P n true x e h = tt
every_some P n false x e h = let some = eqb-false n 0 e in (h (omega (arith, some)), tt)

platform_by : (r : StationRecord) → IsStation r → (k : ℕ) (o : Option Platform) → slice_get r.platforms k ≡ o → price_of_platform o ≤ 1_000_000_000
platform_by r s k None e = omega arith
platform_by r s k (Some p) e = (s.platform k p e).price

pub platform_limit : (c : CaseRecord) → IsCase c → (k : ℕ) → platform_price c k ≤ 1_000_000_000
platform_limit c h k = platform_by c.station h.station k (slice_get c.station.platforms k) refl

module _ (c : CaseRecord) (plan : List ℕ) (case : IsCase c) (fits : Fits c plan) where
  pub chosen_sound : (t : ℕ) → t < length c.book → IsSound c.station (chosen c plan t)
  chosen_sound t h = sound_at c case t (slice_index plan t) h (fits.numbers t h)

  pub opener_there : (k t : ℕ) → opener c plan k ≡ Some t → t < length c.book
  unfolding opener
  opener_there k t e =
      find_holds (λ s. (chosen c plan s).platform == k) (λ s. s < length c.book) (numbers (length c.book)) t e (numbers_below (length c.book))

  number_few : (t : ℕ) → t < length c.book → slice_index plan t < 4096
  number_few t h =
      let few = offers_few c.book t case.book h in
      let there = fits.numbers t h in
      omega (arith, few, there)

  abbrev pub pair_at : ℕ → ℕ → TrainPair
  pair_at s t = record { first = s; second = t }

  -- what a train pays
  opening_by : (b : Bool) (n : ℕ) → n ≤ 1_000_000_000 → cond b n 0 ≤ 1_000_000_000
  opening_by true n h = h
  opening_by false n h = omega arith

  opening_limit : (t : ℕ) → opening c plan t ≤ 1_000_000_000
  unfolding opening
  opening_limit t =
      opening_by (is_train t (opener c plan (chosen c plan t).platform)) (platform_price c (chosen c plan t).platform)
      (platform_limit c case (chosen c plan t).platform)

  sealed_limit : (p : TrainPair) → sealed_at c plan p ≤ 10 ^ 13
  sealed_limit p = sealed_most c (chosen c plan p.first) (chosen c plan p.second) case

  pairs_limit : (t : ℕ) → pairs_paid c plan t ≤ 200 * 10 ^ 13
  unfolding pairs_paid
  pairs_limit t =
      let most = sum_by-le (sealed_at c plan) (10 ^ 13) (pairs_with (length c.book) t) (λ k d h. sealed_limit _) in
      let count = length-map-range_with_len (pair_at t) (t + 1) (length c.book - (t + 1)) in
      let few = case.book.trains in
      let product = mul-le (length (pairs_with (length c.book) t)) (10 ^ 13) 200 (10 ^ 13) (omega (arith, count, few)) (omega arith) in
      omega (arith, most, product)

  paid_limit : (t : ℕ) → t < length c.book → paid c plan t ≤ 10 ^ 30
  paid_limit t h =
      let price = price_limit c.book t (slice_index plan t) case.book h (fits.numbers t h) in
      let open_price = opening_limit t in
      let pairs = pairs_limit t in
      omega (arith, price, open_price, pairs)

  paid_values : AreTrainValues (value_list (paid c plan) (length c.book))
  paid_values = are_values (paid c plan) (length c.book) case.book.trains paid_limit

  -- the minutes
  abbrev pub entry_at : ℕ → ℕ → MinuteValue
  entry_at k t = record { platform = k; minute = (chosen c plan t).arrive; value = pos (platform_price c k) }

  minute_every : (P : MinuteValue → Type 0) (k : ℕ) (o : Option ℕ) → ((t : ℕ) → o ≡ Some t → 1 ≤ platform_price c k → P (entry_at k t))
      → Every P (listed_minute c plan k o)
  minute_every P k None h = tt
  minute_every P k (Some t) h = every_some P (platform_price c k) (platform_price c k == 0) (entry_at k t) refl (h t refl)

  minute_rising : (k : ℕ) (o : Option ℕ) → Rising (Before minute_key) (listed_minute c plan k o)
  minute_rising k None = tt
  minute_rising k (Some t) = rising_single minute_key (platform_price c k == 0) (entry_at k t)

  minute_there : (k t : ℕ) → k < length c.station.platforms → opener c plan k ≡ Some t → 1 ≤ platform_price c k → IsMinuteValue (entry_at k t)
  minute_there k t h e some =
      let sound = chosen_sound t (opener_there k t e) in
      let least = sound.arrive_least in
      let most = sound.arrive_most in
      let few = case.station.platforms_most in
      let limit = platform_limit c case k in
      record {
        platform = omega (arith, h, few);
        first = least;
        last = omega (arith, ints, most);
        value = omega (arith, ints, limit);
        some = omega (arith, ints, some);
      }

  -- what holds of each entry holds of the list
  pub each_minute : (P : MinuteValue → Type 0)
      → ((k t : ℕ) → k < length c.station.platforms → opener c plan k ≡ Some t → 1 ≤ platform_price c k → P (entry_at k t))
      → Each P (minute_list c plan (length c.station.platforms))
  unfolding minute_list
  each_minute P h =
      every-at P (flat_map (λ k. listed_minute c plan k (opener c plan k)) (numbers (length c.station.platforms)))
      (every_range P (λ k. listed_minute c plan k (opener c plan k)) 0 (length c.station.platforms)
      (λ k i j. minute_every P k (opener c plan k) (λ t e some. h k t (omega (arith, j)) e some)))

  low : ℕ → ℤ
  low k = pos (10_000 * k) -ℤ pos 30

  low_least : (k j t : ℕ) → k ≤ j → opener c plan j ≡ Some t → low k ≤ℤ minute_key (entry_at j t)
  unfolding low
  low_least k j t h e = let least = (chosen_sound t (opener_there j t e)).arrive_least in omega (arith, ints, h, least)

  low_most : (k t : ℕ) → opener c plan k ≡ Some t → minute_key (entry_at k t) <ℤ low (k + 1)
  unfolding low
  low_most k t e = let most = (chosen_sound t (opener_there k t e)).arrive_most in omega (arith, ints, most)

  minutes_ascend : Ascends minute_key (minute_list c plan (length c.station.platforms))
  unfolding minute_list
  minutes_ascend =
      ascends_from minute_key (flat_map (λ k. listed_minute c plan k (opener c plan k)) (numbers (length c.station.platforms)))
      (rising_range minute_key low (λ k. listed_minute c plan k (opener c plan k)) 0 (length c.station.platforms)
      (λ k i j. minute_rising k (opener c plan k))
      (λ k j a b d. minute_every (λ x. low k ≤ℤ minute_key x) j (opener c plan j) (λ t e some. low_least k j t b e))
      (λ k i j. minute_every (λ x. minute_key x <ℤ low (k + 1)) k (opener c plan k) (λ t e some. low_most k t e)))

  -- the pairs
  abbrev pub number_at : ℕ → ℕ → PairValue
  number_at s t = record { first = s; second = t; number = slice_index plan s; value = pos (sealed_at c plan (pair_at s t)) }

  pair_every : (P : PairValue → Type 0) (s t : ℕ) → (1 ≤ sealed_at c plan (pair_at s t) → P (number_at s t)) → Every P (listed_pair c plan (pair_at s t))
  pair_every P s t h = every_some P (sealed_at c plan (pair_at s t)) (sealed_at c plan (pair_at s t) == 0) (number_at s t) refl h

  abbrev pairs_from : ℕ → List PairValue
  pairs_from s = flat_map (λ t. listed_pair c plan (pair_at s t)) (range_with_len (s + 1) (length c.book - (s + 1)))

  pair_list_by : pair_list c plan ≡ flat_map pairs_from (numbers (length c.book))
  unfolding pair_list train_pairs
  pair_list_by =
      flat_map-flat_map (listed_pair c plan) (pairs_with (length c.book)) (numbers (length c.book))
      ∙ ap (λ (f : ℕ → List PairValue). flat_map f (numbers (length c.book)))
      (λ i s. flat_map-map (listed_pair c plan) (pair_at s) (range_with_len (s + 1) (length c.book - (s + 1))) i)

  pairs_every : (P : PairValue → Type 0) (s : ℕ) → s < length c.book
      → ((t : ℕ) → s < t → t < length c.book → 1 ≤ sealed_at c plan (pair_at s t) → P (number_at s t)) → Every P (pairs_from s)
  pairs_every P s h f =
      every_range P (λ t. listed_pair c plan (pair_at s t)) (s + 1) (length c.book - (s + 1))
      (λ t i j. pair_every P s t (f t (omega (arith, i)) (omega (arith, h, j))))

  pair_there : (s t : ℕ) → s < t → t < length c.book → 1 ≤ sealed_at c plan (pair_at s t) → IsPairValue (number_at s t)
  pair_there s t h l some =
      let few = case.book.trains in
      let limit = sealed_limit (pair_at s t) in
      let number = number_few s (omega (arith, h, l)) in
      record {
        first = omega (arith, h, l, few);
        second = omega (arith, l, few);
        number = number;
        value = omega (arith, limit);
        some = some;
      }

  pub each_pair : (P : PairValue → Type 0) → ((s t : ℕ) → s < t → t < length c.book → 1 ≤ sealed_at c plan (pair_at s t) → P (number_at s t))
      → Each P (pair_list c plan)
  each_pair P h =
      subst (Each P) (sym pair_list_by)
      (every-at P (flat_map pairs_from (numbers (length c.book)))
      (every_range P pairs_from 0 (length c.book) (λ s i j. pairs_every P s (omega (arith, j)) (h s))))

  abbrev key : PairValue → ℤ
  key x = pos (pair_key x)

  pairs_rise : (s : ℕ) → s < length c.book → Rising (Before key) (pairs_from s)
  pairs_rise s h =
      rising_range key (λ t. pos ((200 * s + t) * 4096)) (λ t. listed_pair c plan (pair_at s t)) (s + 1) (length c.book - (s + 1))
      (λ t i j. rising_single key (sealed_at c plan (pair_at s t) == 0) (number_at s t))
      (λ k t i l j. pair_every (λ x. pos ((200 * s + k) * 4096) ≤ℤ key x) s t (λ some. omega (arith, ints, l)))
      (λ t i j. pair_every (λ x. key x <ℤ pos ((200 * s + (t + 1)) * 4096)) s t
      (λ some. let number = number_few s h in omega (arith, ints, number)))

  pairs_ascend : Ascends key (pair_list c plan)
  pairs_ascend =
      subst (Ascends key) (sym pair_list_by)
      (ascends_from key (flat_map pairs_from (numbers (length c.book)))
      (rising_range key (λ s. pos (200 * s * 4096)) pairs_from 0 (length c.book)
      (λ s i j. pairs_rise s (omega (arith, j)))
      (λ r s i l j. pairs_every (λ x. pos (200 * r * 4096) ≤ℤ key x) s (omega (arith, j)) (λ t h m some. omega (arith, ints, l)))
      (λ s i j. pairs_every (λ x. key x <ℤ pos (200 * (s + 1) * 4096)) s (omega (arith, j))
      (λ t h m some.
      let few = case.book.trains in
      let number = number_few s (omega (arith, j)) in
      omega (arith, ints, m, few, number)))))

  pub plan_lists : (u : List TrainValue) (v : List MinuteValue) (alpha beta : List PairValue) → u ≡ value_list (paid c plan) (length c.book)
      → v ≡ minute_list c plan (length c.station.platforms) → alpha ≡ pair_list c plan → beta ≡ [] → AreLeafLists (pos 1) u v alpha beta
  plan_lists u v alpha beta e f g h = record {
    q_least = omega (arith, ints);
    q_most = omega (arith, ints);
    u_each = (subst AreTrainValues (sym e) paid_values).each;
    v_each = subst (Each IsMinuteValue) (sym f) (each_minute IsMinuteValue minute_there);
    alpha_each = subst (Each IsPairValue) (sym g) (each_pair IsPairValue pair_there);
    beta_each = subst (Each IsPairValue) (sym h) (λ i x k. cc);
    u_ascends = (subst AreTrainValues (sym e) paid_values).ascends;
    v_ascends = subst (Ascends minute_key) (sym f) minutes_ascend;
    alpha_ascends = subst (Ascends key) (sym g) pairs_ascend;
    beta_ascends = subst (Ascends key) (sym h) (λ i x y k l. cc);
  }
