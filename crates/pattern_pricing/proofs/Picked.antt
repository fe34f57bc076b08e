-- The column that is picked.
use Rattle.std.proofs.Common.{◌≡◌, ℕ, ◌+◌, ◌<◌, ◌≤◌, Bool, true, false, List, length, refl, subst, arith, ℤ, pos, ◌≤ℤ◌, ◌<ℤ◌, Option, None, Some, inl, inr, MatchOption, IfSome}
use Rattle.std.specs.Prelude.{nat_lt, ◌⊎◌}
use borrow.Author.Tests.{ltb-true, ltb-false}
use Rattle.std.proofs.lemmas.Int.{ints}
use Rattle.exact_lp.specs.declared.duals.Duals.{Duals}
use Rattle.pattern_pricing.specs.Layout.{LayoutRecord, columns_of}
use Rattle.pattern_pricing.specs.Prices.{PricingRecord}
use Rattle.pattern_pricing.specs.Reduced.{AreReduced, at, reduced_at}
use Rattle.pattern_pricing.specs.Positions.{start_of, patterns_in}
use Rattle.pattern_pricing.specs.Picks.{NoneNegative, IsLeastNegative, IsLeastOf, IsTrainPart, IsRestPart, IsPick}
use Rattle.pattern_pricing.proofs.Places.{start_most, count_is}

one_more : (P : ℕ → Type 0) (from next : ℕ) → ((n : ℕ) → from ≤ n → n < next → P n) → P next → (n : ℕ) → from ≤ n → n < next + 1 → P n
one_more P from next before here n h k = by (nat_lt n next) refl
  where
    by : (b : Bool) → nat_lt n next ≡ b → P n
    by true e = before n h (ltb-true n next e)
    by false e = let l = ltb-false n next e in let same : next ≡ n = omega arith in subst P same here

le_less : (a b c : ℤ) → a <ℤ b → b ≤ℤ c → a ≤ℤ c
le_less a b c h k = omega (arith, ints)

less_le : (a : ℤ) → a ≤ℤ a
less_le a = omega (arith, ints)

less_then_negative : (a b : ℤ) → a <ℤ b → b <ℤ pos 0 → a <ℤ pos 0
less_then_negative a b h k = omega (arith, ints)

less_then_le : (a b : ℤ) → a <ℤ b → a ≤ℤ b
less_then_le a b h = omega (arith, ints)

module _ (value : ℕ → ℤ) (from next : ℕ) (order : from ≤ next) where
  pub taken : (best : Option ℕ) (least : ℤ) → MatchOption best (least ≡ pos 0) (λ place. least ≡ value place) → IsLeastOf value from next best
      → value next <ℤ least → IsLeastOf value from (next + 1) (Some next)
  taken None least e none h =
      let P : ℤ → Type 0 = λ z. value next <ℤ z in
      let negative = subst P e h in
      record {
        not_before = order;
        inside = omega arith;
        negative = negative;
        least = one_more (λ n. value next ≤ℤ value n) from next (λ n a b. le_less (value next) (pos 0) (value n) negative (none n a b)) (less_le (value next));
      }
  taken (Some place) least e so_far h =
      let P : ℤ → Type 0 = λ z. value next <ℤ z in
      let less = subst P e h in
      record {
        not_before = order;
        inside = omega arith;
        negative = less_then_negative (value next) (value place) less so_far.negative;
        least = one_more (λ n. value next ≤ℤ value n) from next (λ n a b. le_less (value next) (value place) (value n) less (so_far.least n a b)) (less_le (value next));
      }

  pub kept : (best : Option ℕ) (least : ℤ) → MatchOption best (least ≡ pos 0) (λ place. least ≡ value place) → IsLeastOf value from next best
      → least ≤ℤ value next → IsLeastOf value from (next + 1) best
  kept None least e none h =
      let P : ℤ → Type 0 = λ z. z ≤ℤ value next in
      one_more (λ n. pos 0 ≤ℤ value n) from next none (subst P e h)
  kept (Some place) least e so_far h =
      let P : ℤ → Type 0 = λ z. z ≤ℤ value next in
      let inside = so_far.inside in
      record {
        not_before = so_far.not_before;
        inside = omega (arith, inside);
        negative = so_far.negative;
        least = one_more (λ n. value place ≤ℤ value n) from next so_far.least (subst P e h);
      }

pub is_inside : (value : ℕ → ℤ) (from next count : ℕ) → next ≤ count → (best : Option ℕ) → IsLeastOf value from next best → IfSome best (λ place. place < count)
is_inside value from next count h None none = tt
is_inside value from next count h (Some place) so_far = let inside = so_far.inside in omega (arith, inside)

pub none_joined : (value : ℕ → ℤ) (middle to : ℕ) → NoneNegative value 0 middle → NoneNegative value middle to → NoneNegative value 0 to
none_joined value middle to a b n h k = by (nat_lt n middle) refl
  where
    by : (t : Bool) → nat_lt n middle ≡ t → pos 0 ≤ℤ value n
    by true e = a n h (ltb-true n middle e)
    by false e = b n (ltb-false n middle e) k

pub rest_picked : (l : LayoutRecord) (value : ℕ → ℤ) (count : ℕ) → count ≡ length (columns_of l) → NoneNegative value 0 (patterns_in l) → (found : Option ℕ)
    → IsLeastOf value (patterns_in l) count found → MatchOption found (NoneNegative value 0 count) (IsPick l value)
rest_picked l value count e before None none = none_joined value (patterns_in l) count before none
rest_picked l value count e before (Some n) least =
    record { from = patterns_in l; to = count; part = inr (record { begins = refl; ends = e }); before = before; least = least }

pub train_picked : (l : LayoutRecord) (value : ℕ → ℤ) (train n : ℕ) → train < length l.lists → NoneNegative value 0 (start_of l train)
    → IsLeastNegative value (start_of l train) (start_of l (train + 1)) n → IsPick l value n
train_picked l value train n h before least =
    record {
      from = start_of l train;
      to = start_of l (train + 1);
      part = inl (record { train = train; inside = h; begins = refl; ends = refl });
      before = before;
      least = least;
    }

-- a part of the columns ends within their count
pub part_ends : (l : LayoutRecord) (from to : ℕ) → IsTrainPart l from to ⊎ IsRestPart l from to → to ≤ length (columns_of l)
part_ends l from to (inl part) =
    let inside = part.inside in
    let ends = part.ends in
    let most = start_most l (part.train + 1) (omega (arith, inside)) in
    let count = count_is l in
    omega (arith, ends, most, count)
part_ends l from to (inr part) = let ends = part.ends in omega (arith, ends)

-- the same for values that are equal at each column
module _ (l : LayoutRecord) (f g : ℕ → ℤ) (same : (n : ℕ) → n < length (columns_of l) → f n ≡ g n) where
  pub none_same : (from to : ℕ) → to ≤ length (columns_of l) → NoneNegative f from to → NoneNegative g from to
  none_same from to h none n a b =
      let P : ℤ → Type 0 = λ z. pos 0 ≤ℤ z in
      subst P (same n (omega (arith, h, b))) (none n a b)

  pub pick_same : (n : ℕ) → IsPick l f n → IsPick l g n
  pick_same n pick =
      let ends = part_ends l pick.from pick.to pick.part in
      let x = pick.least in
      let inside = x.inside in
      let first = x.not_before in
      let P : ℤ → Type 0 = λ z. z <ℤ pos 0 in
      let here = same n (omega (arith, inside, ends)) in
      record {
        from = pick.from;
        to = pick.to;
        part = pick.part;
        before = none_same 0 pick.from (omega (arith, first, inside, ends)) pick.before;
        least = record {
          not_before = x.not_before;
          inside = x.inside;
          negative = subst P here x.negative;
          least = λ m a b.
              let Q : ℤ → Type 0 = λ z. z ≤ℤ f m in
              let R : ℤ → Type 0 = λ z. g n ≤ℤ z in
              subst R (same m (omega (arith, b, ends))) (subst Q here (x.least m a b));
        };
      }

module _ (p : PricingRecord) (duals : Duals) (xs : List ℤ) (reduced : AreReduced p duals xs) where
  pub picked : (o : Option ℕ) → MatchOption o (NoneNegative (at xs) 0 (length xs)) (IsPick p.layout (at xs)) → IfSome o (IsPick p.layout (reduced_at p duals))
  picked None m = tt
  picked (Some n) m = pick_same p.layout (at xs) (reduced_at p duals) reduced.each n m
