-- What the trains of a plan pay, step by step.
use Rattle.std.proofs.Common.{◌≡◌, ℕ, ◌+◌, ◌-◌, ◌<◌, ◌≤◌, Bool, true, false, cond, List, [], ◌∷◌, ◌++◌, map, length, refl, sym, ap, ◌∙◌, arith, append_assoc, Option, Some, ℤ, pos}
use Rattle.std.specs.Prelude.{find, sum_by, unsigned_abs}
use Rattle.std.specs.List.{flat_map, range_with_len}
use Rattle.std.proofs.lemmas.Int.{ints, to_z-of_z}
use Rattle.std.proofs.lemmas.List.Sums.{sum_by-cons}
use Rattle.station.specs.Allowed.{numbers}
use Rattle.station.specs.declared.part.Pattern.{Pattern}
use Rattle.pair_prices.specs.Case.{CaseRecord, IsCase}
use Rattle.pair_prices.specs.Pair.{are_forbidden, pair_price}
use Rattle.pair_prices.specs.Plan.{chosen, platform_price}
use Rattle.pair_prices.specs.Top.{sealed_price, top_of}
use Rattle.pair_prices.specs.Trains.{pairs_with}
use Rattle.pair_prices.proofs.Above.{pair_below}
use Rattle.pair_prices.proofs.TopLemmas.{dearest_most, top_most}
use mir.Syntax.{w64}
use mir.Val.{SFits, to_z, of_z}
use Rattle.leaf_bounds.specs.Fixed.{is_train, opener, opening, pairs_paid, sealed_at}
use Rattle.patterns.proofs.Steps.{flat_map_numbers_more}
use Rattle.leaf_bounds.proofs.FindLemmas.{flat_map-append, range_done, range_open}

most_by : (c : CaseRecord) (x y : Pattern) (b : Bool) → are_forbidden c.station x y ≡ b → IsCase c → cond b (top_of c) (pair_price c.station x y) ≤ 10_000_000_000_000
most_by c x y true e h = let top = top_most c h in omega (arith, top)
most_by c x y false e h =
    let pair = pair_below c.station x y e in
    let dearest = dearest_most c.station h.station in
    omega (arith, pair, dearest)

-- a sealed price is at most 10^13
pub sealed_most : (c : CaseRecord) (x y : Pattern) → IsCase c → sealed_price c x y ≤ 10_000_000_000_000
unfolding sealed_price
sealed_most c x y h = most_by c x y (are_forbidden c.station x y) refl h

pub size_most : (z : ℤ) (n most : ℕ) → SFits w64 z → z ≡ pos n → n ≤ most → unsigned_abs (to_z w64 (of_z w64 z)) ≤ most
size_most z n most f e h = simp to_z-of_z (omega (arith, ints, e, h))

-- a search over the numbers from a to n
pub find_on : (p : ℕ → Bool) (a n : ℕ) (whole : Option ℕ) → a < n → whole ≡ find p (range_with_len a (n - a)) → p a ≡ false
    → whole ≡ find p (range_with_len (a + 1) (n - (a + 1)))
find_on p a n whole h e f =
    e ∙ ap (find p) (range_open a n h) ∙ ap (λ b. cond b (Some a) (find p (range_with_len (a + 1) (n - (a + 1))))) f

pub find_here : (p : ℕ → Bool) (a n : ℕ) (whole : Option ℕ) → a < n → whole ≡ find p (range_with_len a (n - a)) → p a ≡ true → Some a ≡ whole
find_here p a n whole h e f =
    sym (e ∙ ap (find p) (range_open a n h) ∙ ap (λ b. cond b (Some a) (find p (range_with_len (a + 1) (n - (a + 1))))) f)

-- a sum over a train's pairs
pub pairs_more : {X : Type 0} (f : X → ℕ) (g : ℕ → X) (a n sum z whole : ℕ) → a < n → sum + sum_by f (map g (range_with_len a (n - a))) ≡ whole → z ≡ f (g a)
    → sum + z + sum_by f (map g (range_with_len (a + 1) (n - (a + 1)))) ≡ whole
pairs_more f g a n sum z whole h e k =
    let open_sum = ap (λ ks. sum_by f (map g ks)) (range_open a n h) ∙ sum_by-cons f (g a) (map g (range_with_len (a + 1) (n - (a + 1)))) in
    omega (arith, e, k, open_sum)

-- the train opens its platform, or it doesn't
pub opens : (c : CaseRecord) (plan : List ℕ) (t n : ℕ) (x : Pattern) (o : Option ℕ) (b : Bool) → x ≡ chosen c plan t → o ≡ opener c plan x.platform
    → b ≡ is_train t o → b ≡ true → n ≡ platform_price c x.platform → n ≡ opening c plan t
unfolding opening
opens c plan t n x o b e f g h k =
    k ∙ ap (λ y. platform_price c y.platform) e
    ∙ ap (λ d. cond d (platform_price c (chosen c plan t).platform) 0)
    (sym h ∙ g ∙ ap (is_train t) (f ∙ ap (λ y. opener c plan y.platform) e))

pub opens_not : (c : CaseRecord) (plan : List ℕ) (t : ℕ) (x : Pattern) (o : Option ℕ) (b : Bool) → x ≡ chosen c plan t → o ≡ opener c plan x.platform
    → b ≡ is_train t o → b ≡ false → 0 ≡ opening c plan t
unfolding opening
opens_not c plan t x o b e f g h =
    ap (λ d. cond d (platform_price c (chosen c plan t).platform) 0)
    (sym h ∙ g ∙ ap (is_train t) (f ∙ ap (λ y. opener c plan y.platform) e))

-- entries of a train's pairs
pub pairs_added : {X Y : Type 0} (f : X → List Y) (g : ℕ → X) (a n : ℕ) (old new whole : List Y) → a < n
    → whole ≡ old ++ flat_map f (map g (range_with_len a (n - a))) → new ≡ old ++ f (g a)
    → whole ≡ new ++ flat_map f (map g (range_with_len (a + 1) (n - (a + 1))))
pairs_added f g a n old new whole h e k =
    e ∙ ap (λ ks. old ++ flat_map f (map g ks)) (range_open a n h)
    ∙ sym (append_assoc old (f (g a)) (flat_map f (map g (range_with_len (a + 1) (n - (a + 1))))))
    ∙ ap (λ ys. ys ++ flat_map f (map g (range_with_len (a + 1) (n - (a + 1))))) (sym k)

pub pairs_start : (c : CaseRecord) (plan : List ℕ) (t n : ℕ) → n ≡ length c.book
    → 0 + sum_by (sealed_at c plan) (map (λ s. record { first = t; second = s }) (range_with_len (t + 1) (n - (t + 1)))) ≡ pairs_paid c plan t
unfolding pairs_paid
pairs_start c plan t n e = none (sum_by (sealed_at c plan) (pairs_with n t)) ∙ ap (λ m. sum_by (sealed_at c plan) (pairs_with m t)) e
  where
    none : (m : ℕ) → 0 + m ≡ m
    none m = omega arith

append_none : {Y : Type 0} (ys : List Y) → ys ++ [] ≡ ys
append_none [] = refl
append_none (y ∷ ys) = ap (λ zs. y ∷ zs) (append_none ys)

pub pairs_ended : {X Y : Type 0} (f : X → List Y) (g : ℕ → X) (a n : ℕ) (found whole : List Y) → n ≤ a
    → whole ≡ found ++ flat_map f (map g (range_with_len a (n - a))) → found ≡ whole
pairs_ended f g a n found whole h e =
    sym (e ∙ ap (λ ks. found ++ flat_map f (map g ks)) (range_done a n h) ∙ append_none found)

-- the pairs of one more train
pub trains_added : {X Y : Type 0} (f : X → List Y) (g : ℕ → List X) (k : ℕ) (old new : List Y) → old ≡ flat_map f (flat_map g (numbers k))
    → new ≡ old ++ flat_map f (g k) → new ≡ flat_map f (flat_map g (numbers (k + 1)))
trains_added f g k old new e h =
    h ∙ ap (λ ys. ys ++ flat_map f (g k)) e ∙ sym (ap (flat_map f) (flat_map_numbers_more g k) ∙ flat_map-append f (flat_map g (numbers k)) (g k))
