-- Two trains of a feasible plan don't hold a platform at one minute.
use Rattle.std.proofs.Common.{◌≡◌, ℕ, ◌+◌, ◌-◌, ◌<◌, ◌≤◌, Bool, true, ◌&&◌, cond, List, map, get_or, refl, ap, ◌∙◌, arith, ℤ, pos, negsuc, ◌-ℤ◌, ◌≤ℤ◌, ◌<ℤ◌, neg_ℤ, Option, None, Some, length}
use Rattle.std.specs.Prelude.{slice_get, is_some, option_map, find}
use Rattle.std.specs.List.{list_any}
use borrow.Author.Tests.{eq-eqb}
use Rattle.std.proofs.lemmas.Bool.Decides.{nat_tests}
use Rattle.std.proofs.lemmas.Int.{ints}
use Rattle.std.proofs.lemmas.List.Folds.{list_any_at}
use Rattle.std.proofs.lemmas.List.FromFn.{length-map-range_with_len, get_or-map-range_with_len}
use Rattle.station.specs.Allowed.{StationRecord, numbers}
use Rattle.station.specs.Station.{IsStation}
use Rattle.station.specs.declared.part.Platform.{Platform}
use Rattle.station.specs.declared.part.Pattern.{Pattern}
use Rattle.path_conflicts.specs.Minutes.{minute_count, minutes, is_within, headway_of, free_from, holds_platform}
use Rattle.patterns.specs.Sound.{IsSound}
use Rattle.pair_prices.specs.declared.pair.Why.TheVariants.{Platform as SamePlatform}
use Rattle.pair_prices.specs.Case.{CaseRecord, IsCase}
use Rattle.pair_prices.specs.Pair.{meet_on_platform, reason, are_forbidden, over_paths, is_over, all_ways}
use Rattle.pair_prices.specs.Plan.{IsFeasible, chosen}
use Rattle.pair_prices.proofs.CaseLemmas.{sound_at}

-- the place of a minute among all minutes
place_of : ℤ → ℕ
place_of (pos n) = n + 90
place_of (negsuc n) = 89 - n

place_is : (m : ℤ) → neg_ℤ (pos 90) ≤ℤ m → pos (place_of m) -ℤ pos 90 ≡ m
unfolding place_of
place_is (pos n) h = omega (arith, ints)
place_is (negsuc n) h = omega (arith, ints)

place_most : (m : ℤ) → m <ℤ pos 2969 → place_of m < minute_count
unfolding place_of minute_count
place_most (pos n) h = omega (arith, ints)
place_most (negsuc n) h = omega (arith, ints)

any_minute : (q : ℤ → Bool) (m : ℤ) → neg_ℤ (pos 90) ≤ℤ m → m <ℤ pos 2969 → q m ≡ true → list_any q minutes ≡ true
unfolding minutes
any_minute q m lo hi e =
    let g : ℕ → ℤ = λ k. pos k -ℤ pos 90 in
    let there : place_of m < minute_count = place_most m hi in
    let at : get_or (map g (numbers minute_count)) (place_of m) m ≡ m =
    get_or-map-range_with_len g 0 minute_count (place_of m) (place_of m) m there (omega arith) ∙ place_is m lo in
    list_any_at q (map g (numbers minute_count)) (place_of m) m (omega (arith, there, length-map-range_with_len g 0 minute_count)) (ap q at ∙ e)

headway_by : (r : StationRecord) → IsStation r → (p : ℕ) (o : Option Platform) → slice_get r.platforms p ≡ o → headway_of o ≤ 60
headway_by r s p None e = omega arith
headway_by r s p (Some q) e = (s.platform p q e).headway

within_low : (a b m : ℤ) → is_within a b m ≡ true → a ≤ℤ m
within_low a b m h = grind (arith, ints, nat_tests)

within_high : (a b m : ℤ) → is_within a b m ≡ true → m <ℤ b
within_high a b m h = grind (arith, ints, nat_tests)

meets : (r : StationRecord) (x y : Pattern) (m : ℤ) → IsStation r → IsSound r x → x.platform ≡ y.platform
    → holds_platform r x m ≡ true → holds_platform r y m ≡ true → meet_on_platform r x y ≡ true
unfolding meet_on_platform
meets r x y m s h e f g =
    let low : x.arrive ≤ℤ m = within_low x.arrive (free_from r x) m f in
    let high : m <ℤ free_from r x = within_high x.arrive (free_from r x) m f in
    let most : headway_of (slice_get r.platforms x.platform) ≤ 60 = headway_by r s x.platform (slice_get r.platforms x.platform) refl in
    ap (λ b. b && list_any (λ k. holds_platform r x k && holds_platform r y k) minutes) (eq-eqb x.platform y.platform e)
    ∙ any_minute (λ k. holds_platform r x k && holds_platform r y k) m
    (omega (arith, ints, low, h.arrive_least)) (omega (arith, ints, high, most, h.depart_most))
    (ap (λ b. b && holds_platform r y m) f ∙ g)

forbidden_by : (r : StationRecord) (x y : Pattern) → meet_on_platform r x y ≡ true → are_forbidden r x y ≡ true
unfolding reason
forbidden_by r x y e = ap (λ b. is_some (cond b (Some SamePlatform) (option_map (over_paths r x y) (find (is_over r x y) all_ways)))) e

pub not_both : (c : CaseRecord) (plan : List ℕ) → IsCase c → IsFeasible c plan → (s t : ℕ) (m : ℤ) → s < t → t < length c.book
    → (chosen c plan s).platform ≡ (chosen c plan t).platform
    → holds_platform c.station (chosen c plan s) m ≡ true → holds_platform c.station (chosen c plan t) m ≡ true → ⊥
not_both c plan h f s t m l k e p q =
    let there : s < length c.book = omega (arith, l, k) in
    let both : are_forbidden c.station (chosen c plan s) (chosen c plan t) ≡ true =
    forbidden_by c.station (chosen c plan s) (chosen c plan t)
    (meets c.station (chosen c plan s) (chosen c plan t) m h.station (sound_at c h s (get_or plan s 0) there (f.fits.numbers s there)) e p q) in
    let apart = f.apart s t l k in cc
