-- A generated train has at most 54 patterns: one pair of paths on each regular platform, and at most nine pairs of minutes.
use Rattle.std.proofs.Common.{◌≡◌, ℕ, zero, suc, ◌+◌, ◌*◌, ◌<◌, ◌≤◌, List, [], ◌∷◌, length, Bool, true, false, cond, ◌&&◌, Some, refl, sym, ap, ◌∙◌, arith, nat_le, ◌==◌, ℤ, pos, ◌+ℤ◌, ◌-ℤ◌, int_le, subst}
use borrow.Author.Tests.{leb-true}
use Rattle.std.specs.List.{list_all, list_any}
use Rattle.std.proofs.lemmas.List.FromFn.{length-map-range_with_len}
use Rattle.station.specs.declared.part.Platform.{Platform}
use Rattle.station.specs.declared.part.PathWay.TheVariants.{In, Out}
use Rattle.station.specs.declared.part.Train.{Train}
use Rattle.station.specs.Allowed.{StationRecord, numbers, window, allowed_list}
use Rattle.station.specs.Counted.{total, ways, path_pairs, departures, times, on_platform, counted}
use Rattle.station.proofs.Counts.{length-allowed_list}
use Rattle.station.proofs.Tests.{left, right}
use Rattle.station_gen.specs.Made.{made_platforms, made_path, paths_of, made_paths}
use Rattle.station_gen.proofs.Tested.{passes-below}

total_most : {X : Type 0} (f : X → ℕ) (b : ℕ) → ((x : X) → f x ≤ b) → (xs : List X) → total f xs ≤ b * length xs
total_most f b most [] = omega arith
total_most f b most (x ∷ xs) = omega (arith, most x, total_most f b most xs)

at_most_one : (b : Bool) → cond b 1 0 ≤ 1
at_most_one true = omega arith
at_most_one false = omega arith

length-window : (minute : ℤ) (early late : ℕ) → length (window minute early late) ≡ early + late + 1
length-window minute early late = length-map-range_with_len (λ k. (minute -ℤ pos early) +ℤ pos k) 0 (early + late + 1)

departures_most : (t : Train) → t.depart_early ≡ 1 → t.depart_late ≡ 1 → (a : ℤ) → departures t a ≤ 3
unfolding departures
departures_most t e l a =
    omega (arith, total_most (λ d. cond (int_le (a +ℤ pos t.dwell) d) 1 0) 1 (λ d. at_most_one (int_le (a +ℤ pos t.dwell) d)) (window t.depart t.depart_early t.depart_late), length-window t.depart t.depart_early t.depart_late)

pub times_most : (t : Train) → t.arrive_early ≡ 1 → t.arrive_late ≡ 1 → t.depart_early ≡ 1 → t.depart_late ≡ 1 → times t ≤ 9
unfolding times
times_most t ae al de dl =
    omega (arith, total_most (departures t) 3 (departures_most t de dl) (window t.arrive t.arrive_early t.arrive_late), length-window t.arrive t.arrive_early t.arrive_late)

-- ---- one path of each way between a direction and a platform

abbrev way_test : ℕ → ℕ → Bool
way_test d p = nat_le (ways In (Some d) p made_paths) 1 && nat_le (ways Out (Some d) p made_paths) 1

ways-made : list_all (λ d. list_all (way_test d) (numbers 6)) (numbers 4) ≡ true
unfolding made_paths paths_of made_path
ways-made = refl

one_way_each : (d p : ℕ) → d < 4 → p < 6 → way_test d p ≡ true
one_way_each d p h k = passes-below (way_test d) 6 p (passes-below (λ e. list_all (way_test e) (numbers 6)) 4 d ways-made h) k

one_way_in : (d p : ℕ) → d < 4 → p < 6 → ways In (Some d) p made_paths ≤ 1
one_way_in d p h k = leb-true (ways In (Some d) p made_paths) 1 (left (nat_le (ways In (Some d) p made_paths) 1) (nat_le (ways Out (Some d) p made_paths) 1) (one_way_each d p h k))

one_way_out : (d p : ℕ) → d < 4 → p < 6 → ways Out (Some d) p made_paths ≤ 1
one_way_out d p h k = leb-true (ways Out (Some d) p made_paths) 1 (right (nat_le (ways In (Some d) p made_paths) 1) (nat_le (ways Out (Some d) p made_paths) 1) (one_way_each d p h k))

one_pair : (dummy : Bool) (m n : ℕ) → m ≤ 1 → n ≤ 1 → cond dummy 1 (m * n) ≤ 1
one_pair true m n h k = omega arith
one_pair false zero n h k = omega arith
one_pair false (suc zero) n h k = omega arith
one_pair false (suc (suc m)) n h k = absurd (omega arith)

gated_most : (b : Bool) (m n : ℕ) → m ≤ 1 → n ≤ 9 → cond b (m * n) 0 ≤ 9
gated_most true zero n h k = omega arith
gated_most true (suc zero) n h k = omega arith
gated_most true (suc (suc m)) n h k = absurd (omega arith)
gated_most false m n h k = omega arith

-- ---- the whole count

module _ (t : Train) (d e : ℕ) (leaves : t.from ≡ Some d) (goes : t.to ≡ Some e) (from_there : d < 4) (to_there : e < 4) (few_times : times t ≤ 9) where
  pairs_most : (p : ℕ) (x : Platform) → p < 6 → path_pairs made_paths t p x ≤ 1
  pairs_most p x h =
      one_pair x.dummy (ways In t.from p made_paths) (ways Out t.to p made_paths)
      (subst (λ o. ways In o p made_paths ≤ 1) (sym leaves) (one_way_in d p from_there h))
      (subst (λ o. ways Out o p made_paths ≤ 1) (sym goes) (one_way_out e p to_there h))

  platform_most : (p : ℕ) (x : Platform) → p < 6 → on_platform made_paths t p x ≤ 9
  platform_most p x h = gated_most (list_any (λ q. q == p) t.platforms) (path_pairs made_paths t p x) (times t) (pairs_most p x h) few_times

  counted_most : (n : ℕ) (xs : List Platform) → n + length xs ≤ 6 → counted made_paths t n xs ≤ 9 * length xs
  counted_most n [] h = omega arith
  counted_most n (x ∷ xs) h = omega (arith, platform_most n x (omega arith), counted_most (n + 1) xs (omega arith))

  six_platforms : length made_platforms ≡ 6
  unfolding made_platforms
  six_platforms = refl

  pub few_patterns : (r : StationRecord) → r.paths ≡ made_paths → r.platforms ≡ made_platforms → length (allowed_list r t) ≤ 4096
  few_patterns r paths platforms =
      let whole : length (allowed_list r t) ≡ counted made_paths t 0 made_platforms = length-allowed_list r t ∙ ap (λ xs. counted xs t 0 r.platforms) paths ∙ ap (counted made_paths t 0) platforms in
      omega (arith, whole, counted_most 0 made_platforms (omega (arith, six_platforms)), six_platforms)
