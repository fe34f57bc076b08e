-- The lists of numbers that a record keeps: ascending, and of numbers that are there.
use Rattle.std.proofs.Common.{◌≡◌, ℕ, zero, suc, ◌+◌, ◌<◌, ◌≤◌, List, [], ◌∷◌, length, map, Bool, true, false, cond, Option, Some, None, option_map, refl, arith, bytes_eq, ◌-◌}
use Rattle.std.specs.Prelude.{flat_map}
use Rattle.std.specs.List.{range_with_len, cons_option}
use Rattle.serde_json.specs.Data.{Data}
use Rattle.station.specs.declared.part.PathPair.{PathPair}
use Rattle.station.specs.declared.part.Surcharge.{Surcharge}
use Rattle.station_reader.specs.declared.member.Member.TheVariants.{Surcharges}
use Rattle.station_reader.specs.First.{occurs}
use Rattle.station.specs.Station.{charged, IsBefore}
use Rattle.station_reader.specs.Classes.{charged_name, charged_price}
use Rattle.station_reader.specs.Passes.{Each, ChargePasses}
use Rattle.station_reader.specs.Tree.{natural}
use Rattle.station_reader.specs.Reading.{numbers_from, charge_of, surcharges_from, pairs_with}
use Rattle.station.proofs.Lists.{Every, Rising, every-weaker, every-append, rising-append, chosen-every, chosen-rising}
use Rattle.station_reader.proofs.Limits.{natural-most}

-- ---- the platforms of a train

abbrev pub Between : ℕ → ℕ → ℕ → Type 0
Between low high q = (low ≤ q) × (q < high)

pub numbers_between : (n : ℕ) (names used : List (List ℕ)) → Every (Between n (n + length names)) (numbers_from n names used)
numbers_between n [] used = tt
numbers_between n (name ∷ names) used =
    chosen-every (Between n (n + length (name ∷ names))) (occurs name used) n (numbers_from (n + 1) names used) (omega arith, omega arith)
    (every-weaker (Between (n + 1) (n + 1 + length names)) (Between n (n + length (name ∷ names))) (λ q b. (omega (arith, b.0), omega (arith, b.1))) (numbers_from (n + 1) names used) (numbers_between (n + 1) names used))

pub numbers_rising : (n : ℕ) (names used : List (List ℕ)) → Rising (λ p q. p < q) (numbers_from n names used)
numbers_rising n [] used = tt
numbers_rising n (name ∷ names) used =
    chosen-rising (λ p q. p < q) (occurs name used) n (numbers_from (n + 1) names used)
    (every-weaker (Between (n + 1) (n + 1 + length names)) (λ q. n < q) (λ q b. omega (arith, b.0)) (numbers_from (n + 1) names used) (numbers_between (n + 1) names used))
    (numbers_rising (n + 1) names used)

chosen_length : {X : Type 0} (b : Bool) (x : X) (xs : List X) (n : ℕ) → length xs ≤ n → length (cond b (x ∷ xs) xs) ≤ suc n
chosen_length true x xs n h = omega arith
chosen_length false x xs n h = omega arith

pub numbers_length : (n : ℕ) (names used : List (List ℕ)) → length (numbers_from n names used) ≤ length names
numbers_length n [] used = omega arith
numbers_length n (name ∷ names) used = chosen_length (occurs name used) n (numbers_from (n + 1) names used) (length names) (numbers_length (n + 1) names used)

-- ---- the surcharges of a train

abbrev with_charge : ℕ → Option ℕ → List Surcharge → List Surcharge
with_charge n o rest = cons_option (option_map (λ p. record { platform = n; price = p }) o) rest

charge_between : (n high : ℕ) (o : Option ℕ) (rest : List Surcharge) → n < high → Every (Between (n + 1) high) (charged rest) → Every (Between n high) (charged (with_charge n o rest))
charge_between n high None rest h all = every-weaker (Between (n + 1) high) (Between n high) (λ q b. (omega (arith, b.0), b.1)) (charged rest) all
charge_between n high (Some p) rest h all = ((omega arith, h), every-weaker (Between (n + 1) high) (Between n high) (λ q b. (omega (arith, b.0), b.1)) (charged rest) all)

pub charges_between : (n high : ℕ) (names : List (List ℕ)) (ds : List Data) → n + length names ≡ high → Every (Between n high) (charged (surcharges_from n names ds))
charges_between n high [] ds h = tt
charges_between n high (name ∷ names) ds h =
    charge_between n high (charge_of name ds) (surcharges_from (n + 1) names ds) (omega arith) (charges_between (n + 1) high names ds (omega arith))

charge_rising : (n high : ℕ) (o : Option ℕ) (rest : List Surcharge) → Every (Between (n + 1) high) (charged rest) → Rising (λ p q. p < q) (charged rest) → Rising (λ p q. p < q) (charged (with_charge n o rest))
charge_rising n high None rest all rising = rising
charge_rising n high (Some p) rest all rising = (every-weaker (Between (n + 1) high) (λ q. n < q) (λ q b. omega (arith, b.0)) (charged rest) all, rising)

pub charges_rising : (n high : ℕ) (names : List (List ℕ)) (ds : List Data) → n + length names ≡ high → Rising (λ p q. p < q) (charged (surcharges_from n names ds))
charges_rising n high [] ds h = tt
charges_rising n high (name ∷ names) ds h =
    charge_rising n high (charge_of name ds) (surcharges_from (n + 1) names ds) (charges_between (n + 1) high names ds (omega arith)) (charges_rising (n + 1) high names ds (omega arith))

charge_length : (n : ℕ) (o : Option ℕ) (rest : List Surcharge) (k : ℕ) → length (charged rest) ≤ k → length (charged (with_charge n o rest)) ≤ suc k
charge_length n None rest k h = omega arith
charge_length n (Some p) rest k h = omega arith

pub charges_length : (n : ℕ) (names : List (List ℕ)) (ds : List Data) → length (charged (surcharges_from n names ds)) ≤ length names
charges_length n [] ds = omega arith
charges_length n (name ∷ names) ds = charge_length n (charge_of name ds) (surcharges_from (n + 1) names ds) (length names) (charges_length (n + 1) names ds)

abbrev IsCheap : Surcharge → Type 0
IsCheap s = s.price ≤ 1_000_000_000

picked_price : (b : Bool) (price : ℕ) (later : Option ℕ) (p : ℕ) → price ≤ 1_000_000_000 → ((q : ℕ) → later ≡ Some q → q ≤ 1_000_000_000) → cond b (Some price) later ≡ Some p → p ≤ 1_000_000_000
picked_price true price later p cheap rest is = let same : price ≡ p = cc in omega arith
picked_price false price later p cheap rest is = rest p is

charge_cheap : (name : List ℕ) (ds : List Data) → Each ChargePasses ds → (p : ℕ) → charge_of name ds ≡ Some p → p ≤ 1_000_000_000
charge_cheap name [] all p is = absurd (cc)
charge_cheap name (d ∷ ds) all p is =
    picked_price (bytes_eq name (charged_name d)) (natural (charged_price d)) (charge_of name ds) p
    (natural-most Surcharges (charged_price d) (all 0 d refl))
    (λ q qs. charge_cheap name ds (λ i x xs. all (suc i) x xs) q qs) is

with_cheap : (n : ℕ) (o : Option ℕ) (rest : List Surcharge) → ((p : ℕ) → o ≡ Some p → p ≤ 1_000_000_000) → Every IsCheap rest → Every IsCheap (with_charge n o rest)
with_cheap n None rest cheap all = all
with_cheap n (Some p) rest cheap all = (cheap p refl, all)

pub charges_cheap : (n : ℕ) (names : List (List ℕ)) (ds : List Data) → Each ChargePasses ds → Every IsCheap (surcharges_from n names ds)
charges_cheap n [] ds all = tt
charges_cheap n (name ∷ names) ds all = with_cheap n (charge_of name ds) (surcharges_from (n + 1) names ds) (charge_cheap name ds all) (charges_cheap (n + 1) names ds all)

-- ---- the pairs of paths

-- of the first path i, with seconds from low up to n
abbrev InRow : ℕ → ℕ → ℕ → PathPair → Type 0
InRow i low n x = (x.first ≡ i) × (low ≤ x.second) × (x.second < n)

abbrev row : ℕ → ℕ → ℕ → List PathPair
row i low k = map (λ j. record { first = i; second = j }) (range_with_len low k)

row_within : (i low k n : ℕ) → low + k ≡ n → Every (InRow i low n) (row i low k)
row_within i low zero n h = tt
row_within i low (suc k) n h = (
  (refl, omega arith, omega arith),
  every-weaker (InRow i (low + 1) n) (InRow i low n) (λ x b. (b.0, omega (arith, b.1), b.2)) (row i (low + 1) k) (row_within i (low + 1) k n (omega arith)),
)

row_rising : (i low k n : ℕ) → low + k ≡ n → n ≤ 500 → Rising IsBefore (row i low k)
row_rising i low zero n h few = tt
row_rising i low (suc k) n h few = (
  every-weaker (InRow i (low + 1) n) (IsBefore (record { first = i; second = low })) (λ x b. omega (arith, b.0, b.1)) (row i (low + 1) k) (row_within i (low + 1) k n (omega arith)),
  row_rising i (low + 1) k n (omega arith) few,
)

-- the first at least i, and below the second, which is below n
abbrev pub IsPairFrom : ℕ → ℕ → PathPair → Type 0
IsPairFrom i n x = (i ≤ x.first) × (x.first < x.second) × (x.second < n)

pub rows_within : (n i k : ℕ) → i + k ≡ n → Every (IsPairFrom i n) (flat_map (pairs_with n) (range_with_len i k))
rows_within n i zero h = tt
rows_within n i (suc k) h =
    every-append (IsPairFrom i n) (pairs_with n i) (flat_map (pairs_with n) (range_with_len (i + 1) k))
    (every-weaker (InRow i (i + 1) n) (IsPairFrom i n) (λ x b. (omega (arith, b.0), omega (arith, b.0, b.1), b.2)) (pairs_with n i) (row_within i (i + 1) (n - (i + 1)) n (omega arith)))
    (every-weaker (IsPairFrom (i + 1) n) (IsPairFrom i n) (λ x b. (omega (arith, b.0), b.1, b.2)) (flat_map (pairs_with n) (range_with_len (i + 1) k)) (rows_within n (i + 1) k (omega arith)))

pub rows_rising : (n i k : ℕ) → i + k ≡ n → n ≤ 500 → Rising IsBefore (flat_map (pairs_with n) (range_with_len i k))
rows_rising n i zero h few = tt
rows_rising n i (suc k) h few =
    rising-append IsBefore (pairs_with n i) (flat_map (pairs_with n) (range_with_len (i + 1) k))
    (row_rising i (i + 1) (n - (i + 1)) n (omega arith) few)
    (rows_rising n (i + 1) k (omega arith) few)
    (every-weaker (InRow i (i + 1) n) (λ x. Every (IsBefore x) (flat_map (pairs_with n) (range_with_len (i + 1) k)))
    (λ x b. every-weaker (IsPairFrom (i + 1) n) (IsBefore x) (λ y d. omega (arith, b.0, b.1, b.2, d.0, d.1, d.2)) (flat_map (pairs_with n) (range_with_len (i + 1) k)) (rows_within n (i + 1) k (omega arith)))
    (pairs_with n i) (row_within i (i + 1) (n - (i + 1)) n (omega arith)))
