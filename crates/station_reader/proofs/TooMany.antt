-- The first train with too many patterns.
use Rattle.std.proofs.Common.{◌≡◌, ℕ, suc, ◌+◌, ◌<◌, List, [], ◌∷◌, length, drop, get_or, Option, Some, None, refl, ap, add-one, drop-cons, nat_le, zero, arith, sym, slice_get, ◌≤◌, true}
use Rattle.std.proofs.lemmas.Bool.Decides.{nat_tests}
use Rattle.station.specs.declared.part.Train.{Train}
use Rattle.station_reader.specs.declared.place.Spot.{Spot}
use Rattle.station_reader.specs.declared.place.Spot.TheVariants.{Entry}
use Rattle.station_reader.specs.declared.member.Member.TheVariants.{Trains}
use Rattle.station_reader.specs.First.{each_from, unless}
use Rattle.station.specs.Allowed.{StationRecord, allowed_list}
use Rattle.station_reader.specs.TooMany.{too_many}
use Rattle.station_reader.specs.Reading.{patterns}
use Rattle.station.proofs.Counts.{length-allowed_list}

too_many_from : (r : StationRecord) (n : ℕ) (ts : List Train)
    → each_from (λ i t. unless (nat_le (length (allowed_list r t)) 4096) (Entry Trains i)) n ts ≡ each_from (too_many r.paths r.platforms) n ts
too_many_from r n [] = refl
too_many_from r n (t ∷ ts) = rw (length-allowed_list r t, too_many_from r (suc n) ts)

pub patterns-too_many : (r : StationRecord) → patterns r ≡ each_from (too_many r.paths r.platforms) 0 r.trains
unfolding patterns
patterns-too_many r = too_many_from r 0 r.trains

-- a list's element at the entry of a turn
pub slice_get-at : {X : Type 0} (xs : List X) (i : ℕ) (x : X) → i < length xs → x ≡ get_or xs i x → slice_get xs i ≡ Some x
slice_get-at [] i x h is = absurd (omega arith)
slice_get-at (y ∷ xs) zero x h is = ap Some (sym is)
slice_get-at (y ∷ xs) (suc i) x h is = slice_get-at xs i x (omega arith) is

pub each-next : {X A : Type 0} (fault : ℕ → X → Option A) (xs : List X) (i : ℕ) (x : X) → i < length xs → x ≡ get_or xs i x → None ≡ fault i x
    → each_from fault i (drop i xs) ≡ each_from fault (i + 1) (drop (i + 1) xs)
each-next fault xs i x h is none = rw (add-one, drop-cons xs i x, ← is, ← none)

pub few_enough : (n m : ℕ) (s : Spot) → n ≡ m → n ≤ 4096 → None ≡ unless (nat_le m 4096) s
few_enough n m s e h = let t : nat_le m 4096 ≡ true = grind (arith, nat_tests) in rw t
