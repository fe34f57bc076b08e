-- The weights of a train's patterns are at most the scale together.
use Rattle.std.proofs.Common.{◌≡◌, ℕ, zero, suc, ◌<◌, ◌≤◌, [], ◌∷◌, length, refl, ap, arith, pos, ◌≤ℤ◌, ◌^◌}
use Rattle.std.specs.Prelude.{sum_by, unsigned_abs}
use Rattle.std.specs.Prelude.{Bool, true, false, nat_lt}
use borrow.Author.Tests.{ltb-true, ltb-false}
use Rattle.std.proofs.lemmas.Int.{ints}
use Rattle.std.proofs.lemmas.List.{length-append}
use Rattle.std.proofs.lemmas.Option.{get_or_from_slice_get}
use Rattle.station.specs.Allowed.{numbers}
use Rattle.patterns.specs.declared.weights.Weights.{Weights}
use Rattle.patterns.specs.Allowed.{Lists, list_of}
use Rattle.patterns.specs.Weights.{choice_weights, weights_of, left_of, FitsLists}
use Rattle.pair_prices.proofs.Above.{sum_places}
use Rattle.clique_cuts.specs.Over.{fraction_of}
use Rattle.clique_cuts.proofs.Descent.{one_more}

pub sum_more : (f : ℕ → ℕ) (k n : ℕ) → k ≤ n → sum_by f (numbers k) ≤ sum_by f (numbers n)
sum_more f k zero h = let e : k ≡ 0 = omega arith in rw e (omega arith)
sum_more f k (suc n) h = by (λ l. sum_more f k n l) (nat_lt k (suc n)) refl
  where
    by : (k ≤ n → sum_by f (numbers k) ≤ sum_by f (numbers n)) → (b : Bool) → nat_lt k (suc n) ≡ b → sum_by f (numbers k) ≤ sum_by f (numbers (suc n))
    by rest true e =
        let l = ltb-true k (suc n) e in
        let a = rest (omega arith) in
        let m = one_more f n in
        omega (arith, a, m)
    by rest false e =
        let l = ltb-false k (suc n) e in
        let same : k ≡ suc n = omega arith in
        rw same (omega arith)

pub weights_most : (lists : Lists) (w : Weights) → FitsLists lists w → w.scale ≤ℤ pos (10 ^ 24) → (t k : ℕ) → t < length lists → k ≤ length (list_of lists t)
    → sum_by ((fraction_of w).weight t) (numbers k) ≤ 10 ^ 24
weights_most lists w fits scale t k tl kl =
    let all = choice_weights w t in
    let count = fits.lengths t tl in
    let more = length-append (weights_of w t) (left_of w t ∷ []) in
    let most = sum_more ((fraction_of w).weight t) k (length all) (omega (arith, count, more)) in
    let whole = sum_places ((fraction_of w).weight t) unsigned_abs all (λ i x e. ap unsigned_abs (get_or_from_slice_get all i x (pos 0) e)) in
    let total = fits.totals t tl in
    let within : sum_by unsigned_abs all ≤ 10 ^ 24 = omega (arith, ints, total, scale) in
    omega (arith, most, whole, within)
