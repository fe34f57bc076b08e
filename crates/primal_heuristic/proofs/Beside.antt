-- What two patterns of a pair cost, or that they are forbidden, and sums that stop at a forbidden one.
use Rattle.std.proofs.Common.{◌≡◌, ℕ, ◌+◌, ◌*◌, ◌<◌, ◌≤◌, Bool, true, false, not, cond, List, length, refl, sym, ap, ◌∙◌, arith, Option, None, Some, ℤ}
use Rattle.std.specs.Prelude.{sum_by, is_some}
use Rattle.std.specs.List.{list_any}
use Rattle.station.specs.Allowed.{StationRecord, numbers}
use Rattle.station.specs.Station.{IsStation}
use Rattle.station.specs.declared.part.Pattern.{Pattern}
use Rattle.pair_prices.specs.declared.pair.Why.{Why}
use Rattle.pair_prices.specs.declared.pair.Pair.TheVariants.{Price, Forbidden}
use Rattle.pair_prices.specs.Case.{CaseRecord}
use Rattle.pair_prices.specs.Pair.{reason, are_forbidden, pair_price, pair_answer, pair_of}
use Rattle.pair_prices.proofs.Above.{pair_below}
use Rattle.pair_prices.proofs.TopLemmas.{dearest_most, sum_numbers_more}
use Rattle.plan_cost.proofs.CostLemmas.{any_numbers_at, any_numbers_more}
use Rattle.primal_heuristic.specs.Greedy.{is_against, is_free, price_beside}
use Rattle.primal_heuristic.specs.Looks.{price_against, prices_beside}

allowed_by : (o : Option Why) (n : ℕ) (z : ℤ) → Price z ≡ pair_answer o n → is_some o ≡ false
allowed_by None n z e = refl
allowed_by (Some w) n z e = cc

pub allowed_pair : (r : StationRecord) (x y : Pattern) (z : ℤ) → Price z ≡ pair_of r x y → are_forbidden r x y ≡ false
unfolding pair_of
allowed_pair r x y z e = allowed_by (reason r x y) (pair_price r x y) z e

forbidden_by : (o : Option Why) (n : ℕ) (w : Why) → Forbidden w ≡ pair_answer o n → is_some o ≡ true
forbidden_by None n w e = cc
forbidden_by (Some v) n w e = refl

pub forbidden_pair : (r : StationRecord) (x y : Pattern) (w : Why) → Forbidden w ≡ pair_of r x y → are_forbidden r x y ≡ true
unfolding pair_of
forbidden_pair r x y w e = forbidden_by (reason r x y) (pair_price r x y) w e

pub price_most : (r : StationRecord) → IsStation r → (x y : Pattern) → are_forbidden r x y ≡ false → pair_price r x y ≤ 300_000_000
price_most r h x y e =
    let a = pair_below r x y e in
    let b = dearest_most r h in
    omega (arith, a, b)

against_by : {A : Type 0} (b : Bool) (x : Option A) → b ≡ true → cond b None x ≡ None
against_by true x e = refl
against_by false x e = cc

beside_by : {A : Type 0} (b : Bool) (x : Option A) → b ≡ false → cond b None x ≡ x
beside_by true x e = cc
beside_by false x e = refl

pub is_price_against : (c : CaseRecord) (earlier : List ℕ) (number s : ℕ) → is_against c earlier number s ≡ false
    → Some (price_beside c earlier number s) ≡ price_against c earlier number s
is_price_against c earlier number s e =
    sym (beside_by (is_against c earlier number s) (Some (price_beside c earlier number s)) e)

pub no_price_against : (c : CaseRecord) (earlier : List ℕ) (number s : ℕ) → is_against c earlier number s ≡ true
    → None ≡ price_against c earlier number s
no_price_against c earlier number s e =
    sym (against_by (is_against c earlier number s) (Some (price_beside c earlier number s)) e)

-- nothing so far is against the pattern, and this is what it costs beside the first `trains` choices
pub record IsBeside (c : CaseRecord) (earlier : List ℕ) (number trains total : ℕ) : Type 0 where
  pub free : list_any (is_against c earlier number) (numbers trains) ≡ false
  pub value : total ≡ sum_by (price_beside c earlier number) (numbers trains)
  pub most : total ≤ trains * 300_000_000

some_against : (b : Bool) (price own : ℕ) → Some price ≡ cond b None (Some own) → b ≡ false
some_against true price own e = cc
some_against false price own e = refl

some_price : (b : Bool) (price own : ℕ) → Some price ≡ cond b None (Some own) → price ≡ own
some_price true price own e = cc
some_price false price own e = cc

against_none : (b : Bool) (price : ℕ) → None ≡ cond b None (Some price) → b ≡ true
against_none true price e = refl
against_none false price e = cc

pub beside_more : (c : CaseRecord) (earlier : List ℕ) (number k total price : ℕ) → IsBeside c earlier number k total
    → Some price ≡ price_against c earlier number k → price ≤ 300_000_000 → IsBeside c earlier number (k + 1) (total + price)
beside_more c earlier number k total price h e most = record {
  free = any_numbers_more (is_against c earlier number) k h.free (some_against (is_against c earlier number k) price (price_beside c earlier number k) e);
  value = ap (λ n. n + price) h.value
      ∙ ap (λ n. sum_by (price_beside c earlier number) (numbers k) + n) (some_price (is_against c earlier number k) price (price_beside c earlier number k) e)
      ∙ sym (sum_numbers_more (price_beside c earlier number) k);
  most = let m = h.most in omega (arith, m, most);
}

pub beside_none : (c : CaseRecord) (earlier : List ℕ) (number k : ℕ) → k < length earlier → None ≡ price_against c earlier number k
    → None ≡ prices_beside c earlier number
unfolding is_free
beside_none c earlier number k h e =
    let found = any_numbers_at (is_against c earlier number) (length earlier) k h
    (against_none (is_against c earlier number k) (price_beside c earlier number k) e) in
    ap (λ b. cond (not b) (Some (sum_by (price_beside c earlier number) (numbers (length earlier)))) None) (sym found)

pub beside_all : (c : CaseRecord) (earlier : List ℕ) (number k total : ℕ) → k ≡ length earlier → IsBeside c earlier number k total
    → Some total ≡ prices_beside c earlier number
unfolding is_free
beside_all c earlier number k total end h =
    let free : list_any (is_against c earlier number) (numbers (length earlier)) ≡ false =
    ap (λ n. list_any (is_against c earlier number) (numbers n)) (sym end) ∙ h.free in
    let value = h.value ∙ ap (λ n. sum_by (price_beside c earlier number) (numbers n)) end in
    ap Some value
    ∙ ap (λ b. cond (not b) (Some (sum_by (price_beside c earlier number) (numbers (length earlier)))) None) (sym free)
