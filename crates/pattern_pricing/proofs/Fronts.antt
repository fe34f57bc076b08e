-- The first prices times a scale.
use Rattle.std.proofs.Common.{◌≡◌, ℕ, ◌+◌, ◌*◌, ◌<◌, ◌≤◌, ◌^◌, List, [], ◌∷◌, ◌++◌, length, map, take, sym, ap, ◌∙◌, arith, ℤ, pos, ◌-ℤ◌, ◌*ℤ◌, unsigned_abs, FitsSigned, Result, Ok, Err, IsErrAnd}
use Rattle.exact_lp.specs.declared.source.LpFault.{LpFault}
use Rattle.exact_lp.specs.declared.source.LpFault.TheVariants.{Left}
use Rattle.std.specs.Prelude.{slice_index}
use Rattle.std.specs.Int.{w128}
use Rattle.std.proofs.lemmas.Int.{fits_signed_mul, unsigned_abs-mul}
use Rattle.std.proofs.lemmas.Nat.{mul-le}
use Rattle.std.proofs.lemmas.List.{map_more, get_or-map, length-map, take_all}
use Rattle.exact_lp.specs.declared.duals.Duals.{Duals}
use Rattle.exact_lp.specs.Programs.{paid_by_rows}
use Rattle.pair_prices.specs.Case.{CaseRecord}
use Rattle.pair_prices.specs.Top.{top_of}
use Rattle.pattern_pricing.specs.Layout.{LayoutRecord}
use Rattle.pattern_pricing.specs.Prices.{PricingRecord, column_count, column_price, prices_of}
use Rattle.pattern_pricing.specs.Reduced.{AreReduced, AreSmall, HaveRoom, at, paid_sizes, scaled_front}
use Rattle.pattern_pricing.proofs.Dear.{prices_most}
use Rattle.pattern_pricing.proofs.Places.{prices_long}

pub scaled_fits : (s : ℤ) (price top : ℕ) → price ≤ top → unsigned_abs s * top < 2 ^ 127 → FitsSigned w128 (s *ℤ pos price)
scaled_fits s price top h k = fits_signed_mul w128 s (pos price) (unsigned_abs s) top (omega arith) h k

pub front_more : (s : ℤ) (prices : List ℕ) (k price : ℕ) → k < length prices → slice_index prices k ≡ price
    → scaled_front s prices (k + 1) ≡ scaled_front s prices k ++ (s *ℤ pos price) ∷ []
front_more s prices k price h e =
    map_more (λ (p : ℕ). s *ℤ pos p) prices k 0 h
    ∙ ap (λ (p : ℕ). scaled_front s prices k ++ (s *ℤ pos p) ∷ []) e

front_at : (s : ℤ) (prices : List ℕ) (count n : ℕ) → count ≡ length prices → n < count → at (scaled_front s prices count) n ≡ s *ℤ pos (slice_index prices n)
front_at s prices count n e h =
    ap (λ ps. at (map (λ (p : ℕ). s *ℤ pos p) ps) n) (take_all count prices (omega (arith, e)))
    ∙ get_or-map (λ (p : ℕ). s *ℤ pos p) prices n 0 (pos 0) (omega (arith, e, h))

front_long : (s : ℤ) (prices : List ℕ) (count : ℕ) → count ≡ length prices → length (scaled_front s prices count) ≡ count
front_long s prices count e =
    length-map (take count prices) (λ (p : ℕ). s *ℤ pos p) ∙ ap length (take_all count prices (omega (arith, e))) ∙ sym e

module _ (c : CaseRecord) (l : LayoutRecord) (duals : Duals) where
  abbrev p : PricingRecord
  p = record { case = c; layout = l }

  count_is_long : column_count p ≡ length (prices_of c l)
  count_is_long = sym (prices_long l c)

  pub front_whole : (xs : List ℤ) → xs ≡ scaled_front duals.scale (prices_of c l) (column_count p) → length xs ≡ column_count p
  front_whole xs e = ap length e ∙ front_long duals.scale (prices_of c l) (column_count p) count_is_long

  scaled_at : (xs : List ℤ) → xs ≡ scaled_front duals.scale (prices_of c l) (column_count p) → (n : ℕ) → n < column_count p → at xs n ≡ duals.scale *ℤ pos (column_price p n)
  scaled_at xs e n h = ap (λ ys. at ys n) e ∙ front_at duals.scale (prices_of c l) (column_count p) n count_is_long h

  pub reduced_are : (xs ys : List ℤ) → xs ≡ scaled_front duals.scale (prices_of c l) (column_count p) → length ys ≡ length xs
      → ((n : ℕ) → n < length xs → at ys n ≡ at xs n -ℤ paid_by_rows duals.rows duals.values n) → AreReduced p duals ys
  reduced_are xs ys e long paid = record {
    long = long ∙ front_whole xs e;
    each = λ n h. let whole = front_whole xs e in
        paid n (omega (arith, h, whole)) ∙ ap (λ (z : ℤ). z -ℤ paid_by_rows duals.rows duals.values n) (scaled_at xs e n h);
  }

  pub room_is : (xs : List ℤ) → xs ≡ scaled_front duals.scale (prices_of c l) (column_count p) → AreSmall c duals → HaveRoom xs (paid_sizes duals.rows duals.values)
  room_is xs e small k h =
      let whole = front_whole xs e in
      let inside : k < column_count p = omega (arith, h, whole) in
      let same : unsigned_abs (at xs k) ≡ unsigned_abs duals.scale * column_price p k =
      ap unsigned_abs (scaled_at xs e k inside) ∙ unsigned_abs-mul duals.scale (pos (column_price p k)) in
      let most : unsigned_abs duals.scale * column_price p k ≤ unsigned_abs duals.scale * top_of c =
      mul-le (unsigned_abs duals.scale) (column_price p k) (unsigned_abs duals.scale) (top_of c) (omega arith) (prices_most c l k inside) in
      let total : unsigned_abs duals.scale * top_of c + paid_sizes duals.rows duals.values < 2 ^ 127 = small in
      joined (unsigned_abs (at xs k)) (unsigned_abs duals.scale * column_price p k) (unsigned_abs duals.scale * top_of c) (paid_sizes duals.rows duals.values) same most total
    where
      joined : (x y z w : ℕ) → x ≡ y → y ≤ z → z + w < 2 ^ 127 → x + w < 2 ^ 127
      joined x y z w a b d = omega (arith, a, b, d)

  pub scale_small : AreSmall c duals → unsigned_abs duals.scale * top_of c < 2 ^ 127
  scale_small small = smaller (unsigned_abs duals.scale * top_of c) (paid_sizes duals.rows duals.values) small
    where
      smaller : (x w : ℕ) → x + w < 2 ^ 127 → x < 2 ^ 127
      smaller x w h = omega (arith, h)

same_fault : {T : Type 0} {f g : LpFault} → ◌≡◌ {A = Result T LpFault} (Err f) (Err g) → f ≡ g
same_fault h = cc

-- a fault that is handed on is the one that came
pub handed : {T : Type 0} (U : Type 0) (r : Result T LpFault) (f : LpFault) → IsErrAnd r (λ g. g ≡ f) → r ≡ Err Left → ◌≡◌ {A = Result U LpFault} (Err f) (Err Left)
handed U (Ok x) f e h = absurd e
handed U (Err g) f e h = let into : LpFault → Result U LpFault = λ z. Err z in ap into (sym e ∙ same_fault h)
