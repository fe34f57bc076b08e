-- Where an element stands in lists that are appended, mapped or joined.
use Rattle.std.proofs.Common.{◌≡◌, ℕ, zero, suc, ◌+◌, ◌-◌, ◌<◌, ◌≤◌, Bool, true, false, List, [], ◌∷◌, ◌++◌, length, map, flat_map, refl, sym, ap, ◌∙◌, subst, arith, Some, inl, inr}
use Rattle.std.specs.Prelude.{nat_lt, slice_get, sum_by, ◌⊎◌}
use Rattle.std.specs.List.{range_with_len}
use Rattle.std.specs.Option.{option_map}
use borrow.Author.Tests.{ltb-true, ltb-false}
use Rattle.std.proofs.lemmas.List.{length-map}
use Rattle.std.proofs.lemmas.List.Concat.{length-flat_map}
use Rattle.std.proofs.lemmas.List.FromFn.{get_or-range_with_len, length-range_with_len}
use Rattle.std.proofs.lemmas.Option.{slice_get-get_or, slice_get-map, slice_get_within, same_Some}
use Rattle.station.specs.Allowed.{numbers}
use Rattle.patterns.proofs.Steps.{flat_map_numbers_more}
use Rattle.pair_prices.proofs.TopLemmas.{sum_numbers_more}

pub get_left : {X : Type 0} (xs ys : List X) (i : ℕ) → i < length xs → slice_get (xs ++ ys) i ≡ slice_get xs i
get_left [] ys i h = absurd (omega arith)
get_left (x ∷ xs) ys zero h = refl
get_left (x ∷ xs) ys (suc i) h = get_left xs ys i (omega arith)

pub get_right : {X : Type 0} (xs ys : List X) (i j : ℕ) → i ≡ length xs + j → slice_get (xs ++ ys) i ≡ slice_get ys j
get_right [] ys i j e = ap (slice_get ys) (omega (arith, e))
get_right (x ∷ xs) ys zero j e = absurd (omega (arith, e))
get_right (x ∷ xs) ys (suc i) j e = get_right xs ys i j (omega (arith, e))

pub record IsBehind {X : Type 0} (xs ys : List X) (i : ℕ) (x : X) : Type 0 where
  pub place : ℕ
  pub is : i ≡ length xs + place
  pub there : slice_get ys place ≡ Some x

-- what stands in two appended lists stands in the one or in the other
pub found_in : {X : Type 0} (xs ys : List X) (i : ℕ) (x : X) → slice_get (xs ++ ys) i ≡ Some x → ((i < length xs) × (slice_get xs i ≡ Some x)) ⊎ IsBehind xs ys i x
found_in xs ys i x e = by (nat_lt i (length xs)) refl
  where
    by : (b : Bool) → nat_lt i (length xs) ≡ b → ((i < length xs) × (slice_get xs i ≡ Some x)) ⊎ IsBehind xs ys i x
    by true t = let l = ltb-true i (length xs) t in inl (l, sym (get_left xs ys i l) ∙ e)
    by false t =
        let l = ltb-false i (length xs) t in
        let same : i ≡ length xs + (i - length xs) = omega arith in
        inr (record { place = i - length xs; is = same; there = sym (get_right xs ys i (i - length xs) same) ∙ e })

pub range_at : (a n i : ℕ) → i < n → slice_get (range_with_len a n) i ≡ Some (a + i)
range_at a n i h =
    let e = length-range_with_len a n in
    slice_get-get_or (range_with_len a n) i 0 (omega (arith, e)) ∙ ap Some (get_or-range_with_len a n i 0 h)

pub mapped_at : {X : Type 0} (g : ℕ → X) (a n i : ℕ) → i < n → slice_get (map g (range_with_len a n)) i ≡ Some (g (a + i))
mapped_at g a n i h = slice_get-map g (range_with_len a n) i ∙ ap (option_map g) (range_at a n i h)

pub mapped_found : {X : Type 0} (g : ℕ → X) (a n i : ℕ) (x : X) → slice_get (map g (range_with_len a n)) i ≡ Some x → (i < n) × (g (a + i) ≡ x)
mapped_found g a n i x e =
    let inside = slice_get_within (map g (range_with_len a n)) i x e in
    let l = length-map (range_with_len a n) g in
    let m = length-range_with_len a n in
    let below : i < n = omega (arith, inside, l, m) in
    (below, same_Some (g (a + i)) x (sym (mapped_at g a n i below) ∙ e))

pub mapped_any : {X Y : Type 0} (g : X → Y) (xs : List X) (i : ℕ) (y : Y) → slice_get (map g xs) i ≡ Some y → (x : X) × (slice_get xs i ≡ Some x) × (g x ≡ y)
mapped_any g [] i y e = cc
mapped_any g (x ∷ xs) zero y e = (x, refl, same_Some (g x) y e)
mapped_any g (x ∷ xs) (suc i) y e = mapped_any g xs i y e

-- how many elements the lists of the numbers before have
abbrev pub flat_start : {X : Type 0} → (ℕ → List X) → ℕ → ℕ
flat_start f t = sum_by (λ s. length (f s)) (numbers t)

module _ {X : Type 0} (f : ℕ → List X) where
  flat_more : (n : ℕ) → flat_map f (numbers (suc n)) ≡ flat_map f (numbers n) ++ f n
  flat_more n = let e : suc n ≡ n + 1 = omega arith in ap (λ k. flat_map f (numbers k)) e ∙ flat_map_numbers_more f n

  start_more : (n : ℕ) → flat_start f (suc n) ≡ flat_start f n + length (f n)
  start_more n = let e : suc n ≡ n + 1 = omega arith in ap (λ k. flat_start f k) e ∙ sum_numbers_more (λ s. length (f s)) n

  pub flat_length : (n : ℕ) → length (flat_map f (numbers n)) ≡ flat_start f n
  flat_length n = length-flat_map f (numbers n)

  pub start_within : (n t : ℕ) → t < n → flat_start f t + length (f t) ≤ flat_start f n
  start_within zero t h = absurd (omega arith)
  start_within (suc n) t h = by (λ l. start_within n t l) (nat_lt t n) refl
    where
      by : (t < n → flat_start f t + length (f t) ≤ flat_start f n) → (b : Bool) → nat_lt t n ≡ b → flat_start f t + length (f t) ≤ flat_start f (suc n)
      by rest true e =
          let before = rest (ltb-true t n e) in
          let more = start_more n in
          omega (arith, before, more)
      by rest false e =
          let l = ltb-false t n e in
          let same : n ≡ t = omega arith in
          let more = start_more n in
          let P : ℕ → Type 0 = λ k. flat_start f k + length (f k) ≤ flat_start f (suc n) in
          subst P same (omega (arith, more))

  pub starts_rise : (n t : ℕ) → t ≤ n → flat_start f t ≤ flat_start f n
  starts_rise n t h = by (nat_lt t n) refl
    where
      by : (b : Bool) → nat_lt t n ≡ b → flat_start f t ≤ flat_start f n
      by true e = let w = start_within n t (ltb-true t n e) in omega (arith, w)
      by false e =
          let l = ltb-false t n e in
          let same : t ≡ n = omega arith in
          let starts = ap (λ m. flat_start f m) same in
          omega (arith, starts)

  pub flat_at : (n t i j : ℕ) → t < n → i < length (f t) → j ≡ flat_start f t + i → slice_get (flat_map f (numbers n)) j ≡ slice_get (f t) i
  flat_at zero t i j h k e = absurd (omega arith)
  flat_at (suc n) t i j h k e = ap (λ l. slice_get l j) (flat_more n) ∙ by (λ l. flat_at n t i j l k e) (nat_lt t n) refl
    where
      by : (t < n → slice_get (flat_map f (numbers n)) j ≡ slice_get (f t) i) → (b : Bool) → nat_lt t n ≡ b
          → slice_get (flat_map f (numbers n) ++ f n) j ≡ slice_get (f t) i
      by rest true q =
          let l = ltb-true t n q in
          let within = start_within n t l in
          let long = flat_length n in
          get_left (flat_map f (numbers n)) (f n) j (omega (arith, within, long, k, e)) ∙ rest l
      by rest false q =
          let l = ltb-false t n q in
          let same : n ≡ t = omega arith in
          let long = flat_length n in
          let starts = ap (λ m. flat_start f m) same in
          get_right (flat_map f (numbers n)) (f n) j i (omega (arith, long, e, starts)) ∙ ap (λ m. slice_get (f m) i) same

  pub record IsSpot (n j : ℕ) (x : X) : Type 0 where
    pub part : ℕ
    pub place : ℕ
    pub inside : part < n
    pub there : slice_get (f part) place ≡ Some x
    pub is : j ≡ flat_start f part + place

  pub flat_found : (n j : ℕ) (x : X) → slice_get (flat_map f (numbers n)) j ≡ Some x → IsSpot n j x
  flat_found zero j x e = cc
  flat_found (suc n) j x e =
      by (λ q. flat_found n j x q) (found_in (flat_map f (numbers n)) (f n) j x (ap (λ l. slice_get l j) (sym (flat_more n)) ∙ e))
    where
      by : (slice_get (flat_map f (numbers n)) j ≡ Some x → IsSpot n j x)
          → ((j < length (flat_map f (numbers n))) × (slice_get (flat_map f (numbers n)) j ≡ Some x)) ⊎ IsBehind (flat_map f (numbers n)) (f n) j x → IsSpot (suc n) j x
      by rest (inl h) =
          let s = rest h.1 in
          record { part = s.part; place = s.place; inside = let l = s.inside in omega (arith, l); there = s.there; is = s.is }
      by rest (inr h) =
          let long = flat_length n in
          let is = h.is in
          record { part = n; place = h.place; inside = omega arith; there = h.there; is = omega (arith, long, is) }
