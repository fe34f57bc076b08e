-- Rows that a pivot clears.
use Rattle.std.proofs.Common.{◌≡◌, ℕ, zero, suc, ◌<◌, ◌≤◌, arith, refl, sym, ap, subst, ◌∙◌, List, [], ◌∷◌, length, map, ℤ, pos, neg_ℤ, ◌-ℤ◌, ◌*ℤ◌, ◌<ℤ◌, unsigned_abs, int_div, ⊎_elim, ◌⊎◌}
use Rattle.std.specs.Int.{◌∣◌}
use Rattle.std.proofs.lemmas.Int.{ints}
use Rattle.std.proofs.lemmas.List.{length-map, get_or_past}
use Rattle.std.proofs.lemmas.Nat.Gcd.{dvd_refl}
use Rattle.std.proofs.Math.Nat.{pos_of_dvd_of_pos}
use Rattle.ratio.specs.Cells.{IsContent, IsEliminated, KeepsSolutions, cell_at, combined, divided, dot}
use Rattle.ratio.proofs.Ring.{mul_assoc_ℤ, mul_comm_ℤ}
use Rattle.ratio.proofs.Rows.{get_or-combined, length-combined}
use Rattle.ratio.proofs.Signed.{div_positive, exact_div, mul_positive, size_of_positive}
use Rattle.exact_lp.specs.Tables.{IsCleared, IsTurned}
use Rattle.exact_lp.proofs.Values.{cell-negated, dot-negated}

length-divided : (g : ℕ) (xs : List ℤ) → length (divided g xs) ≡ length xs
length-divided zero xs = refl
length-divided (suc g) xs = length-map xs (λ (x : ℤ). int_div x (pos (suc g)))

none_of : (g : ℕ) → int_div (pos 0) (pos g) ≡ pos 0
none_of g = ap pos (omega arith)

cell-divided_by : (g : ℕ) (xs : List ℤ) (k : ℕ) → cell_at (map (λ x. int_div x (pos g)) xs) k ≡ int_div (cell_at xs k) (pos g)
cell-divided_by g [] k = sym (none_of g)
cell-divided_by g (x ∷ xs) zero = refl
cell-divided_by g (x ∷ xs) (suc k) = cell-divided_by g xs k

divided_zero : (g : ℕ) (xs : List ℤ) (k : ℕ) → cell_at xs k ≡ pos 0 → cell_at (divided g xs) k ≡ pos 0
divided_zero zero xs k h = h
divided_zero (suc g) xs k h = cell-divided_by (suc g) xs k ∙ ap (λ (z : ℤ). int_div z (pos (suc g))) h ∙ none_of (suc g)

-- a positive cell stands in the row
inside_row : (xs : List ℤ) (k : ℕ) → pos 0 <ℤ cell_at xs k → k < length xs
inside_row [] k h = absurd (omega (arith, ints))
inside_row (x ∷ xs) zero h = omega arith
inside_row (x ∷ xs) (suc k) h = let i = inside_row xs k h in omega arith

divided_sign : (g : ℕ) (xs : List ℤ) (k : ℕ) → IsContent g xs → pos 0 <ℤ cell_at xs k → pos 0 <ℤ cell_at (divided g xs) k
divided_sign zero xs k content h = h
divided_sign (suc g) xs k content h =
    let divides : suc g ∣ unsigned_abs (cell_at xs k) = (content (suc g)).0 (dvd_refl (suc g)) k (pos 0) (inside_row xs k h) in
    subst (λ (z : ℤ). pos 0 <ℤ z) (sym (cell-divided_by (suc g) xs k)) (div_positive (cell_at xs k) (suc g) h (omega arith) divides)

pub unchanged : (pivot old : List ℤ) (place : ℕ) → cell_at old place ≡ pos 0 → IsCleared pivot place old old
unchanged pivot old place none = record {
  size = refl;
  gone = none;
  kept = λ xs h. (λ k. k, λ k. k);
  zero_stays = λ k h z. z;
  sign_stays = λ k h z. z;
}

-- p / g and s / g take out the cells p and s
crossed : (f t g p s : ℤ) → f *ℤ g ≡ p → t *ℤ g ≡ s → f *ℤ s -ℤ t *ℤ p ≡ pos 0
crossed f t g p s e h =
    (λ i. f *ℤ sym h i -ℤ t *ℤ sym e i)
    ∙ (λ i. (sym (mul_assoc_ℤ f t g) ∙ ap (λ (z : ℤ). z *ℤ g) (mul_comm_ℤ f t) ∙ mul_assoc_ℤ t f g) i -ℤ t *ℤ (f *ℤ g))
    ∙ none (t *ℤ (f *ℤ g))
  where
    none : (z : ℤ) → z -ℤ z ≡ pos 0
    none z = omega (arith, ints)

without : (f t x y : ℤ) → x ≡ pos 0 → y ≡ pos 0 → f *ℤ x -ℤ t *ℤ y ≡ pos 0
without f t x y e h = (λ i. f *ℤ e i -ℤ t *ℤ h i) ∙ none f t
  where
    none : (f t : ℤ) → f *ℤ pos 0 -ℤ t *ℤ pos 0 ≡ pos 0
    none f t = omega (arith, ints)

alone : (f t x y : ℤ) → y ≡ pos 0 → f *ℤ x -ℤ t *ℤ y ≡ f *ℤ x
alone f t x y h = ap (λ (z : ℤ). f *ℤ x -ℤ t *ℤ z) h ∙ none (f *ℤ x) t
  where
    none : (a t : ℤ) → a -ℤ t *ℤ pos 0 ≡ a
    none a t = omega (arith, ints)

pub eliminated : (pivot old new : List ℤ) (place : ℕ) → length old ≡ length pivot → pos 0 <ℤ cell_at pivot place
    → IsEliminated (cell_at pivot place) (cell_at old place) pivot old new → KeepsSolutions pivot old new → IsCleared pivot place old new
eliminated pivot old new place long above e keeps =
    let p = cell_at pivot place in
    let s = cell_at old place in
    let f = int_div p (pos e.divisor) in
    let t = int_div s (pos e.divisor) in
    let mid = combined f t old pivot in
    let mid_long : length mid ≡ length old = length-combined f t old pivot long in
    let at_mid : (k : ℕ) → k < length old → cell_at mid k ≡ f *ℤ cell_at old k -ℤ t *ℤ cell_at pivot k =
    λ k h. get_or-combined f t old pivot k (pos 0) (pos 0) (pos 0) h (omega arith) in
    let inside = inside_row pivot place above in
    let gone_there : cell_at mid place ≡ pos 0 = at_mid place (omega arith) ∙ crossed f t (pos e.divisor) p s (exact_div p e.divisor e.divisor_is.0) (exact_div s e.divisor e.divisor_is.1) in
    let zeros : (k : ℕ) → cell_at pivot k ≡ pos 0 → cell_at old k ≡ pos 0 → cell_at mid k ≡ pos 0 =
    λ k h z. by_size k (length old) (λ i. at_mid k i ∙ without f t (cell_at old k) (cell_at pivot k) z h) (λ i. get_or_past mid k (pos 0) (omega arith)) in
    let some : 0 < e.divisor = pos_of_dvd_of_pos e.divisor_is.0 (size_of_positive p above).1 in
    let f_above : pos 0 <ℤ f = div_positive p e.divisor above some e.divisor_is.0 in
    let signs : (k : ℕ) → cell_at pivot k ≡ pos 0 → pos 0 <ℤ cell_at old k → pos 0 <ℤ cell_at mid k =
    λ k h z. subst (λ (y : ℤ). pos 0 <ℤ y) (sym (at_mid k (inside_row old k z) ∙ alone f t (cell_at old k) (cell_at pivot k) h)) (mul_positive f (cell_at old k) f_above z) in
    let Cell : ℕ → List ℤ → Type 0 = λ k xs. cell_at xs k ≡ pos 0 in
    record {
      size = ap length e.cells ∙ length-divided e.content mid ∙ mid_long;
      gone = subst (Cell place) (sym e.cells) (divided_zero e.content mid place gone_there);
      kept = keeps;
      zero_stays = λ k h z. subst (Cell k) (sym e.cells) (divided_zero e.content mid k (zeros k h z));
      sign_stays = λ k h z. subst (λ (xs : List ℤ). pos 0 <ℤ cell_at xs k) (sym e.cells) (divided_sign e.content mid k e.content_is (signs k h z));
    }
  where
    by_size : {A : Type 0} (k n : ℕ) → (k < n → A) → (n ≤ k → A) → A
    by_size k n yes_below not_below = ⊎_elim yes_below not_below (below_or_not k n)
      where
        below_or_not : (k n : ℕ) → (k < n) ⊎ (n ≤ k)
        below_or_not k n = grind arith

-- ---- a row with its signs turned, or as it was
pub turned_size : (old new : List ℤ) → IsTurned old new → length new ≡ length old
turned_size old new turned = ⊎_elim (λ (e : new ≡ old). ap length e) (λ (e : new ≡ map neg_ℤ old). ap length e ∙ length-map old neg_ℤ) turned

pub turned_zero : (old new : List ℤ) (k : ℕ) → IsTurned old new → cell_at old k ≡ pos 0 → cell_at new k ≡ pos 0
turned_zero old new k turned none =
    ⊎_elim (λ (e : new ≡ old). ap (λ (xs : List ℤ). cell_at xs k) e ∙ none)
    (λ (e : new ≡ map neg_ℤ old). ap (λ (xs : List ℤ). cell_at xs k) e ∙ cell-negated old k ∙ ap neg_ℤ none) turned

pub turned_solution : (old new values : List ℤ) → IsTurned old new → dot new values ≡ pos 0 → dot old values ≡ pos 0
turned_solution old new values turned none =
    ⊎_elim (λ (e : new ≡ old). sym (ap (λ (xs : List ℤ). dot xs values) e) ∙ none)
    (λ (e : new ≡ map neg_ℤ old). back (dot old values) (sym (dot-negated old values) ∙ sym (ap (λ (xs : List ℤ). dot xs values) e) ∙ none)) turned
  where
    back : (z : ℤ) → neg_ℤ z ≡ pos 0 → z ≡ pos 0
    back z e = omega (arith, ints)
