-- Combined rows and contents.
use Rattle.std.proofs.Common.{◌≡◌, ℕ, ◌+◌, ◌<◌, ◌≤◌, List, [], ◌∷◌, length, arith, sym, ◌∙◌, ap, refl, zero, suc, map, ℤ, pos, ◌*ℤ◌, ◌-ℤ◌, ◌<ℤ◌, ◌↔◌, int_div, take, subst, length-take}
use Rattle.std.proofs.Math.ListN.{get_or}
use Rattle.std.specs.Prelude.{All, unsigned_abs}
use Rattle.std.specs.Int.{IsGcd, ◌∣◌, w128}
use Rattle.std.proofs.lemmas.Nat.Gcd.{dvd-zero, dvd_refl, dvd_trans, dvd_antisymm, IsGcd-swap, IsGcd-from_zero, same_from_IsGcd}
use Rattle.std.proofs.lemmas.List.{take-take, get_or-take}
use Rattle.std.proofs.lemmas.List.Elements.{All-more, All-take, All-nil, All-head, All-tail, All-cons}
use Rattle.std.proofs.lemmas.Int.{ints, unsigned_abs-mul}
use Rattle.std.proofs.Math.IntN.{zero-*ℤ, *ℤ-zero}
use Rattle.std.proofs.Math.Nat.{div-one, div_self, one-dvd, mul-le-mul_left}
use Rattle.std.proofs.Common.{negsuc, neg_ℤ, ◌*◌, ◌^◌, FitsSigned}
use Rattle.ratio.specs.Cells.{dot, combined, divided, CellFits, CombinationFits, EliminationFits, IsContent, IsEliminated, KeepsSolutions}
use Rattle.ratio.proofs.Ring.{mul_comm_ℤ, mul_assoc_ℤ, mul_right_comm_ℤ, mul-add_ℤ, add-mul_ℤ, sub-mul_ℤ, cancel_ℤ}
use Rattle.ratio.proofs.Signed.{exact_div, size_of_positive, div_positive}
use Rattle.ratio.proofs.Coprime.{has_gcd}

pub length-combined : (p s : ℤ) (xs ys : List ℤ) → length xs ≡ length ys → length (combined p s xs ys) ≡ length xs
length-combined p s [] ys h = refl
length-combined p s (x ∷ xs) [] h = absurd (omega arith)
length-combined p s (x ∷ xs) (y ∷ ys) h = ap suc (length-combined p s xs ys (omega arith))

pub get_or-combined : (p s : ℤ) (xs ys : List ℤ) (i : ℕ) (d a b : ℤ) → i < length xs → i < length ys → get_or (combined p s xs ys) i d ≡ p *ℤ get_or xs i a -ℤ s *ℤ get_or ys i b
get_or-combined p s [] ys i d a b h k = absurd (omega arith)
get_or-combined p s (x ∷ xs) [] i d a b h k = absurd (omega arith)
get_or-combined p s (x ∷ xs) (y ∷ ys) zero d a b h k = refl
get_or-combined p s (x ∷ xs) (y ∷ ys) (suc i) d a b h k = get_or-combined p s xs ys i d a b (omega arith) (omega arith)

-- what divides the greatest common divisor of g and the size of x divides both, and the other way round
pub IsContent-more : (g h i : ℕ) (xs : List ℤ) (d : ℤ) → i < length xs → IsContent g (take i xs) → IsGcd g (unsigned_abs (get_or xs i d)) h → IsContent h (take (i + 1) xs)
IsContent-more g h i xs e inside content gcd d =
    let Divided : ℤ → Type 0 = λ x. d ∣ unsigned_abs x in (
      λ p. All-more Divided xs i e inside ((content d).0 (dvd_trans d p gcd.0)) (dvd_trans d p gcd.1),
      λ all. gcd.2 d ((content d).1 (front Divided all)) (at Divided all),
    )
  where
    front : (P : ℤ → Type 0) → All P (take (i + 1) xs) → All P (take i xs)
    front P all = subst (All P) (take-take i (i + 1) xs (omega arith)) (All-take P i (take (i + 1) xs) all)

    at : (P : ℤ → Type 0) → All P (take (i + 1) xs) → P (get_or xs i e)
    at P all = subst P (get_or-take (i + 1) xs i e (omega arith)) (all i e (omega (arith, length-take (i + 1) xs)))

pub IsContent-start : IsContent 0 []
IsContent-start d = (λ p. All-nil (λ x. d ∣ unsigned_abs x), λ all. dvd-zero d)

-- where the content of the first cells is 1, it is that of all
pub IsContent-one : (n : ℕ) (xs : List ℤ) → IsContent 1 (take n xs) → IsContent 1 xs
IsContent-one n xs first d =
    let Divided : ℤ → Type 0 = λ x. d ∣ unsigned_abs x in (
      λ p k e kl. dvd_trans d p (one-dvd _),
      λ all. (first d).1 (All-take Divided n xs all),
    )

-- a content is the only one
pub IsContent-unique : (g h : ℕ) (xs : List ℤ) → IsContent g xs → IsContent h xs → g ≡ h
IsContent-unique g h xs p q = dvd_antisymm ((q g).1 ((p g).0 (dvd_refl g))) ((p h).1 ((q h).0 (dvd_refl h)))

-- ---- the solutions of rows
pub dot-combined : (p s : ℤ) (xs ys vs : List ℤ) → length xs ≡ length ys → dot (combined p s xs ys) vs ≡ p *ℤ dot xs vs -ℤ s *ℤ dot ys vs
dot-combined p s [] [] vs h = omega (arith, ints)
dot-combined p s [] (y ∷ ys) vs h = absurd (omega arith)
dot-combined p s (x ∷ xs) [] vs h = absurd (omega arith)
dot-combined p s (x ∷ xs) (y ∷ ys) [] h = omega (arith, ints)
dot-combined p s (x ∷ xs) (y ∷ ys) (v ∷ vs) h =
    let e = dot-combined p s xs ys vs (omega arith) in
    let a = sub-mul_ℤ (p *ℤ x) (s *ℤ y) v in
    let b = mul_assoc_ℤ p x v in
    let c = mul_assoc_ℤ s y v in
    let f = mul-add_ℤ p (x *ℤ v) (dot xs vs) in
    let g = mul-add_ℤ s (y *ℤ v) (dot ys vs) in
    omega (arith, ints)

pub dot-divided : (g : ℕ) (xs vs : List ℤ) → All (λ x. g ∣ unsigned_abs x) xs → dot (map (λ x. int_div x (pos g)) xs) vs *ℤ pos g ≡ dot xs vs
dot-divided g [] vs all = omega (arith, ints)
dot-divided g (x ∷ xs) [] all = omega (arith, ints)
dot-divided g (x ∷ xs) (v ∷ vs) all =
    let Divided : ℤ → Type 0 = λ x. g ∣ unsigned_abs x in
    let e = dot-divided g xs vs (All-tail Divided x xs all) in
    let q = int_div x (pos g) in
    let a = add-mul_ℤ (q *ℤ v) (dot (map (λ x. int_div x (pos g)) xs) vs) (pos g) in
    let b = mul_right_comm_ℤ q v (pos g) in
    let c = ap (λ (z : ℤ). z *ℤ v) (exact_div x g (All-head Divided x xs all)) in
    omega (arith, ints)

-- one of a number and its positive multiple is 0 where the other is
zero_scaled : (a k b : ℤ) → pos 0 <ℤ k → a *ℤ k ≡ b → (a ≡ pos 0) ↔ (b ≡ pos 0)
zero_scaled a k b some e =
    (λ h. sym e ∙ ap (λ (z : ℤ). z *ℤ k) h ∙ zero-*ℤ k, λ h. cancel_ℤ a (pos 0) k some (e ∙ h ∙ sym (zero-*ℤ k)))

divided_zero : (g : ℕ) (xs vs : List ℤ) → IsContent g xs → (dot xs vs ≡ pos 0) ↔ (dot (divided g xs) vs ≡ pos 0)
divided_zero zero xs vs content = (λ h. h, λ h. h)
divided_zero (suc g) xs vs content =
    let e = zero_scaled (dot (divided (suc g) xs) vs) (pos (suc g)) (dot xs vs) (omega (arith, ints)) (dot-divided (suc g) xs vs ((content (suc g)).0 (dvd_refl (suc g)))) in (e.1, e.0)

pub keeps_solutions : (p s : ℤ) (g : ℕ) (other old : List ℤ) → pos 0 <ℤ p → length old ≡ length other → IsContent g (combined p s old other) → KeepsSolutions other old (divided g (combined p s old other))
keeps_solutions p s g other old above long content xs holds =
    let e = dot-combined p s old other xs long in
    let f : dot old xs *ℤ p ≡ dot (combined p s old other) xs = mul_comm_ℤ (dot old xs) p ∙ sym (e ∙ ap (λ (z : ℤ). p *ℤ dot old xs -ℤ s *ℤ z) holds ∙ less_none (p *ℤ dot old xs) s) in
    let a = zero_scaled (dot old xs) p (dot (combined p s old other) xs) above f in
    let b = divided_zero g (combined p s old other) xs content in
    (λ h. b.0 (a.0 h), λ h. a.1 (b.1 h))
  where
    less_none : (a s : ℤ) → a -ℤ s *ℤ pos 0 ≡ a
    less_none a s = let z = *ℤ-zero s in omega (arith, ints)

pub divided_above : (g : ℕ) (xs : List ℤ) → 0 < g → divided g xs ≡ map (λ x. int_div x (pos g)) xs
divided_above zero xs h = absurd (omega arith)
divided_above (suc g) xs h = refl

div_one : (x : ℤ) → int_div x (pos 1) ≡ x
div_one (pos n) = ap pos (div-one n)
div_one (negsuc n) = ap (λ (m : ℕ). neg_ℤ (pos m)) (div-one (suc n))

pub divided_one : (xs : List ℤ) → divided 1 xs ≡ xs
divided_one [] = refl
divided_one (x ∷ xs) = (λ i. div_one x i ∷ divided_one xs i)

pub divided_small : (g : ℕ) (xs : List ℤ) → g ≤ 1 → divided g xs ≡ xs
divided_small zero xs h = refl
divided_small (suc zero) xs h = divided_one xs
divided_small (suc (suc g)) xs h = absurd (omega arith)

-- ---- elimination
-- the factors that the code takes are those of every greatest common divisor
pub record Factors (p s f t : ℤ) : Type 0 where
  pub f_is : (k : ℕ) → IsGcd (unsigned_abs p) (unsigned_abs s) k → f ≡ int_div p (pos k)
  pub t_is : (k : ℕ) → IsGcd (unsigned_abs p) (unsigned_abs s) k → t ≡ int_div s (pos k)
  pub above : pos 0 <ℤ f
  pub divisor : ℕ
  pub divisor_is : IsGcd (unsigned_abs p) (unsigned_abs s) divisor

pub factors : (p s g f t : ℤ) → pos 0 <ℤ p → pos 0 <ℤ g → IsGcd (unsigned_abs s) (unsigned_abs p) (unsigned_abs g) → f ≡ int_div p g → t ≡ int_div s g → Factors p s f t
factors p s g f t pp gp is e h =
    let size = size_of_positive g gp in
    let is' = IsGcd-swap (unsigned_abs s) (unsigned_abs p) (unsigned_abs g) is in
    let divisor : (k : ℕ) → IsGcd (unsigned_abs p) (unsigned_abs s) k → g ≡ pos k = λ k i. size.0 ∙ ap pos (same_from_IsGcd (unsigned_abs p) (unsigned_abs s) (unsigned_abs g) k is' i) in
    record {
      f_is = λ k i. e ∙ ap (λ (z : ℤ). int_div p z) (divisor k i);
      t_is = λ k i. h ∙ ap (λ (z : ℤ). int_div s z) (divisor k i);
      above = rw (e, size.0) (div_positive p (unsigned_abs g) pp size.1 is.1);
      divisor = unsigned_abs g;
      divisor_is = is';
    }

-- each list has a content
pub has_content : (xs : List ℤ) → (g : ℕ) × IsContent g xs
has_content [] = (0, IsContent-start)
has_content (x ∷ xs) =
    let r = has_content xs in
    let h = has_gcd r.0 (unsigned_abs x) in (
      h.0,
      λ d. (
        λ p. All-cons (λ y. d ∣ unsigned_abs y) x xs (dvd_trans d p h.1.1) ((r.1 d).0 (dvd_trans d p h.1.0)),
        λ all. h.1.2 d ((r.1 d).1 (All-tail (λ y. d ∣ unsigned_abs y) x xs all)) (All-head (λ y. d ∣ unsigned_abs y) x xs all),
      ),
    )

-- ---- a cell of 0 in the column: the factors are 1 and 0
pub plain_factors : (p : ℤ) → pos 0 <ℤ p → Factors p (pos 0) (pos 1) (pos 0)
plain_factors p above =
    let size = size_of_positive p above in
    let is : IsGcd (unsigned_abs p) 0 (unsigned_abs p) = IsGcd-from_zero (unsigned_abs p) 0 refl in
    record {
      f_is = λ k h. sym (one_of p k above (same_from_IsGcd (unsigned_abs p) 0 (unsigned_abs p) k is h));
      t_is = λ k h. none_of k;
      above = omega (arith, ints);
      divisor = unsigned_abs p;
      divisor_is = is;
    }
  where
    one_of : (p : ℤ) (k : ℕ) → pos 0 <ℤ p → unsigned_abs p ≡ k → int_div p (pos k) ≡ pos 1
    one_of (pos n) k h e = ap (λ (m : ℕ). int_div (pos n) (pos m)) (sym e) ∙ ap pos (div_self (omega (arith, ints)))
    one_of (negsuc n) k h e = absurd (omega (arith, ints))

    none_of : (k : ℕ) → pos 0 ≡ int_div (pos 0) (pos k)
    none_of k = ap pos (omega arith)

pub combined_plain : (xs ys : List ℤ) → length xs ≡ length ys → combined (pos 1) (pos 0) xs ys ≡ xs
combined_plain [] ys h = refl
combined_plain (x ∷ xs) [] h = absurd (omega arith)
combined_plain (x ∷ xs) (y ∷ ys) h =
    let e : pos 1 *ℤ x -ℤ pos 0 *ℤ y ≡ x = omega (arith, ints) in
    (λ i. e i ∷ combined_plain xs ys (omega arith) i)

pub plain_fits : (x y : ℤ) → FitsSigned w128 x → CellFits (pos 1) (pos 0) x y
plain_fits x y f =
    let e : pos 1 *ℤ x ≡ x = omega (arith, ints) in
    let n : pos 0 *ℤ y ≡ pos 0 = omega (arith, ints) in
    let d : pos 1 *ℤ x -ℤ pos 0 *ℤ y ≡ x = omega (arith, ints) in
    record { own = rw e f; other = rw n (zero_fits); rest = rw d f }
  where
    zero_fits : FitsSigned w128 (pos 0)
    zero_fits = omega (arith, ints)

pub along : {f f' t t' : ℤ} (xs ys : List ℤ) → f ≡ f' → t ≡ t' → CombinationFits f' t' xs ys → CombinationFits f t xs ys
along xs ys e h fits = rw (e, h) fits

pub plain_elimination_fits : (p s : ℤ) (xs ys : List ℤ) → pos 0 <ℤ p → s ≡ pos 0 → ((k : ℕ) → k < length xs → FitsSigned w128 (get_or xs k (pos 0))) → EliminationFits p s xs ys
plain_elimination_fits p s xs ys above e fits =
    let P : ℤ → Type 0 = λ z. EliminationFits p z xs ys in
    let k = plain_factors p above in
    subst P (sym e) (λ g h. along xs ys (sym (k.f_is g h)) (sym (k.t_is g h)) (λ n nl. plain_fits (get_or xs n (pos 0)) (get_or ys n (pos 0)) (fits n nl)))

pub plain_eliminated : (p s : ℤ) (xs ys new : List ℤ) → pos 0 <ℤ p → s ≡ pos 0 → length xs ≡ length ys → ((g : ℕ) → IsContent g xs → new ≡ divided g xs) → IsEliminated p s ys xs new
plain_eliminated p s xs ys new above e long left =
    let P : ℤ → Type 0 = λ z. IsEliminated p z ys xs new in
    let k = plain_factors p above in
    let h = has_content xs in
    let f = k.f_is k.divisor k.divisor_is in
    let t = k.t_is k.divisor k.divisor_is in
    let same : combined (int_div p (pos k.divisor)) (int_div (pos 0) (pos k.divisor)) xs ys ≡ xs = (λ i. combined (sym f i) (sym t i) xs ys) ∙ combined_plain xs ys long in
    subst P (sym e) record {
      divisor = k.divisor;
      content = h.0;
      divisor_is = k.divisor_is;
      content_is = subst (IsContent h.0) (sym same) h.1;
      cells = left h.0 h.1 ∙ ap (divided h.0) (sym same);
    }

pub plain_solutions : (xs ys new : List ℤ) → length xs ≡ length ys → ((g : ℕ) → IsContent g xs → new ≡ divided g xs) → KeepsSolutions ys xs new
plain_solutions xs ys new long left =
    let h = has_content xs in
    let same = combined_plain xs ys long in
    let P : List ℤ → Type 0 = λ l. KeepsSolutions ys xs l in
    subst P (ap (divided h.0) same ∙ sym (left h.0 h.1)) (keeps_solutions (pos 1) (pos 0) h.0 ys xs (omega (arith, ints)) long (subst (IsContent h.0) (sym same) h.1))

-- ---- small products
-- a product is at most the factor's size times the greatest size
pub product_most : (f x : ℤ) (m n : ℕ) → unsigned_abs x ≤ m → n ≡ unsigned_abs f * m → unsigned_abs (f *ℤ x) ≤ n
product_most f x m n h e =
    let a = unsigned_abs-mul f x in
    let b = mul-le-mul_left (unsigned_abs f) h in
    omega arith

pub small_fits : (p s x y : ℤ) → unsigned_abs (p *ℤ x) < 2 ^ 126 → unsigned_abs (s *ℤ y) < 2 ^ 126 → CellFits p s x y
small_fits p s x y h k = record { own = alone (p *ℤ x) h; other = alone (s *ℤ y) k; rest = apart (p *ℤ x) (s *ℤ y) h k }
  where
    alone : (a : ℤ) → unsigned_abs a < 2 ^ 126 → FitsSigned w128 a
    alone (pos n) h = omega (arith, ints)
    alone (negsuc n) h = omega (arith, ints)

    apart : (a b : ℤ) → unsigned_abs a < 2 ^ 126 → unsigned_abs b < 2 ^ 126 → FitsSigned w128 (a -ℤ b)
    apart (pos m) (pos n) h k = omega (arith, ints)
    apart (pos m) (negsuc n) h k = omega (arith, ints)
    apart (negsuc m) (pos n) h k = omega (arith, ints)
    apart (negsuc m) (negsuc n) h k = omega (arith, ints)
