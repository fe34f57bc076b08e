-- The places with weight.
use Rattle.std.proofs.Common.{◌≡◌, ℕ, zero, suc, ◌+◌, ◌<◌, List, [], ◌∷◌, length, map, refl, sym, ap, ◌∙◌, subst, arith, slice_index, sum, cond, eqb, ⊎_elim, ◌⊎◌, inl, inr}
use Rattle.std.proofs.lemmas.Bool.{cases_Bool, eq-eqb, eqb-true}
use Rattle.std.proofs.lemmas.List.Sums.{sum_by-cons}
use Rattle.transport.specs.Kept.{kept_from}

-- P has the places of the weights above 0, ascending
pub record IsKept (n : ℕ) (ws P : List ℕ) : Type 0 where
  pub inside : (k : ℕ) → k < length P → (q : ℕ) × (slice_index P k ≡ n + q) × (q < length ws) × (0 < slice_index ws q)
  pub rising : (k l : ℕ) → k < l → l < length P → slice_index P k < slice_index P l
  pub all : (q : ℕ) → q < length ws → 0 < slice_index ws q → (k : ℕ) × (k < length P) × (slice_index P k ≡ n + q)

kept_zero : (n : ℕ) (ws P : List ℕ) → IsKept (suc n) ws P → IsKept n (zero ∷ ws) P
kept_zero n ws P r = record {
  inside = λ k kl. let i = r.inside k kl in (suc i.0, let e = i.1 in omega arith, let e = i.2 in omega arith, i.3);
  rising = r.rising;
  all = all_here;
}
  where
    all_here : (q : ℕ) → q < length (zero ∷ ws) → 0 < slice_index (zero ∷ ws) q → (k : ℕ) × (k < length P) × (slice_index P k ≡ n + q)
    all_here zero ql h = absurd (omega arith)
    all_here (suc q) ql h = let i = r.all q (omega arith) h in (i.0, i.1, let e = i.2 in omega arith)

kept_more : (n w : ℕ) (ws P : List ℕ) → IsKept (suc n) ws P → IsKept n (suc w ∷ ws) (n ∷ P)
kept_more n w ws P r = record {
  inside = inside_here;
  rising = rising_here;
  all = all_here;
}
  where
    inside_here : (k : ℕ) → k < length (n ∷ P) → (q : ℕ) × (slice_index (n ∷ P) k ≡ n + q) × (q < length (suc w ∷ ws)) × (0 < slice_index (suc w ∷ ws) q)
    inside_here zero kl = (0, omega arith, omega arith, omega arith)
    inside_here (suc k) kl = let i = r.inside k (omega arith) in (suc i.0, let e = i.1 in omega arith, let e = i.2 in omega arith, i.3)

    rising_here : (k l : ℕ) → k < l → l < length (n ∷ P) → slice_index (n ∷ P) k < slice_index (n ∷ P) l
    rising_here k zero kl ll = absurd (omega arith)
    rising_here zero (suc l) kl ll = let i = r.inside l (omega arith) in let e = i.1 in omega arith
    rising_here (suc k) (suc l) kl ll = r.rising k l (omega arith) (omega arith)

    all_here : (q : ℕ) → q < length (suc w ∷ ws) → 0 < slice_index (suc w ∷ ws) q → (k : ℕ) × (k < length (n ∷ P)) × (slice_index (n ∷ P) k ≡ n + q)
    all_here zero ql h = (0, omega arith, omega arith)
    all_here (suc q) ql h = let i = r.all q (omega arith) h in (suc i.0, let e = i.1 in omega arith, let e = i.2 in omega arith)

pub is_kept : (n : ℕ) (ws : List ℕ) → IsKept n ws (kept_from n ws)
is_kept n [] = record {
  inside = λ k kl. absurd (omega arith);
  rising = λ k l a b. absurd (omega arith);
  all = λ q ql h. absurd (omega arith);
}
is_kept n (zero ∷ ws) = kept_zero n ws (kept_from (suc n) ws) (is_kept (suc n) ws)
is_kept n (suc w ∷ ws) = kept_more n w ws (kept_from (suc n) ws) (is_kept (suc n) ws)

-- each place kept is one of the list
pub kept_inside : (ws P : List ℕ) → P ≡ kept_from 0 ws → (k : ℕ) → k < length P → slice_index P k < length ws
kept_inside ws P e =
    let Inside : List ℕ → Type 0 = λ l. (k : ℕ) → k < length l → slice_index l k < length ws in
    subst Inside (sym e) (λ k kl. let i = (is_kept 0 ws).inside k kl in let e = i.1 in let f = i.2 in omega arith)

sum_kept_from : (n : ℕ) (ws : List ℕ) (f : ℕ → ℕ) → ((q : ℕ) → q < length ws → f (n + q) ≡ slice_index ws q) → sum (map f (kept_from n ws)) ≡ sum ws
sum_kept_from n [] f h = refl
sum_kept_from n (zero ∷ ws) f h =
    let r = sum_kept_from (suc n) ws f (λ q ql. ap f (let e : suc n + q ≡ n + suc q = omega arith in e) ∙ h (suc q) (omega arith)) in
    let a = sum_by-cons (λ (x : ℕ). x) 0 ws in
    omega arith
sum_kept_from n (suc w ∷ ws) f h =
    let r = sum_kept_from (suc n) ws f (λ q ql. ap f (let e : suc n + q ≡ n + suc q = omega arith in e) ∙ h (suc q) (omega arith)) in
    let a = sum_by-cons (λ (x : ℕ). x) (suc w) ws in
    let b = sum_by-cons (λ (x : ℕ). x) (f n) (map f (kept_from (suc n) ws)) in
    let c : f n ≡ suc w = ap f (let e : n ≡ n + 0 = omega arith in e) ∙ h 0 (omega arith) in
    omega arith

-- the weights at the places kept are all weight
pub sum_kept : (ws P : List ℕ) → P ≡ kept_from 0 ws → sum (map (slice_index ws) P) ≡ sum ws
sum_kept ws P e =
    ap (λ l. sum (map (slice_index ws) l)) e
    ∙ sum_kept_from 0 ws (slice_index ws) (λ q ql. ap (slice_index ws) (let e : 0 + q ≡ q = omega arith in e))

-- ---- numbers at the places kept, and 0 elsewhere
abbrev pub look : List ℕ → List ℕ → ℕ → ℕ
look [] vs i = 0
look (p ∷ ps) [] i = 0
look (p ∷ ps) (v ∷ vs) i = cond (eqb p i) v (look ps vs i)

-- what is found is at a place kept, or 0
pub look_is : (P vs : List ℕ) (i : ℕ) → ((k : ℕ) × (k < length P) × (k < length vs) × (slice_index P k ≡ i) × (look P vs i ≡ slice_index vs k)) ⊎ (look P vs i ≡ 0)
look_is [] vs i = inr refl
look_is (p ∷ ps) [] i = inr refl
look_is (p ∷ ps) (v ∷ vs) i =
    ⊎_elim
    (λ t. inl (0, omega arith, omega arith, eqb-true p i t, ap (λ b. cond b v (look ps vs i)) t))
    (λ f. let same : look (p ∷ ps) (v ∷ vs) i ≡ look ps vs i = ap (λ b. cond b v (look ps vs i)) f in
    ⊎_elim
    (λ r. inl (suc r.0, let e = r.1 in omega arith, let e = r.2 in omega arith, r.3, same ∙ r.4))
    (λ r. inr (same ∙ r))
    (look_is ps vs i))
    (cases_Bool (eqb p i))

-- at a place kept its number is found
pub look_at : (P vs : List ℕ) (k : ℕ) → ((a b : ℕ) → a < b → b < length P → slice_index P a < slice_index P b) → k < length P → k < length vs → look P vs (slice_index P k) ≡ slice_index vs k
look_at [] vs k rising kl kv = absurd (omega arith)
look_at (p ∷ ps) [] k rising kl kv = absurd (omega arith)
look_at (p ∷ ps) (v ∷ vs) zero rising kl kv = ap (λ b. cond b v (look ps vs p)) (eq-eqb p p refl)
look_at (p ∷ ps) (v ∷ vs) (suc k) rising kl kv =
    let above = rising 0 (suc k) (omega arith) kl in
    let rest = look_at ps vs k (λ a b ab bl. rising (suc a) (suc b) (omega arith) (omega arith)) (omega arith) (omega arith) in
    ⊎_elim
    (λ t. absurd (let e = eqb-true p (slice_index ps k) t in omega arith))
    (λ f. ap (λ b. cond b v (look ps vs (slice_index ps k))) f ∙ rest)
    (cases_Bool (eqb p (slice_index ps k)))
