-- Sums of cells times values, where the values or the cells are changed.
use Rattle.std.proofs.Common.{◌≡◌, ℕ, zero, suc, ◌<◌, arith, refl, sym, ap, ◌∙◌, List, [], ◌∷◌, ◌++◌, length, map, replicate, ℤ, pos, neg_ℤ, ◌+ℤ◌, ◌*ℤ◌}
use Rattle.std.proofs.lemmas.Int.{ints}
use Rattle.ratio.specs.Cells.{cell_at, dot}
use Rattle.ratio.proofs.Ring.{mul_assoc_ℤ, mul_comm_ℤ, mul-add_ℤ, mul-neg_ℤ}

-- a number is added to the value at a place
abbrev pub added : List ℤ → ℕ → ℤ → List ℤ
added [] k x = []
added (y ∷ ys) zero x = (y +ℤ x) ∷ ys
added (y ∷ ys) (suc k) x = y ∷ added ys k x

pub length-added : (ys : List ℤ) (k : ℕ) (x : ℤ) → length (added ys k x) ≡ length ys
length-added [] k x = refl
length-added (y ∷ ys) zero x = refl
length-added (y ∷ ys) (suc k) x = ap suc (length-added ys k x)

pub dot-added : (cs xs : List ℤ) (k : ℕ) (x : ℤ) → k < length xs → dot cs (added xs k x) ≡ dot cs xs +ℤ cell_at cs k *ℤ x
dot-added [] xs k x h = nothing x
  where
    nothing : (x : ℤ) → pos 0 ≡ pos 0 +ℤ pos 0 *ℤ x
    nothing x = omega (arith, ints)
dot-added (c ∷ cs) [] k x h = absurd (omega arith)
dot-added (c ∷ cs) (y ∷ ys) zero x h = here c y x (dot cs ys)
  where
    here : (c y x s : ℤ) → c *ℤ (y +ℤ x) +ℤ s ≡ c *ℤ y +ℤ s +ℤ c *ℤ x
    here c y x s = let a = mul-add_ℤ c y x in omega (arith, ints)
dot-added (c ∷ cs) (y ∷ ys) (suc k) x h = there (c *ℤ y) (dot cs (added ys k x)) (dot cs ys) (cell_at cs k *ℤ x) (dot-added cs ys k x (omega arith))
  where
    there : (a s t p : ℤ) → s ≡ t +ℤ p → a +ℤ s ≡ a +ℤ t +ℤ p
    there a s t p e = omega (arith, ints)

pub dot-scaled : (q : ℤ) (cs xs : List ℤ) → dot cs (map (λ y. q *ℤ y) xs) ≡ q *ℤ dot cs xs
dot-scaled q [] xs = nothing q
  where
    nothing : (q : ℤ) → pos 0 ≡ q *ℤ pos 0
    nothing q = omega (arith, ints)
dot-scaled q (c ∷ cs) [] = nothing q
  where
    nothing : (q : ℤ) → pos 0 ≡ q *ℤ pos 0
    nothing q = omega (arith, ints)
dot-scaled q (c ∷ cs) (x ∷ xs) =
    (λ i. (sym (mul_assoc_ℤ c q x) ∙ ap (λ (z : ℤ). z *ℤ x) (mul_comm_ℤ c q) ∙ mul_assoc_ℤ q c x) i +ℤ dot-scaled q cs xs i)
    ∙ sym (mul-add_ℤ q (c *ℤ x) (dot cs xs))

pub dot-zeros : (cs : List ℤ) (n : ℕ) → dot cs (replicate n (pos 0)) ≡ pos 0
dot-zeros [] n = refl
dot-zeros (c ∷ cs) zero = refl
dot-zeros (c ∷ cs) (suc n) = none c (dot cs (replicate n (pos 0))) (dot-zeros cs n)
  where
    none : (c s : ℤ) → s ≡ pos 0 → c *ℤ pos 0 +ℤ s ≡ pos 0
    none c s e = omega (arith, ints)

-- one more cell
pub dot-append : (cs : List ℤ) (c : ℤ) (xs : List ℤ) → dot (cs ++ c ∷ []) xs ≡ dot cs xs +ℤ c *ℤ cell_at xs (length cs)
dot-append [] c [] = nothing c
  where
    nothing : (c : ℤ) → pos 0 ≡ pos 0 +ℤ c *ℤ pos 0
    nothing c = omega (arith, ints)
dot-append [] c (x ∷ xs) = omega (arith, ints)
dot-append (b ∷ cs) c [] = nothing c
  where
    nothing : (c : ℤ) → pos 0 ≡ pos 0 +ℤ c *ℤ pos 0
    nothing c = omega (arith, ints)
dot-append (b ∷ cs) c (x ∷ xs) = there (b *ℤ x) (dot (cs ++ c ∷ []) xs) (dot cs xs) (c *ℤ cell_at xs (length cs)) (dot-append cs c xs)
  where
    there : (a s t p : ℤ) → s ≡ t +ℤ p → a +ℤ s ≡ a +ℤ t +ℤ p
    there a s t p e = omega (arith, ints)

-- the signs turned
pub dot-negated : (cs xs : List ℤ) → dot (map neg_ℤ cs) xs ≡ neg_ℤ (dot cs xs)
dot-negated [] xs = refl
dot-negated (c ∷ cs) [] = refl
dot-negated (c ∷ cs) (x ∷ xs) = turned (neg_ℤ c *ℤ x) (c *ℤ x) (dot (map neg_ℤ cs) xs) (dot cs xs) (product c x) (dot-negated cs xs)
  where
    product : (c x : ℤ) → neg_ℤ c *ℤ x ≡ neg_ℤ (c *ℤ x)
    product c x = mul_comm_ℤ (neg_ℤ c) x ∙ mul-neg_ℤ x c ∙ ap neg_ℤ (mul_comm_ℤ x c)

    turned : (a b s t : ℤ) → a ≡ neg_ℤ b → s ≡ neg_ℤ t → a +ℤ s ≡ neg_ℤ (b +ℤ t)
    turned a b s t e h = omega (arith, ints)

pub cell-negated : (cs : List ℤ) (k : ℕ) → cell_at (map neg_ℤ cs) k ≡ neg_ℤ (cell_at cs k)
cell-negated [] k = refl
cell-negated (c ∷ cs) zero = refl
cell-negated (c ∷ cs) (suc k) = cell-negated cs k
