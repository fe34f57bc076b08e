-- A search over arrivals, step by step.
use Rattle.std.proofs.Common.{◌≡◌, ℕ, ◌+◌, ◌<◌, Bool, true, false, length, refl, sym, ◌∙◌, subst, arith, ℤ, Option, None, Some, inl, inr}
use Rattle.std.specs.Prelude.{nat_lt, ◌⊎◌}
use borrow.Author.Tests.{ltb-true, ltb-false}
use Rattle.patterns.specs.Allowed.{Lists, list_of}
use Rattle.pair_prices.specs.Case.{CaseRecord}
use Rattle.pair_prices.specs.Fraction.{Fraction}
use Rattle.clique_cuts.specs.Over.{IsOverArrival, arrival}
use Rattle.clique_cuts.specs.Looked.{IsFoundOver, IsClearBefore, IsLooked, IsTrainLooked, AreTrainsLooked, IsEarlier}

nothing_over : (P : ℤ → Type 0) (m : ℤ) → None ≡ Some m → P m
nothing_over P m e = cc

-- each number below the next one is below this one, or is it
pub split_last : (P : ℕ → Type 0) (k : ℕ) → ((i : ℕ) → i < k → P i) → P k → (i : ℕ) → i < k + 1 → P i
split_last P k before last i l = by (nat_lt i k) refl
  where
    by : (b : Bool) → nat_lt i k ≡ b → P i
    by true e = before i (ltb-true i k e)
    by false e = let f = ltb-false i k e in let same : k ≡ i = omega arith in subst P same last

module _ (c : CaseRecord) (lists : Lists) (f : Fraction) (p : ℕ) where
  either_over : (a b r : Option ℤ) → IsFoundOver c lists f p a → IsFoundOver c lists f p b → (r ≡ a) ⊎ (r ≡ b) → IsFoundOver c lists f p r
  either_over a b r x y (inl e) m h = x m (sym e ∙ h)
  either_over a b r x y (inr e) m h = y m (sym e ∙ h)

  pub train_none : (t : ℕ) → IsTrainLooked c lists f p t 0 None
  train_none t = record { over = λ m e. nothing_over (λ z. IsOverArrival c lists f p z) m e; clear = λ i l. absurd (omega arith) }

  pub train_step : (t k : ℕ) (a b r : Option ℤ) → IsTrainLooked c lists f p t k a → IsLooked c lists f p t k b → IsEarlier a b r
      → IsTrainLooked c lists f p t (k + 1) r
  train_step t k a b r x y e = record {
    over = either_over a b r x.over y.over e.one;
    clear = split_last (λ i. IsClearBefore c lists f p t i r) k
        (λ i l before. x.clear i l (e.before_first (arrival c lists t i) before))
        (λ before. y.clear (e.before_second (arrival c lists t k) before));
  }

  pub trains_none : AreTrainsLooked c lists f p 0 None
  trains_none = record { over = λ m e. nothing_over (λ z. IsOverArrival c lists f p z) m e; clear = λ t i l. absurd (omega arith) }

  pub trains_step : (k : ℕ) (a b r : Option ℤ) → AreTrainsLooked c lists f p k a → IsTrainLooked c lists f p k (length (list_of lists k)) b → IsEarlier a b r
      → AreTrainsLooked c lists f p (k + 1) r
  trains_step k a b r x y e = record {
    over = either_over a b r x.over y.over e.one;
    clear = λ t i tl. split_last (λ s. (j : ℕ) → j < length (list_of lists s) → IsClearBefore c lists f p s j r) k
        (λ s l j jl before. x.clear s j l jl (e.before_first (arrival c lists s j) before))
        (λ j jl before. y.clear j jl (e.before_second (arrival c lists k j) before)) t tl i;
  }
