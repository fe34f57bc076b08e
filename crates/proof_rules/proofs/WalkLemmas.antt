-- Where records lead to, from state to state.
use Rattle.std.proofs.Common.{◌≡◌, ℕ, suc, ◌+◌, Bool, true, false, cond, List, [], ◌∷◌, ◌++◌, length, map, refl, sym, ◌∙◌, ap, arith, append_assoc, Result, Ok, Err}
use Rattle.std.proofs.lemmas.List.{append-nil}
use Rattle.pair_prices.specs.Case.{CaseRecord}
use Rattle.proof_file.specs.declared.record.ProofRecord.{ProofRecord}
use Rattle.proof_rules.specs.declared.refused.ProofKind.TheVariants.{Trail}
use Rattle.proof_rules.specs.declared.refused.ProofRefused.{ProofRefused}
use Rattle.proof_rules.specs.Fault.{Fault, State, after}
use Rattle.proof_rules.specs.Verdict.{refused, judged, one_on, going_on, walked}

-- from a state the records lead to another
abbrev pub Goes : CaseRecord → State → List ProofRecord → State → Type 0
Goes c s records t = (number : ℕ) → walked c s number records ≡ Ok t

one_goes : (c : CaseRecord) (s t : State) (number : ℕ) (r : ProofRecord) → s.is_over ≡ false → after c s r ≡ Ok t → one_on c s number r ≡ Ok t
unfolding one_on
one_goes c s t number r o e =
    ap (λ b. cond b (Err (refused Trail number)) (judged number (after c s r))) o ∙ ap (λ a. judged number a) e

pub goes_one : (c : CaseRecord) (s t : State) (r : ProofRecord) → s.is_over ≡ false → after c s r ≡ Ok t → Goes c s (r ∷ []) t
goes_one c s t r o e = λ n. ap (λ a. going_on a (λ u. walked c u (n + 1) [])) (one_goes c s t n r o e)

walked_by : (c : CaseRecord) (xs ys : List ProofRecord) (t : State) (n : ℕ) (a : Result State ProofRefused)
    → going_on a (λ u. walked c u (n + 1) xs) ≡ Ok t
    → ((u : State) → walked c u (n + 1) xs ≡ Ok t → walked c u (n + 1) (xs ++ ys) ≡ walked c t (n + 1 + length xs) ys)
    → going_on a (λ u. walked c u (n + 1) (xs ++ ys)) ≡ walked c t (n + suc (length xs)) ys
walked_by c xs ys t n (Err r) e rest = absurd (cc e)
walked_by c xs ys t n (Ok u) e rest = rest u e ∙ ap (λ k. walked c t k ys) (next n (length xs))
  where
    next : (n m : ℕ) → n + 1 + m ≡ n + suc m
    next n m = omega arith

walked_append : (c : CaseRecord) (xs ys : List ProofRecord) (s t : State) (n : ℕ) → walked c s n xs ≡ Ok t
    → walked c s n (xs ++ ys) ≡ walked c t (n + length xs) ys
walked_append c [] ys s t n e =
    let same : s ≡ t = cc e in
    let number : n ≡ n + 0 = omega arith in
    ap (λ u. walked c u n ys) same ∙ ap (λ k. walked c t k ys) number
walked_append c (x ∷ xs) ys s t n e =
    walked_by c xs ys t n (one_on c s n x) e (λ u f. walked_append c xs ys u t (n + 1) f)

pub goes_append : (c : CaseRecord) (xs ys : List ProofRecord) (s t u : State) → Goes c s xs t → Goes c t ys u → Goes c s (xs ++ ys) u
goes_append c xs ys s t u g h = λ n. walked_append c xs ys s t n (g n) ∙ h (n + length xs)

-- a group of records of one kind, each of which adds its entry
module _ {X : Type 0} (c : CaseRecord) (make : X → ProofRecord) (at : List X → State) (all : List X)
    (running : (xs : List X) → (at xs).is_over ≡ false)
    (step : (xs ys : List X) (x : X) → all ≡ xs ++ x ∷ ys → after c (at xs) (make x) ≡ Ok (at (xs ++ x ∷ []))) where
  goes_on : (xs ys : List X) → all ≡ xs ++ ys → Goes c (at xs) (map make ys) (at all)
  goes_on xs [] e = λ n. ap (λ zs. Ok (at zs)) (sym (append-nil xs) ∙ sym e)
  goes_on xs (x ∷ ys) e =
      goes_append c (make x ∷ []) (map make ys) (at xs) (at (xs ++ x ∷ [])) (at all)
      (goes_one c (at xs) (at (xs ++ x ∷ [])) (make x) (running xs) (step xs ys x e))
      (goes_on (xs ++ x ∷ []) ys (e ∙ sym (append_assoc xs (x ∷ []) ys)))

  pub group_goes : Goes c (at []) (map make all) (at all)
  group_goes = goes_on [] all refl

-- the last record that was read led on
by_test : (c : CaseRecord) (s t : State) (n : ℕ) (r : ProofRecord) (b : Bool) → s.is_over ≡ b
    → cond b (Err (refused Trail n)) (judged n (after c s r)) ≡ Ok t → (s.is_over ≡ false) × (after c s r ≡ Ok t)
by_test c s t n r true o e = absurd (cc e)
by_test c s t n r false o e = (o, by_answer (after c s r) e)
  where
    by_answer : (a : Result State Fault) → judged n a ≡ Ok t → a ≡ Ok t
    by_answer (Ok u) f = cc
    by_answer (Err fault) f = absurd (cc f)

pub one_went : (c : CaseRecord) (s t : State) (n : ℕ) (r : ProofRecord) → one_on c s n r ≡ Ok t → (s.is_over ≡ false) × (after c s r ≡ Ok t)
unfolding one_on
one_went c s t n r e = by_test c s t n r s.is_over refl e
