-- What one placing of weight keeps.
use Rattle.std.proofs.Common.{◌≡◌, ℕ, ◌+◌, ◌-◌, ◌<◌, ◌≤◌, Bool, List, [], length, sym, refl, ap, ◌∙◌, subst, ⊎_elim, ◌⊎◌, inl, inr, arith, slice_index, set, sum, eqb, cond}
use Rattle.std.proofs.lemmas.Bool.{cases_eq, cases_lt, cases_Bool, eq-eqb, eqb-true}
use Rattle.std.proofs.lemmas.List.{get_or-set_same, get_or-set_other, length-set, get_or_past}
use Rattle.std.proofs.lemmas.List.Elements.{All-from_get_or}
use Rattle.std.proofs.lemmas.List.Sums.{sum_by-set, get_or-le-sum_by, sum_by-le}
use Rattle.transport.specs.declared.search.Mark.{Mark}
use Rattle.transport.specs.declared.entries.Entry.{Entry}
use Rattle.transport.proofs.Shift.{KeepsTight}
use Rattle.transport.specs.Kept.{IsPlacement}
use Rattle.transport.specs.Core.{mark_at, AreTightSteps, IsWay, IsPlan, KeepsRows, row_weight, column_weight, only_at}

-- the steps of a way are tight
pub tight_steps : {t : ℕ → ℕ → ℕ} {R K : List ℕ} {es : List Entry} {demand : List ℕ} {root supply row column : ℕ} {ms : List Mark} {inside : List Bool} → IsWay t R K es demand root supply row column ms inside → AreTightSteps t R K es ms root
tight_steps {ms = ms} w i il ri ni =
    let m = w.marks i (let e = w.marks_length in omega arith) ri in
    (m.link (⊎_elim (λ one. absurd (ni (m.is_root one))) (λ more. more) (one_or_more (mark_at ms i).order ri))).tight
  where
    one_or_more : (n : ℕ) → 0 < n → (n ≡ 1) ⊎ (1 < n)
    one_or_more n h = ⊎_elim (λ e. inr e) (λ e. inl (omega arith)) (cases_lt 1 n)

-- one write that takes n off
taken : (xs : List ℕ) (i n : ℕ) → i < length xs → n ≤ slice_index xs i → (slice_index (set xs i (slice_index xs i - n)) i + n ≡ slice_index xs i) × (sum (set xs i (slice_index xs i - n)) + n ≡ sum xs)
taken xs i n l h =
    let a = get_or-set_same xs i (slice_index xs i - n) 0 l in
    let b = sum_by-set (λ y. y) xs i (slice_index xs i - n) 0 l in
    (omega arith, omega arith)

untouched : (xs : List ℕ) (i j y : ℕ) → (j ≡ i → ⊥) → slice_index (set xs i y) j ≡ slice_index xs j
untouched xs i j y ne = get_or-set_other xs i j y 0 ne

only_there : (a n : ℕ) → only_at a a n ≡ n
only_there a n = ap (λ b. cond b n 0) (eq-eqb a a refl)

module _ {t : ℕ → ℕ → ℕ} {right S D : List ℕ} {es : List Entry} {R K R' K' : List ℕ} {root supply row column : ℕ} {ms : List Mark} {inside : List Bool}
    (p : IsPlan t right S D es R K) (w : IsWay t R' K' es D root supply row column ms inside)
    (row_length : length R' ≡ length R) (column_length : length K' ≡ length K)
    (root_in : root < length S) (supply_is : supply ≡ slice_index S root)
    (n : ℕ)
    (n_demand : n ≤ slice_index D column) (n_room : n ≤ (mark_at ms row).room) (es' : List Entry)
    (row_sums : (i : ℕ) → row_weight es' i ≡ row_weight es i + only_at root i n)
    (column_sums : (j : ℕ) → column_weight es' j ≡ column_weight es j + only_at column j n)
    (placed : KeepsTight es ms root row column es') where
  n_supply : n ≤ slice_index S root
  n_supply = let l = (w.marks row w.row_in w.reached).limit in omega arith

  column_in : column < length D
  column_in = let c = w.column_in in let e = p.columns_length in omega arith

  demand_after : (j : ℕ) → slice_index (set D column (slice_index D column - n)) j + only_at column j n ≡ slice_index D j
  demand_after j = ⊎_elim
      (λ same. let P : ℕ → Type 0 = λ x. slice_index (set D column (slice_index D column - n)) x + only_at column x n ≡ slice_index D x in
      subst P (sym same) (let h = (taken D column n column_in n_demand).0 in let e = only_there column n in omega arith))
      (λ other. let h = untouched D column j (slice_index D column - n) other in let e = elsewhere column j n other in omega arith)
      (cases_eq j column)
    where
      elsewhere : (a b n : ℕ) → (b ≡ a → ⊥) → only_at a b n ≡ 0
      elsewhere a b n ne = ⊎_elim (λ e. absurd (ne (sym (eqb-true a b e)))) (λ e. ap (λ x. cond x n 0) e) (cases_Bool (eqb a b))

  supply_after : (i : ℕ) → slice_index (set S root (slice_index S root - n)) i + only_at root i n ≡ slice_index S i
  supply_after i = ⊎_elim
      (λ same. let P : ℕ → Type 0 = λ x. slice_index (set S root (slice_index S root - n)) x + only_at root x n ≡ slice_index S x in
      subst P (sym same) (let h = (taken S root n root_in n_supply).0 in let e = only_there root n in omega arith))
      (λ other. let h = untouched S root i (slice_index S root - n) other in let e = elsewhere root i n other in omega arith)
      (cases_eq i root)
    where
      elsewhere : (a b n : ℕ) → (b ≡ a → ⊥) → only_at a b n ≡ 0
      elsewhere a b n ne = ⊎_elim (λ e. absurd (ne (sym (eqb-true a b e)))) (λ e. ap (λ x. cond x n 0) e) (cases_Bool (eqb a b))

  pub plan_after : IsPlan t right (set S root (slice_index S root - n)) (set D column (slice_index D column - n)) es' R' K'
  plan_after = record {
    potentials = record {
      feasible = w.potentials.feasible;
      placed = placed t R' K' w.potentials.placed (tight_steps w) w.marks_length w.column_in w.tight;
      caps = w.potentials.caps;
      column_caps = w.potentials.column_caps;
      wanting = λ j jl h. w.potentials.wanting j jl (let e = demand_after j in omega arith);
    };
    rows_length = row_length ∙ p.rows_length ∙ sym (length-set S root (slice_index S root - n));
    columns_length = column_length ∙ p.columns_length ∙ sym (length-set D column (slice_index D column - n));
    right_length = p.right_length ∙ sym (length-set D column (slice_index D column - n));
    column_sums = λ j jl. let a = p.column_sums j jl in let b = column_sums j in let e = demand_after j in omega arith;
    totals = let a = (taken S root n root_in n_supply).1 in let b = (taken D column n column_in n_demand).1 in let e = p.totals in omega arith;
    bounds = λ i. let a = p.bounds i in let b = row_sums i in let e = supply_after i in omega arith;
  }

-- a list of zeros
pub sum_zeros : (xs : List ℕ) → ((i : ℕ) → slice_index xs i ≡ 0) → sum xs ≡ 0
sum_zeros xs h = let s = sum_by-le (λ x. x) 0 xs (All-from_get_or (λ x. x ≤ 0) xs 0 (λ i l. let e = h i in omega arith)) in omega arith

-- where nothing is left, all is placed
module _ {t : ℕ → ℕ → ℕ} {right S' D' : List ℕ} {es' : List Entry} {R' K' : List ℕ} (S : List ℕ)
    (p : IsPlan t right S' D' es' R' K')
    (keeps : KeepsRows [] S es' S') (none : (i : ℕ) → slice_index S' i ≡ 0)
    (supply_length : length S' ≡ length S) where
  no_demand : (j : ℕ) → slice_index D' j ≡ 0
  no_demand j = ⊎_elim
      (λ l. let z = sum_zeros S' none in let e = p.totals in let g = get_or-le-sum_by (λ x. x) D' j 0 l in omega arith)
      (λ g. get_or_past D' j 0 g)
      (cases_lt j (length D'))

  pub placement : IsPlacement t S right es' R' K'
  placement = record {
    rows_length = p.rows_length ∙ supply_length;
    columns_length = p.columns_length ∙ sym p.right_length;
    feasible = p.potentials.feasible;
    placed = p.potentials.placed;
    row_sums = λ i il. let k = keeps i in let n = none i in omega arith;
    column_sums = λ j jl. let c = p.column_sums j jl in let n = no_demand j in omega arith;
    row_caps = p.potentials.caps;
    column_caps = p.potentials.column_caps;
  }
