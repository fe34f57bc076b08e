-- Raising the rows reached and lowering the columns inside by the least slack.
use Rattle.std.proofs.Common.{◌≡◌, ℕ, ◌+◌, ◌-◌, ◌<◌, ◌≤◌, Bool, true, false, List, length, ⊎_elim, arith, slice_index}
use Rattle.std.proofs.lemmas.Bool.{cases_lt, cases_Bool}
use Rattle.transport.specs.declared.search.Mark.{Mark}
use Rattle.transport.specs.declared.entries.Entry.{Entry}
use Rattle.transport.specs.Core.{lifted, mark_at, entry_at, is_inside, IsReached, IsTight, IsPlaced, ArePotentials, AreMarks, IsNearest, AreNearest, AreAllReached, IsSearch}

module _ {t : ℕ → ℕ → ℕ} {R K : List ℕ} {es : List Entry} {demand : List ℕ} {root supply : ℕ} {ms : List Mark} {inside : List Bool} {via : List ℕ}
    (p : ArePotentials t R K es demand) (s : IsSearch t R K es demand root supply ms inside via) (closed : AreAllReached es ms inside)
    (costs : (i j : ℕ) → i < length R → j < length K → t i j ≤ 10000000000000)
    (gap wanting : ℕ) (wanting_in : wanting < length K) (wants : 0 < slice_index demand wanting) (wanting_out : is_inside inside wanting ≡ false)
    (least : (j : ℕ) → j < length K → is_inside inside j ≡ false → slice_index R (slice_index via j) + slice_index K j + gap ≤ lifted t (slice_index via j) j) where
  nearest_at : (j : ℕ) → j < length K → is_inside inside j ≡ false → IsNearest t R ms j (slice_index via j)
  nearest_at j jl out = s.nearest j (let e = s.via_length in omega arith) out

  -- no row reached is raised above the cap
  pub raise_cap : (i : ℕ) → i < length R → IsReached ms i → slice_index R i + gap ≤ 20000000000000
  raise_cap i il ri =
      let n = (nearest_at wanting wanting_in wanting_out).least i il ri in
      let l = least wanting wanting_in wanting_out in
      let w = p.wanting wanting wanting_in wants in
      let b = costs i wanting il wanting_in in
      omega arith

  -- a row reached and a column outside have at least that slack
  slack_out : (i j : ℕ) → i < length R → j < length K → IsReached ms i → is_inside inside j ≡ false → slice_index R i + slice_index K j + gap ≤ lifted t i j
  slack_out i j il jl ri out =
      let n = (nearest_at j jl out).least i il ri in
      let l = least j jl out in
      omega arith

  module _ (R' K' : List ℕ) (row_length : length R' ≡ length R) (column_length : length K' ≡ length K)
      (raised : (i : ℕ) → i < length R → IsReached ms i → slice_index R' i ≡ slice_index R i + gap)
      (same_row : (i : ℕ) → i < length R → (mark_at ms i).order ≡ 0 → slice_index R' i ≡ slice_index R i)
      (lowered : (j : ℕ) → j < length K → is_inside inside j ≡ true → slice_index K' j ≡ slice_index K j - gap)
      (same_column : (j : ℕ) → j < length K → is_inside inside j ≡ false → slice_index K' j ≡ slice_index K j) where
    -- by whether row i was reached
    by_row : {P : Type 0} (i : ℕ) → (IsReached ms i → P) → ((mark_at ms i).order ≡ 0 → P) → P
    by_row i met unmet = ⊎_elim met (λ h. unmet (omega arith)) (cases_lt 0 (mark_at ms i).order)

    by_column : {P : Type 0} (j : ℕ) → (is_inside inside j ≡ true → P) → (is_inside inside j ≡ false → P) → P
    by_column j met unmet = ⊎_elim met unmet (cases_Bool (is_inside inside j))

    feasible_after : (i j : ℕ) → i < length R → j < length K → slice_index R' i + slice_index K' j ≤ lifted t i j
    feasible_after i j il jl =
        let f = p.feasible i j il jl in
        by_row i
        (λ ri. let a = raised i il ri in let c = raise_cap i il ri in
        by_column j (λ ins. let b = lowered j jl ins in omega arith) (λ out. let b = same_column j jl out in let o = slack_out i j il jl ri out in omega arith))
        (λ un. let a = same_row i il un in
        by_column j (λ ins. let b = lowered j jl ins in omega arith) (λ out. let b = same_column j jl out in omega arith))

    -- a tight pair of a row reached and a column inside stays tight
    tight_inside : (i j : ℕ) → i < length R → j < length K → IsReached ms i → is_inside inside j ≡ true → IsTight t R K i j → IsTight t R' K' i j
    tight_inside i j il jl ri ins h =
        let a = raised i il ri in let b = lowered j jl ins in let c = raise_cap i il ri in omega arith

    placed_after : (k : ℕ) → k < length es → IsPlaced t R' K' (entry_at es k)
    placed_after k kl =
        let old = p.placed k kl in
        record {
          row = let h = old.row in omega arith;
          column = let h = old.column in omega arith;
          tight = λ w.
              let i = (entry_at es k).row in
              let j = (entry_at es k).column in
              let h = old.tight w in
              by_column j
              (λ ins. tight_inside i j old.row old.column (closed k kl w ins) ins h)
              (λ out. let b = same_column j old.column out in
              by_row i
              (λ ri. let a = raised i old.row ri in let o = slack_out i j old.row old.column ri out in omega arith)
              (λ un. let a = same_row i old.row un in omega arith));
        }

    pub potentials_after : ArePotentials t R' K' es demand
    potentials_after = record {
      feasible = λ i j il jl. feasible_after i j (omega arith) (omega arith);
      placed = placed_after;
      caps = λ i il. by_row i (λ ri. let a = raised i (omega arith) ri in let c = raise_cap i (omega arith) ri in omega arith) (λ un. let a = same_row i (omega arith) un in let c = p.caps i (omega arith) in omega arith);
      column_caps = λ j jl. let o = p.column_caps j (omega arith) in by_column j
          (λ ins. let b = lowered j (omega arith) ins in omega arith)
          (λ out. let b = same_column j (omega arith) out in omega arith);
      wanting = λ j jl d. by_column j
          (λ ins. absurd (let z = s.settled j (omega arith) ins in omega arith))
          (λ out. let b = same_column j (omega arith) out in let w = p.wanting j (omega arith) d in omega arith);
    }

    marks_after : AreMarks t R' K' es root supply ms inside
    marks_after i il ri =
        let old = s.marks i (omega arith) ri in
        record {
          room = old.room;
          limit = old.limit;
          is_root = old.is_root;
          link = λ more. let k = old.link more in record {
            parent = let h = k.parent in omega arith;
            reached = k.reached;
            before = k.before;
            entry = k.entry;
            row = k.row;
            weight = k.weight;
            room = k.room;
            entered = k.entered;
            tight = tight_inside _ _ k.parent (p.placed _ k.entry).column k.reached k.entered k.tight;
          };
        }

    nearest_after : AreNearest t R' ms inside via
    nearest_after j jl out =
        let jk : j < length K = let e = s.via_length in omega arith in
        let old = nearest_at j jk out in
        record {
          row = let h = old.row in omega arith;
          reached = old.reached;
          least = λ i il ri. let l = old.least i (omega arith) ri in let a = raised i (omega arith) ri in let b = raised (slice_index via j) old.row old.reached in omega arith;
        }

    pub search_after : IsSearch t R' K' es demand root supply ms inside via
    search_after = record {
      marks_length = let e = s.marks_length in omega arith;
      inside_length = let e = s.inside_length in omega arith;
      via_length = let e = s.via_length in omega arith;
      settled = λ j jl ins. s.settled j (omega arith) ins;
      nearest = nearest_after;
      marks = marks_after;
    }

    -- the column with that slack becomes tight
    pub tight_after : (j : ℕ) → j < length K → is_inside inside j ≡ false → slice_index R (slice_index via j) + slice_index K j + gap ≡ lifted t (slice_index via j) j → IsTight t R' K' (slice_index via j) j
    tight_after j jl out e =
        let n = nearest_at j jl out in
        let a = raised (slice_index via j) n.row n.reached in
        let b = same_column j jl out in
        omega arith
