-- A pivot keeps what a table keeps.
use Rattle.std.proofs.Common.{◌≡◌, ◌≢◌, ℕ, ◌+◌, ◌<◌, arith, sym, ap, subst, ◌∙◌, List, [], length, set, ℤ, pos, ◌<ℤ◌, ⊎_elim}
use Rattle.std.specs.Prelude.{All}
use Rattle.std.proofs.lemmas.Bool.{cases_eq}
use Rattle.std.proofs.lemmas.List.{get_or_default, get_or-set_same, get_or-set_other, length-set}
use Rattle.ratio.specs.Cells.{cell_at, dot}
use Rattle.exact_lp.specs.Places.{place_of}
use Rattle.exact_lp.specs.Tables.{IsCleared, IsTable, IsTurned, row_at, number_at}
use Rattle.exact_lp.proofs.Cleared.{turned_size, turned_zero, turned_solution}

-- what holds at one place and at each other holds at all
pub each : (P : ℕ → Type 0) (at : ℕ) → P at → ((k : ℕ) → k ≢ at → P k) → (k : ℕ) → P k
each P at here there k = ⊎_elim (λ (e : k ≡ at). subst P (sym e) here) (λ (ne : k ≢ at). there k ne) (cases_eq k at)

-- what holds of each row by its number holds of all
pub all_rows : (P : List ℤ → Type 0) (rows : List (List ℤ)) → ((k : ℕ) → k < length rows → P (row_at rows k)) → All P rows
all_rows P rows h k d inside = subst P (get_or_default rows k [] d inside) (h k inside)

pub swapped : (rows : List (List ℤ)) (cost : List ℤ) (variables : ℕ) (basis spares : List ℕ) → IsTable rows cost variables basis spares
    → (at v : ℕ) → at < length rows → v < variables → (row : List ℤ) → IsTurned (row_at rows at) row → pos 0 <ℤ cell_at row (place_of v)
    → (rows' : List (List ℤ)) (cost' : List ℤ) → length rows' ≡ length rows → row_at rows' at ≡ row
    → ((k : ℕ) → k < length rows → k ≢ at → IsCleared row (place_of v) (row_at rows k) (row_at rows' k)) → IsCleared row (place_of v) cost cost'
    → IsTable rows' cost' variables (set basis at v) spares
swapped rows cost variables basis spares table at v inside within row turned above rows' cost' long is clear clear_cost =
    let basis' = set basis at v in
    let here : number_at basis' at ≡ v = get_or-set_same basis at v 0 (omega (arith, table.based)) in
    let there : (k : ℕ) → k ≢ at → number_at basis' k ≡ number_at basis k = λ k ne. get_or-set_other basis at k v 0 ne in
    let row_cell : (k : ℕ) → cell_at (row_at rows at) k ≡ pos 0 → cell_at row k ≡ pos 0 = λ k h. turned_zero (row_at rows at) row k turned h in
    let row_apart : (k : ℕ) → k < length rows → k ≢ at → cell_at row (place_of (number_at basis k)) ≡ pos 0 =
    λ k h ne. row_cell (place_of (number_at basis k)) (table.apart at k inside h (λ e. ne (sym e))) in
    let costless_row : cell_at row 1 ≡ pos 0 = row_cell 1 (table.costless at inside) in
    let At : ℕ → List ℤ → Type 0 = λ place r. cell_at r place ≡ pos 0 in
    record {
      prices = table.prices;
      one_each = table.one_each;
      dear = table.dear;
      free = table.free;
      wide = λ k h. each (λ k. k < length rows → length (row_at rows' k) ≡ variables + 2) at
          (λ h. ap length is ∙ turned_size (row_at rows at) row turned ∙ table.wide at inside)
          (λ k ne h. (clear k h ne).size ∙ table.wide k h) k (omega arith);
      cost_wide = clear_cost.size ∙ table.cost_wide;
      costless = λ k h. each (λ k. k < length rows → cell_at (row_at rows' k) 1 ≡ pos 0) at
          (λ h. subst (At 1) (sym is) costless_row)
          (λ k ne h. (clear k h ne).zero_stays 1 costless_row (table.costless k h)) k (omega arith);
      costs = clear_cost.sign_stays 1 costless_row table.costs;
      based = length-set basis at v ∙ table.based ∙ sym long;
      basic = λ k h. each (λ k. k < length rows → number_at basis' k < variables) at
          (λ h. subst (λ (n : ℕ). n < variables) (sym here) within)
          (λ k ne h. subst (λ (n : ℕ). n < variables) (sym (there k ne)) (table.basic k h)) k (omega arith);
      own = λ k h. each (λ k. k < length rows → pos 0 <ℤ cell_at (row_at rows' k) (place_of (number_at basis' k))) at
          (λ h. subst (λ (n : ℕ). pos 0 <ℤ cell_at (row_at rows' at) (place_of n)) (sym here) (subst (λ (r : List ℤ). pos 0 <ℤ cell_at r (place_of v)) (sym is) above))
          (λ k ne h. subst (λ (n : ℕ). pos 0 <ℤ cell_at (row_at rows' k) (place_of n)) (sym (there k ne)) ((clear k h ne).sign_stays (place_of (number_at basis k)) (row_apart k h ne) (table.own k h))) k (omega arith);
      apart = λ j k h l differ. each (λ k. k < length rows → j ≢ k → cell_at (row_at rows' j) (place_of (number_at basis' k)) ≡ pos 0) at
          (λ l differ. subst (λ (n : ℕ). cell_at (row_at rows' j) (place_of n) ≡ pos 0) (sym here) (clear j (omega arith) differ).gone)
          (λ k ne l differ. subst (λ (n : ℕ). cell_at (row_at rows' j) (place_of n) ≡ pos 0) (sym (there k ne))
          (each (λ j. j < length rows → j ≢ k → cell_at (row_at rows' j) (place_of (number_at basis k)) ≡ pos 0) at
          (λ h differ. subst (At (place_of (number_at basis k))) (sym is) (row_apart k l ne))
          (λ j unlike h differ. (clear j h unlike).zero_stays (place_of (number_at basis k)) (row_apart k l ne) (table.apart j k h l differ)) j (omega arith) differ))
          k (omega arith) differ;
      cleared = λ k h. each (λ k. k < length rows → cell_at cost' (place_of (number_at basis' k)) ≡ pos 0) at
          (λ h. subst (λ (n : ℕ). cell_at cost' (place_of n) ≡ pos 0) (sym here) clear_cost.gone)
          (λ k ne h. subst (λ (n : ℕ). cell_at cost' (place_of n) ≡ pos 0) (sym (there k ne)) (clear_cost.zero_stays (place_of (number_at basis k)) (row_apart k h ne) (table.cleared k h))) k (omega arith);
      meant = λ values hold.
          let Zero : List ℤ → Type 0 = λ r. dot r values ≡ pos 0 in
          let pivot : Zero row = subst Zero is (hold at [] (omega arith)) in
          let old : All Zero rows = all_rows Zero rows
          (λ k h. each (λ k. k < length rows → Zero (row_at rows k)) at
          (λ h. turned_solution (row_at rows at) row values turned pivot)
          (λ k ne h. ((clear k h ne).kept values pivot).1 (hold k [] (omega arith))) k h) in
          let means = table.meant values old in
          let kept = clear_cost.kept values pivot in
          (λ z. means.0 (kept.1 z), λ z. kept.0 (means.1 z));
    }
