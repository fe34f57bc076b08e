-- Columns that no row names.
use Rattle.std.proofs.Common.{◌≡◌, ℕ, suc, ◌<◌, ◌≤◌, arith, refl, ap, ◌∙◌, List, [], ◌∷◌, ℤ, pos, ◌+ℤ◌, ◌-ℤ◌, ◌*ℤ◌, ◌<ℤ◌, ◌≤ℤ◌}
use Rattle.std.specs.Prelude.{All}
use Rattle.std.proofs.lemmas.Int.{ints}
use Rattle.exact_lp.specs.declared.row.Row.{Row}
use Rattle.exact_lp.specs.Columns.{value_at}
use Rattle.exact_lp.specs.Programs.{paid_by_rows}
use Rattle.exact_lp.proofs.Cells.{value_absent}
use Rattle.exact_lp.proofs.Order.{mul_le_left_ℤ}

-- the rows pay nothing for a column behind all that they name
pub unpaid_behind : (last column : ℕ) (rows : List Row) (values : List ℤ) → All (λ row. All (λ cell. cell.column ≤ last) row.cells) rows → last < column → paid_by_rows rows values column ≡ pos 0
unpaid_behind last column [] values named behind = refl
unpaid_behind last column (row ∷ rows) [] named behind = refl
unpaid_behind last column (row ∷ rows) (value ∷ values) named behind =
    nothing value (value_at row.cells column) (paid_by_rows rows values column)
    (value_absent row.cells column (λ k d h e. omega (arith, named 0 row (omega arith) k d h)))
    (unpaid_behind last column rows values (λ k d h. named (suc k) d (omega arith)) behind)
  where
    nothing : (y a s : ℤ) → a ≡ pos 0 → s ≡ pos 0 → y *ℤ a +ℤ s ≡ pos 0
    nothing y a s e k = ap (λ (z : ℤ). y *ℤ z +ℤ s) e ∙ ap (λ (z : ℤ). y *ℤ pos 0 +ℤ z) k ∙ none y
      where
        none : (y : ℤ) → y *ℤ pos 0 +ℤ pos 0 ≡ pos 0
        none y = omega (arith, ints)

-- an unpaid column doesn't improve
pub unpaid_is_dear : (scale paid : ℤ) (price : ℕ) → pos 0 <ℤ scale → paid ≡ pos 0 → pos 0 ≤ℤ (scale *ℤ pos price -ℤ paid)
unpaid_is_dear scale paid price some e =
    let h : (scale *ℤ pos 0) ≤ℤ (scale *ℤ pos price) = mul_le_left_ℤ scale (pos 0) (pos price) (omega (arith, ints)) (omega (arith, ints)) in
    let zero_is : scale *ℤ pos 0 ≡ pos 0 = none scale in
    above (scale *ℤ pos 0) (scale *ℤ pos price) paid h zero_is e
  where
    none : (y : ℤ) → y *ℤ pos 0 ≡ pos 0
    none y = omega (arith, ints)

    above : (a b c : ℤ) → a ≤ℤ b → a ≡ pos 0 → c ≡ pos 0 → pos 0 ≤ℤ (b -ℤ c)
    above a b c h e k = omega (arith, ints)
