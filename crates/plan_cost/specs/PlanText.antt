-- The text of a plan: its records, each as a line.
use Rattle.std.specs.Prelude.{◌≡◌, ℕ, ◌<◌, ◌≤◌, List, [], ◌∷◌, ◌++◌, map, flat_map, length, slice_index, codes, pos}
use Rattle.record_table.specs.Line.{line}
use Rattle.station.specs.Allowed.{numbers}
use Rattle.plan_cost.specs.declared.record.PlanRecord.{PlanRecord}
use Rattle.plan_cost.specs.declared.record.PlanRecord.TheVariants.{Header, Choice, End}

-- a record as its line, with its newline; the header says version 1
abbrev pub record_line : PlanRecord → List ℕ
record_line (Header trains) = line (codes "tpp-plan") (pos 1 ∷ pos trains ∷ [])
record_line (Choice train number) = line (codes "choice") (pos train ∷ pos number ∷ [])
record_line End = line (codes "end") []

-- the numbers that a record may have
abbrev pub IsRecord : PlanRecord → Type 0
IsRecord (Header trains) = trains ≤ 200
IsRecord (Choice train number) = (train ≤ 199) × (number ≤ 4095)
IsRecord End = Unit {0}

-- the header, a choice for each train from 0 on, and the end
abbrev pub plan_records : List ℕ → List PlanRecord
plan_records plan = Header (length plan) ∷ map (λ t. Choice t (slice_index plan t)) (numbers (length plan)) ++ End ∷ []

-- the lines of these records, one after the other
unfoldable pub plan_text : List ℕ → List ℕ
plan_text plan = flat_map record_line (plan_records plan)

-- A plan can be written where it has at most 200 choices, each below 4,096.
pub record IsWritable (plan : List ℕ) : Type 0 where
  pub few : length plan ≤ 200
  pub small : (train : ℕ) → train < length plan → slice_index plan train < 4096

-- two plans with equal texts are equal
abbrev pub TextsAreUnique : Type 0
TextsAreUnique = (plan other : List ℕ) → plan_text plan ≡ plan_text other → plan ≡ other
