-- Lines of prices, those that are equal in one class.
use Rattle.std.specs.Prelude.{◌≡◌, ◌≢◌, ℕ, ◌+◌, ◌<◌, ◌≤◌, List, [], length, slice_index, slice_index_or, All, ℤ}

abbrev pub line_at : List (List ℤ) → ℕ → List ℤ
line_at lines i = slice_index_or lines i []

-- Each line has a class, and equals the line that stands for its class.
pub record AreGroups (lines : List (List ℤ)) (classes heads : List ℕ) : Type 0 where
  pub count : length classes ≡ length lines
  pub class : (i : ℕ) → i < length classes → slice_index classes i < length heads
  pub same : (i : ℕ) → i < length classes → line_at lines (slice_index heads (slice_index classes i)) ≡ line_at lines i
  -- equal lines have one class
  pub whole : (i j : ℕ) → i < length classes → j < length classes → line_at lines i ≡ line_at lines j → slice_index classes i ≡ slice_index classes j
  -- the numbers of the lines that stand for the classes
  pub there : (k : ℕ) → k < length heads → slice_index heads k < length lines
  pub most : length heads ≤ length lines

-- The line gets this class: it equals the line that stands for it, and each earlier class keeps its line.
pub record Joins (lines : List (List ℤ)) (number class : ℕ) (old new : List ℕ) : Type 0 where
  pub counted : class < length new
  pub same : line_at lines (slice_index new class) ≡ line_at lines number
  -- no earlier class has this line
  pub first : (k : ℕ) → k < class → line_at lines (slice_index new k) ≢ line_at lines number
  pub kept : (k : ℕ) → k < length old → slice_index new k ≡ slice_index old k
  pub there : All (λ h. h < number + 1) new
  pub least : length old ≤ length new
  pub most : length new ≤ number + 1
