-- What a run gives.
use Rattle.std.specs.Prelude.{ℕ, List, []}

-- a file that a run writes
pub record NewFile : Type 0 where
  pub name : List ℕ
  pub bytes : List ℕ

-- the status of a run, the text that it puts, and the files that it writes, in their order
pub record Outcome : Type 0 where
  pub code : ℕ
  pub text : List ℕ
  pub files : List NewFile

-- what writes no file
abbrev pub text_outcome : ℕ → List ℕ → Outcome
text_outcome code text = record { code = code; text = text; files = [] }
