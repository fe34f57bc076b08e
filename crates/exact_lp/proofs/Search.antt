-- What a search keeps from round to round.
use Rattle.std.proofs.Common.{◌≡◌, ℕ, ◌+◌, ◌*◌, ◌<◌, ◌≤◌, ◌⊎◌, inl, inr, arith, ap, subst, ◌∙◌, List, [], ◌∷◌, ◌++◌, length, take, mul-le-mul, length-take}
use Rattle.std.specs.Prelude.{All, Contains}
use Rattle.std.proofs.lemmas.List.{take-append-le}
use Rattle.std.proofs.lemmas.List.Elements.{All-take, All-push, Contains-get_or}
use Rattle.exact_lp.specs.declared.row.Row.{Row}
use Rattle.exact_lp.specs.declared.answer.Limits.{Limits}
use Rattle.exact_lp.specs.declared.answer.WeakCause.{WeakCause}
use Rattle.exact_lp.specs.declared.answer.WeakCause.TheVariants.{Left, Pivots, Rounds, Cells, Scale}
use Rattle.exact_lp.specs.Answers.{MayCause}

-- a row is an opening row or stands
abbrev pub IsGiven : List Row → (Row → Type 0) → Row → Type 0
IsGiven opening stands row = Contains opening row ⊎ stands row

pub given-start : (opening : List Row) (stands : Row → Type 0) → All (IsGiven opening stands) opening
given-start opening stands k d h = inl (Contains-get_or opening k d h)

pub given-more : (opening rows : List Row) (stands : Row → Type 0) (row : Row) → All (IsGiven opening stands) rows → stands row → All (IsGiven opening stands) (rows ++ row ∷ [])
given-more opening rows stands row all so = All-push (IsGiven opening stands) rows row all (inr so)

pub prefix-more : (opening rows : List Row) (row : Row) → take (length opening) rows ≡ opening → take (length opening) (rows ++ row ∷ []) ≡ opening
prefix-more opening rows row e =
    let long : length opening ≤ length rows = omega (arith, ap length e, length-take (length opening) rows) in
    take-append-le (length opening) rows (row ∷ []) long ∙ e

pub prefix-all : (P : Row → Type 0) (opening rows : List Row) → take (length opening) rows ≡ opening → All P rows → All P opening
prefix-all P opening rows e all = subst (All P) e (All-take P (length opening) rows all)

-- a product grows with its factors
wider : (m rows count n : ℕ) → m ≤ rows → n ≤ (m + 1) * (count + m + 2) → n ≤ (rows + 1) * (count + rows + 2)
wider m rows count n h k =
    let p : (m + 1) * (count + m + 2) ≤ (rows + 1) * (count + rows + 2) = mul-le-mul (omega arith) (omega arith) in omega arith

pub cause-wider : (limits : Limits) (m rows count before old new : ℕ) (cause : WeakCause) → m ≤ rows → before ≤ old → MayCause limits m count old new cause → MayCause limits rows count before new cause
cause-wider limits m rows count before old new Left h k c = omega arith
cause-wider limits m rows count before old new (Pivots n) h k c = c
cause-wider limits m rows count before old new (Rounds n) h k c = c
cause-wider limits m rows count before old new (Cells n) h k c = (c.0, wider m rows count n h c.1)
cause-wider limits m rows count before old new (Scale n) h k c = c

-- the table after one more row
pub next-wider : (m rows count n : ℕ) → m < rows → n ≤ (m + 2) * (count + m + 3) → n ≤ (rows + 1) * (count + rows + 2)
next-wider m rows count n h k =
    let p : (m + 2) * (count + m + 3) ≤ (rows + 1) * (count + rows + 2) = mul-le-mul (omega arith) (omega arith) in omega arith
