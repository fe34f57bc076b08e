-- The record that the bytes of a plan file begin with.
use Rattle.std.specs.Prelude.{ℕ, ◌==◌, Bool, nat_lt, if◌then◌else◌, List, [], ◌∷◌, length, slice_index_or, codes, Option, Some, None, Result, Ok, Err, ℤ, pos, unsigned_abs}
use Rattle.std.specs.Option.{option_map, ok_or}
use Rattle.std.specs.Result.{result_ok}
use Rattle.std.specs.List.{before_first, after_first, position_or_len}
use Rattle.record_table.specs.declared.kind.Range.{Range}
use Rattle.record_table.specs.Judge.{answer_for}
use Rattle.plan_cost.specs.declared.record.PlanRecord.{PlanRecord}
use Rattle.plan_cost.specs.declared.record.PlanRecord.TheVariants.{Header, Choice, End}
use Rattle.plan_cost.specs.declared.refusal.PlanKind.{PlanKind}
use Rattle.plan_cost.specs.declared.refusal.PlanKind.TheVariants.{Record, Short}
use Rattle.plan_cost.specs.First.{or_else}

abbrev pub range : ℕ → ℕ → Range
range least most = record { least = pos least; most = pos most }

-- the version, and the number of trains
abbrev pub header_ranges : List Range
header_ranges = range 1 1 ∷ range 0 200 ∷ []

-- the train, and the number of its pattern
abbrev pub choice_ranges : List Range
choice_ranges = range 0 199 ∷ range 0 4095 ∷ []

-- the numbers of a line of this word with numbers in these ranges, if it is one
abbrev pub values_in : ℕ → List ℕ → List Range → List ℕ → Option (List ℤ)
values_in count word ranges text = result_ok (answer_for count word ranges text)

abbrev pub value_at : List ℤ → ℕ → ℕ
value_at values k = unsigned_abs (slice_index_or values k (pos 0))

abbrev pub header_of : List ℤ → PlanRecord
header_of values = Header (value_at values 1)

abbrev pub choice_of : List ℤ → PlanRecord
choice_of values = Choice (value_at values 0) (value_at values 1)

-- the record that a line without its newline is, if it is one
unfoldable pub record_in : List ℕ → Option PlanRecord
record_in text =
    or_else (option_map header_of (values_in 2 (codes "tpp-plan") header_ranges text))
    (or_else (option_map choice_of (values_in 2 (codes "choice") choice_ranges text))
    (option_map (λ values. End) (values_in 0 (codes "end") [] text)))

abbrev pub is_newline : ℕ → Bool
is_newline byte = byte == 10

-- how many bytes stand before the first newline, or all where there is none
abbrev pub line_length : List ℕ → ℕ
line_length bytes = position_or_len is_newline bytes

abbrev pub line_in : List ℕ → List ℕ
line_in bytes = before_first is_newline bytes

abbrev pub after_line : List ℕ → List ℕ
after_line bytes = after_first is_newline bytes

-- The record of the first line, or what is wrong with that line: it has more than 80 bytes, it isn't ended, or it is no record.
unfoldable pub record_at : List ℕ → Result PlanRecord PlanKind
record_at bytes =
    if nat_lt 80 (line_length bytes) then Err Record
    else if nat_lt (line_length bytes) (length bytes) then ok_or (record_in (line_in bytes)) Record
    else Err Short
