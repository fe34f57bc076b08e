-- What the bytes of a plan file are read as.
use Rattle.std.specs.Prelude.{◌≡◌, ℕ, zero, suc, ◌+◌, ◌==◌, nat_lt, if◌then◌else◌, List, [], ◌∷◌, ◌++◌, map, length, Option, Some, None, Result, Ok, Err, ⊤}
use Rattle.std.specs.Option.{option_map}
use Rattle.station.specs.Allowed.{numbers}
use Rattle.patterns.specs.Book.{offers_of}
use Rattle.pair_prices.specs.Case.{CaseRecord}
use Rattle.plan_cost.specs.declared.plan.Plan.{Plan}
use Rattle.plan_cost.specs.declared.record.PlanRecord.{PlanRecord}
use Rattle.plan_cost.specs.declared.record.PlanRecord.TheVariants.{Header, Choice, End}
use Rattle.plan_cost.specs.declared.refusal.PlanKind.{PlanKind}
use Rattle.plan_cost.specs.declared.refusal.PlanKind.TheVariants.{Record, Train, Choice as NoChoice, Trail}
use Rattle.plan_cost.specs.declared.refusal.PlanRefused.{PlanRefused}
use Rattle.plan_cost.specs.declared.refusal.PlanFault.{PlanFault}
use Rattle.plan_cost.specs.declared.refusal.PlanFault.TheVariants.{Memory, Refused}
use Rattle.plan_cost.specs.First.{first_of}
use Rattle.plan_cost.specs.PlanLine.{after_line, record_at}

-- what is wrong where the header is due: it must have the station's number of trains
abbrev pub header_fault : ℕ → Result PlanRecord PlanKind → Option PlanKind
header_fault trains (Err kind) = Some kind
header_fault trains (Ok (Header told)) = if told == trains then None else Some Train
header_fault trains (Ok (Choice told number)) = Some Record
header_fault trains (Ok End) = Some Record

-- what is wrong where the choice of this train is due, which has so many patterns
abbrev pub choice_fault : ℕ → ℕ → Result PlanRecord PlanKind → Option PlanKind
choice_fault train patterns (Err kind) = Some kind
choice_fault train patterns (Ok (Header told)) = Some Record
choice_fault train patterns (Ok (Choice told number)) =
    if told == train then (if nat_lt number patterns then None else Some NoChoice) else Some Train
choice_fault train patterns (Ok End) = Some Train

-- what is wrong where the end is due
abbrev pub end_fault : Result PlanRecord PlanKind → Option PlanKind
end_fault (Err kind) = Some kind
end_fault (Ok (Header told)) = Some Record
end_fault (Ok (Choice told number)) = Some Train
end_fault (Ok End) = None

-- behind the last record nothing may stand
abbrev pub trail_fault : List ℕ → Option PlanKind
trail_fault [] = None
trail_fault (byte ∷ bytes) = Some Trail

-- a fault of the record of this number, counted from 1
abbrev pub refused_at : ℕ → Option PlanKind → Option PlanRefused
refused_at number fault = option_map (λ kind. record { kind = kind; at = number }) fault

-- the refusal of each record, by the bytes that it begins: the header is the first, then come the choices and the end
abbrev pub header_refusal : ℕ → List ℕ → Option PlanRefused
header_refusal trains bytes = refused_at 1 (header_fault trains (record_at bytes))

abbrev pub choice_refusal : CaseRecord → ℕ → List ℕ → Option PlanRefused
choice_refusal c train bytes = refused_at (train + 2) (choice_fault train (length (offers_of c.book train)) (record_at bytes))

abbrev pub end_refusal : ℕ → List ℕ → Option PlanRefused
end_refusal trains bytes = refused_at (trains + 2) (end_fault (record_at bytes))

abbrev pub trail_refusal : ℕ → List ℕ → Option PlanRefused
trail_refusal trains bytes = refused_at (trains + 3) (trail_fault bytes)

-- the bytes behind so many lines
abbrev pub behind : ℕ → List ℕ → List ℕ
behind zero bytes = bytes
behind (suc lines) bytes = behind lines (after_line bytes)

-- the refusals of the choices, which begin with these bytes
abbrev pub choice_refusals : CaseRecord → List ℕ → List (Option PlanRefused)
choice_refusals c bytes = map (λ t. choice_refusal c t (behind t bytes)) (numbers (length c.book))

-- the refusals of all records in their order, and of what stands behind them
abbrev pub refusals : CaseRecord → List ℕ → List (Option PlanRefused)
refusals c bytes =
    let trains = length c.book in
    header_refusal trains bytes
    ∷ choice_refusals c (behind 1 bytes)
    ++ end_refusal trains (behind (suc trains) bytes)
    ∷ trail_refusal trains (behind (suc (suc trains)) bytes)
    ∷ []

abbrev pub first_refusal : List (Option PlanRefused) → Option PlanRefused
first_refusal = first_of (λ refusal. refusal)

-- the number of a choice
abbrev pub number_of : Result PlanRecord PlanKind → ℕ
number_of (Ok (Choice train number)) = number
number_of _ = 0

-- the numbers of the choices, which begin with these bytes
abbrev pub numbers_read : ℕ → List ℕ → List ℕ
numbers_read trains bytes = map (λ t. number_of (record_at (behind t bytes))) (numbers trains)

pub data PlanReading : Type 0 where
  taken : List ℕ → PlanReading
  refused : PlanRefused → PlanReading

abbrev pub reading_by : Option PlanRefused → List ℕ → PlanReading
reading_by None plan = taken plan
reading_by (Some r) plan = refused r

-- the first refusal, or else the plan of the numbers
unfoldable pub plan_reading : CaseRecord → List ℕ → PlanReading
plan_reading c bytes = reading_by (first_refusal (refusals c bytes)) (numbers_read (length c.book) (behind 1 bytes))

-- A plan only where the bytes are read as it, a refusal only where it is theirs. Want of memory may come at any bytes.
abbrev pub Answers : PlanReading → Result Plan PlanFault → Type 0
Answers reading (Ok plan) = reading ≡ taken plan.choice
Answers reading (Err Memory) = ⊤
Answers reading (Err (Refused r)) = reading ≡ refused r

-- the fault is this first refusal, or want of memory
abbrev pub Refuses : Option PlanRefused → PlanFault → Type 0
Refuses first Memory = ⊤
Refuses first (Refused r) = first ≡ Some r
