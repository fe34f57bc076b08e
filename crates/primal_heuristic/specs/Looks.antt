-- What is looked at while the greedy plan is made.
use Rattle.std.specs.Prelude.{ℕ, ◌<◌, nat_le, if◌then◌else◌, List, length, slice_index, sum_by, Option, Some, None}
use Rattle.station.specs.Allowed.{numbers}
use Rattle.patterns.specs.Book.{offers_of}
use Rattle.pair_prices.specs.Case.{CaseRecord}
use Rattle.primal_heuristic.specs.declared.greedy_plan.Added.{Added}
use Rattle.primal_heuristic.specs.Greedy.{added_cost, is_against, is_free, price_beside}

-- The numbers are those of the first trains' patterns, and there is a next train.
pub record AreEarlier (c : CaseRecord) (earlier : List ℕ) : Type 0 where
  pub few : length earlier < length c.book
  pub there : (s : ℕ) → s < length earlier → slice_index earlier s < length (offers_of c.book s)

-- what a pattern costs beside that of train s, if it may stand there
abbrev pub price_against : CaseRecord → List ℕ → ℕ → ℕ → Option ℕ
price_against c earlier number s = if is_against c earlier number s then None else Some (price_beside c earlier number s)

-- what a pattern costs beside all earlier choices, if it is free
abbrev pub prices_beside : CaseRecord → List ℕ → ℕ → Option ℕ
prices_beside c earlier number =
    if is_free c earlier number then Some (sum_by (price_beside c earlier number) (numbers (length earlier))) else None

-- a pattern with what it adds, if it is free
abbrev pub look_at : CaseRecord → List ℕ → ℕ → Option Added
look_at c earlier number =
    if is_free c earlier number then Some (record { number = number; cost = added_cost c earlier number }) else None

-- the one that adds less, and the earlier of two that add the same
abbrev pub less_of : Option Added → Option Added → Option Added
less_of None new = new
less_of (Some a) None = Some a
less_of (Some a) (Some b) = if nat_le a.cost b.cost then Some a else Some b
