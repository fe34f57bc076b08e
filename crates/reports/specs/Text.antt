-- The lines of the reports.
use Rattle.std.specs.Prelude.{ℕ, List, [], ◌∷◌, ◌++◌, length, flat_map, codes, ℤ}
use Rattle.std.specs.Fmt.{decimal, signed_decimal}
use Rattle.station.specs.Allowed.{StationRecord, numbers}
use Rattle.station.specs.declared.part.PathWay.{PathWay}
use Rattle.station.specs.declared.part.PathWay.TheVariants.{In, Out}
use Rattle.station.specs.declared.part.Pattern.{Pattern}
use Rattle.patterns.specs.declared.offer.Offer.{Offer}
use Rattle.patterns.specs.Book.{offers_of, offer_at}
use Rattle.pair_prices.specs.declared.pair.Why.{Why}
use Rattle.pair_prices.specs.declared.pair.Why.TheVariants.{Platform, Paths}
use Rattle.pair_prices.specs.Case.{CaseRecord}
use Rattle.plan_cost.specs.declared.verdict.Costs.{Costs}
use Rattle.plan_cost.specs.declared.verdict.Clash.{Clash}
use Rattle.plan_cost.specs.declared.refusal.PlanKind.{PlanKind}
use Rattle.plan_cost.specs.declared.refusal.PlanKind.TheVariants.{Record, Train, Choice, Short, Trail}
use Rattle.plan_cost.specs.declared.refusal.PlanRefused.{PlanRefused}
use Rattle.plan_cost.specs.Verdict.{costs_of}
use Rattle.diagram.specs.Text.{platform_name, train_name, path_word, word, timetable_text}

-- the last word of a line, and its newline
abbrev pub last_word : List ℕ → List ℕ
last_word text = text ++ 10 ∷ []

-- a name and a number
abbrev pub amount_line : List ℕ → ℤ → List ℕ
amount_line name amount = word name ++ last_word (signed_decimal amount)

-- the costs of a plan
abbrev pub cost_lines : Costs → List ℕ
cost_lines k =
    amount_line (codes "cost") k.total ++ amount_line (codes "platforms") k.platforms ++ amount_line (codes "patterns") k.patterns
    ++ amount_line (codes "pairs") k.pairs

-- what a feasible plan costs, and the lines of its trains
unfoldable pub cost_text : CaseRecord → List ℕ → List ℕ
cost_text c plan = cost_lines (costs_of c plan) ++ timetable_text c plan

abbrev pub way_word : PathWay → List ℕ
way_word In = codes "in"
way_word Out = codes "out"

-- the platform, or the ways of the two path uses and the minutes that they overlap
abbrev pub why_words : Why → List ℕ
why_words Platform = codes "platform\n"
why_words (Paths over) = way_word over.first ++ codes " " ++ way_word over.second ++ codes " " ++ decimal over.minutes ++ codes "\n"

-- two trains whose patterns are forbidden together, and why
unfoldable pub conflict_text : StationRecord → Clash → List ℕ
conflict_text r clash = codes "Conflict " ++ word (train_name r clash.first) ++ word (train_name r clash.second) ++ why_words clash.why

-- the platform and the two paths of a pattern
abbrev pub places : StationRecord → Pattern → List ℕ
places r x = word (platform_name r x.platform) ++ word (path_word r x.path_in) ++ word (path_word r x.path_out)

-- its minutes of arrival and departure
abbrev pub minutes : Pattern → List ℕ
minutes x = word (signed_decimal x.arrive) ++ word (signed_decimal x.depart)

-- a train, and the number, the places, the minutes and the price of one of its patterns
unfoldable pub pattern_line : CaseRecord → ℕ → ℕ → List ℕ
pattern_line c train number =
    let offer = offer_at c.book train number in
    word (train_name c.station train) ++ word (decimal number) ++ places c.station offer.pattern ++ minutes offer.pattern ++ last_word (decimal offer.price)

-- the lines of all patterns of a train, by their numbers
abbrev pub train_patterns : CaseRecord → ℕ → List ℕ
train_patterns c train = flat_map (pattern_line c train) (numbers (length (offers_of c.book train)))

-- the lines of all trains in their order
unfoldable pub patterns_text : CaseRecord → List ℕ
patterns_text c = flat_map (train_patterns c) (numbers (length c.book))

-- the kinds of refusal by their numbers, and their words
abbrev pub kind_number : PlanKind → ℕ
kind_number Record = 1
kind_number Train = 2
kind_number Choice = 3
kind_number Short = 4
kind_number Trail = 5

abbrev pub kind_word : PlanKind → List ℕ
kind_word Record = codes "Record"
kind_word Train = codes "Train"
kind_word Choice = codes "Choice"
kind_word Short = codes "Short"
kind_word Trail = codes "Trail"

-- the record of a plan file that is refused, and why
unfoldable pub plan_refused_text : PlanRefused → List ℕ
plan_refused_text r =
    word (codes "Plan refused") ++ word (decimal (kind_number r.kind)) ++ word (kind_word r.kind) ++ word (codes "at") ++ last_word (decimal r.at)

-- a window that no chart has
unfoldable pub window_text : ℕ → ℕ → List ℕ
window_text start end = codes "Window " ++ decimal start ++ codes " " ++ decimal end ++ codes "\n"
