use Rattle.std.proofs.Common.{◌≡◌, ◌∙◌, sym}
use Rattle.proof_check.specs.Walk.{state_of}
use Rattle.proof_check.proofs.ReadSteps.{part_ends, part_few, part_in_range, part_stops, some_bytes}
use Rattle.proof_check.proofs.reading.Reading.read_part.Goals as goal

pub go_on-requires-clause-range : goal.go_on-requires-clause-range
go_on-requires-clause-range c =
    part_in_range c.args.case.now c.args.self.now c.args.part.now c.as_slice.result.now c.clear.new.self.items c.clear.ensures.items
    (λ bytes r. c.as_slice.ensures.value ∙ c.feed-read.ensures.records bytes r (some_bytes c.feed-read.result (sym c.if-is_no_memory.ensures))) c.requires.somewhere

pub go_on-requires-clause-few : goal.go_on-requires-clause-few
go_on-requires-clause-few c =
    part_few c.args.case.now c.args.self.now c.args.part.now c.as_slice.result.now c.clear.new.self.items c.clear.ensures.items
    (λ bytes r. c.as_slice.ensures.value ∙ c.feed-read.ensures.records bytes r (some_bytes c.feed-read.result (sym c.if-is_no_memory.ensures))) c.requires.somewhere
    c.requires.room

pub returns-in_err-go_on-clause-reads : goal.returns-in_err-go_on-clause-reads
returns-in_err-go_on-clause-reads c =
    part_stops c.args.case.now c.args.self.now c.args.part.now c.as_slice.result.now c.clear.new.self.items c.clear.ensures.items
    (λ bytes r. c.as_slice.ensures.value ∙ c.feed-read.ensures.records bytes r (some_bytes c.feed-read.result (sym c.if-is_no_memory.ensures)))
    (record { reader = c.feed-read.new.self; records = c.feed-read.new.into; progress = c.go_on.new.self })
    (λ s. state_of c.go_on.new.self.walk ≡ s) c.from_residual.result c.in_err-go_on.field-0.0 c.from_residual.ensures.1 c.in_err-go_on.ensures.walked

pub returns-clause-reads : goal.returns-clause-reads
returns-clause-reads c =
    part_ends c.args.case.now c.args.self.now c.args.part.now c.as_slice.result.now c.clear.new.self.items c.clear.ensures.items
    (λ bytes r. c.as_slice.ensures.value ∙ c.feed-read.ensures.records bytes r (some_bytes c.feed-read.result (sym c.if-is_no_memory.ensures)))
    (record { reader = c.feed-read.new.self; records = c.feed-read.new.into; progress = c.go_on.new.self }) c.feed-read.result c.behind.result
    c.in_ok-go_on.ensures.walked c.in_ok-go_on.ensures.number (sym c.if-is_no_memory.ensures)
    (λ bytes r. c.feed-read.ensures.stands bytes r (some_bytes c.feed-read.result (sym c.if-is_no_memory.ensures)))
    (λ bytes r. c.feed-read.ensures.answer bytes r (some_bytes c.feed-read.result (sym c.if-is_no_memory.ensures)))
    c.behind.ensures
