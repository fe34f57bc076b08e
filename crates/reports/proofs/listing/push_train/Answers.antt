use Rattle.std.proofs.Common.{◌≡◌, ◌∙◌, ◌+◌, ◌++◌, ap, length, arith}
use Rattle.std.specs.Prelude.{flat_map}
use Rattle.station.specs.Allowed.{numbers}
use Rattle.patterns.specs.Book.{offers_of}
use Rattle.patterns.proofs.Steps.{appended_more, flat_map_numbers_more}
use Rattle.reports.specs.Text.{pattern_line}
use Rattle.reports.proofs.listing.push_train.Goals as goal

pub loop-number-preserved : goal.loop-number-preserved
loop-number-preserved c =
    let line = pattern_line c.args.case.now c.args.train in
    appended_more c.args.into.now.items c.loop-number.into.items c.push_pattern.new.into.items (flat_map line (numbers c.loop-number.number))
    (line c.loop-number.number) (flat_map line (numbers (c.loop-number.number + 1)))
    c.loop-number.invariant c.in_ok-push_pattern.ensures (flat_map_numbers_more line c.loop-number.number)

pub returns : goal.returns
returns c =
    let same : c.count-count.result ≡ length (offers_of c.args.case.now.book c.args.train) =
    c.count-count.ensures.value ∙ ap (λ b. length (offers_of b c.args.train)) c.book.ensures in
    let end : c.loop-number.number ≡ length (offers_of c.args.case.now.book c.args.train) = omega (arith, same) in
    c.loop-number.invariant ∙ ap (λ n. c.args.into.now.items ++ flat_map (pattern_line c.args.case.now c.args.train) (numbers n)) end
