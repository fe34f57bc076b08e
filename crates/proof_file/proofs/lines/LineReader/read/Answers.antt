use Rattle.std.proofs.Common.{◌++◌}
use Rattle.proof_file.proofs.PieceLemmas.{starts, ends_through, line_fits, line_refused, line_through}
use Rattle.proof_file.proofs.lines.LineReader.read.Goals as goal

pub loop-part-init : goal.loop-part-init
loop-part-init c = λ bytes at small. starts bytes c.args.piece.now c.args.self.now c.args.into.now.items at

pub loop-part-preserved : goal.loop-part-preserved
loop-part-preserved c = λ bytes at small.
    let t = c.loop-part.invariant bytes at small in
    let s = c.in-Some.ensures.found in
    line_through bytes c.args.piece.now c.loop-part.rest.now c.loop-part.self c.args.into.now.items c.loop-part.into.items t
    c.in-Some.part.now c.in-Some.behind.now s c.end_line.new.self c.end_line.new.into.items
    (c.in_ok-end_line.ensures (bytes ++ t.front) t.at
    (line_fits bytes c.args.piece.now c.loop-part.rest.now c.loop-part.self c.args.into.now.items c.loop-part.into.items t
    c.in-Some.part.now c.in-Some.behind.now s small)
    s.plain)

pub returns-in_err-end_line : goal.returns-in_err-end_line
returns-in_err-end_line c = λ bytes at small.
    let t = c.loop-part.invariant bytes at small in
    let s = c.in-Some.ensures.found in
    line_refused bytes c.args.piece.now c.loop-part.rest.now c.loop-part.self c.args.into.now.items c.loop-part.into.items t
    c.in-Some.part.now c.in-Some.behind.now s c.end_line.new.self c.end_line.new.into.items c.in_err-end_line.field-0.0 c.from_residual.result c.from_residual.ensures.1
    (c.in_err-end_line.ensures (bytes ++ t.front) t.at
    (line_fits bytes c.args.piece.now c.loop-part.rest.now c.loop-part.self c.args.into.now.items c.loop-part.into.items t
    c.in-Some.part.now c.in-Some.behind.now s small)
    s.plain)

pub returns : goal.returns
returns c = λ bytes at small.
    let t = c.loop-part.invariant bytes at small in
    ends_through bytes c.args.piece.now c.loop-part.rest.now c.loop-part.self c.args.into.now.items c.loop-part.into.items t c.keep.new.self c.keep.result
    (c.keep.ensures (bytes ++ t.front) t.at c.in_default.ensures.none c.loop-part.into.items)
