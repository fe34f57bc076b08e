use Rattle.std.proofs.Common.{ℕ, ◌+◌, ◌≤◌, ◌^◌, List, length}
use Rattle.proof_file.specs.Reader.{IsAt}
use Rattle.proof_file.proofs.PieceLemmas.{Through}
use Rattle.proof_file.proofs.lines.LineReader.read.Given as goal

abbrev pub invariant-loop-part : goal.invariant-loop-part
invariant-loop-part l =
    (bytes : List ℕ) → IsAt l.initial.self bytes → length bytes + length l.piece ≤ 2 ^ 63
    → Through bytes l.piece l.rest l.self l.initial.into.items l.into.items

abbrev pub decreases-loop-part : goal.decreases-loop-part
decreases-loop-part l = length l.rest
