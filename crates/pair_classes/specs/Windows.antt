-- The minutes within which a train can meet another: a span round all that its patterns hold, wished buffers included.
use Rattle.std.specs.Prelude.{◌≡◌, ℕ, ◌<◌, length, Bool, ◌||◌, Some, slice_get, List, slice_index_or, pos, ◌+ℤ◌, ◌≤ℤ◌, int_le}
use Rattle.station.specs.Allowed.{StationRecord}
use Rattle.station.specs.declared.part.PathWay.{PathWay}
use Rattle.station.specs.declared.part.Pattern.{Pattern}
use Rattle.path_conflicts.specs.declared.held.Held.{Held}
use Rattle.path_conflicts.specs.Minutes.{free_from, path_used}
use Rattle.patterns.specs.Book.{offers_of, pattern_at}
use Rattle.pair_prices.specs.Case.{CaseRecord}
use Rattle.pair_prices.specs.Pair.{buffer_of}
use Rattle.pair_prices.specs.Spans.{path_span}

-- the first span holds all minutes of the second
pub record Encloses (h a : Held) : Type 0 where
  pub start : h.start ≤ℤ a.start
  pub end : a.end ≤ℤ h.end

-- from the arrival until the wished buffer after the platform's headway is over
abbrev pub buffered_span : StationRecord → Pattern → Held
buffered_span r x = record { start = x.arrive; end = free_from r x +ℤ pos (buffer_of (slice_get r.platforms x.platform)) }

-- The span holds all minutes of the platform, its buffer and both paths.
pub record Covers (r : StationRecord) (x : Pattern) (h : Held) : Type 0 where
  pub platform : Encloses h (buffered_span r x)
  pub path : (way : PathWay) (p : ℕ) → path_used way x ≡ Some p → Encloses h (path_span r way x p)

-- the span covers each pattern of the train
abbrev pub CoversTrain : CaseRecord → ℕ → Held → Type 0
CoversTrain c t h = (i : ℕ) → i < length (offers_of c.book t) → Covers c.station (pattern_at c.book t i) h

abbrev pub no_span : Held
no_span = record { start = pos 0; end = pos 0 }

abbrev pub span_at : List Held → ℕ → Held
span_at spans t = slice_index_or spans t no_span

-- for each train a span that covers its patterns
pub record AreWindows (c : CaseRecord) (spans : List Held) : Type 0 where
  pub trains : length spans ≡ length c.book
  pub each : (t : ℕ) → t < length c.book → CoversTrain c t (span_at spans t)

-- no minute lies in both spans
abbrev pub are_apart : Held → Held → Bool
are_apart a b = int_le a.end b.start || int_le b.end a.start
