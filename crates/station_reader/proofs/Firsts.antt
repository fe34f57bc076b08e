-- The first failing place, a step at a time.
use Rattle.std.proofs.Common.{◌≡◌, ℕ, ◌+◌, ◌<◌, List, length, map, drop, get_or, Option, None, add-one, drop-cons}
use Rattle.station_reader.specs.First.{each_from}

pub each-step : {V X A : Type 0} (fault : ℕ → X → Option A) (f : V → X) (vs : List V) (i : ℕ) (v : V) → i < length vs → v ≡ get_or vs i v → None ≡ fault i (f v)
    → each_from fault i (map f (drop i vs)) ≡ each_from fault (i + 1) (map f (drop (i + 1) vs))
each-step fault f vs i v h is none = rw (add-one, drop-cons vs i v, ← is, ← none)
