-- A draw is below its limit.
use Rattle.std.proofs.Common.{ℕ, ◌/◌, ◌^◌, ◌<◌}
use Rattle.std.proofs.lemmas.Nat.{mod_below}
use Rattle.station_gen.specs.Made.{drawn}

pub drawn_below : (state n : ℕ) → 0 < n → drawn state n < n
unfolding drawn
drawn_below state n h = mod_below (state / 2 ^ 33) n h
