-- What an account says of prices, and what is paid for platforms whose use is held down.
use Rattle.std.specs.Prelude.{◌≡◌, ◌≢◌, ℕ, ◌<◌, Bool, List, length, All, ℤ, pos, ◌+ℤ◌, ◌-ℤ◌, ◌*ℤ◌, ◌≤ℤ◌}
use Rattle.std.specs.Int.{int_max}
use Rattle.std.specs.Map.{keys_of, values_of}
use Rattle.patterns.specs.Allowed.{list_of}
use Rattle.patterns.specs.Book.{price_at}
use Rattle.pair_prices.specs.Case.{CaseRecord}
use Rattle.pair_prices.specs.Fraction.{pattern_of}
use Rattle.pair_prices.specs.Plan.{platform_price}
use Rattle.pair_prices.specs.Top.{sealed_price}
use Rattle.pattern_pricing.specs.Layout.{LayoutRecord}
use Rattle.dual_leaves.specs.declared.key.MinuteKey.{MinuteKey}
use Rattle.dual_leaves.specs.Account.{Totals, IsKept, IsMinuteKey, NoneBelow, given_at, number_in, of_number, of_pair, on_platform, sum_of}
use Rattle.dual_leaves.specs.Sums.{summed}

-- a platform's price at the scale
abbrev pub use_price : CaseRecord → ℤ → ℕ → ℤ
use_price c scale platform = scale *ℤ pos (platform_price c platform)

-- A train pays at most a pattern's price and what the pattern is given, and two trains at most their sealed price, all at the scale.
pub record IsPriced (c : CaseRecord) (l : LayoutRecord) (scale leasts : ℤ) (a : Totals) : Type 0 where
  pub weights : (train place : ℕ) → train < length l.lists → place < length (list_of l.lists train)
      → of_number a.u train ≤ℤ ((scale *ℤ pos (price_at c.book train (number_in l train place))) +ℤ given_at c a train (number_in l train place))
  pub pairs : (first second i j : ℕ) → first < second → second < length l.lists
      → i < length (list_of l.lists first) → j < length (list_of l.lists second)
      → (of_pair a.alpha first second (number_in l first i) +ℤ of_pair a.beta first second (number_in l second j))
      ≤ℤ (scale *ℤ pos (sealed_price c (pattern_of c l.lists first i) (pattern_of c l.lists second j)))
  pub cost : sum_of a.u -ℤ sum_of a.uses ≡ leasts
  pub kept : IsKept l a

-- For a platform at most its price at the scale is paid, and what holds down its use.
abbrev pub AreUsesPriced : CaseRecord → LayoutRecord → ℤ → Totals → Type 0
AreUsesPriced c l scale a =
    (platform : ℕ) → platform < l.platforms → on_platform a.v platform ≤ℤ (use_price c scale platform +ℤ of_number a.uses platform)

-- what is paid for a platform beyond its price
abbrev pub paid_above : CaseRecord → ℤ → List (MinuteKey × ℤ) → ℕ → ℤ
paid_above c scale v platform = int_max (on_platform v platform -ℤ use_price c scale platform) (pos 0)

-- More may be paid, but not for other platforms. Where the platform is one of so many, its keys are there.
pub record AreFirstPaid (c : CaseRecord) (scale : ℤ) (uses : List (ℕ × ℤ)) (platform : ℕ) (old new : List (MinuteKey × ℤ)) : Type 0 where
  pub more : (test : MinuteKey → Bool) → summed test old ≤ℤ summed test new
  pub others : (other : ℕ) → other ≢ platform → on_platform new other ≡ on_platform old other
  pub excess : paid_above c scale new platform ≡ of_number uses platform
  pub keys : (l : LayoutRecord) → platform < l.platforms → All (IsMinuteKey l) (keys_of old) → All (IsMinuteKey l) (keys_of new)
  pub least : NoneBelow (values_of old) → NoneBelow (values_of new)

-- More may be paid, and beyond the price of each platform just what holds down its use is paid.
pub record AreUsesPaid (c : CaseRecord) (scale : ℤ) (uses : List (ℕ × ℤ)) (old new : List (MinuteKey × ℤ)) : Type 0 where
  pub more : (test : MinuteKey → Bool) → summed test old ≤ℤ summed test new
  pub excess : (platform : ℕ) → platform < length c.station.platforms → paid_above c scale new platform ≡ of_number uses platform
  pub keys : (l : LayoutRecord) → l.platforms ≡ length c.station.platforms → All (IsMinuteKey l) (keys_of old) → All (IsMinuteKey l) (keys_of new)
  pub least : NoneBelow (values_of old) → NoneBelow (values_of new)
