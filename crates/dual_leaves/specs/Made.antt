-- The leaf of an account: its numbers over a common divisor.
use Rattle.std.specs.Prelude.{◌≡◌, ℕ, ◌<◌, ◌^◌, ◌⊎◌, length, ℤ, pos, ◌*ℤ◌, ◌≤ℤ◌, ◌<ℤ◌, unsigned_abs}
use Rattle.std.specs.Map.{values_of}
use Rattle.leaf_bounds.specs.declared.leaf.Leaf.{Leaf}
use Rattle.pair_prices.specs.Case.{CaseRecord}
use Rattle.pattern_pricing.specs.Layout.{LayoutRecord}
use Rattle.dual_leaves.specs.Account.{Totals, of_number}
use Rattle.dual_leaves.specs.Divided.{AreSmall, minute_value, pair_value, quotients, train_value}
use Rattle.dual_leaves.specs.Priced.{IsPriced, paid_above}

-- The account keeps to prices, and beyond the price of each platform just what holds down its use is paid.
pub record IsDualAccount (c : CaseRecord) (l : LayoutRecord) (scale leasts : ℤ) (a : Totals) : Type 0 where
  pub priced : IsPriced c l scale leasts a
  pub excess : (platform : ℕ) → platform < length c.station.platforms → paid_above c scale a.v platform ≡ of_number a.uses platform

-- The leaf has this scale, and the account's numbers divided.
pub record IsDividedLeaf (scale divisor : ℤ) (a : Totals) (leaf : Leaf) : Type 0 where
  pub q : leaf.q ≡ scale
  pub u : leaf.u ≡ quotients train_value divisor a.u
  pub v : leaf.v ≡ quotients minute_value divisor a.v
  pub alpha : leaf.alpha ≡ quotients pair_value divisor a.alpha
  pub beta : leaf.beta ≡ quotients pair_value divisor a.beta

-- Scale and quotients are those of a leaf in size.
pub record AreSizes (scale divisor : ℤ) (a : Totals) : Type 0 where
  pub scale_most : scale ≤ℤ pos (10 ^ 18)
  pub u : AreSmall divisor (values_of a.u)
  pub v : AreSmall divisor (values_of a.v)
  pub alpha : AreSmall divisor (values_of a.alpha)
  pub beta : AreSmall divisor (values_of a.beta)

-- n is this scale, which is above 10^18, or is above 10^30 in size
abbrev pub IsTooWideOver : ℤ → ℤ → Type 0
IsTooWideOver scale n = ((n ≡ scale) × (pos (10 ^ 18) <ℤ n)) ⊎ (10 ^ 30 < unsigned_abs n)

-- n is the scale over a common divisor, and above 10^18, or is above 10^30 in size
abbrev pub IsTooWide : ℤ → ℤ → Type 0
IsTooWide scale n = ((divisor : ℤ) × (n *ℤ divisor ≡ scale) × (pos (10 ^ 18) <ℤ n)) ⊎ (10 ^ 30 < unsigned_abs n)
