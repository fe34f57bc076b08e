-- The prices of columns.
use Rattle.std.specs.Prelude.{◌≡◌, ℕ, List, length, map, slice_index}
use Rattle.patterns.specs.Book.{price_at}
use Rattle.patterns.specs.Allowed.{FitsBook, list_of}
use Rattle.pair_prices.specs.Case.{CaseRecord}
use Rattle.pair_prices.specs.Plan.{platform_price}
use Rattle.pair_prices.specs.Top.{top_of}
use Rattle.pattern_pricing.specs.declared.column.Column.{Column}
use Rattle.pattern_pricing.specs.declared.column.Column.TheVariants.{Weight, LeftOut, PlatformUse, PairValue}
use Rattle.pattern_pricing.specs.Layout.{LayoutRecord, columns_of}

-- The lists fit the case's book, and there are as many platforms as in its station.
pub record IsLayoutOf (c : CaseRecord) (l : LayoutRecord) : Type 0 where
  pub lists : FitsBook l.lists c.book
  pub platforms : l.platforms ≡ length c.station.platforms

-- the pattern's price, TOP for left out, the platform's price, and 1 for the value of a pair
abbrev pub price_of_column : CaseRecord → LayoutRecord → Column → ℕ
price_of_column c l (Weight w) = price_at c.book w.train (slice_index (list_of l.lists w.train) w.place)
price_of_column c l (LeftOut train) = top_of c
price_of_column c l (PlatformUse platform) = platform_price c platform
price_of_column c l (PairValue p) = 1

-- the prices of all columns, in the order of their numbers
unfoldable pub prices_of : CaseRecord → LayoutRecord → List ℕ
prices_of c l = map (price_of_column c l) (columns_of l)

-- a case, and a layout of it
pub record PricingRecord : Type 0 where
  pub case : CaseRecord
  pub layout : LayoutRecord

abbrev pub column_count : PricingRecord → ℕ
column_count p = length (columns_of p.layout)

abbrev pub column_price : PricingRecord → ℕ → ℕ
column_price p number = slice_index (prices_of p.case p.layout) number
