-- No column's price is above TOP.
use Rattle.std.proofs.Common.{ℕ, zero, suc, ◌<◌, ◌≤◌, List, [], ◌∷◌, length, get_or, arith}
use Rattle.std.specs.Prelude.{sum_by, slice_get, slice_index, slice_index_or}
use Rattle.std.proofs.lemmas.List.Sums.{sum_by-cons}
use Rattle.station.specs.declared.part.Platform.{Platform}
use Rattle.patterns.specs.declared.offer.Offer.{Offer}
use Rattle.patterns.specs.Book.{Offers, offers_of, no_offer, price_at}
use Rattle.pair_prices.specs.Case.{CaseRecord}
use Rattle.pair_prices.specs.Plan.{platform_price, price_of_platform}
use Rattle.pair_prices.specs.Top.{greatest_price, top_of}
use Rattle.patterns.specs.Allowed.{list_of}
use Rattle.pattern_pricing.specs.declared.column.Column.{Column}
use Rattle.pattern_pricing.specs.declared.column.Column.TheVariants.{Weight, LeftOut, PlatformUse, PairValue}
use Rattle.pattern_pricing.specs.Layout.{LayoutRecord, columns_of}
use Rattle.pattern_pricing.specs.Prices.{price_of_column, prices_of}
use Rattle.std.proofs.lemmas.List.{get_or-map}

in_list : (os : List Offer) (n : ℕ) → (slice_index_or os n no_offer).price ≤ greatest_price os
in_list [] n = omega arith
in_list (o ∷ os) zero = omega arith
in_list (o ∷ os) (suc n) = let rest = in_list os n in omega (arith, rest)

in_book : (book : Offers) (t : ℕ) → greatest_price (offers_of book t) ≤ sum_by greatest_price book
in_book [] t = omega arith
in_book (os ∷ book) zero = let e = sum_by-cons greatest_price os book in omega (arith, e)
in_book (os ∷ book) (suc t) =
    let e = sum_by-cons greatest_price os book in
    let rest = in_book book t in
    omega (arith, e, rest)

in_platforms : (ps : List Platform) (n : ℕ) → price_of_platform (slice_get ps n) ≤ sum_by (λ p. p.price) ps
in_platforms [] n = omega arith
in_platforms (p ∷ ps) zero = let e = sum_by-cons (λ (q : Platform). q.price) p ps in omega (arith, e)
in_platforms (p ∷ ps) (suc n) =
    let e = sum_by-cons (λ (q : Platform). q.price) p ps in
    let rest = in_platforms ps n in
    omega (arith, e, rest)

pattern_most : (c : CaseRecord) (t n : ℕ) → price_at c.book t n ≤ top_of c
unfolding top_of
pattern_most c t n =
    let a = in_list (offers_of c.book t) n in
    let b = in_book c.book t in
    omega (arith, a, b)

platform_most : (c : CaseRecord) (p : ℕ) → platform_price c p ≤ top_of c
unfolding top_of
platform_most c p =
    let a = in_platforms c.station.platforms p in
    omega (arith, a)

one_most : (c : CaseRecord) → 1 ≤ top_of c
unfolding top_of
one_most c = omega arith

pub price_most : (c : CaseRecord) (l : LayoutRecord) (col : Column) → price_of_column c l col ≤ top_of c
price_most c l (Weight w) = pattern_most c w.train (slice_index (list_of l.lists w.train) w.place)
price_most c l (LeftOut t) = omega arith
price_most c l (PlatformUse p) = platform_most c p
price_most c l (PairValue p) = one_most c

pub prices_most : (c : CaseRecord) (l : LayoutRecord) (n : ℕ) → n < length (columns_of l) → slice_index (prices_of c l) n ≤ top_of c
unfolding prices_of
prices_most c l n h =
    let d : Column = LeftOut 0 in
    let e = get_or-map (price_of_column c l) (columns_of l) n d 0 h in
    let most = price_most c l (get_or (columns_of l) n d) in
    omega (arith, e, most)
