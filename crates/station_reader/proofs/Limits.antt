-- What it means that an integer is within its limits.
use Rattle.std.proofs.Common.{◌≡◌, ◌≤◌, true, false, sym, arith, nat_le, true≢false, ℤ, pos, negsuc, ◌≤ℤ◌}
use Rattle.std.proofs.lemmas.Int.{ints}
use borrow.Author.Tests.{leb-true}
use Rattle.station_reader.specs.declared.member.Member.{Member}
use Rattle.station_reader.specs.Tree.{natural}
use Rattle.station_reader.specs.Classes.{least, most, within}
use Rattle.station.proofs.Tests.{left, right}

pub natural-most : (m : Member) (z : ℤ) → within m z ≡ true → natural z ≤ most m
natural-most m (pos n) h = leb-true n (most m) (right _ _ h)
natural-most m (negsuc n) h = omega arith

pub natural-least : (m : Member) (z : ℤ) → within m z ≡ true → least m ≤ natural z
natural-least m (pos n) h = leb-true (least m) n (left _ _ h)
natural-least m (negsuc n) h = absurd (true≢false (sym h))

pub integer-least : (m : Member) (z : ℤ) → within m z ≡ true → pos 0 ≤ℤ z
integer-least m (pos n) h = omega (arith, ints)
integer-least m (negsuc n) h = absurd (true≢false (sym h))

pub integer-most : (m : Member) (z : ℤ) → within m z ≡ true → z ≤ℤ pos (most m)
integer-most m (pos n) h = let below : n ≤ most m = leb-true n (most m) (right (nat_le (least m) n) (nat_le n (most m)) h) in omega (arith, ints)
integer-most m (negsuc n) h = absurd (true≢false (sym h))
