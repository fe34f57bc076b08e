-- In the full lists a number's place is the number.
use Rattle.std.proofs.Common.{◌≡◌, ℕ, ◌+◌, ◌<◌, length, ap, ◌∙◌, arith}
use Rattle.std.specs.Prelude.{slice_index}
use Rattle.std.proofs.lemmas.List.FromFn.{get_or-range_with_len, length-range_with_len}
use Rattle.patterns.specs.Book.{Offers, offers_of}
use Rattle.patterns.specs.Allowed.{list_of, full_lists}
use Rattle.patterns.proofs.ListLemmas.{full_list-is}

pub full_count : (book : Offers) (t : ℕ) → length (list_of (full_lists book) t) ≡ length (offers_of book t)
full_count book t = ap length (full_list-is book t) ∙ length-range_with_len 0 (length (offers_of book t))

pub full_number : (book : Offers) (t i : ℕ) → i < length (offers_of book t) → slice_index (list_of (full_lists book) t) i ≡ i
full_number book t i h =
    ap (λ xs. slice_index xs i) (full_list-is book t) ∙ get_or-range_with_len 0 (length (offers_of book t)) i 0 h ∙ plain i
  where
    plain : (n : ℕ) → 0 + n ≡ n
    plain n = omega arith
