-- The leaf of the least prices.
use Rattle.std.proofs.Common.{◌≡◌, ℕ, ◌<◌, ◌≤◌, [], length, arith}
use Rattle.std.specs.Prelude.{◌^◌, pos}
use Rattle.std.proofs.lemmas.List.Elements.{All-weaker}
use Rattle.patterns.specs.Book.{Offers, IsBook, no_offer, offers_of, price_at}
use Rattle.patterns.specs.Allowed.{Lists, list_of, FitsBook}
use Rattle.pair_prices.specs.Case.{CaseRecord}
use Rattle.leaf_bounds.specs.declared.leaf.Leaf.{Leaf}
use Rattle.leaf_bounds.specs.Building.{AreTrainValues, value_list}
use Rattle.leaf_bounds.specs.Made.{least_price, IsPlainLeaf}
use Rattle.leaf_bounds.proofs.BareLemmas.{are_values, unit_made, unit_value}
use Rattle.leaf_bounds.proofs.LeastLemmas.{least_limit, least_within}

pub price_limit : (book : Offers) (t n : ℕ) → IsBook book → t < length book → n < length (offers_of book t) → price_at book t n ≤ 10 ^ 10
price_limit book t n h l m = h.prices t [] l n no_offer m

module _ (c : CaseRecord) (lists : Lists) (fits : FitsBook lists c.book) (book : IsBook c.book) where
  least_small : (t : ℕ) → t < length c.book → least_price c lists t ≤ 10 ^ 10
  least_small t h =
      least_limit (price_at c.book t) (list_of lists t) (10 ^ 10)
      (All-weaker (λ n. n < length (offers_of c.book t)) (λ n. price_at c.book t n ≤ 10 ^ 10) (λ n l. price_limit c.book t n book h l) (list_of lists t)
      (fits.there t (omega (arith, fits.trains, h))))

  pub plain_values : AreTrainValues (value_list (least_price c lists) (length c.book))
  plain_values = are_values (least_price c lists) (length c.book) book.trains (λ t h. let small = least_small t h in omega (arith, small))

pub plain_made : (c : CaseRecord) (lists : Lists) (l : Leaf) → l.q ≡ pos 1 → l.u ≡ value_list (least_price c lists) (length c.book) → l.v ≡ []
    → l.alpha ≡ [] → l.beta ≡ [] → IsPlainLeaf c lists l
plain_made c lists l q u v alpha beta = record {
  leaf = unit_made c lists l (least_price c lists) q u v alpha beta (λ t i h ci. least_within (price_at c.book t) (list_of lists t) i ci);
  value = unit_value c lists l (least_price c lists) q u v alpha beta;
}
