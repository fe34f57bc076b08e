use Rattle.std.proofs.Common.{ℕ, ◌≡◌, ◌+◌, ◌-◌, ◌<◌, ◌≤◌, length, sym, ap, ◌∙◌, subst, arith}
use Rattle.patterns.specs.Allowed.{Lists, list_of}
use Rattle.patterns.specs.Book.{Offers, IsBook}
use Rattle.pattern_pricing.specs.Kept.{AreStarts}
use Rattle.pattern_pricing.specs.Layout.{LayoutRecord}
use Rattle.pattern_pricing.proofs.Limits.{list_small}
use Rattle.pattern_pricing.proofs.layout.Layout.new.Goals as goal
use Rattle.pattern_pricing.proofs.layout.Layout.new.Goals.{After-deref}

are_small : (c : After-deref) → (t : ℕ) → t < length c.args.allowed.now.lists → length (list_of c.args.allowed.now.lists t) ≤ 4096
are_small c =
    let P : Offers → Type 0 = λ b. IsBook b in
    list_small c.args.allowed.now.lists c.args.case.now.book c.requires (subst P c.book-book.ensures c.trains-trains.ensures.limits)

pub starts_of-requires-clause-sizes : goal.starts_of-requires-clause-sizes
starts_of-requires-clause-sizes c =
    let same = c.deref.ensures.value ∙ c.in_ok-lists.ensures ∙ c.as_slice.ensures in
    let P : Lists → Type 0 = λ ls. (t : ℕ) → t < length ls → length (list_of ls t) ≤ 4096 in
    subst P (sym same) (are_small c)

pub invariant_of-result : goal.invariant_of-result
invariant_of-result c =
    let lists = c.from_vec.result in
    let l : LayoutRecord = record { lists = lists; platforms = c.len-platforms.result } in
    let same : lists ≡ c.args.allowed.now.lists = c.from_vec.ensures ∙ c.in_ok-lists.ensures ∙ c.as_slice.ensures in
    let lent : c.deref.result.now ≡ lists = c.deref.ensures.value ∙ sym c.from_vec.ensures in
    let trains : c.len.result ≡ length lists = c.len.ensures ∙ sym c.deref.ensures.len ∙ ap length lent in
    let P : Lists → Type 0 = λ ls. (t : ℕ) → t < length ls → length (list_of ls t) ≤ 4096 in
    let Q : Lists → Type 0 = λ ls. AreStarts (λ t. length (list_of ls t)) (length ls) c.in_ok-pattern_starts.pattern_starts.items in
    let R : ℕ → Type 0 = λ n. AreStarts (λ t. n - (t + 1)) n c.in_ok-pair_starts.pair_starts.items in
    let book = ap length c.book-book.ensures in
    let few = c.trains-trains.ensures.limits.trains in
    let fits = c.requires.trains in
    let long = ap length same in
    let few_platforms = c.station-station.ensures.limits.station.platforms_most in
    let same_platforms = ap (λ r. length r.platforms) c.station-station.ensures.value in
    let count = c.len-platforms.ensures in
    record {
      trains = omega (arith, book, few, fits, long);
      platforms_most = omega (arith, few_platforms, same_platforms, count);
      sizes = subst P (sym same) (are_small (goal.at.invariant_of-result c).After-deref);
      patterns = subst Q lent c.in_ok-pattern_starts.ensures;
      pairs = subst R trains c.in_ok-pair_starts.ensures;
    }
