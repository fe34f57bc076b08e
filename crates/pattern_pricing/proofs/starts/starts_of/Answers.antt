use Rattle.std.proofs.Common.{ℕ, ◌≡◌, ◌+◌, [], length, sym, ap, ◌∙◌, arith}
use Rattle.std.specs.Prelude.{sum_by}
use Rattle.std.proofs.lemmas.List.{get_or_read}
use Rattle.station.specs.Allowed.{numbers}
use Rattle.patterns.specs.Allowed.{list_of}
use Rattle.pair_prices.proofs.TopLemmas.{sum_numbers_more}
use Rattle.pattern_pricing.proofs.Sums.{next_start}
use Rattle.pattern_pricing.proofs.starts.starts_of.Goals as goal

pub loop-train-preserved : goal.loop-train-preserved
loop-train-preserved c =
    let size : ℕ → ℕ = λ train. length (list_of c.args.lists.now train) in
    let k = c.loop-train.train in
    let read = get_or_read c.args.lists.now k c.index-lists-train.result c.loop-train-test.true c.index-lists-train.is [] in
    let here : c.len.result ≡ size k = c.len.ensures ∙ ap length read in
    let before = c.loop-train.invariant.total in
    let total : c.loop-train.total + c.len.result ≡ sum_by size (numbers k) + size k = omega (arith, before, here) in
    let small = c.requires.sizes k c.loop-train-test.true in
    let few = c.requires.lists in
    let inside = c.loop-train-test.true in
    let so_far = c.loop-train.invariant.most in
    record {
      starts = next_start size k c.loop-train.starts.items _ (c.loop-train.total + c.len.result) c.loop-train.invariant.starts c.in_ok-push-2.ensures.items total
          (omega (arith, here, small, few, inside, so_far));
      total = total ∙ sym (sum_numbers_more size k);
      most = omega (arith, here, small, so_far);
    }
