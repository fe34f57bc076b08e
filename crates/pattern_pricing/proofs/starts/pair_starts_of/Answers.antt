use Rattle.std.proofs.Common.{ℕ, ◌≡◌, ◌+◌, ◌-◌, sym, ap, ◌∙◌, arith}
use Rattle.std.specs.Prelude.{sum_by}
use Rattle.station.specs.Allowed.{numbers}
use Rattle.pair_prices.proofs.TopLemmas.{sum_numbers_more}
use Rattle.pattern_pricing.proofs.Sums.{next_start}
use Rattle.pattern_pricing.proofs.starts.pair_starts_of.Goals as goal

pub loop-train-preserved : goal.loop-train-preserved
loop-train-preserved c =
    let size : ℕ → ℕ = λ train. c.args.trains - (train + 1) in
    let k = c.loop-train.train in
    let n = c.loop-train.total + (c.args.trains - (k + 1)) in
    let total : n ≡ sum_by size (numbers k) + size k = ap (λ m. m + size k) c.loop-train.invariant.total in
    let few = c.requires in
    let inside = c.loop-train-test.true in
    let so_far = c.loop-train.invariant.most in
    record {
      starts = next_start size k c.loop-train.starts.items _ n c.loop-train.invariant.starts c.in_ok-push-2.ensures.items total (omega (arith, few, inside, so_far));
      total = total ∙ sym (sum_numbers_more size k);
      most = omega (arith, few, so_far);
    }
