use Rattle.std.proofs.Common.{◌<◌, length, refl}
use Rattle.std.specs.Prelude.{Contains}
use Rattle.patterns.specs.Allowed.{list_of}
use Rattle.leaf_bounds.specs.Shown.{IsPairThere}
use Rattle.leaf_bounds.specs.declared.number.TrainValue.{TrainValue}
use Rattle.leaf_bounds.specs.declared.number.MinuteValue.{MinuteValue}
use Rattle.leaf_bounds.specs.declared.number.PairValue.{PairValue}
use Rattle.dual_ascent.proofs.EntryLemmas.{all_along}
use Rattle.dual_ascent.proofs.places.are_places.Goals as goal

pub returns : goal.returns
returns c = λ t.
    record {
      trains = all_along (λ (x : TrainValue). x.train < length c.args.case.now.book) _ _ c.as_slice.ensures (c.if-not-are_trains.ensures refl);
      platforms = all_along (λ (x : MinuteValue). x.platform < length c.args.case.now.station.platforms) _ _ c.as_slice-2.ensures
          (c.if-not-are_platforms.ensures refl);
      alpha_pairs = all_along (IsPairThere c.args.case.now) _ _ c.as_slice-3.ensures (c.if-not-are_pairs.ensures refl);
      alpha_numbers = all_along (λ (x : PairValue). Contains (list_of c.args.allowed.now.lists x.first) x.number) _ _ c.as_slice-5.ensures
          (c.if-not-are_numbers_of_first.ensures refl);
      beta_pairs = all_along (IsPairThere c.args.case.now) _ _ c.as_slice-4.ensures (c.if-not-are_pairs-2.ensures refl);
      beta_numbers = all_along (λ (x : PairValue). Contains (list_of c.args.allowed.now.lists x.second) x.number) _ _ c.as_slice-6.ensures
          (c.are_numbers_of_second.ensures t);
    }
