use Rattle.std.proofs.Common.{◌∙◌, ap, arith, length}
use Rattle.station_gen.specs.Json.{version_of}
use Rattle.station_gen.specs.Made.{made_station, alike_pairs}
use Rattle.station_gen.proofs.Ends.{few_paths}
use Rattle.station_gen.proofs.Kept.{made_kept, assembled, kept_as}
use Rattle.station_gen.proofs.MadeVersion.{made_version}
use Rattle.station_gen.proofs.made.make.Goals as goal

pub alike_pairs-requires : goal.alike_pairs-requires
alike_pairs-requires c = omega (arith, ap length (c.as_slice.ensures ∙ c.in_ok-paths.ensures), few_paths)

pub invariant_of-result : goal.invariant_of-result
invariant_of-result c = record {
  kept = kept_as _ (made_station c.args.number c.args.trains)
      (assembled c.args.number c.args.trains _ _ _ _ _ c.in_ok-directions.ensures c.in_ok-platforms.ensures c.in_ok-paths.ensures (c.in_ok-incompatible.ensures ∙ ap alike_pairs c.as_slice.ensures) c.in_ok-trains.ensures)
      (made_kept c.args.number c.args.trains c.requires);
}

pub returns : goal.returns
returns c =
    let made = assembled c.args.number c.args.trains _ _ _ _ _ c.in_ok-directions.ensures c.in_ok-platforms.ensures c.in_ok-paths.ensures (c.in_ok-incompatible.ensures ∙ ap alike_pairs c.as_slice.ensures) c.in_ok-trains.ensures in
    record { station = made; version = ap version_of made ∙ made_version c.args.number c.args.trains }
