use Rattle.std.proofs.Common.{◌≤◌, length, ap, sym, subst, ◌∙◌}
use Rattle.serde_json.specs.View.{view}
use Rattle.station.specs.Allowed.{StationRecord}
use Rattle.station.specs.Counted.{IsTimed}
use Rattle.station_reader.specs.Passes.{Each}
use Rattle.station.specs.Station.{IsStation}
use Rattle.station_reader.specs.Reading.{patterns}
use Rattle.station_reader.proofs.Clear.{passes}
use Rattle.station_reader.proofs.Kept.{kept, timed, few_platforms, few_paths}
use Rattle.station_reader.proofs.reader.station_with.Goals as goal

pub make_draft-requires-clause-passes : goal.make_draft-requires-clause-passes
make_draft-requires-clause-passes c = passes c.args.edition (view c.args.tree.now) c.requires.clear

pub patterns-requires-clause-platforms : goal.patterns-requires-clause-platforms
patterns-requires-clause-platforms c =
    subst (λ (r : StationRecord). length r.platforms ≤ 64) (sym c.in-Ok.ensures) (few_platforms c.args.edition (view c.args.tree.now) c.requires.clear)

pub patterns-requires-clause-paths : goal.patterns-requires-clause-paths
patterns-requires-clause-paths c =
    subst (λ (r : StationRecord). length r.paths ≤ 500) (sym c.in-Ok.ensures) (few_paths c.args.edition (view c.args.tree.now) c.requires.clear)

pub patterns-requires-clause-trains : goal.patterns-requires-clause-trains
patterns-requires-clause-trains c =
    subst (λ (r : StationRecord). Each IsTimed r.trains) (sym c.in-Ok.ensures) (timed c.args.edition (view c.args.tree.now) c.requires.clear)

pub finished-requires : goal.finished-requires
finished-requires c =
    subst IsStation (sym c.in-Ok.ensures)
    (kept c.args.edition (view c.args.tree.now) c.requires.clear (ap patterns (sym c.in-Ok.ensures) ∙ sym c.patterns.ensures ∙ c.in-None.is))
