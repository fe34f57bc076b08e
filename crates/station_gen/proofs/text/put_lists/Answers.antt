use Rattle.std.proofs.Common.{ℕ, List, map, refl, ap, ◌∙◌}
use Rattle.std.specs.Prelude.{codes}
use Rattle.serde_json.specs.Data.{string}
use Rattle.serde_json.specs.View.{members_view}
use Rattle.station.specs.Shown.{record_of}
use Rattle.station.specs.declared.part.Platform.{Platform}
use Rattle.station.specs.declared.part.Path.{Path}
use Rattle.station.specs.declared.part.PathPair.{PathPair}
use Rattle.station.specs.declared.part.Train.{Train}
use Rattle.station_gen.specs.Json.{list_json, pair_json, path_json, platform_json, train_json}
use Rattle.station_gen.proofs.Puts.{put_step}
use Rattle.station_gen.proofs.text.put_lists.Goals as goal

pub returns : goal.returns
returns c =
    let r = record_of c.args.station.now in
    put_step (codes "trains") _ _ (members_view c.put-4.new.map.entries) _ _ c.in_ok-put-5.ensures.ok (c.in_ok-trains.ensures ∙ ap (λ (xs : List Train). list_json (map (train_json r) xs)) c.as_slice-5.ensures)
    (put_step (codes "platforms") _ _ (members_view c.put-3.new.map.entries) _ _ c.in_ok-put-4.ensures.ok (c.in_ok-platforms.ensures ∙ ap (λ (xs : List Platform). list_json (map (platform_json c.args.version) xs)) c.as_slice-4.ensures)
    (put_step (codes "paths") _ _ (members_view c.put-2.new.map.entries) _ _ c.in_ok-put-3.ensures.ok (c.in_ok-paths.ensures ∙ ap (λ (xs : List Path). list_json (map (path_json r) xs)) c.as_slice-3.ensures)
    (put_step (codes "incompatible") _ _ (members_view c.put.new.map.entries) _ _ c.in_ok-put-2.ensures.ok (c.in_ok-incompatible.ensures ∙ ap (λ (xs : List PathPair). list_json (map (pair_json r) xs)) c.as_slice-2.ensures)
    (put_step (codes "directions") _ _ (members_view c.args.members.now.entries) _ _ c.in_ok-put.ensures.ok (c.in_ok-directions.ensures ∙ ap (λ (xs : List (List ℕ)). list_json (map string xs)) c.as_slice.ensures) refl))))
