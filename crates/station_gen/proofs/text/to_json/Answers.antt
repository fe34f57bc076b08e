use Rattle.std.proofs.Common.{◌≡◌, ◌≤◌, Some, false, sym, subst, ap, ◌∙◌}
use Rattle.serde_json.specs.Data.{Data, depth}
use Rattle.serde_json.specs.Read.{read, max_depth}
use Rattle.serde_json.specs.View.{view}
use Rattle.serde_json.specs.Written.{has_float, compact_text}
use Rattle.station.specs.Allowed.{StationRecord}
use Rattle.station.specs.Shown.{record_of}
use Rattle.station_gen.specs.Json.{station_json, json_of}
use Rattle.station_gen.proofs.ReadBack.{no-float, shallow, read-back}
use Rattle.station_gen.proofs.text.to_json.Goals as goal

pub returns : goal.returns
returns c =
    let r : StationRecord = record_of c.args.station.now in
    let tree : view c.in_ok-tree.tree ≡ json_of r = c.in_ok-tree.ensures ∙ ap (λ v. station_json v r) c.version_of.ensures in
    let plain : has_float (view c.in_ok-tree.tree) ≡ false = ap has_float tree ∙ no-float r in
    let nests : depth (view c.in_ok-tree.tree) ≤ max_depth = subst (λ (d : Data). depth d ≤ max_depth) (sym tree) (shallow r) in
    let text : c.bytes_of.result.items ≡ compact_text (json_of r) = c.bytes_of.ensures.bytes ∙ c.in_ok-text.ensures.text plain ∙ ap compact_text tree in
    let back : read c.bytes_of.result.items ≡ Some (json_of r) = ap read c.bytes_of.ensures.bytes ∙ c.in_ok-text.ensures.reads_back nests ∙ ap Some tree in
    record { text = text; reads_back = read-back c.bytes_of.result.items r c.args.station.now.kept text c.bytes_of.ensures.utf8 back }
