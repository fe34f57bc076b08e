use Rattle.std.proofs.Common.{sym, subst, true≢false, ◌∙◌}
use Rattle.serde_json.specs.View.{view}
use Rattle.station_reader.specs.declared.refusal.RefusedKind.TheVariants.{NotJson}
use Rattle.station_reader.specs.declared.place.Spot.TheVariants.{Top}
use Rattle.station_reader.specs.PlaceText.{spot_text}
use Rattle.station_reader.specs.Reading.{Reading, reading}
use Rattle.station_reader.specs.Answers.{Answers}
use Rattle.station_reader.proofs.Whole.{reading-tree, reading-none, answers-refusal}
use Rattle.station_reader.proofs.reader.read_station.Goals as goal

pub returns-in-Ok : goal.returns-in-Ok
returns-in-Ok c =
    subst (λ (r : Reading). Answers r c.station_of.result)
    (sym (reading-tree c.args.bytes.now (view c.in-Ok.tree) c.if-bytes-gt-LONGEST.false c.in-Ok.ensures.ok.0 c.in-Ok.ensures.ok.1))
    c.station_of.ensures

pub returns-else-is_memory : goal.returns-else-is_memory
returns-else-is_memory c =
    answers-refusal (reading c.args.bytes.now) NotJson (spot_text Top) c.refusal-else-is_memory.result
    (reading-none c.args.bytes.now c.if-bytes-gt-LONGEST.false (c.in-Err.ensures.err (λ m. true≢false (sym (c.is_memory.ensures.1 m) ∙ c.if-is_memory.false))))
    c.refusal-else-is_memory.ensures
