use Rattle.std.proofs.Common.{◌≤◌, length, map, ◌∙◌}
use Rattle.serde_json.specs.View.{view}
use Rattle.station_reader.specs.Tree.{entries_at}
use Rattle.station_reader.specs.Classes.{path_names}
use Rattle.station_reader.specs.Reading.{incompatible_pairs, listed_pair}
use Rattle.station_reader.specs.Marked.{MarksListed}
use Rattle.station_reader.specs.declared.member.Member.TheVariants.{Incompatible}
use Rattle.station_reader.proofs.Rows.{length-named}
use Rattle.station_reader.proofs.Marks.{marked_pairs}
use Rattle.station_reader.proofs.pairs.incompatible_pairs.Goals as goal

pub returns : goal.returns
unfolding incompatible_pairs
returns c =
    let tree = view c.args.tree.now in
    let few : length (path_names tree) ≤ 500 = rw (← c.requires.names) c.requires.few in
    let right : MarksListed c.in_ok-table.table (map (listed_pair (path_names tree)) (entries_at Incompatible tree)) =
    rw (← c.requires.names, ← c.entries_at.ensures) c.in_ok-table.ensures in
    c.from_vec.ensures ∙ c.in_ok-found.ensures
    ∙ rw (length-named c.entries_at-2.result.now, c.entries_at-2.ensures)
    (marked_pairs c.in_ok-table.table (map (listed_pair (path_names tree)) (entries_at Incompatible tree)) (length (path_names tree)) few right)
