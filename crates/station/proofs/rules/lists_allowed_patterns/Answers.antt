use Rattle.station.specs.Shown.{record_of}
use Rattle.station.proofs.Ordered.{lists_ascend}
use Rattle.station.proofs.Ruled.{lists_allowed}
use Rattle.station.proofs.rules.lists_allowed_patterns.Goals as goal

pub returns : goal.returns
returns c = record {
  allowed = lists_allowed (record_of c.args.station.now) c.args.station.now.kept;
  ascending = lists_ascend (record_of c.args.station.now);
}
