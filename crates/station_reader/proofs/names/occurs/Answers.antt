use Rattle.std.proofs.Common.{◌∙◌, bytes_eq}
use Rattle.std.proofs.lemmas.Iterator.{YieldsList-from_slice}
use Rattle.std.proofs.lemmas.Iterator.Search.{any_from_yields_List}
use borrow.Author.Tests.{tests}
use Rattle.std.proofs.Common.{rules}
use Rattle.serde_json.specs.View.{view}
use Rattle.station_reader.specs.Naming.{named}
use Rattle.station_reader.proofs.Repeats.{occurs-map}
use Rattle.station_reader.proofs.names.occurs.Goals as goal

pub returns : goal.returns
returns c =
    any_from_yields_List (λ v. bytes_eq c.args.name.now (named c.args.naming (view v))) _ _ _ c.any.ensures.ran (YieldsList-from_slice c.args.entries.now (cc)) (λ x b q k. search (rules, tests))
    ∙ occurs-map c.args.name.now c.args.naming c.args.entries.now
