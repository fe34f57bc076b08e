use Rattle.std.proofs.Common.{◌∙◌, ap, rules, bytes_eq, unwrap_or}
use Rattle.std.proofs.lemmas.Iterator.{YieldsList-from_slice}
use Rattle.std.proofs.lemmas.Iterator.Search.{position_from_yields_List}
use borrow.Author.Tests.{tests}
use Rattle.serde_json.specs.View.{view}
use Rattle.station_reader.specs.Naming.{named}
use Rattle.station_reader.proofs.Made.{position-named}
use Rattle.station_reader.proofs.convert.number_of.Goals as goal

pub returns : goal.returns
returns c =
    c.unwrap_or.ensures ∙ ap (λ o. unwrap_or o 0) (position_from_yields_List (λ v. bytes_eq c.args.name.now (named c.args.naming (view v))) _ _ _ c.position.ensures.ran (YieldsList-from_slice c.args.entries.now (cc)) (λ x b q k. search (rules, tests))
    ∙ position-named c.args.name.now c.args.naming c.args.entries.now)
