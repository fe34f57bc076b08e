use Rattle.std.proofs.Common.{◌∙◌, rules}
use Rattle.std.proofs.lemmas.Iterator.{YieldsList-from_slice}
use Rattle.std.proofs.lemmas.Iterator.Search.{any_from_yields_List}
use borrow.Author.Tests.{tests}
use Rattle.serde_json.specs.View.{view}
use Rattle.station_reader.specs.Classes.{is_regular_named}
use Rattle.station.proofs.Lists.{any-made}
use Rattle.station_reader.proofs.unknown.is_regular_platform.Goals as goal

pub returns : goal.returns
returns c =
    any_from_yields_List (λ v. is_regular_named c.args.name.now (view v)) _ _ _ c.any.ensures.ran (YieldsList-from_slice c.entries_at-platforms.result.now (cc)) (λ x b q k. search (rules, tests))
    ∙ any-made (is_regular_named c.args.name.now) view c.entries_at-platforms.result.now ∙ rw c.entries_at-platforms.ensures
