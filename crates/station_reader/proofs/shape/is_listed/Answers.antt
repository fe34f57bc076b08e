use Rattle.std.proofs.Common.{◌∙◌, rules, bytes_eq}
use Rattle.std.proofs.lemmas.Iterator.{YieldsList-from_slice}
use Rattle.std.proofs.lemmas.Iterator.Search.{any_from_yields_List}
use borrow.Author.Tests.{tests}
use Rattle.station_reader.specs.MemberText.{member_text}
use Rattle.station_reader.proofs.Listed.{occurs-member_text}
use Rattle.station_reader.proofs.shape.is_listed.Goals as goal

pub returns : goal.returns
returns c =
    any_from_yields_List (λ m. bytes_eq c.args.name.now (member_text m)) _ _ _ c.any.ensures.ran (YieldsList-from_slice c.args.members.now (cc)) (λ x b q k. search (rules, tests))
    ∙ occurs-member_text c.args.name.now c.args.members.now
