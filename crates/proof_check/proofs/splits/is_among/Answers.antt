use Rattle.std.proofs.Common.{◌∙◌}
use Rattle.proof_check.proofs.OrderLemmas.{among}
use Rattle.proof_check.proofs.splits.is_among.Goals as goal

-- src/splits.rt:171:1
pub returns : goal.returns
returns c = c.is_ok.ensures.value ∙ among c.args.numbers.now c.args.number c.binary_search.result c.requires c.binary_search.ensures.position
