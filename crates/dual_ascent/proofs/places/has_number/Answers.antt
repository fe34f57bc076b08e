use Rattle.std.proofs.Common.{◌∙◌, sym}
use Rattle.dual_ascent.proofs.EntryLemmas.{number_found}
use Rattle.dual_ascent.proofs.places.has_number.Goals as goal

pub returns : goal.returns
returns c = λ t.
    number_found _ c.numbers_in-list.result.now c.args.number c.binary_search.result c.numbers_in-list.ensures c.binary_search.ensures.bound c.binary_search.ensures.ok
    (sym c.is_ok.ensures.value ∙ t)
