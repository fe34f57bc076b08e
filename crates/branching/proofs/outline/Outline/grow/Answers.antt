use Rattle.std.proofs.Common.{refl, sym, ap, ◌∙◌}
use Rattle.std.specs.Prelude.{count_by, slice_get}
use Rattle.branching.specs.Outline.{grown_entries, is_leaf}
use Rattle.branching.proofs.OutlineLemmas.{grown_there}
use Rattle.branching.proofs.outline.Outline.grow.Goals as goal

pub returns : goal.returns
returns c =
    grown_there c.args.slot c.args.cut c.args.new c.self.inside.entries.items _ _ _ c.place_of-place.result
    (ap (λ xs. slice_get xs c.place_of-place.result) (sym c.deref.ensures.value) ∙ c.place_of-place.ensures)
    (ap (count_by (is_leaf c.args.slot)) c.self.view_is ∙ c.requires) refl c.in_ok-insert.ensures.items c.in_ok-insert-2.ensures.items
    ∙ ap (grown_entries c.args.slot c.args.cut c.args.new) c.self.view_is
