use Rattle.std.proofs.Common.{◌≡◌, ℕ, ◌++◌, Some, length, ap, ◌∙◌, subst}
use Rattle.std.specs.List.Sorted.{IsPermutation}
use Rattle.std.specs.Prelude.{slice_get}
use Rattle.std.proofs.lemmas.Option.{slice_get_read}
use Rattle.branching.specs.Outline.{grown_entries}
use Rattle.branching.specs.Searching.{keys_for}
use Rattle.branching.proofs.KnownLemmas.{no_dearer_step}
use Rattle.branching.proofs.SearchLemmas.{key_once, key_ready, key_there, split_above, split_search, IsReady}
use Rattle.branching.proofs.search.split_leaf.Goals as goal
use Rattle.branching.proofs.search.split_leaf.Goals.{After-index}

at_slot : (c : After-index) → slice_get c.args.search.parts.items c.args.key.slot ≡ Some c.index.result.now
at_slot c = slice_get_read c.args.search.parts.items (length c.args.search.parts.items) c.args.key.slot c.index.result.now (λ i. length c.args.search.parts.items)
    (key_there c.args.case.now c.args.search.outline c.args.search.parts.items c.args.search.waiting c.args.key c.args.search.best c.requires.search c.requires.least
    c.requires.unsettled) c.index.ensures

ready : (c : After-index) → IsReady c.args.case.now c.index.result.now
ready c =
    key_ready c.args.case.now c.args.search.outline c.args.search.parts.items c.args.search.waiting c.args.key c.args.search.best c.requires.search c.requires.least
    c.requires.unsettled c.index.result.now (at_slot c)

pub split_part-requires-clause-fits : goal.split_part-requires-clause-fits
split_part-requires-clause-fits c = (ready c).fits

pub split_part-requires-clause-undecided : goal.split_part-requires-clause-undecided
split_part-requires-clause-undecided c = (ready c).undecided

pub split_part-requires-clause-stands : goal.split_part-requires-clause-stands
split_part-requires-clause-stands c = (ready c).stands

pub grow-requires : goal.grow-requires
grow-requires c =
    key_once c.args.case.now c.args.search.outline c.args.search.parts.items c.args.search.waiting c.args.key c.args.search.best c.requires.search c.requires.least
    c.requires.unsettled

pub placed-requires : goal.placed-requires
placed-requires c =
    key_there c.args.case.now c.args.search.outline c.args.search.parts.items c.args.search.waiting c.args.key c.args.search.best c.requires.search c.requires.least
    c.requires.unsettled

pub returns-clause-search : goal.returns-clause-search
returns-clause-search c =
    let case = c.args.case.now in
    let s = c.args.search in
    let two = c.in_ok-cut.field-0 in
    let new = c.cheaper-best.result in
    let count : length c.as_slice-new.result.now ≡ length s.parts.items = ap length c.as_slice-new.ensures.value in
    split_search case s.outline s.parts.items s.waiting c.args.key s.best c.requires.search c.requires.least c.requires.unsettled
    two c.stored-low.result c.stored-high.result c.index.result.now new c.add.new.self c.add-2.new.self (length c.as_slice-new.result.now)
    (length c.as_slice-new.result.now) c.grow.new.self c.in_ok-parts.parts.items
    (slice_get_read s.parts.items (length s.parts.items) c.args.key.slot c.index.result.now (λ i. length s.parts.items)
    (key_there case s.outline s.parts.items s.waiting c.args.key s.best c.requires.search c.requires.least c.requires.unsettled) c.index.ensures)
    c.in_ok-cut.ensures
    (record { leaf = c.stored-low.ensures.leaf; lists = λ u. c.stored-low.ensures.lists (c.is_settled.ensures ∙ u) })
    (record { leaf = c.stored-high.ensures.leaf; lists = λ u. c.stored-high.ensures.lists (c.is_settled-2.ensures ∙ u) })
    (no_dearer_step s.best c.cheaper.result new c.cheaper.ensures.best c.cheaper-best.ensures.best)
    (no_dearer_step two.below.plan c.cheaper.result new c.cheaper.ensures.found c.cheaper-best.ensures.best)
    c.cheaper-best.ensures.found c.in_ok-add.ensures
    (subst (λ (n : ℕ). IsPermutation (keys_for new two.rest.bound (length c.as_slice-new.result.now) n ++ c.add.new.self) c.add-2.new.self) count
    c.in_ok-add-2.ensures)
    (c.in_ok-grow.ensures ∙ ap (λ (n : ℕ). grown_entries c.args.key.slot two.cut n s.outline) count) c.in_ok-parts.ensures
    (c.cheaper-best.ensures.known case (c.cheaper.ensures.known case c.requires.search.known c.in_ok-cut.ensures.below.priced) c.in_ok-cut.ensures.rest.priced)

pub returns-clause-above : goal.returns-clause-above
returns-clause-above c =
    let case = c.args.case.now in
    let s = c.args.search in
    let two = c.in_ok-cut.field-0 in
    let new = c.cheaper-best.result in
    let count : length c.as_slice-new.result.now ≡ length s.parts.items = ap length c.as_slice-new.ensures.value in
    split_above case s.outline s.parts.items s.waiting c.args.key s.best c.requires.search c.requires.least c.requires.unsettled
    two c.stored-low.result c.stored-high.result c.index.result.now new c.add.new.self c.add-2.new.self (length c.as_slice-new.result.now)
    (length c.as_slice-new.result.now) c.grow.new.self c.in_ok-parts.parts.items
    (slice_get_read s.parts.items (length s.parts.items) c.args.key.slot c.index.result.now (λ i. length s.parts.items)
    (key_there case s.outline s.parts.items s.waiting c.args.key s.best c.requires.search c.requires.least c.requires.unsettled) c.index.ensures)
    c.in_ok-cut.ensures
    (record { leaf = c.stored-low.ensures.leaf; lists = λ u. c.stored-low.ensures.lists (c.is_settled.ensures ∙ u) })
    (record { leaf = c.stored-high.ensures.leaf; lists = λ u. c.stored-high.ensures.lists (c.is_settled-2.ensures ∙ u) })
    (no_dearer_step s.best c.cheaper.result new c.cheaper.ensures.best c.cheaper-best.ensures.best)
    (no_dearer_step two.below.plan c.cheaper.result new c.cheaper.ensures.found c.cheaper-best.ensures.best)
    c.cheaper-best.ensures.found c.in_ok-add.ensures
    (subst (λ (n : ℕ). IsPermutation (keys_for new two.rest.bound (length c.as_slice-new.result.now) n ++ c.add.new.self) c.add-2.new.self) count
    c.in_ok-add-2.ensures)
    (c.in_ok-grow.ensures ∙ ap (λ (n : ℕ). grown_entries c.args.key.slot two.cut n s.outline) count) c.in_ok-parts.ensures
    (c.cheaper-best.ensures.known case (c.cheaper.ensures.known case c.requires.search.known c.in_ok-cut.ensures.below.priced) c.in_ok-cut.ensures.rest.priced)
