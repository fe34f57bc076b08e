use Rattle.std.proofs.Common.{◌≡◌, ◌+◌, ◌∷◌, length, sym, ◌∙◌, subst, arith}
use Rattle.branching.specs.declared.found.Root.{Root}
use Rattle.branching.specs.RootLine.{root_bound, AreAboveRoot}
use Rattle.branching.proofs.AnswerLemmas.{search_same}
use Rattle.branching.proofs.RootLemmas.{keys_step, next_above}
use Rattle.branching.proofs.solving.searched.Goals as goal

pub split_leaf-requires-clause-search : goal.split_leaf-requires-clause-search
split_leaf-requires-clause-search c =
    search_same c.args.case.now c.loop-split.search.outline c.loop-split.search.parts.items c.loop-split.search.waiting (c.in-Some.key ∷ c.next.new.self)
    c.loop-split.search.best c.in-Some.ensures.taken c.loop-split.invariant.search

pub stopped-requires-clause-search : goal.stopped-requires-clause-search
stopped-requires-clause-search c =
    search_same c.args.case.now c.loop-split.search.outline c.loop-split.search.parts.items c.loop-split.search.waiting
    (c.in-Some-next.key ∷ c.next-2.new.self) c.loop-split.search.best c.in-Some-next.ensures.taken c.loop-split.invariant.search

pub returns-in-Some-next-clause-answer : goal.returns-in-Some-next-clause-answer
returns-in-Some-next-clause-answer c =
    let count = c.loop-split.invariant.count in
    let most = c.loop-split.auto._split-end in
    let least = c.loop-split-test.false in
    let spent : length c.loop-split.search.parts.items ≡ c.args.splits + 1 = omega (arith, count, most, least) in
    c.stopped.ensures.answer c.args.splits c.ranges.splits.fits spent

pub stopped-requires-clause-above : goal.stopped-requires-clause-above
stopped-requires-clause-above c =
    next_above c.args.case.now c.loop-split.search.root c.loop-split.search.waiting c.next-2.new.self c.in-Some-next.key c.in-Some-next.ensures.taken
    c.loop-split.invariant.above

pub loop-split-preserved : goal.loop-split-preserved
loop-split-preserved c =
    let case = c.args.case.now in
    let before = c.loop-split.search in
    let after = c.in_ok-search-in-Some.search in
    let made = c.in_ok-search-in-Some.ensures in
    let more : length after.parts.items ≡ length before.parts.items + 1 = made.one_more in
    let count = c.loop-split.invariant.count in
    let same : after.root ≡ before.root = made.root in
    let above = next_above case before.root before.waiting c.next.new.self c.in-Some.key c.in-Some.ensures.taken c.loop-split.invariant.above in
    record {
      search = made.search;
      count = omega (arith, more, count);
      root = same ∙ c.loop-split.invariant.root;
      above = subst (λ (r : Root). AreAboveRoot case r after.waiting) (sym same)
          (keys_step (root_bound case before.root.value) c.in-Some.key.bound after.waiting above made.above);
    }
