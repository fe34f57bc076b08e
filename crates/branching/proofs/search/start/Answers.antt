use Rattle.std.proofs.Common.{List, ◌∷◌, [], ◌++◌, ap, ◌∙◌, subst}
use Rattle.std.specs.List.Sorted.{IsPermutation}
use Rattle.branching.specs.declared.part.Part.{Part}
use Rattle.branching.specs.declared.waiting.Key.{Key}
use Rattle.branching.specs.Searching.{keys_for}
use Rattle.branching.proofs.RootLemmas.{keys_above}
use Rattle.branching.proofs.SearchLemmas.{started}
use Rattle.branching.proofs.search.start.Goals as goal

pub returns-clause-search : goal.returns-clause-search
returns-clause-search c =
    let root = c.in_ok-node.field-0.node in
    started c.args.case.now root c.cheaper-best.result c.add.new.self c.in_ok-node.ensures.node c.cheaper-best.ensures.found
    (subst (λ (ks : List Key). IsPermutation (keys_for c.cheaper-best.result root.bound 0 0 ++ ks) c.add.new.self) c.new-waiting.ensures c.in_ok-add.ensures)
    c.in_ok-outline.outline c.push.new.self.items c.in_ok-outline.ensures
    (c.in_ok-push.ensures.items ∙ ap (λ (ps : List Part). ps ++ root.part ∷ []) c.new-parts.ensures.items)
    (c.cheaper-best.ensures.known c.args.case.now c.in_ok-greedy.ensures c.in_ok-node.ensures.node.priced)

pub returns-clause-above : goal.returns-clause-above
returns-clause-above c =
    let root = c.in_ok-node.field-0 in
    keys_above c.args.case.now root.root c.cheaper-best.result root.node.bound c.add.new.self c.in_ok-node.ensures.above
    (subst (λ (ks : List Key). IsPermutation (keys_for c.cheaper-best.result root.node.bound 0 0 ++ ks) c.add.new.self) c.new-waiting.ensures c.in_ok-add.ensures)

pub returns-clause-root : goal.returns-clause-root
returns-clause-root c = c.in_ok-node.ensures.root
