use Rattle.std.proofs.Common.{Some, ap, ◌∙◌, subst}
use Rattle.std.proofs.lemmas.List.Elements.{All-pop}
use Rattle.leaf_bounds.specs.declared.tree.Bound.{Bound}
use Rattle.leaf_bounds.specs.Shown.{bound_of_leaf, LeafStands}
use Rattle.branching.specs.Bounds.{IsNoLess}
use Rattle.branching.proofs.LeafLemmas.{no_less_twice, seen_more}
use Rattle.branching.proofs.leaf.best_leaf.Goals as goal

pub loop-leaf-preserved : goal.loop-leaf-preserved
loop-leaf-preserved c =
    let case = c.args.case.now in
    let lists = c.args.allowed.now.lists in
    record {
      valued = c.greater-best.ensures.valued case lists c.loop-leaf.invariant.valued c.valued.ensures.valued;
      rest = (All-pop (LeafStands case lists) c.loop-leaf.others.items c.pop.new.self.items (Some c.in-Some.leaf) c.in-Some.ensures.items c.loop-leaf.invariant.rest).0;
      first = no_less_twice (bound_of_leaf case lists c.args.first) c.loop-leaf.best.bound c.greater-best.result.bound c.loop-leaf.invariant.first
          c.greater-best.ensures.first;
      seen = λ k h. seen_more (bound_of_leaf case lists) c.pop.new.self.items c.loop-leaf.others.items c.in-Some.leaf c.loop-leaf.best.bound
          c.greater-best.result.bound c.in-Some.ensures.items c.greater-best.ensures.first
          (subst (λ (b : Bound). IsNoLess b c.greater-best.result.bound) (c.valued.ensures.valued.value ∙ ap (bound_of_leaf case lists) c.valued.ensures.same)
          c.greater-best.ensures.second) k (c.loop-leaf.invariant.seen k h);
    }
