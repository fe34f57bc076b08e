use Rattle.std.proofs.Common.{◌++◌, ap, ◌∙◌, sym, arith, map, drop}
use Rattle.std.specs.Prelude.{filter}
use Rattle.leaf_bounds.specs.Sharing.{is_pair_of, number_entry}
use Rattle.leaf_bounds.proofs.GroupLemmas.{entries_start, entries_more, entries_end}
use Rattle.leaf_bounds.proofs.groups.numbers_of_pair.Goals as goal

pub loop-at-init : goal.loop-at-init
loop-at-init c = record {
  rest = entries_start c.args.first c.args.second c.args.xs.now c.requires.values c.requires.first c.requires.second c.args.place c.requires.place
      ∙ ap (λ ns. ns ++ map number_entry (filter (is_pair_of (record { first = c.args.first; second = c.args.second })) (drop c.args.place c.args.xs.now)))
      (sym c.new-numbers.ensures.items);
  from = omega arith;
}

pub loop-at-preserved : goal.loop-at-preserved
loop-at-preserved c =
    let from = c.loop-at.invariant.from in
    record {
      rest = entries_more c.args.first c.args.second c.args.xs.now c.requires.values c.requires.first c.requires.second c.args.place c.place_from-end.result
          c.loop-at.at c.loop-at.numbers.items c.push_entry.new.numbers.items c.requires.place c.place_from-end.ensures from c.loop-at-test.true
          c.loop-at.invariant.rest c.in_ok-push_entry.ensures;
      from = omega (arith, from);
    }

pub returns : goal.returns
returns c =
    c.from_vec.ensures
    ∙ entries_end c.args.first c.args.second c.args.xs.now c.requires.values c.requires.first c.requires.second c.place_from-end.result c.loop-at.at
    c.loop-at.numbers.items c.place_from-end.ensures c.loop-at-test.false c.loop-at.invariant.rest
