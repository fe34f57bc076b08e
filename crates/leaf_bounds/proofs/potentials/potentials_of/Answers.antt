use Rattle.std.proofs.Common.{◌<◌, length, subst, sym, arith}
use Rattle.std.proofs.lemmas.Int.{ints}
use Rattle.leaf_bounds.specs.declared.potentials.Side.TheVariants.{First, Second}
use Rattle.leaf_bounds.specs.Places.{ArePairValues}
use Rattle.leaf_bounds.proofs.SideLemmas.{alpha_entries, beta_entries, side_size}
use Rattle.leaf_bounds.proofs.potentials.potentials_of.Goals as goal

pub add_entries-requires-clause-entries : goal.add_entries-requires-clause-entries
add_entries-requires-clause-entries c = subst ArePairValues (sym c.as_slice.ensures) (alpha_entries c.args.leaf.now)

pub add_entries-requires-2-clause-entries : goal.add_entries-requires-2-clause-entries
add_entries-requires-2-clause-entries c = subst ArePairValues (sym c.as_slice-2.ensures) (beta_entries c.args.leaf.now)

pub add_entries-requires-2-clause-within : goal.add_entries-requires-2-clause-within
add_entries-requires-2-clause-within c = λ i l.
    let size = side_size First c.args.train i c.as_slice.result.now (subst ArePairValues (sym c.as_slice.ensures) (alpha_entries c.args.leaf.now)) in
    let none = c.clear.ensures i (omega (arith, l, c.add_entries.auto.row)) in
    let same = c.add_entries.ensures i l in
    omega (arith, ints, size, none, same)

pub returns-clause-within : goal.returns-clause-within
returns-clause-within c = λ i l.
    let first = side_size First c.args.train i c.as_slice.result.now (subst ArePairValues (sym c.as_slice.ensures) (alpha_entries c.args.leaf.now)) in
    let second = side_size Second c.args.train i c.as_slice-2.result.now (subst ArePairValues (sym c.as_slice-2.ensures) (beta_entries c.args.leaf.now)) in
    let there : i < length c.add_entries.new.row = omega (arith, l, c.add_entries-2.auto.row) in
    let none = c.clear.ensures i (omega (arith, there, c.add_entries.auto.row)) in
    let same = c.add_entries.ensures i there in
    let more = c.add_entries-2.ensures i l in
    omega (arith, ints, first, second, none, same, more)
