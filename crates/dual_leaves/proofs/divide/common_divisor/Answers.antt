use Rattle.std.proofs.Common.{ℤ, List, ◌∙◌, sym, subst, rules, FitsSigned, to_z, unsigned_abs, pos, ◌<ℤ◌}
use Rattle.std.specs.Int.{◌∣◌, w128}
use Rattle.std.specs.List.{All}
use Rattle.std.specs.Map.{values_of}
use Rattle.std.specs.Map.Iter.{deref}
use Rattle.std.proofs.lemmas.Int.{to_z-of_z}
use Rattle.std.proofs.lemmas.List.Elements.{All-nil}
use Rattle.std.proofs.lemmas.Map.Iter.{rest_all, rest_more}
use Rattle.std.proofs.lemmas.Nat.Gcd.{dvd_refl, dvd_trans}
use Rattle.dual_leaves.proofs.Divisors.{each_more}
use Rattle.dual_leaves.proofs.divide.common_divisor.Goals as goal

pub loop-value-init : goal.loop-value-init
loop-value-init g c =
    let fits : FitsSigned w128 c.args.start.now = search rules in
    let start = to_z-of_z w128 c.args.start.now fits in
    record {
      positive = subst (λ (z : ℤ). pos 0 <ℤ z) (sym start) c.requires;
      start = λ d h. subst (λ (z : ℤ). d ∣ unsigned_abs z) start h;
      each = λ d h all. subst (λ (zs : List ℤ). All (λ z. d ∣ unsigned_abs z) zs) (c.into_iter-value-iterator.ensures.into_iter_gives ∙ c.values-value-items.ensures.rest) all;
    }

pub loop-value-preserved : goal.loop-value-preserved
loop-value-preserved g c =
    let fits : FitsSigned w128 c.gcd-divisor.result = search rules in
    let same = to_z-of_z w128 c.gcd-divisor.result fits in
    let before = to_z w128 c.loop-value.divisor-bits in
    let first = c.gcd-divisor.ensures.first in
    let second = c.gcd-divisor.ensures.second in
    let next = rest_more deref c.loop-value.value-iterator c.next.new.self c.next.result c.in-Some.value c.in-Some.is c.next.ensures.steps in
    let inv = c.loop-value.invariant in
    record {
      positive = subst (λ (z : ℤ). pos 0 <ℤ z) (sym same) c.gcd-divisor.ensures.positive;
      start = λ d h. inv.start d (dvd_trans d (subst (λ (z : ℤ). d ∣ unsigned_abs z) same h) first);
      each = λ d h rest.
          each_more d before c.gcd-divisor.result c.in-Some.value.now c.next.new.self (values_of c.args.sums.now.entries)
          (λ e p xs. inv.each e p (subst (λ (zs : List ℤ). All (λ z. e ∣ unsigned_abs z) zs) (sym next) xs)) first second
          (subst (λ (z : ℤ). d ∣ unsigned_abs z) same h) rest;
    }

pub returns-clause-start : goal.returns-clause-start
returns-clause-start g c = c.loop-value.invariant.start (unsigned_abs (to_z w128 c.loop-value.divisor-bits)) (dvd_refl (unsigned_abs (to_z w128 c.loop-value.divisor-bits)))

pub returns-clause-each : goal.returns-clause-each
returns-clause-each g c =
    let d = unsigned_abs (to_z w128 c.loop-value.divisor-bits) in
    let none = rest_all deref c.loop-value.value-iterator c.next.new.self c.next.result c.in-None.is c.next.ensures.steps in
    c.loop-value.invariant.each d (dvd_refl d) (subst (λ (zs : List ℤ). All (λ z. d ∣ unsigned_abs z) zs) (sym none) (All-nil (λ z. d ∣ unsigned_abs z)))
