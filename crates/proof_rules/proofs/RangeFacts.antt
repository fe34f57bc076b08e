-- What records in range say of their numbers.
use Rattle.std.proofs.Common.{◌≡◌, ℕ, ◌≤◌, ◌^◌, true, ◌&&◌, arith, IsTrue, ◌≤ℤ◌}
use Rattle.std.specs.Prelude.{ℤ, pos, negsuc, neg_ℤ, int_le, unsigned_abs}
use Rattle.std.proofs.lemmas.Int.{ints}
use Rattle.std.proofs.lemmas.Bool.{and_parts}
use Rattle.record_table.specs.Line.{is_in_range as in_range}
use Rattle.leaf_bounds.specs.declared.number.TrainValue.{TrainValue}
use Rattle.leaf_bounds.specs.declared.number.MinuteValue.{MinuteValue}
use Rattle.leaf_bounds.specs.declared.number.PairValue.{PairValue}
use Rattle.leaf_bounds.specs.Listed.{IsSmall, IsTrainValue, IsMinuteValue, IsPairValue}
use Rattle.proof_file.specs.declared.record.HeadRecord.{HeadRecord}
use Rattle.proof_file.specs.declared.record.ProofRecord.TheVariants.{Head, Leaf, U, V, A, B}
use Rattle.proof_file.specs.Kind.{range, signed_values, is_in_range}

le_is : (a b : ℤ) → int_le a b ≡ true → a ≤ℤ b
le_is a b e = grind (arith, ints)

record IsBetween (least most z : ℤ) : Type 0 where
  above : least ≤ℤ z
  below : z ≤ℤ most

range_is : (least most z : ℤ) → in_range (range least most) z ≡ true → IsBetween least most z
range_is least most z e =
    let parts = and_parts (int_le least z) (int_le z most) e in
    record { above = le_is least z parts.0; below = le_is z most parts.1 }

natural_is : (most n : ℕ) → in_range (range (pos 0) (pos most)) (pos n) ≡ true → n ≤ most
natural_is most n e = let h = (range_is (pos 0) (pos most) (pos n) e).below in omega (arith, ints, h)

size_is : (n : ℕ) (z : ℤ) → neg_ℤ (pos n) ≤ℤ z → z ≤ℤ pos n → unsigned_abs z ≤ n
size_is n (pos m) h g = omega (arith, ints, g)
size_is n (negsuc m) h g = omega (arith, ints, h)

value_is : (z : ℤ) → in_range signed_values z ≡ true → IsSmall z
value_is z e = let h = range_is (neg_ℤ (pos (10 ^ 30))) (pos (10 ^ 30)) z e in size_is (10 ^ 30) z h.above h.below

pub u_is : (x : TrainValue) → IsTrue (is_in_range (U x)) → 1 ≤ unsigned_abs x.value → IsTrainValue x
unfolding is_in_range
u_is x e some =
    let train = and_parts (in_range (range (pos 0) (pos 199)) (pos x.train)) (in_range signed_values x.value && true) e in
    let value = and_parts (in_range signed_values x.value) true train.1 in
    let least = natural_is 199 x.train train.0 in
    record { train = omega (arith, least); value = value_is x.value value.0; some = some }

pub v_is : (x : MinuteValue) → IsTrue (is_in_range (V x)) → IsMinuteValue x
unfolding is_in_range
v_is x e =
    let minutes = in_range (range (neg_ℤ (pos 30)) (pos 2968)) x.minute in
    let values = in_range (range (pos 1) (pos (10 ^ 30))) x.value in
    let platform = and_parts (in_range (range (pos 0) (pos 63)) (pos x.platform)) (minutes && (values && true)) e in
    let minute = and_parts minutes (values && true) platform.1 in
    let value = and_parts values true minute.1 in
    let least = natural_is 63 x.platform platform.0 in
    let m = range_is (neg_ℤ (pos 30)) (pos 2968) x.minute minute.0 in
    let v = range_is (pos 1) (pos (10 ^ 30)) x.value value.0 in
    record { platform = omega (arith, least); first = m.above; last = m.below; value = v.below; some = v.above }

pair_is : (x : PairValue) → (in_range (range (pos 0) (pos 199)) (pos x.first) && (in_range (range (pos 0) (pos 199)) (pos x.second)
    && (in_range (range (pos 0) (pos 4095)) (pos x.number) && (in_range signed_values x.value && true)))) ≡ true
    → 1 ≤ unsigned_abs x.value → IsPairValue x
pair_is x e some =
    let numbers = in_range (range (pos 0) (pos 4095)) (pos x.number) in
    let values = in_range signed_values x.value in
    let first = and_parts (in_range (range (pos 0) (pos 199)) (pos x.first)) (in_range (range (pos 0) (pos 199)) (pos x.second) && (numbers && (values && true))) e in
    let second = and_parts (in_range (range (pos 0) (pos 199)) (pos x.second)) (numbers && (values && true)) first.1 in
    let number = and_parts numbers (values && true) second.1 in
    let value = and_parts values true number.1 in
    let f = natural_is 199 x.first first.0 in
    let s = natural_is 199 x.second second.0 in
    let n = natural_is 4095 x.number number.0 in
    record { first = omega (arith, f); second = omega (arith, s); number = omega (arith, n); value = value_is x.value value.0; some = some }

pub a_is : (x : PairValue) → IsTrue (is_in_range (A x)) → 1 ≤ unsigned_abs x.value → IsPairValue x
unfolding is_in_range
a_is x e some = pair_is x e some

pub b_is : (x : PairValue) → IsTrue (is_in_range (B x)) → 1 ≤ unsigned_abs x.value → IsPairValue x
unfolding is_in_range
b_is x e some = pair_is x e some

pub q_is : (q : ℤ) → IsTrue (is_in_range (Leaf q)) → (pos 1 ≤ℤ q) × (q ≤ℤ pos (10 ^ 18))
unfolding is_in_range
q_is q e =
    let parts = and_parts (in_range (range (pos 1) (pos (10 ^ 18))) q) true e in
    let h = range_is (pos 1) (pos (10 ^ 18)) q parts.0 in
    (h.above, h.below)

pub version_is : (x : HeadRecord) → IsTrue (is_in_range (Head x)) → (1 ≤ x.version) × (x.version ≤ 2)
unfolding is_in_range
version_is x e =
    let parts = and_parts (in_range (range (pos 1) (pos 2)) (pos x.version)) (in_range (range (pos 0) (pos 200)) (pos x.trains) && true) e in
    let h = range_is (pos 1) (pos 2) (pos x.version) parts.0 in
    let a = h.above in
    let b = h.below in
    (omega (arith, ints, a), omega (arith, ints, b))
