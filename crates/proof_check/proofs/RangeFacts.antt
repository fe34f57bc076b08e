-- What the ranges of a record's numbers say.
use Rattle.std.proofs.Common.{◌≡◌, ℕ, ◌<◌, ◌≤◌, true, ◌&&◌, ◌==◌, IsTrue, arith, ℤ, pos, ◌≤ℤ◌}
use Rattle.std.specs.Prelude.{int_le, neg_ℤ, ◌^◌, false}
use Rattle.std.proofs.lemmas.Int.{ints}
use Rattle.std.proofs.lemmas.Bool.Decides.{nat_tests}
use Rattle.record_table.specs.Line.{is_in_range as in_range}
use Rattle.leaf_bounds.specs.declared.number.TrainValue.{TrainValue}
use Rattle.leaf_bounds.specs.declared.number.MinuteValue.{MinuteValue}
use Rattle.leaf_bounds.specs.declared.number.PairValue.{PairValue}
use Rattle.leaf_bounds.specs.Listed.{IsSmall}
use Rattle.proof_file.specs.declared.record.HeadRecord.{HeadRecord}
use Rattle.proof_file.specs.declared.record.ProofRecord.TheVariants.{Head, Leaf, U, V, A, B}
use Rattle.proof_file.specs.Kind.{is_in_range, range, signed_values}
use Rattle.proof_file.proofs.TruthLemmas.{and_parts}

least_of : (least most z : ℤ) → in_range (range least most) z ≡ true → least ≤ℤ z
least_of least most z e = let parts = and_parts (int_le least z) (int_le z most) e in order least z parts.0
  where
    order : (a b : ℤ) → int_le a b ≡ true → a ≤ℤ b
    order a b f = grind (arith, ints, nat_tests)

most_of : (least most z : ℤ) → in_range (range least most) z ≡ true → z ≤ℤ most
most_of least most z e = let parts = and_parts (int_le least z) (int_le z most) e in order z most parts.1
  where
    order : (a b : ℤ) → int_le a b ≡ true → a ≤ℤ b
    order a b f = grind (arith, ints, nat_tests)

natural_most : (n most : ℕ) → in_range (range (pos 0) (pos most)) (pos n) ≡ true → n ≤ most
natural_most n most e = let h = most_of (pos 0) (pos most) (pos n) e in omega (arith, ints, h)

small_of : (z : ℤ) → in_range signed_values z ≡ true → IsSmall z
small_of z e =
    let low = least_of (neg_ℤ (pos (10 ^ 30))) (pos (10 ^ 30)) z e in
    let high = most_of (neg_ℤ (pos (10 ^ 30))) (pos (10 ^ 30)) z e in
    omega (arith, ints, low, high)

pub record IsTrainRange (x : TrainValue) : Type 0 where
  pub train : x.train < 200
  pub value : IsSmall x.value

pub train_range : (x : TrainValue) → IsTrue (is_in_range (U x)) → IsTrainRange x
unfolding is_in_range
train_range x e =
    let value = in_range signed_values x.value in
    let parts = and_parts (in_range (range (pos 0) (pos 199)) (pos x.train)) (value && true) e in
    let rest = and_parts value true parts.1 in
    let train = natural_most x.train 199 parts.0 in
    record { train = omega (arith, train); value = small_of x.value rest.0 }

pub record IsMinuteRange (x : MinuteValue) : Type 0 where
  pub platform : x.platform < 64
  pub first : neg_ℤ (pos 30) ≤ℤ x.minute
  pub last : x.minute ≤ℤ pos 2968
  pub some : pos 1 ≤ℤ x.value
  pub value : x.value ≤ℤ pos (10 ^ 30)

pub minute_range : (x : MinuteValue) → IsTrue (is_in_range (V x)) → IsMinuteRange x
unfolding is_in_range
minute_range x e =
    let minute = in_range (range (neg_ℤ (pos 30)) (pos 2968)) x.minute in
    let value = in_range (range (pos 1) (pos (10 ^ 30))) x.value in
    let parts = and_parts (in_range (range (pos 0) (pos 63)) (pos x.platform)) (minute && (value && true)) e in
    let rest = and_parts minute (value && true) parts.1 in
    let last = and_parts value true rest.1 in
    let platform = natural_most x.platform 63 parts.0 in
    record {
      platform = omega (arith, platform);
      first = least_of (neg_ℤ (pos 30)) (pos 2968) x.minute rest.0;
      last = most_of (neg_ℤ (pos 30)) (pos 2968) x.minute rest.0;
      some = least_of (pos 1) (pos (10 ^ 30)) x.value last.0;
      value = most_of (pos 1) (pos (10 ^ 30)) x.value last.0;
    }

pub record IsPairRange (x : PairValue) : Type 0 where
  pub first : x.first < 200
  pub second : x.second < 200
  pub number : x.number < 4096
  pub value : IsSmall x.value

pair_range : (x : PairValue) → (in_range (range (pos 0) (pos 199)) (pos x.first) && (in_range (range (pos 0) (pos 199)) (pos x.second)
    && (in_range (range (pos 0) (pos 4095)) (pos x.number) && (in_range signed_values x.value && true)))) ≡ true → IsPairRange x
pair_range x e =
    let second = in_range (range (pos 0) (pos 199)) (pos x.second) in
    let number = in_range (range (pos 0) (pos 4095)) (pos x.number) in
    let value = in_range signed_values x.value in
    let parts = and_parts (in_range (range (pos 0) (pos 199)) (pos x.first)) (second && (number && (value && true))) e in
    let rest = and_parts second (number && (value && true)) parts.1 in
    let last = and_parts number (value && true) rest.1 in
    let end = and_parts value true last.1 in
    let a = natural_most x.first 199 parts.0 in
    let b = natural_most x.second 199 rest.0 in
    let d = natural_most x.number 4095 last.0 in
    record { first = omega (arith, a); second = omega (arith, b); number = omega (arith, d); value = small_of x.value end.0 }

pub a_range : (x : PairValue) → IsTrue (is_in_range (A x)) → IsPairRange x
unfolding is_in_range
a_range x e = pair_range x e

pub b_range : (x : PairValue) → IsTrue (is_in_range (B x)) → IsPairRange x
unfolding is_in_range
b_range x e = pair_range x e

pub record IsScale (q : ℤ) : Type 0 where
  pub least : pos 1 ≤ℤ q
  pub most : q ≤ℤ pos (10 ^ 18)

pub leaf_range : (q : ℤ) → IsTrue (is_in_range (Leaf q)) → IsScale q
unfolding is_in_range
leaf_range q e =
    let parts = and_parts (in_range (range (pos 1) (pos (10 ^ 18))) q) true e in
    record { least = least_of (pos 1) (pos (10 ^ 18)) q parts.0; most = most_of (pos 1) (pos (10 ^ 18)) q parts.0 }

-- A version isn't 0.
pub head_range : (x : HeadRecord) → IsTrue (is_in_range (Head x)) → (x.version == 0) ≡ false
unfolding is_in_range
head_range x e =
    let parts = and_parts (in_range (range (pos 1) (pos 2)) (pos x.version)) (in_range (range (pos 0) (pos 200)) (pos x.trains) && true) e in
    let least = least_of (pos 1) (pos 2) (pos x.version) parts.0 in
    positive x.version (omega (arith, ints, least))
  where
    positive : (n : ℕ) → 1 ≤ n → (n == 0) ≡ false
    positive n h = grind (arith, nat_tests)
