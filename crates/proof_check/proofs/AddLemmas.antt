-- Tables whose numbers are added to sums, one after the other.
use Rattle.std.proofs.Common.{◌≡◌, ℕ, zero, suc, ◌<◌, ◌==◌, ◌&&◌, Bool, true, false, List, [], ◌∷◌, ◌++◌, length, take, refl, sym, ap, subst, ◌∙◌, arith, Some, Result, Ok, Err, ℤ, pos, ◌+ℤ◌, ◌*ℤ◌, ◌<ℤ◌}
use Rattle.std.specs.Prelude.{slice_get, IsErrAnd}
use Rattle.std.proofs.lemmas.Int.{ints}
use Rattle.std.proofs.lemmas.Bool.{eqb-true}
use Rattle.std.proofs.lemmas.Bool.Decides.{nat_tests}
use Rattle.patterns.specs.Allowed.{Lists}
use Rattle.pair_prices.specs.Trains.{TrainPair}
use Rattle.leaf_bounds.specs.declared.number.NumberValue.{NumberValue}
use Rattle.leaf_bounds.specs.Group.{Group}
use Rattle.leaf_bounds.specs.Expansion.{in_list, is_of}
use Rattle.leaf_bounds.specs.Listed.{Ascends, IsSmall, is_at, number_listed}
use Rattle.leaf_bounds.specs.Total.{only_if, total}
use Rattle.leaf_bounds.proofs.BoundedLemmas.{Each}
use Rattle.leaf_bounds.proofs.PlaceLemmas.{ascends_tail, later}
use Rattle.leaf_bounds.proofs.Totals.{mul-add_ℤ, mul-none_ℤ, total_push}
use Rattle.proof_file.proofs.TruthLemmas.{and_parts}
use Rattle.proof_check.specs.declared.side.Side.{Side}
use Rattle.proof_check.specs.declared.side.Side.TheVariants.{First, Second}
use Rattle.proof_check.specs.declared.table.Table.{Table}
use Rattle.proof_check.specs.Tables.{group_of}
use Rattle.proof_check.specs.declared.stop.Stop.{Stop}
use Rattle.proof_check.specs.declared.stop.Stop.TheVariants.{Memory, Refused}
use Rattle.proof_check.specs.Sums.{Sums, Adds, AddsEntry, AddsNumber, AreKeyed, AreListed, IsAdded, IsListed, IsNumberAdded, IsOver, IsTooMuch, entry_of, number_added, numbers_on, pair_of, sum_at, train_at}
use Rattle.proof_check.proofs.OrderLemmas.{neq}

abbrev pub number_key : NumberValue → ℤ
number_key y = pos y.number

-- totals of ascending numbers to which one adds something
module _ (f : NumberValue → ℤ) (x : NumberValue) (off : (y : NumberValue) → (y.number ≡ x.number → ⊥) → f y ≡ pos 0) where
  none_behind : (y : NumberValue) (ns : List NumberValue) → y.number ≡ x.number → Ascends number_key (y ∷ ns) → total f ns ≡ pos 0
  none_behind y ns e up = none ns (λ k z g. off z (λ q. let less = later number_key y ns up k z g in omega (arith, ints, less, q, e)))
    where
      none : (ns : List NumberValue) → Each (λ z. f z ≡ pos 0) ns → total f ns ≡ pos 0
      none [] h = refl
      none (z ∷ ns) h =
          let here : f z ≡ pos 0 = h 0 z refl in
          let rest = none ns (λ k w e. h (suc k) w e) in
          omega (arith, ints, here, rest)

  pub total_before : (ns : List NumberValue) (k : ℕ) → Ascends number_key ns → slice_get ns k ≡ Some x → total f (take k ns) ≡ pos 0
  total_before [] k up e = absurd (cc)
  total_before (y ∷ ns) zero up e = refl
  total_before (y ∷ ns) (suc k) up e =
      let less : number_key y <ℤ number_key x = later number_key y ns up k x e in
      let here : f y ≡ pos 0 = off y (λ q. omega (arith, ints, less, q)) in
      let rest = total_before ns k (ascends_tail number_key y ns up) e in
      omega (arith, ints, here, rest)

  pub total_one : (ns : List NumberValue) (k : ℕ) → Ascends number_key ns → slice_get ns k ≡ Some x → total f ns ≡ f x
  total_one [] k up e = absurd (cc)
  total_one (y ∷ ns) zero up e =
      let same : y ≡ x = cc in
      let here = ap f same in
      let rest = none_behind y ns (ap (λ z. z.number) same) up in
      omega (arith, ints, here, rest)
  total_one (y ∷ ns) (suc k) up e =
      let less : number_key y <ℤ number_key x = later number_key y ns up k x e in
      let here : f y ≡ pos 0 = off y (λ q. omega (arith, ints, less, q)) in
      let rest = total_one ns k (ascends_tail number_key y ns up) e in
      omega (arith, ints, here, rest)

same_number : (n : ℕ) → (n == n) ≡ true
same_number n = grind (arith, nat_tests)

-- what is listed at an entry's number
number_is : (ns : List NumberValue) (k : ℕ) (x : NumberValue) → Ascends number_key ns → slice_get ns k ≡ Some x → number_listed ns x.number ≡ x.value
number_is ns k x up e =
    total_one (λ y. only_if (y.number == x.number) y.value) x (λ y h. ap (λ b. only_if b y.value) (neq y.number x.number h)) ns k up e
    ∙ ap (λ b. only_if b x.value) (same_number x.number)

nothing : (b : Bool) → only_if b (pos 0) ≡ pos 0
nothing true = refl
nothing false = refl

and_false : (a b : Bool) → b ≡ false → (a && b) ≡ false
and_false true b e = e
and_false false b e = refl

module _ (lists : Lists) (side : Side) (g : Group) (factor : ℤ) where
  -- a number of another pattern adds nothing
  off_pattern : (p : TrainPair) (i : ℕ) (y : NumberValue) → (y.number ≡ i → ⊥) → number_added lists side g factor y p i ≡ pos 0
  off_pattern p i y h =
      ap (λ b. only_if (in_list lists (train_at side (pair_of g)) y.number) (only_if b (factor *ℤ y.value)))
      (and_false (is_of p g) (y.number == i) (neq y.number i h))
      ∙ nothing (in_list lists (train_at side (pair_of g)) y.number)

  same_train : (side : Side) (p : TrainPair) → g.first ≡ p.first → g.second ≡ p.second → train_at side (pair_of g) ≡ train_at side p
  same_train First p e f = e
  same_train Second p e f = f

  both_counted : (b : Bool) (v w : ℤ) → only_if b (factor *ℤ v) +ℤ only_if b (factor *ℤ w) ≡ only_if b (factor *ℤ (v +ℤ w))
  both_counted true v w = sym (mul-add_ℤ factor v w)
  both_counted false v w = refl

  -- all of a table's numbers at one pattern
  added_all : (p : TrainPair) (i : ℕ) (ns : List NumberValue) → total (λ x. number_added lists side g factor x p i) ns
      ≡ only_if (in_list lists (train_at side p) i) (factor *ℤ only_if (is_of p g) (number_listed ns i))
  added_all p i [] = none (in_list lists (train_at side p) i) (is_of p g)
    where
      zero_product : factor *ℤ pos 0 ≡ pos 0
      zero_product = mul-none_ℤ factor

      none : (b o : Bool) → pos 0 ≡ only_if b (factor *ℤ only_if o (pos 0))
      none true true = sym zero_product
      none true false = sym zero_product
      none false o = refl
  added_all p i (y ∷ ns) = by_tests (is_of p g) refl (y.number == i) refl (added_all p i ns)
    where
      nothing_first : (z : ℤ) → z ≡ pos 0 +ℤ z
      nothing_first z = omega (arith, ints)

      by_tests : (o : Bool) → is_of p g ≡ o → (d : Bool) → (y.number == i) ≡ d
          → total (λ x. number_added lists side g factor x p i) ns
          ≡ only_if (in_list lists (train_at side p) i) (factor *ℤ only_if (is_of p g) (number_listed ns i))
          → total (λ x. number_added lists side g factor x p i) (y ∷ ns)
          ≡ only_if (in_list lists (train_at side p) i) (factor *ℤ only_if (is_of p g) (number_listed (y ∷ ns) i))
      by_tests o q false e rest =
          let none = off_pattern p i y (λ h. differs h) in
          let more = ap (λ b. only_if (in_list lists (train_at side p) i) (factor *ℤ only_if (is_of p g) (only_if b y.value +ℤ number_listed ns i))) e in
          let first = ap (λ z. only_if (in_list lists (train_at side p) i) (factor *ℤ only_if (is_of p g) z)) (nothing_first (number_listed ns i)) in
          ap (λ z. z +ℤ total (λ x. number_added lists side g factor x p i) ns) none
          ∙ sym (nothing_first (total (λ x. number_added lists side g factor x p i) ns)) ∙ rest ∙ first ∙ sym more
        where
          differs : y.number ≡ i → ⊥
          differs h = grind (arith, nat_tests)
      by_tests false q true e rest =
          ap (λ b. only_if (in_list lists (train_at side (pair_of g)) y.number) (only_if (b && y.number == i) (factor *ℤ y.value))
          +ℤ total (λ x. number_added lists side g factor x p i) ns) q
          ∙ ap (λ z. z +ℤ total (λ x. number_added lists side g factor x p i) ns) (nothing (in_list lists (train_at side (pair_of g)) y.number))
          ∙ sym (nothing_first (total (λ x. number_added lists side g factor x p i) ns)) ∙ rest
          ∙ ap (λ b. only_if (in_list lists (train_at side p) i) (factor *ℤ only_if b (number_listed ns i))) q
          ∙ sym (ap (λ b. only_if (in_list lists (train_at side p) i) (factor *ℤ only_if b (number_listed (y ∷ ns) i))) q)
      by_tests true q true e rest =
          let parts = and_parts (g.first == p.first) (g.second == p.second) q in
          let train = same_train side p (eqb-true g.first p.first parts.0) (eqb-true g.second p.second parts.1) in
          let number = eqb-true y.number i e in
          let test = ap (λ t. in_list lists t y.number) train ∙ ap (in_list lists (train_at side p)) number in
          ap (λ b. only_if (in_list lists (train_at side (pair_of g)) y.number) (only_if (b && y.number == i) (factor *ℤ y.value))
          +ℤ total (λ x. number_added lists side g factor x p i) ns) q
          ∙ ap (λ b. only_if (in_list lists (train_at side (pair_of g)) y.number) (only_if b (factor *ℤ y.value))
          +ℤ total (λ x. number_added lists side g factor x p i) ns) e
          ∙ ap (λ b. only_if b (factor *ℤ y.value) +ℤ total (λ x. number_added lists side g factor x p i) ns) test
          ∙ ap (λ z. only_if (in_list lists (train_at side p) i) (factor *ℤ y.value) +ℤ z) rest
          ∙ ap (λ b. only_if (in_list lists (train_at side p) i) (factor *ℤ y.value)
          +ℤ only_if (in_list lists (train_at side p) i) (factor *ℤ only_if b (number_listed ns i))) q
          ∙ both_counted (in_list lists (train_at side p) i) y.value (number_listed ns i)
          ∙ sym (ap (λ b. only_if (in_list lists (train_at side p) i) (factor *ℤ only_if b (number_listed (y ∷ ns) i))) q
          ∙ ap (λ b. only_if (in_list lists (train_at side p) i) (factor *ℤ (only_if b y.value +ℤ number_listed ns i))) e)

  listed_on : (side : Side) (x : NumberValue) → g.second < length lists → in_list lists (train_at side (pair_of g)) x.number ≡ true
      → IsListed lists side (entry_of g x)
  listed_on First x h e = record { there = h; listed = e }
  listed_on Second x h e = record { there = h; listed = e }

  -- one number of a pattern that is in the lists
  pub adds_number : (x : NumberValue) (old new : Sums) → g.second < length lists → in_list lists (train_at side (pair_of g)) x.number ≡ true
      → AreListed lists side old → AddsEntry (entry_of g x) factor old new → AddsNumber lists side g factor x old new
  adds_number x old new h e l a = record {
    sums = λ p i. a.sums p i ∙ ap (λ b. sum_at old p i +ℤ only_if b (only_if (is_at p i (entry_of g x)) (factor *ℤ x.value))) (sym e);
    keyed = a.keyed;
    listed = a.listed lists side l (listed_on side x h e);
  }

  -- the sums with a part of the table's numbers
  pub record SumsSoFar (done : List NumberValue) (old now : Sums) : Type 0 where
    pub sums : (p : TrainPair) (i : ℕ) → sum_at now p i ≡ sum_at old p i +ℤ total (λ x. number_added lists side g factor x p i) done
    pub keyed : AreKeyed now
    pub listed : AreListed lists side now

  pub sums_start : (old : Sums) → AreKeyed old → AreListed lists side old → SumsSoFar [] old old
  sums_start old k l = record { sums = λ p i. none (sum_at old p i); keyed = k; listed = l }
    where
      none : (z : ℤ) → z ≡ z +ℤ pos 0
      none z = omega (arith, ints)

  pub sums_more : (done : List NumberValue) (x : NumberValue) (old now next : Sums) → SumsSoFar done old now
      → AddsNumber lists side g factor x now next → SumsSoFar (done ++ x ∷ []) old next
  sums_more done x old now next h a = record {
    sums = λ p i.
        more (sum_at old p i) (sum_at now p i) (sum_at next p i) (total (λ y. number_added lists side g factor y p i) done)
        (number_added lists side g factor x p i) (total (λ y. number_added lists side g factor y p i) (done ++ x ∷ []))
        (h.sums p i) (a.sums p i) (total_push (λ y. number_added lists side g factor y p i) done x);
    keyed = a.keyed;
    listed = a.listed;
  }
    where
      more : (o n m t z u : ℤ) → n ≡ o +ℤ t → m ≡ n +ℤ z → u ≡ t +ℤ z → m ≡ o +ℤ u
      more o n m t z u e f q = omega (arith, ints, e, f, q)

  pub sums_end : (old now : Sums) → SumsSoFar (numbers_on side g) old now → Adds lists side g factor old now
  sums_end old now h = record {
    sums = λ p i. h.sums p i ∙ ap (λ z. sum_at old p i +ℤ z) (added_all p i (numbers_on side g));
    keyed = h.keyed;
    listed = h.listed;
  }

  pair_is : is_of (pair_of g) g ≡ true
  pair_is = both (g.first == g.first) (g.second == g.second) (same_number g.first) (same_number g.second)
    where
      both : (a b : Bool) → a ≡ true → b ≡ true → (a && b) ≡ true
      both true b e f = f
      both false b e f = e

  -- where one number would be too large, the table would be
  pub sums_over : (old now : Sums) (k : ℕ) (x : NumberValue) → Ascends number_key (numbers_on side g) → slice_get (numbers_on side g) k ≡ Some x
      → SumsSoFar (take k (numbers_on side g)) old now → in_list lists (train_at side (pair_of g)) x.number ≡ true
      → IsOver now (pair_of g) x.number (factor *ℤ x.value) → IsTooMuch lists side g factor old
  sums_over old now k x up e h there over = record {
    number = x.number;
    listed = there;
    over = subst (λ (z : ℤ). IsOver old (pair_of g) x.number (factor *ℤ z))
        (sym (ap (λ b. only_if b (number_listed (numbers_on side g) x.number)) pair_is ∙ number_is (numbers_on side g) k x up e))
        (λ small. over (subst (λ (z : ℤ). IsSmall (z +ℤ factor *ℤ x.value)) (sym same) small));
  }
    where
      no_more : (z : ℤ) → z +ℤ pos 0 ≡ z
      no_more z = omega (arith, ints)

      same : sum_at now (pair_of g) x.number ≡ sum_at old (pair_of g) x.number
      same = h.sums (pair_of g) x.number
          ∙ ap (λ z. sum_at old (pair_of g) x.number +ℤ z)
          (total_before (λ y. number_added lists side g factor y (pair_of g) x.number) x (off_pattern (pair_of g) x.number) (numbers_on side g) k up e)
          ∙ no_more (sum_at old (pair_of g) x.number)

  -- so a table is refused with its number
  pub over_by : (result : Result (Unit {0}) Stop) (old now next : Sums) (k : ℕ) (x : NumberValue) (stop : Stop) → IsErrAnd result (λ s. s ≡ stop)
      → Ascends number_key (numbers_on side g) → slice_get (numbers_on side g) k ≡ Some x → SumsSoFar (take k (numbers_on side g)) old now
      → IsNumberAdded lists side g factor x now next (Err stop) → IsAdded lists side g factor old next result
  over_by (Ok done) old now next k x stop e up there h a = absurd e
  over_by (Err Memory) old now next k x stop e up there h a = tt
  over_by (Err (Refused kind)) old now next k x stop e up there h a = by stop e a
    where
      by : (stop : Stop) → Refused kind ≡ stop → IsNumberAdded lists side g factor x now next (Err stop) → IsAdded lists side g factor old next (Err (Refused kind))
      by Memory e a = absurd (cc)
      by (Refused other) e a =
          let same : kind ≡ other = cc in
          (same ∙ a.0, sums_over old now k x up there h a.1 a.2)

-- a table's numbers ascend
pub ascends_on : (side : Side) (t : Table) → Ascends number_key (numbers_on side (group_of t))
ascends_on First t = t.kept.alpha_ascends
ascends_on Second t = t.kept.beta_ascends
