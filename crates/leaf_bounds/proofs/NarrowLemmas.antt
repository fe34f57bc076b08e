-- A leaf without its numbers at patterns that aren't in narrower lists.
use Rattle.std.proofs.Common.{◌≡◌, ℕ, ◌<◌, ◌==◌, Bool, true, false, cond, ◌&&◌, List, [], ◌∷◌, length, get_or, refl, sym, ap, ◌∙◌, subst, arith, ℤ, pos, ◌+ℤ◌, ◌*ℤ◌, ◌≤ℤ◌}
use Rattle.std.specs.Prelude.{Contains, ◌^◌}
use Rattle.std.specs.List.{All, filter}
use Rattle.std.proofs.lemmas.Int.{ints, to_z-of_z}
use Rattle.std.proofs.lemmas.List.Elements.{All-filter, All-weaker, filter_passes}
use Rattle.std.proofs.lemmas.Map.Views.{Contains-from_any}
use mir.Syntax.{w128}
use mir.Val.{SFits, to_z, of_z}
use Rattle.std.proofs.lemmas.Bool.{eq-eqb, eqb-true}
use Rattle.std.proofs.lemmas.List.Folds.{list_any_at}
use Rattle.patterns.specs.Book.{price_at, pattern_at}
use Rattle.patterns.specs.Allowed.{Lists, list_of}
use Rattle.pair_prices.specs.Case.{CaseRecord}
use Rattle.pair_prices.specs.Trains.{TrainPair, train_pairs}
use Rattle.leaf_bounds.specs.declared.number.TrainValue.{TrainValue}
use Rattle.leaf_bounds.specs.declared.number.MinuteValue.{MinuteValue}
use Rattle.leaf_bounds.specs.declared.number.PairValue.{PairValue}
use Rattle.leaf_bounds.specs.declared.potentials.Side.{Side}
use Rattle.leaf_bounds.specs.declared.potentials.Side.TheVariants.{First, Second}
use Rattle.leaf_bounds.specs.declared.leaf.Leaf.{Leaf}
use Rattle.leaf_bounds.specs.Total.{only_if, total}
use Rattle.leaf_bounds.specs.Listed.{AreLeafLists, IsPairValue, pair_key, u_listed, v_listed, is_at, pair_listed}
use Rattle.leaf_bounds.specs.Sides.{train_on, is_kept, kept_entries}
use Rattle.leaf_bounds.specs.Leaf.{StandsFor, potential_of, potentials, held, excess, value_of}
use Rattle.leaf_bounds.specs.Expansion.{in_list}
use Rattle.leaf_bounds.specs.Shown.{numbers_of, IsPairThere, LeafStands}
use Rattle.leaf_bounds.specs.Made.{ArePartOf, IsNarrowed}
use Rattle.leaf_bounds.proofs.Totals.{total_same}
use Rattle.leaf_bounds.proofs.MadeLemmas.{all_same}
use Rattle.leaf_bounds.proofs.RisingLemmas.{ascends_filter, each_filter}
use Rattle.leaf_bounds.proofs.WideLemmas.{wide}

kept_by : (keeps test : PairValue → Bool) (x : PairValue) (xs : List PairValue) (b d : Bool) → keeps x ≡ b → test x ≡ d → (test x ≡ true → keeps x ≡ true)
    → total (λ y. only_if (test y) y.value) (filter keeps xs) ≡ total (λ y. only_if (test y) y.value) xs
    → total (λ y. only_if (test y) y.value) (cond b (x ∷ filter keeps xs) (filter keeps xs)) ≡ only_if d x.value +ℤ total (λ y. only_if (test y) y.value) xs
kept_by keeps test x xs true d e f h rest =
    let same : only_if (test x) x.value ≡ only_if d x.value = ap (λ b. only_if b x.value) f in
    omega (arith, ints, rest, same)
kept_by keeps test x xs false true e f h rest = let g = h f in cc
kept_by keeps test x xs false false e f h rest = omega (arith, ints, rest)

-- what is listed at a key, where the filter keeps all that is listed there
listed_kept : (keeps test : PairValue → Bool) (xs : List PairValue) → ((x : PairValue) → test x ≡ true → keeps x ≡ true)
    → total (λ x. only_if (test x) x.value) (filter keeps xs) ≡ total (λ x. only_if (test x) x.value) xs
listed_kept keeps test [] h = refl
listed_kept keeps test (x ∷ xs) h = kept_by keeps test x xs (keeps x) (test x) refl refl (h x) (listed_kept keeps test xs h)

member_in : (lists : Lists) (t i : ℕ) → Contains (list_of lists t) i → in_list lists t i ≡ true
member_in lists t i h = list_any_at (λ n. n == i) (list_of lists t) h.0 i h.1 (eq-eqb (get_or (list_of lists t) h.0 i) i h.2)

record IsKey (a b d : Bool) : Type 0 where
  first : a ≡ true
  second : b ≡ true
  third : d ≡ true

three : (a b d : Bool) → (a && b && d) ≡ true → IsKey a b d
three true true true e = record { first = refl; second = refl; third = refl }
three true true false e = cc
three true false d e = cc
three false b d e = cc

module _ (lists : Lists) (l n : Leaf) (h : IsNarrowed lists l n) where
  alpha_kept : (p : TrainPair) (i : ℕ) → Contains (list_of lists p.first) i → pair_listed n.alpha p i ≡ pair_listed l.alpha p i
  alpha_kept p i m =
      ap (λ xs. pair_listed xs p i) h.alpha
      ∙ listed_kept (λ x. in_list lists x.first x.number) (is_at p i) l.alpha
      (λ x e. let k = three (x.first == p.first) (x.second == p.second) (x.number == i) e in
      ap (λ t. in_list lists t x.number) (eqb-true x.first p.first k.first) ∙ ap (in_list lists p.first) (eqb-true x.number i k.third) ∙ member_in lists p.first i m)

  beta_kept : (p : TrainPair) (i : ℕ) → Contains (list_of lists p.second) i → pair_listed n.beta p i ≡ pair_listed l.beta p i
  beta_kept p i m =
      ap (λ xs. pair_listed xs p i) h.beta
      ∙ listed_kept (λ x. in_list lists x.second x.number) (is_at p i) l.beta
      (λ x e. let k = three (x.first == p.first) (x.second == p.second) (x.number == i) e in
      ap (λ t. in_list lists t x.number) (eqb-true x.second p.second k.second) ∙ ap (in_list lists p.second) (eqb-true x.number i k.third) ∙ member_in lists p.second i m)

only_same : (b : Bool) (x y : ℤ) → (b ≡ true → x ≡ y) → only_if b x ≡ only_if b y
only_same true x y h = h refl
only_same false x y h = refl

module _ (c : CaseRecord) (wide lists : Lists) (l n : Leaf) (part : ArePartOf lists wide) (s : LeafStands c wide l) (h : IsNarrowed lists l n) where
  potentials_kept : (t i : ℕ) → Contains (list_of lists t) i → potentials c (numbers_of n) t i ≡ potentials c (numbers_of l) t i
  unfolding potentials
  potentials_kept t i m =
      total_same (potential_of (numbers_of n) t i) (potential_of (numbers_of l) t i) (train_pairs (length c.book))
      (all_same (potential_of (numbers_of n) t i) (potential_of (numbers_of l) t i) (train_pairs (length c.book))
      (λ p. let a = only_same (p.first == t) (pair_listed n.alpha p i) (pair_listed l.alpha p i)
      (λ e. alpha_kept lists l n h p i (subst (λ (k : ℕ). Contains (list_of lists k) i) (sym (eqb-true p.first t e)) m)) in
      let b = only_same (p.second == t) (pair_listed n.beta p i) (pair_listed l.beta p i)
      (λ e. beta_kept lists l n h p i (subst (λ (k : ℕ). Contains (list_of lists k) i) (sym (eqb-true p.second t e)) m)) in
      (λ j. a j +ℤ b j)))

  pub narrow_value : value_of c (numbers_of n) ≡ value_of c (numbers_of l)
  unfolding value_of excess
  narrow_value =
      let q = h.q in
      let u = h.u in
      let v = h.v in
      (λ i. value_of c (record { q = q i; u = u_listed (u i); v = v_listed (v i); alpha = pair_listed n.alpha; beta = pair_listed n.beta }))

  held_kept : (t i : ℕ) → held c (numbers_of n) (pattern_at c.book t i) ≡ held c (numbers_of l) (pattern_at c.book t i)
  unfolding held
  held_kept t i =
      let v = h.v in
      (λ j. held c (record { q = n.q; u = u_listed n.u; v = v_listed (v j); alpha = pair_listed n.alpha; beta = pair_listed n.beta }) (pattern_at c.book t i))

  pub narrow_stands : StandsFor c lists (numbers_of n)
  narrow_stands = record {
    scale = subst (λ (z : ℤ). pos 1 ≤ℤ z) (sym h.q) s.stands.scale;
    minute = λ p m. let e = ap (λ xs. v_listed xs p m) h.v in let least = s.stands.minute p m in omega (arith, ints, e, least);
    pair = λ a b i j o g ci cj.
        let at_most = s.stands.pair a b i j o g (part a i ci) (part b j cj) in
        let first = alpha_kept lists l n h (record { first = a; second = b }) i ci in
        let second = beta_kept lists l n h (record { first = a; second = b }) j cj in
        rw (first, second, h.q) at_most;
    pattern = λ t i g ci.
        let at_most = s.stands.pattern t i g (part t i ci) in
        let first = ap (λ xs. u_listed xs t) h.u in
        let second = potentials_kept t i ci in
        let third = held_kept t i in
        let fourth = ap (λ (z : ℤ). z *ℤ pos (price_at c.book t i)) h.q in
        omega (arith, ints, at_most, first, second, third, fourth);
  }

-- the lists of a leaf without some of its potentials
pub kept_lists : (l : Leaf) (first second : PairValue → Bool) (q : ℤ) (u : List TrainValue) (v : List MinuteValue) (alpha beta : List PairValue)
    → q ≡ to_z w128 (of_z w128 l.q) → u ≡ l.u → v ≡ l.v → alpha ≡ filter first l.alpha → beta ≡ filter second l.beta → AreLeafLists q u v alpha beta
kept_lists l first second q u v alpha beta e f g h k =
    let least = l.kept.q_least in
    let most = l.kept.q_most in
    let same : q ≡ l.q = e ∙ handed l.q least most in
    let P : ℤ → List TrainValue → List MinuteValue → List PairValue → List PairValue → Type 0 = AreLeafLists in
    subst (λ (z : ℤ). P z u v alpha beta) (sym same)
    (subst (λ (xs : List TrainValue). P l.q xs v alpha beta) (sym f)
    (subst (λ (xs : List MinuteValue). P l.q l.u xs alpha beta) (sym g)
    (subst (λ (xs : List PairValue). P l.q l.u l.v xs beta) (sym h)
    (subst (λ (xs : List PairValue). P l.q l.u l.v (filter first l.alpha) xs) (sym k)
    (record {
      q_least = least;
      q_most = most;
      u_each = l.kept.u_each;
      v_each = l.kept.v_each;
      alpha_each = each_filter IsPairValue first l.alpha l.kept.alpha_each;
      beta_each = each_filter IsPairValue second l.beta l.kept.beta_each;
      u_ascends = l.kept.u_ascends;
      v_ascends = l.kept.v_ascends;
      alpha_ascends = ascends_filter (λ x. pos (pair_key x)) first l.alpha l.kept.alpha_ascends;
      beta_ascends = ascends_filter (λ x. pos (pair_key x)) second l.beta l.kept.beta_ascends;
    })))))
  where
    handed : (z : ℤ) → pos 1 ≤ℤ z → z ≤ℤ pos (10 ^ 18) → to_z w128 (of_z w128 z) ≡ z
    handed z a b = let fits : SFits w128 z = wide z (omega (arith, ints, a, b)) in simp to_z-of_z refl

-- the trains of a leaf's pairs have lists
pub first_there : (c : CaseRecord) (lists : Lists) (xs : List PairValue) → length lists ≡ length c.book → All (IsPairThere c) xs
    → All (λ x. train_on First x < length lists) xs
first_there c lists xs e h =
    All-weaker (IsPairThere c) (λ x. train_on First x < length lists) (λ x p. let a = p.order in let b = p.there in omega (arith, a, b, e)) xs h

pub second_there : (c : CaseRecord) (lists : Lists) (xs : List PairValue) → length lists ≡ length c.book → All (IsPairThere c) xs
    → All (λ x. train_on Second x < length lists) xs
second_there c lists xs e h =
    All-weaker (IsPairThere c) (λ x. train_on Second x < length lists) (λ x p. let b = p.there in omega (arith, b, e)) xs h

in_list-contains : (lists : Lists) (t i : ℕ) → in_list lists t i ≡ true → Contains (list_of lists t) i
in_list-contains lists t i e = Contains-from_any {eq = λ a b. b == a} (λ x y f. sym (eqb-true y x f)) i (list_of lists t) e

kept_there : (lists : Lists) (side : Side) (xs : List PairValue) → All (λ x. Contains (list_of lists (train_on side x)) x.number) (kept_entries lists side xs)
kept_there lists side xs =
    All-weaker (λ x. is_kept lists side x ≡ true) (λ x. Contains (list_of lists (train_on side x)) x.number)
    (λ x e. in_list-contains lists (train_on side x) x.number e) (kept_entries lists side xs) (filter_passes (is_kept lists side) xs)

-- The narrower leaf stands.
pub narrow_leaf_is : (c : CaseRecord) (wide lists : Lists) (l n : Leaf) → ArePartOf lists wide → LeafStands c wide l → IsNarrowed lists l n → LeafStands c lists n
narrow_leaf_is c wide lists l n part s h = record {
  places = record {
    trains = subst (All (λ x. x.train < length c.book)) (sym h.u) s.places.trains;
    platforms = subst (All (λ x. x.platform < length c.station.platforms)) (sym h.v) s.places.platforms;
    alpha_pairs = subst (All (IsPairThere c)) (sym h.alpha) (All-filter (is_kept lists First) (IsPairThere c) l.alpha s.places.alpha_pairs);
    alpha_numbers = subst (All (λ x. Contains (list_of lists x.first) x.number)) (sym h.alpha) (kept_there lists First l.alpha);
    beta_pairs = subst (All (IsPairThere c)) (sym h.beta) (All-filter (is_kept lists Second) (IsPairThere c) l.beta s.places.beta_pairs);
    beta_numbers = subst (All (λ x. Contains (list_of lists x.second) x.number)) (sym h.beta) (kept_there lists Second l.beta);
  };
  stands = narrow_stands c wide lists l n part s h;
}
