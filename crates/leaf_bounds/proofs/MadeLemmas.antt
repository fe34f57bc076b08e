-- Leaves of scale 1 that list numbers of trains alone.
use Rattle.std.proofs.Common.{◌≡◌, ℕ, ◌<◌, ◌==◌, Bool, true, false, List, [], ◌∷◌, length, refl, ◌∙◌, arith, ℤ, pos, ◌+ℤ◌, ◌≤ℤ◌}
use Rattle.std.specs.Prelude.{Contains}
use Rattle.std.specs.List.{All}
use Rattle.std.proofs.lemmas.Int.{ints, clamps}
use Rattle.std.proofs.lemmas.List.Elements.{All-nil, All-cons}
use Rattle.station.specs.Allowed.{numbers}
use Rattle.path_conflicts.specs.Minutes.{minutes, holds_platform}
use Rattle.patterns.specs.Book.{price_at, pattern_at}
use Rattle.patterns.specs.Allowed.{Lists, list_of}
use Rattle.pair_prices.specs.Case.{CaseRecord}
use Rattle.pair_prices.specs.Trains.{train_pairs}
use Rattle.leaf_bounds.specs.declared.leaf.Leaf.{Leaf}
use Rattle.leaf_bounds.specs.Total.{only_if, total}
use Rattle.leaf_bounds.specs.Listed.{u_listed, v_listed, pair_listed}
use Rattle.leaf_bounds.specs.Leaf.{LeafRecord, StandsFor, potential_of, potentials, held, excess, value_of}
use Rattle.leaf_bounds.specs.Shown.{numbers_of}
use Rattle.leaf_bounds.proofs.Totals.{total_same, total_none, total_numbers_same}

-- numbers of trains alone
abbrev pub bare : (ℕ → ℤ) → LeafRecord
bare u = record { q = pos 1; u = u; v = λ p m. pos 0; alpha = λ p i. pos 0; beta = λ p i. pos 0 }

pub all_same : {X : Type 0} (f g : X → ℤ) (xs : List X) → ((x : X) → f x ≡ g x) → All (λ x. f x ≡ g x) xs
all_same f g [] h = All-nil (λ x. f x ≡ g x)
all_same f g (x ∷ xs) h = All-cons (λ y. f y ≡ g y) x xs (h x) (all_same f g xs h)

nothing : (b : Bool) → only_if b (pos 0) ≡ pos 0
nothing true = refl
nothing false = refl

nothings : (b d : Bool) → only_if b (pos 0) +ℤ only_if d (pos 0) ≡ pos 0
nothings true true = refl
nothings true false = refl
nothings false true = refl
nothings false false = refl

module _ (c : CaseRecord) (u : ℕ → ℤ) where
  no_potentials : (t i : ℕ) → potentials c (bare u) t i ≡ pos 0
  unfolding potentials
  no_potentials t i =
      total_same (potential_of (bare u) t i) (λ p. pos 0) (train_pairs (length c.book))
      (all_same (potential_of (bare u) t i) (λ p. pos 0) (train_pairs (length c.book)) (λ p. nothings (p.first == t) (p.second == t)))
      ∙ total_none (train_pairs (length c.book))

  none_held : (t i : ℕ) → held c (bare u) (pattern_at c.book t i) ≡ pos 0
  unfolding held
  none_held t i =
      total_same (λ m. only_if (holds_platform c.station (pattern_at c.book t i) m) (pos 0)) (λ m. pos 0) minutes
      (all_same (λ m. only_if (holds_platform c.station (pattern_at c.book t i) m) (pos 0)) (λ m. pos 0) minutes
      (λ m. nothing (holds_platform c.station (pattern_at c.book t i) m)))
      ∙ total_none minutes

  no_excess : (p : ℕ) → excess c (bare u) p ≡ pos 0
  unfolding excess
  no_excess p = let none = total_none minutes in omega (arith, ints, clamps, none)

  pub bare_value : value_of c (bare u) ≡ total u (numbers (length c.book))
  unfolding value_of
  bare_value =
      let none = total_numbers_same (excess c (bare u)) (λ p. pos 0) (length c.station.platforms) (λ p h. no_excess p) in
      let zero = total_none (numbers (length c.station.platforms)) in
      omega (arith, ints, none, zero)

  pub bare_stands : (lists : Lists) → ((t i : ℕ) → t < length c.book → Contains (list_of lists t) i → u t ≤ℤ pos (price_at c.book t i))
      → StandsFor c lists (bare u)
  bare_stands lists h = record {
    scale = omega (arith, ints);
    minute = λ p m. omega (arith, ints);
    pair = λ s t i j a b ci cj. omega (arith, ints);
    pattern = λ t i a ci.
        let most = h t i a ci in
        let none = no_potentials t i in
        let held = none_held t i in
        omega (arith, ints, most, none, held);
  }

-- A leaf that lists numbers of trains alone is such a leaf.
module _ (c : CaseRecord) (lists : Lists) (l : Leaf) (q : l.q ≡ pos 1) (v : l.v ≡ []) (alpha : l.alpha ≡ []) (beta : l.beta ≡ []) where
  pub is_bare : numbers_of l ≡ bare (u_listed l.u)
  is_bare = λ i. record {
    q = q i;
    u = u_listed l.u;
    v = v_listed (v i);
    alpha = pair_listed (alpha i);
    beta = pair_listed (beta i);
  }
