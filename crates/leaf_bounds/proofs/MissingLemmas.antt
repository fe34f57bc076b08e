-- The leaf for lists of which one has no member.
use Rattle.std.proofs.Common.{◌≡◌, ℕ, ◌<◌, ◌≤◌, true, eqb, List, [], ◌∷◌, ◌++◌, length, sym, ap, ◌∙◌, subst, arith, ℤ, pos, ◌+ℤ◌, ◌*ℤ◌, ◌≤ℤ◌}
use Rattle.std.specs.Prelude.{Contains, int_le, unsigned_abs}
use Rattle.std.specs.List.{All}
use Rattle.std.proofs.lemmas.Int.{ints, to_z-of_z, fits_signed_from_abs}
use Rattle.std.proofs.lemmas.Bool.{ne_eqb}
use Rattle.std.proofs.lemmas.List.Elements.{All-nil, All-cons}
use Rattle.station.specs.Allowed.{numbers}
use Rattle.patterns.specs.Book.{price_at}
use Rattle.patterns.specs.Allowed.{Lists, list_of, FitsBook}
use Rattle.pair_prices.specs.Case.{CaseRecord}
use Rattle.pair_prices.specs.Top.{top_of}
use mir.Syntax.{w64}
use mir.Val.{SFits, to_z, of_z}
use Rattle.leaf_bounds.specs.declared.number.TrainValue.{TrainValue}
use Rattle.leaf_bounds.specs.declared.leaf.Leaf.{Leaf}
use Rattle.leaf_bounds.specs.Building.{listed_value}
use Rattle.leaf_bounds.specs.Total.{only_if, total}
use Rattle.leaf_bounds.specs.Listed.{u_listed}
use Rattle.leaf_bounds.specs.Leaf.{StandsFor, value_of}
use Rattle.leaf_bounds.specs.Shown.{numbers_of, IsPairThere, ArePlaces}
use Rattle.leaf_bounds.specs.Made.{IsMissingLeaf}
use Rattle.leaf_bounds.proofs.BareLemmas.{entry_of, one_listed}
use Rattle.leaf_bounds.proofs.MadeLemmas.{bare_stands, bare_value, is_bare}
use Rattle.leaf_bounds.proofs.Totals.{total_at, total_numbers_same}

pub top_least : (c : CaseRecord) → 1 ≤ top_of c
unfolding top_of
top_least c = omega arith

top_size : (z : ℤ) (n : ℕ) → z ≡ pos n → n < 10_000_000_000_000 → unsigned_abs (to_z w64 (of_z w64 z)) ≡ n
top_size z n e h =
    let f : SFits w64 z = fits_signed_from_abs w64 z (omega (arith, ints, e, h)) in
    simp to_z-of_z (omega (arith, ints, e))

-- the list that the code makes
pub top_alone : (c : CaseRecord) (t : ℕ) (z : ℤ) (old new : List TrainValue) → old ≡ [] → new ≡ old ++ listed_value t (unsigned_abs (to_z w64 (of_z w64 z)))
    → z ≡ pos (top_of c) → top_of c < 10_000_000_000_000 → new ≡ entry_of t (top_of c) ∷ []
top_alone c t z old new e f g h =
    f ∙ ap (λ os. os ++ listed_value t (unsigned_abs (to_z w64 (of_z w64 z)))) e ∙ ap (listed_value t) (top_size z (top_of c) g h)
    ∙ one_listed t (top_of c) (top_least c)

no_member : (lists : Lists) (t i : ℕ) → list_of lists t ≡ [] → Contains (list_of lists t) i → ⊥
no_member lists t i e h = let n : length (list_of lists t) ≡ 0 = ap length e in omega (arith, n, h.1)

lone_off : (t s : ℕ) (z : ℤ) → (t ≡ s → ⊥) → u_listed (record { train = t; value = z } ∷ []) s ≡ pos 0
lone_off t s z h = ap (λ b. only_if b z +ℤ pos 0) (ne_eqb t s h)

lone_total : (t n : ℕ) (z : ℤ) → t < n → total (u_listed (record { train = t; value = z } ∷ [])) (numbers n) ≡ z
lone_total t n z h =
    total_numbers_same (u_listed (record { train = t; value = z } ∷ [])) (λ s. only_if (eqb t s) z) n (λ s l. omega (arith, ints))
    ∙ total_at (λ s. z) t n h

le_true : (a b : ℤ) → a ≤ℤ b → int_le a b ≡ true
le_true a b h = grind (arith, ints)

-- TOP as the number of a train without a member
module _ (c : CaseRecord) (lists : Lists) (l : Leaf) (t : ℕ) (fits : FitsBook lists c.book) (h : t < length lists) (e : list_of lists t ≡ [])
    (q : l.q ≡ pos 1) (u : l.u ≡ record { train = t; value = pos (top_of c) } ∷ []) (v : l.v ≡ []) (alpha : l.alpha ≡ []) (beta : l.beta ≡ []) where
  there : t < length c.book
  there = omega (arith, fits.trains)

  missing_places : ArePlaces c lists l
  missing_places = record {
    trains = subst (All (λ x. x.train < length c.book)) (sym u)
        (All-cons (λ x. x.train < length c.book) (record { train = t; value = pos (top_of c) }) [] there (All-nil (λ x. x.train < length c.book)));
    platforms = subst (All (λ x. x.platform < length c.station.platforms)) (sym v) (All-nil (λ x. x.platform < length c.station.platforms));
    alpha_pairs = subst (All (IsPairThere c)) (sym alpha) (All-nil (IsPairThere c));
    alpha_numbers = subst (All (λ x. Contains (list_of lists x.first) x.number)) (sym alpha) (All-nil (λ x. Contains (list_of lists x.first) x.number));
    beta_pairs = subst (All (IsPairThere c)) (sym beta) (All-nil (IsPairThere c));
    beta_numbers = subst (All (λ x. Contains (list_of lists x.second) x.number)) (sym beta) (All-nil (λ x. Contains (list_of lists x.second) x.number));
  }

  none_elsewhere : (s i : ℕ) → s < length c.book → Contains (list_of lists s) i → u_listed l.u s ≤ℤ pos (price_at c.book s i)
  none_elsewhere s i a ci =
      let zero = ap (λ us. u_listed us s) u ∙ lone_off t s (pos (top_of c))
      (λ f. no_member lists t i e (subst (λ (k : ℕ). Contains (list_of lists k) i) (sym f) ci)) in
      omega (arith, ints, zero)

  missing_value : value_of c (numbers_of l) ≡ pos (top_of c)
  missing_value =
      ap (value_of c) (is_bare c lists l q v alpha beta) ∙ bare_value c (u_listed l.u)
      ∙ ap (λ us. total (u_listed us) (numbers (length c.book))) u ∙ lone_total t (length c.book) (pos (top_of c)) there

  pub missing_made : IsMissingLeaf c lists l
  missing_made =
      let value = missing_value in
      let scaled : l.q *ℤ pos (top_of c) ≡ pos (top_of c) = ap (λ (z : ℤ). z *ℤ pos (top_of c)) q ∙ omega (arith, ints) in
      record {
        leaf = record {
          q = q;
          stands = record {
            places = missing_places;
            stands = subst (StandsFor c lists) (sym (is_bare c lists l q v alpha beta)) (bare_stands c (u_listed l.u) lists none_elsewhere);
          };
        };
        empty = le_true (l.q *ℤ pos (top_of c)) (value_of c (numbers_of l)) (omega (arith, ints, value, scaled));
      }
