-- What the first so many rows pay, one more at a time.
use Rattle.std.proofs.Common.{◌≡◌, ℕ, zero, suc, ◌+◌, ◌<◌, ◌≤◌, List, [], ◌∷◌, length, get_or, take, sym, ap, ◌∙◌, subst, arith, inl, inr, ◌⊎◌, ℤ, pos, ◌+ℤ◌, ◌*ℤ◌, ◌≤ℤ◌}
use Rattle.std.specs.Prelude.{All, Contains, slice_index_or}
use Rattle.std.proofs.lemmas.Int.{ints}
use Rattle.std.proofs.lemmas.List.{take_all}
use Rattle.std.proofs.lemmas.List.Elements.{All-nil}
use Rattle.exact_lp.specs.declared.row.Row.{Row}
use Rattle.exact_lp.specs.Columns.{value_at}
use Rattle.exact_lp.specs.Programs.{paid_by_rows, valued_leasts}
use Rattle.pair_prices.specs.Case.{CaseRecord}
use Rattle.pair_prices.specs.Fraction.{pattern_of}
use Rattle.pair_prices.specs.Top.{sealed_price}
use Rattle.pattern_pricing.specs.Layout.{LayoutRecord}
use Rattle.station_rows.specs.Rows.{AreTrainRows, IsTrainRow, StandsIn}
use Rattle.dual_leaves.specs.declared.key.Side.TheVariants.{First, Second}
use Rattle.dual_leaves.specs.Account.{IsAccount, IsMinuteKey, IsPairKey, Reads, Totals, paid_with}
use Rattle.dual_leaves.specs.Kinds.{AreStationRows, IsStationRow}

-- an account of nothing
abbrev pub no_totals : Totals
no_totals = record { u = []; uses = []; v = []; alpha = []; beta = [] }

nothing_paid : (c : CaseRecord) (l : LayoutRecord) → IsAccount c l (λ column. pos 0) (pos 0) no_totals
nothing_paid c l = record {
  weights = λ train place i k. omega (arith, ints);
  uses = λ platform i. omega (arith, ints);
  pairs = λ first second i j o s n m. below (sealed_price c (pattern_of c l.lists first i) (pattern_of c l.lists second j));
  cost = omega (arith, ints);
  kept = record {
    u = All-nil (λ t. t < length l.lists);
    uses = All-nil (λ p. p < l.platforms);
    uses_least = All-nil (λ z. pos 0 ≤ℤ z);
    v = All-nil (IsMinuteKey l);
    v_least = All-nil (λ z. pos 0 ≤ℤ z);
    alpha = All-nil (IsPairKey l First);
    beta = All-nil (IsPairKey l Second);
  };
}
  where
    below : (n : ℕ) → (pos 0 +ℤ pos 0) ≤ℤ (pos 0 *ℤ pos n)
    below n = omega (arith, ints)

pub account_none : (c : CaseRecord) (l : LayoutRecord) (a : Totals) → a.u ≡ [] → a.uses ≡ [] → a.v ≡ [] → a.alpha ≡ [] → a.beta ≡ []
    → IsAccount c l (λ column. pos 0) (pos 0) a
account_none c l a u uses v alpha beta =
    let same : no_totals ≡ a = λ i. record { u = sym u i; uses = sym uses i; v = sym v i; alpha = sym alpha i; beta = sym beta i } in
    subst (IsAccount c l (λ column. pos 0) (pos 0)) same (nothing_paid c l)

paid_next : (rows : List Row) (values : List ℤ) (k : ℕ) (d : Row) (e : ℤ) (column : ℕ) → k < length rows → k < length values
    → paid_by_rows (take (suc k) rows) (take (suc k) values) column
    ≡ paid_by_rows (take k rows) (take k values) column +ℤ get_or values k e *ℤ value_at (get_or rows k d).cells column
paid_next [] values k d e column h m = absurd (omega arith)
paid_next (r ∷ rows) [] k d e column h m = absurd (omega arith)
paid_next (r ∷ rows) (v ∷ values) zero d e column h m = swapped (v *ℤ value_at r.cells column)
  where
    swapped : (z : ℤ) → z +ℤ pos 0 ≡ pos 0 +ℤ z
    swapped z = omega (arith, ints)
paid_next (r ∷ rows) (v ∷ values) (suc k) d e column h m =
    grouped (v *ℤ value_at r.cells column) (paid_by_rows (take (suc k) rows) (take (suc k) values) column) (paid_by_rows (take k rows) (take k values) column)
    (get_or values k e *ℤ value_at (get_or rows k d).cells column) (paid_next rows values k d e column (omega arith) (omega arith))
  where
    grouped : (a s t p : ℤ) → s ≡ t +ℤ p → a +ℤ s ≡ (a +ℤ t) +ℤ p
    grouped a s t p e = omega (arith, ints, e)

leasts_next : (rows : List Row) (values : List ℤ) (k : ℕ) (d : Row) (e : ℤ) → k < length rows → k < length values
    → valued_leasts (take (suc k) rows) (take (suc k) values) ≡ valued_leasts (take k rows) (take k values) +ℤ get_or values k e *ℤ (get_or rows k d).least
leasts_next [] values k d e h m = absurd (omega arith)
leasts_next (r ∷ rows) [] k d e h m = absurd (omega arith)
leasts_next (r ∷ rows) (v ∷ values) zero d e h m = swapped (v *ℤ r.least)
  where
    swapped : (z : ℤ) → z +ℤ pos 0 ≡ pos 0 +ℤ z
    swapped z = omega (arith, ints)
leasts_next (r ∷ rows) (v ∷ values) (suc k) d e h m =
    grouped (v *ℤ r.least) (valued_leasts (take (suc k) rows) (take (suc k) values)) (valued_leasts (take k rows) (take k values))
    (get_or values k e *ℤ (get_or rows k d).least) (leasts_next rows values k d e (omega arith) (omega arith))
  where
    grouped : (a s t p : ℤ) → s ≡ t +ℤ p → a +ℤ s ≡ (a +ℤ t) +ℤ p
    grouped a s t p e = omega (arith, ints, e)

module _ (c : CaseRecord) (l : LayoutRecord) (rows : List Row) (values : List ℤ) where
  pub account_more : (k : ℕ) (row : Row) (old new : Totals) → k < length rows → k < length values → row ≡ get_or rows k row
      → IsAccount c l (paid_by_rows (take k rows) (take k values)) (valued_leasts (take k rows) (take k values)) old
      → Reads c l row (get_or values k (pos 0)) old new
      → IsAccount c l (paid_by_rows (take (k + 1) rows) (take (k + 1) values)) (valued_leasts (take (k + 1) rows) (take (k + 1) values)) new
  account_more k row old new h m is before read =
      let next : k + 1 ≡ suc k = omega arith in
      let after = read (paid_by_rows (take k rows) (take k values)) (valued_leasts (take k rows) (take k values)) before in
      let P : ℕ → Type 0 = λ n. IsAccount c l (paid_by_rows (take n rows) (take n values)) (valued_leasts (take n rows) (take n values)) new in
      let paid : (column : ℕ) → paid_with (paid_by_rows (take k rows) (take k values)) row (get_or values k (pos 0)) column
      ≡ paid_by_rows (take (suc k) rows) (take (suc k) values) column =
      λ column. ap (λ r. paid_by_rows (take k rows) (take k values) column +ℤ get_or values k (pos 0) *ℤ value_at r.cells column) is
      ∙ sym (paid_next rows values k row (pos 0) column h m) in
      let leasts = ap (λ r. valued_leasts (take k rows) (take k values) +ℤ get_or values k (pos 0) *ℤ r.least) is ∙ sym (leasts_next rows values k row (pos 0) h m) in
      subst P (sym next)
      (subst (λ (z : ℤ). IsAccount c l (paid_by_rows (take (suc k) rows) (take (suc k) values)) z new) leasts
      (subst (λ (f : ℕ → ℤ). IsAccount c l f (valued_leasts (take k rows) (take k values) +ℤ get_or values k (pos 0) *ℤ row.least) new)
      (λ i column. paid column i) after))

  pub account_all : (k : ℕ) (a : Totals) → length rows ≤ k → length values ≤ k
      → IsAccount c l (paid_by_rows (take k rows) (take k values)) (valued_leasts (take k rows) (take k values)) a
      → IsAccount c l (paid_by_rows rows values) (valued_leasts rows values) a
  account_all k a h m all =
      let r = take_all k rows h in
      let v = take_all k values m in
      subst (λ (vs : List ℤ). IsAccount c l (paid_by_rows rows vs) (valued_leasts rows vs) a) v
      (subst (λ (rs : List Row). IsAccount c l (paid_by_rows rs (take k values)) (valued_leasts rs (take k values)) a) r all)

each : (c : CaseRecord) (l : LayoutRecord) (opening : List Row) → AreTrainRows l opening → (row : Row) → Contains opening row ⊎ StandsIn c l row → IsStationRow c l row
each c l opening trains row (inl m) =
    let inside = m.1 in
    inl (m.0, omega (arith, inside, trains.trains), subst (IsTrainRow l m.0) m.2 (trains.each m.0 row (omega (arith, inside, trains.trains))))
each c l opening trains row (inr s) = inr s

-- each row is that of a train, or stands
pub station_rows : (c : CaseRecord) (l : LayoutRecord) (rows : List Row) → AreStationRows c l rows → All (IsStationRow c l) rows
station_rows c l rows h = λ k d m. each c l h.opening h.trains (slice_index_or rows k d) (h.given k d m)
