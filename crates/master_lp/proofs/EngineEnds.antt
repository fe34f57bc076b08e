-- From the engine's answers to those of a node.
use Rattle.std.proofs.Common.{◌≡◌, ℕ, ◌+◌, ◌≤◌, List, [], length, sym, ◌∙◌, subst, arith, ℤ, pos, true, inl, inr}
use Rattle.std.specs.List.{All}
use Rattle.std.proofs.lemmas.Int.{ints}
use Rattle.std.proofs.lemmas.List.Elements.{All-from_get_or}
use Rattle.exact_lp.specs.declared.answer.Limits.{Limits}
use Rattle.exact_lp.specs.declared.answer.Outcome.{Outcome}
use Rattle.exact_lp.specs.declared.answer.Outcome.TheVariants.{Exact, Weak}
use Rattle.exact_lp.specs.declared.answer.WeakCause.{WeakCause}
use Rattle.exact_lp.specs.declared.answer.WeakCause.TheVariants.{Left, Pivots, Rounds, Cells, Scale}
use Rattle.exact_lp.specs.declared.row.Row.{Row}
use Rattle.exact_lp.specs.Answers.{MayCause}
use Rattle.exact_lp.specs.Outcomes.{AreScalesBounded, IfExact, IfWeak, NamesBelow}
use Rattle.exact_lp.specs.Programs.{IsLeast, ShowsLeast}
use Rattle.patterns.specs.Allowed.{FitsBook, Lists}
use Rattle.pair_prices.specs.Case.{CaseRecord}
use Rattle.pattern_pricing.specs.Layout.{LayoutRecord, columns_of}
use Rattle.pattern_pricing.specs.Prices.{IsLayoutOf, PricingRecord, column_count, column_price}
use Rattle.station_rows.specs.Laws.{prices}
use Rattle.station_rows.specs.Rows.{AreTrainRows, StandsIn, use_stands, clique_stands, pair_stands}
use Rattle.dual_leaves.specs.Made.{IsTooWide}
use Rattle.master_lp.specs.declared.answer.Relaxed.{Relaxed}
use Rattle.master_lp.specs.declared.answer.Relaxed.TheVariants.{Exact as ExactEnd, Weak as WeakEnd}
use Rattle.master_lp.specs.Bounds.{IfWeakBound, IsTooGreat, MayWeaken, column_count as count_of, layout_of}
use Rattle.master_lp.specs.Exact.{IsEndCause, IsSolved}
use Rattle.master_lp.specs.Source.{SourceRecord}

-- the rows name columns of the layout
pub opening_named : (l : LayoutRecord) (rows : List Row) → AreTrainRows l rows → All (λ row. NamesBelow (length (columns_of l)) row) rows
opening_named l rows trains =
    let d : Row = record { least = pos 1; equal = true; cells = []; ascending = λ k d h. absurd (omega (arith, h)) } in
    let count = trains.trains in
    All-from_get_or (λ (row : Row). NamesBelow (length (columns_of l)) row) rows d (λ t h. (trains.each t d (omega (arith, h, count))).below)

pub standing_named : (c : CaseRecord) (l : LayoutRecord) (row : Row) → StandsIn c l row → NamesBelow (length (columns_of l)) row
standing_named c l row (use_stands p h is) = is.below
standing_named c l row (clique_stands p m h is) = is.below
standing_named c l row (pair_stands cut order there holds is) = is.below

module _ (c : CaseRecord) (l : LayoutRecord) (p : PricingRecord) (s : SourceRecord) (p_case : p.case ≡ c) (p_layout : p.layout ≡ l)
    (s_case : s.case ≡ c) (s_layout : s.layout ≡ l) where
  pricing_is : p ≡ record { case = c; layout = l }
  pricing_is = λ i. record { case = p_case i; layout = p_layout i }

  source_is : s ≡ record { case = c; layout = l; opening = s.opening }
  source_is = λ i. record { case = s_case i; layout = s_layout i; opening = s.opening }

  pub opening_below : AreTrainRows l s.opening → All (λ row. NamesBelow (column_count p) row) s.opening
  opening_below trains =
      let P : PricingRecord → Type 0 = λ q. All (λ row. NamesBelow (column_count q) row) s.opening in
      subst P (sym pricing_is) (opening_named l s.opening trains)

  pub standing_below : (row : Row) → StandsIn s.case s.layout row → NamesBelow (column_count p) row
  standing_below row stands =
      let P : PricingRecord → Type 0 = λ q. NamesBelow (column_count q) row in
      let Q : SourceRecord → Type 0 = λ r. StandsIn r.case r.layout row in
      subst P (sym pricing_is) (standing_named c l row (subst Q source_is stands))

  pub solved_in : AreTrainRows l s.opening → (o : Outcome)
      → IfExact o (λ x. ShowsLeast (λ column. pos (column_price p column)) (column_count p) s.opening (λ row. StandsIn s.case s.layout row) x.point x.duals)
      → IfExact o (λ x. IsLeast (λ column. pos (column_price p column)) (column_count p) s.opening (λ row. StandsIn s.case s.layout row) x.point)
      → IfExact o AreScalesBounded → IfExact o (IsSolved c l)
  solved_in trains (Exact x) shows least scales =
      let P : PricingRecord → Type 0 = λ q.
      ShowsLeast (λ column. pos (column_price q column)) (column_count q) s.opening (λ row. StandsIn s.case s.layout row) x.point x.duals in
      let Q : SourceRecord → Type 0 = λ r. ShowsLeast (prices c l) (length (columns_of l)) s.opening (λ row. StandsIn r.case r.layout row) x.point x.duals in
      let R : PricingRecord → Type 0 = λ q.
      IsLeast (λ column. pos (column_price q column)) (column_count q) s.opening (λ row. StandsIn s.case s.layout row) x.point in
      let S : SourceRecord → Type 0 = λ r. IsLeast (prices c l) (length (columns_of l)) s.opening (λ row. StandsIn r.case r.layout row) x.point in
      record {
        opening = s.opening;
        trains = trains;
        shows = subst Q source_is (subst P pricing_is shows);
        least = subst S source_is (subst R pricing_is least);
        scales = scales;
      }
  solved_in trains (Weak cause) shows least scales = tt

  pub weak_in : IsLayoutOf c l → AreTrainRows l s.opening → (limits : Limits) (old new : ℕ) (o : Outcome)
      → IfWeak o (MayCause limits (length s.opening + limits.rounds) (column_count p) old new)
      → IfWeak o (MayCause limits (length c.book + limits.rounds) (length (columns_of l)) old new)
  weak_in is trains limits old new o weak =
      let same : length s.opening ≡ length c.book = trains.trains ∙ is.lists.trains in
      let P : PricingRecord → Type 0 = λ q. IfWeak o (MayCause limits (length s.opening + limits.rounds) (column_count q) old new) in
      let Q : ℕ → Type 0 = λ n. IfWeak o (MayCause limits (n + limits.rounds) (length (columns_of l)) old new) in
      subst Q same (subst P pricing_is weak)

-- the layout of the lists
module _ (c : CaseRecord) (l : LayoutRecord) (lists : Lists) (same : l.lists ≡ lists) (platforms : l.platforms ≡ length c.station.platforms) where
  pub is_layout : FitsBook lists c.book → IsLayoutOf c l
  is_layout fits = record {
    lists = let P : Lists → Type 0 = λ x. FitsBook x c.book in subst P (sym same) fits;
    platforms = platforms;
  }

  layout_is : l ≡ layout_of c lists
  layout_is = λ i. record { lists = same i; platforms = platforms i }

  weaken : (limits : Limits) (trains columns old new : ℕ) (cause : WeakCause) → MayCause limits (trains + limits.rounds) columns old new cause
      → MayWeaken limits trains columns old new cause
  weaken limits trains columns old new Left h = h
  weaken limits trains columns old new (Pivots n) h = h
  weaken limits trains columns old new (Rounds n) h = h
  weaken limits trains columns old new (Cells n) h = h
  weaken limits trains columns old new (Scale n) h = inl (omega (arith, ints, h))

  pub weakened : (limits : Limits) (old new : ℕ) (cause : WeakCause)
      → MayCause limits (length c.book + limits.rounds) (length (columns_of l)) old new cause
      → MayWeaken limits (length c.book) (count_of c lists) old new cause
  weakened limits old new cause h =
      let P : LayoutRecord → Type 0 = λ x. MayWeaken limits (length c.book) (length (columns_of x)) old new cause in
      subst P layout_is (weaken limits (length c.book) (length (columns_of l)) old new cause h)

-- the end of an exact answer, after the ledger may have risen
pub ended : (limits : Limits) (trains columns old middle new : ℕ) (cause : WeakCause) → old ≤ middle → IsEndCause middle new cause
    → MayWeaken limits trains columns old new cause
ended limits trains columns old middle new Left h k = omega (arith, h, k)
ended limits trains columns old middle new (Pivots n) h k = absurd k
ended limits trains columns old middle new (Rounds n) h k = absurd k
ended limits trains columns old middle new (Cells n) h k = absurd k
ended limits trains columns old middle new (Scale n) h k = k

-- the same of an answer
pub ended_in : (limits : Limits) (trains columns old middle new : ℕ) → old ≤ middle → (r : Relaxed) → IfWeakBound r (λ w. IsEndCause middle new w.cause)
    → IfWeakBound r (λ w. MayWeaken limits trains columns old new w.cause)
ended_in limits trains columns old middle new h (ExactEnd e) k = tt
ended_in limits trains columns old middle new h (WeakEnd w) k = ended limits trains columns old middle new w.cause h k

-- a bound of this cause
pub with_cause : (P : WeakCause → Type 0) (cause is : WeakCause) → cause ≡ is → P is → P cause
with_cause P cause is e h = subst P (sym e) h

-- a number that no leaf of these duals can have
pub too_great : (scale n : ℤ) → IsTooWide scale n → IsTooGreat n
too_great scale n (inl (divisor, same, above)) = inl above
too_great scale n (inr great) = inr great
