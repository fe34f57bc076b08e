-- Tables that are made one pair of trains after the other.
use Rattle.std.proofs.Common.{◌≡◌, ℕ, ◌+◌, ◌<◌, ◌≤◌, ◌==◌, ◌&&◌, if◌then◌else◌, Bool, true, false, List, [], ◌∷◌, ◌++◌, length, refl, sym, ◌∙◌, subst, arith, inl, inr, ◌⊎◌, ℤ, ◌≤ℤ◌}
use Rattle.std.specs.Prelude.{◌||◌}
use Rattle.std.specs.List.{All, list_any}
use Rattle.std.proofs.lemmas.Int.{ints}
use Rattle.std.proofs.lemmas.Bool.{cases_lt, eq-eqb, eqb-true}
use Rattle.std.proofs.lemmas.List.Elements.{All-head, All-nil, All-push, All-tail}
use Rattle.std.proofs.lemmas.List.Folds.{list_any-append}
use Rattle.exact_lp.specs.declared.point.Point.{Point}
use Rattle.transport.specs.Coupling.{cost_of}
use Rattle.patterns.specs.declared.weights.Weights.{Weights}
use Rattle.patterns.specs.Allowed.{Lists}
use Rattle.pair_prices.specs.Case.{CaseRecord}
use Rattle.pair_cuts.specs.declared.cut.PairCut.{PairCut}
use Rattle.pair_cuts.specs.Coupled.{IsLeastTable}
use Rattle.pair_cuts.specs.Cut.{IsPairCut, pair_costs, worth}
use Rattle.pattern_pricing.specs.Layout.{LayoutRecord}
use Rattle.pattern_pricing.specs.Prices.{IsLayoutOf}
use Rattle.station_rows.specs.declared.fraction.PairTable.{PairTable}
use Rattle.station_rows.specs.Points.{IsWeightOf, NoCutAbove, value_column}
use Rattle.station_rows.specs.Tables.{AreTables}
use Rattle.station_rows.specs.Plans.{AreLeastTables, AreTablesTo, is_table_of, table_of}

both : (a b : Bool) → (a && b) ≡ true → (a ≡ true) × (b ≡ true)
both true true e = (refl, refl)
both true false e = cc
both false b e = cc

left_or : (a b : Bool) → a ≡ true → (a || b) ≡ true
left_or true b e = refl
left_or false b e = cc

right_or : (a b : Bool) → b ≡ true → (a || b) ≡ true
right_or true b e = refl
right_or false b e = e

both_true : (a b : Bool) → a ≡ true → b ≡ true → (a && b) ≡ true
both_true true true d e = refl
both_true true false d e = cc
both_true false b d e = cc

module _ (c : CaseRecord) (lists : Lists) (w : Weights) where
  abbrev Good : PairTable → Type 0
  Good t = IsLeastTable c lists w t.first t.second t.cells

  pub none_tabled : AreTablesTo c lists w 0 1 []
  none_tabled = record { good = All-nil Good; done = λ s t h k before. absurd (impossible s t h before) }
    where
      impossible : (s t : ℕ) → s < t → (s < 0) ⊎ ((s ≡ 0) × (t < 1)) → ⊥
      impossible s t h (inl l) = omega (arith, l)
      impossible s t h (inr e) = let l = e.1 in omega (arith, h, l)

  -- one table more
  pub one_tabled : (first second : ℕ) (tables : List PairTable) (t : PairTable) → t.first ≡ first → t.second ≡ second → IsLeastTable c lists w first second t.cells
      → AreTablesTo c lists w first second tables → AreTablesTo c lists w first (second + 1) (tables ++ t ∷ [])
  one_tabled first second tables t is_first is_second least before = record {
    good =
        let P : ℕ → Type 0 = λ k. IsLeastTable c lists w k second t.cells in
        let Q : ℕ → Type 0 = λ k. IsLeastTable c lists w t.first k t.cells in
        All-push Good tables t before.good (subst Q (sym is_second) (subst P (sym is_first) least));
    done = λ s u h k i. list_any-append (is_table_of s u) tables (t ∷ []) ∙ by s u h k i;
  }
    where
      own : (s u : ℕ) → s ≡ first → u ≡ second → is_table_of s u t ≡ true
      own s u d e = both_true (t.first == s) (t.second == u) (eq-eqb t.first s (is_first ∙ sym d)) (eq-eqb t.second u (is_second ∙ sym e))

      at_first : (s u : ℕ) → s < u → u < length c.book → s ≡ first → u < second + 1 → (u < second) ⊎ (second ≤ u)
          → (list_any (is_table_of s u) tables || list_any (is_table_of s u) (t ∷ [])) ≡ true
      at_first s u h k e l (inl m) = left_or (list_any (is_table_of s u) tables) (list_any (is_table_of s u) (t ∷ [])) (before.done s u h k (inr (e, m)))
      at_first s u h k e l (inr m) =
          right_or (list_any (is_table_of s u) tables) (list_any (is_table_of s u) (t ∷ []))
          (left_or (is_table_of s u t) false (own s u e (omega (arith, l, m))))

      by : (s u : ℕ) → s < u → u < length c.book → (s < first) ⊎ ((s ≡ first) × (u < second + 1))
          → (list_any (is_table_of s u) tables || list_any (is_table_of s u) (t ∷ [])) ≡ true
      by s u h k (inl l) = left_or (list_any (is_table_of s u) tables) (list_any (is_table_of s u) (t ∷ [])) (before.done s u h k (inl l))
      by s u h k (inr e) = at_first s u h k e.0 e.1 (cases_lt u second)

  -- all tables of one train
  pub train_tabled : (first second : ℕ) (tables : List PairTable) → length c.book ≤ second → AreTablesTo c lists w first second tables
      → AreTablesTo c lists w (first + 1) (first + 2) tables
  train_tabled first second tables most before = record { good = before.good; done = λ s t h k i. by s t h k i }
    where
      below : (s t : ℕ) → s < t → t < length c.book → s < first + 1 → (s < first) ⊎ (first ≤ s) → list_any (is_table_of s t) tables ≡ true
      below s t h k l (inl m) = before.done s t h k (inl m)
      below s t h k l (inr m) = before.done s t h k (inr (omega (arith, l, m), omega (arith, k, most)))

      by : (s t : ℕ) → s < t → t < length c.book → (s < first + 1) ⊎ ((s ≡ first + 1) × (t < first + 2)) → list_any (is_table_of s t) tables ≡ true
      by s t h k (inl l) = below s t h k l (cases_lt s first)
      by s t h k (inr e) = let same = e.0 in let l = e.1 in absurd (omega (arith, h, same, l))

  found : (tables : List PairTable) (s t : ℕ) → All Good tables → list_any (is_table_of s t) tables ≡ true
      → IsLeastTable c lists w s t (table_of tables (record { first = s; second = t }))
  found [] s t good e = absurd (impossible e)
    where
      impossible : false ≡ true → ⊥
      impossible e = cc
  found (x ∷ xs) s t good e = by (is_table_of s t x) refl e (found xs s t (All-tail Good x xs good))
    where
      by : (b : Bool) → is_table_of s t x ≡ b → (b || list_any (is_table_of s t) xs) ≡ true
          → (list_any (is_table_of s t) xs ≡ true → IsLeastTable c lists w s t (table_of xs (record { first = s; second = t })))
          → IsLeastTable c lists w s t (if b then x.cells else table_of xs (record { first = s; second = t }))
      by true is e rest =
          let two = both (x.first == s) (x.second == t) is in
          let P : ℕ → Type 0 = λ k. IsLeastTable c lists w k x.second x.cells in
          let Q : ℕ → Type 0 = λ k. IsLeastTable c lists w s k x.cells in
          subst Q (eqb-true x.second t two.1) (subst P (eqb-true x.first s two.0) (All-head Good x xs good))
      by false is e rest = rest e

  pub all_tabled : (first : ℕ) (tables : List PairTable) → length c.book ≤ first → AreTablesTo c lists w first (first + 1) tables → AreLeastTables c lists w tables
  all_tabled first tables most before s t h k = found tables s t before.good (before.done s t h k (inl (omega (arith, h, k, most))))

-- least tables cost at most the values of a point under which no cut is above
pub tables_are : (c : CaseRecord) (l : LayoutRecord) → IsLayoutOf c l → (point : Point) (w : Weights) (tables : List PairTable)
    → AreLeastTables c l.lists w tables → NoCutAbove c l point w → AreTables c l point w (table_of tables)
tables_are c l is point w tables least none = record {
  couple = λ s t h k. (table s t h k).coupling;
  cheap = λ s t h k value value_is. cost s t h k value value_is;
}
  where
    table : (s t : ℕ) → s < t → t < length l.lists → IsLeastTable c l.lists w s t (table_of tables (record { first = s; second = t }))
    table s t h k = let trains = is.lists.trains in least s t h (omega (arith, trains, k))

    at_cut : (cut : PairCut) (s t : ℕ) → s < t → t < length l.lists → IsPairCut c l.lists s t cut → (value : ℤ) → IsWeightOf l point (value_column s t) value
        → worth w s t cut ≤ℤ value
    at_cut cut s t h k holds value value_is =
        let P : ℕ → ℕ → Type 0 = λ a b. IsPairCut c l.lists a b cut in
        let first = holds.is_first in
        let second = holds.is_second in
        let here : IsPairCut c l.lists cut.first t cut = (let R : ℕ → Type 0 = λ a. IsPairCut c l.lists a t cut in subst R (sym first) holds) in
        let there : IsPairCut c l.lists cut.first cut.second cut = (let R : ℕ → Type 0 = λ b. IsPairCut c l.lists cut.first b cut in subst R (sym second) here) in
        let Q : ℕ → Type 0 = λ a. IsWeightOf l point (value_column a t) value in
        let S : ℕ → Type 0 = λ b. IsWeightOf l point (value_column cut.first b) value in
        let moved : IsWeightOf l point (value_column cut.first cut.second) value = subst S (sym second) (subst Q (sym first) value_is) in
        let most = none cut (omega (arith, first, second, h)) (omega (arith, second, k)) there value moved in
        let T : ℕ → Type 0 = λ a. worth w a cut.second cut ≤ℤ value in
        let U : ℕ → Type 0 = λ b. worth w s b cut ≤ℤ value in
        subst U second (subst T first most)

    cost : (s t : ℕ) → (h : s < t) → (k : t < length l.lists) → (value : ℤ) → IsWeightOf l point (value_column s t) value
        → cost_of (pair_costs c l.lists s t) (table_of tables (record { first = s; second = t })) ≤ℤ value
    cost s t h k value value_is =
        let x = table s t h k in
        let shown = x.shown in
        let most = at_cut x.cut s t h k x.holds value value_is in
        omega (arith, ints, shown, most)
