-- All rows that stand hold where no kind of row is violated, and what is found doesn't hold.
use Rattle.std.proofs.Common.{◌≡◌, ℕ, ◌<◌, ◌≤◌, ◌==◌, ◌&&◌, Bool, true, false, cond, List, [], ◌∷◌, length, refl, sym, ap, subst, arith, Option, None, Some, IfNone, IfSome, MatchOption, ℤ, pos, ◌≤ℤ◌}
use Rattle.std.specs.Prelude.{find}
use Rattle.std.specs.List.{All}
use Rattle.std.proofs.lemmas.Bool.{eqb-true}
use Rattle.std.proofs.lemmas.Int.{ints}
use Rattle.std.proofs.lemmas.List.Elements.{All-head, All-tail}
use Rattle.exact_lp.specs.declared.row.Row.{Row}
use Rattle.exact_lp.specs.declared.point.Point.{Point}
use Rattle.exact_lp.specs.Programs.{Holds}
use Rattle.patterns.specs.declared.weights.Weights.{Weights}
use Rattle.patterns.specs.Weights.{choice_weights}
use Rattle.pair_prices.specs.Case.{CaseRecord}
use Rattle.pair_classes.specs.declared.meeting.Meeting.{Meeting}
use Rattle.pair_classes.specs.Meetings.{AreMeetings, MeetingList, is_of, meeting_of}
use Rattle.clique_cuts.specs.declared.cut.CliqueCut.{CliqueCut}
use Rattle.clique_cuts.specs.Over.{IsFirstCut, NoneOver, fraction_of}
use Rattle.pair_cuts.specs.declared.cut.PairCut.{PairCut}
use Rattle.pair_cuts.specs.Cut.{IsMet, IsPairCut, alphas, betas, pair_costs, worth}
use Rattle.pattern_pricing.specs.Layout.{LayoutRecord}
use Rattle.pattern_pricing.specs.Positions.{position}
use Rattle.pattern_pricing.specs.Prices.{IsLayoutOf}
use Rattle.pattern_pricing.proofs.Places.{at_position, position_of}
use Rattle.station_rows.specs.Rows.{IsCliqueRow, IsPairRow, IsUseRow, StandsIn, use_stands, clique_stands, pair_stands}
use Rattle.station_rows.specs.Points.{IsWeightOf, value_column, weight_at}
use Rattle.station_rows.proofs.Weighed.{weight_least}
use Rattle.master_lp.specs.Looks.{AreMetAt, AreRead, IsAbove, IsMetAt, IsOff, IsOverUsed, UsesFit}
use Rattle.master_lp.proofs.RowsHold.{clique_holds, pair_holds, use_holds}
use Rattle.master_lp.proofs.WeakDuality.{worth_below}
use Rattle.master_lp.proofs.FreePairs.{free_worth, choices_long}

find_some : (P : Meeting → Type 0) (p : Meeting → Bool) (xs : List Meeting) (x : Meeting) → All P xs → find p xs ≡ Some x → (p x ≡ true) × P x
find_some P p [] x all e = cc
find_some P p (y ∷ ys) x all e = by (p y) refl e (λ g. find_some P p ys x (All-tail P y ys all) g)
  where
    by : (b : Bool) → p y ≡ b → cond b (Some y) (find p ys) ≡ Some x → (find p ys ≡ Some x → (p x ≡ true) × P x) → (p x ≡ true) × P x
    by true f g rest =
        let same : y ≡ x = cc in
        let Q : Meeting → Type 0 = λ z. p z ≡ true in
        (subst Q same f, subst P same (All-head P y ys all))
    by false f g rest = rest g

both : (s t a b : ℕ) → (a == s && b == t) ≡ true → (a ≡ s) × (b ≡ t)
both s t a b e = by (a == s) refl e
  where
    by : (x : Bool) → (a == s) ≡ x → (x && b == t) ≡ true → (a ≡ s) × (b ≡ t)
    by true f g = (eqb-true a s f, eqb-true b t g)
    by false f g = cc

module _ (c : CaseRecord) (l : LayoutRecord) (is : IsLayoutOf c l) (point : Point) (w : Weights) (read : AreRead c l point w) where
  pub use_fails : (p : ℕ) → IsOverUsed l w p → (row : Row) → IsUseRow l p row → Holds row point → ⊥
  use_fails p over row row_is holds =
      let most = (use_holds l point w read.are p over.there row row_is).0 holds in
      let above = over.above in
      absurd (omega (arith, ints, most, above))

  pub clique_fails : (cut : CliqueCut) → IsFirstCut c l.lists (fraction_of w) cut → (row : Row) → IsCliqueRow c l cut.platform cut.minute row → Holds row point → ⊥
  clique_fails cut found row row_is holds =
      let there = found.platform in
      let same = is.platforms in
      let within = (clique_holds l point w read.are c is cut.platform cut.minute (omega (arith, there, same)) row row_is).0 holds in
      let over = (found.first.over cut.minute refl).over in
      absurd (omega (arith, within, over))

  pub pair_fails : (cut : PairCut) → IsAbove c l point w cut → (row : Row) → IsPairRow l cut row → Holds row point → ⊥
  pair_fails cut above row row_is holds =
      let most = (pair_holds l point w read.are c cut above.order above.there above.holds above.value above.value_is row row_is).0 holds in
      let more = above.above in
      absurd (omega (arith, ints, most, more))

  -- no cut on two trains is worth more than the least cost of a coupling
  met_worth : (cut : PairCut) → cut.first < cut.second → cut.second < length l.lists → IsPairCut c l.lists cut.first cut.second cut
      → (value : ℤ) → IsMet c l.lists w cut.first cut.second value → worth w cut.first cut.second cut ≤ℤ value
  met_worth cut order there holds value (least, is_least, most) =
      let (cells, coupling, cost) = is_least.reached in
      let first_there : cut.first < length l.lists = omega (arith, order, there) in
      let rows = choices_long l.lists w read.fits cut.first first_there in
      let columns = choices_long l.lists w read.fits cut.second there in
      let below = worth_below (pair_costs c l.lists cut.first cut.second) (alphas cut) (betas cut) (choice_weights w cut.first) (choice_weights w cut.second) cells coupling
      (λ i j h k. holds.holds i j (omega (arith, h, rows)) (omega (arith, k, columns))) in
      omega (arith, ints, below, cost, most)

  value_least : (n : ℕ) → pos 0 ≤ℤ weight_at point.weights n
  value_least n = weight_least point.weights n point.positive

  -- the point's value of two trains
  abbrev own_value : ℕ → ℕ → ℤ
  own_value first second = weight_at point.weights (position l (value_column first second))

  module _ (m : MeetingList) (meetings : AreMeetings c m) (met : AreMetAt c l point w m.pairs) where
    worth_most : (cut : PairCut) → cut.first < cut.second → cut.second < length l.lists → IsPairCut c l.lists cut.first cut.second cut
        → worth w cut.first cut.second cut ≤ℤ own_value cut.first cut.second
    worth_most cut order there holds = by (meeting_of m.pairs cut.first cut.second) refl
      where
        listed : (x : Meeting) → meeting_of m.pairs cut.first cut.second ≡ Some x → worth w cut.first cut.second cut ≤ℤ own_value cut.first cut.second
        listed x e =
            let found = find_some (IsMetAt c l point w) (is_of cut.first cut.second) m.pairs x met e in
            let same = both cut.first cut.second x.first x.second found.0 in
            let there_is = found.1 in
            let value = there_is.value in
            let P : ℕ → Type 0 = λ a. IsMet c l.lists w a x.second value in
            let Q : ℕ → Type 0 = λ b. IsMet c l.lists w cut.first b value in
            let R : ℕ → Type 0 = λ a. IsWeightOf l point (value_column a x.second) value in
            let S : ℕ → Type 0 = λ b. IsWeightOf l point (value_column cut.first b) value in
            let met_here = subst Q same.1 (subst P same.0 there_is.met) in
            let value_is = subst S same.1 (subst R same.0 there_is.value_is) in
            let col = value_column cut.first cut.second in
            let a = met_worth cut order there holds value met_here in
            let b = value_is (position l col) (at_position l col (order, there)) in
            omega (arith, ints, a, b)

        by : (o : Option Meeting) → meeting_of m.pairs cut.first cut.second ≡ o → worth w cut.first cut.second cut ≤ℤ own_value cut.first cut.second
        by None e =
            let trains = is.lists.trains in
            let free = meetings.unlisted cut.first cut.second order (omega (arith, there, trains)) e in
            let a = free_worth c l.lists is.lists w read.fits cut.first cut.second order there free cut holds in
            let b = value_least (position l (value_column cut.first cut.second)) in
            omega (arith, ints, a, b)
        by (Some x) e = listed x e

    own_value_is : (first second : ℕ) → IsWeightOf l point (value_column first second) (own_value first second)
    own_value_is first second n e = ap (weight_at point.weights) (sym (position_of l n (value_column first second) e))

    pub all_hold : UsesFit l w → NoneOver c l.lists (fraction_of w) → (row : Row) → StandsIn c l row → Holds row point
    all_hold uses none row (use_stands p h row_is) = (use_holds l point w read.are p h row row_is).1 (uses p h)
    all_hold uses none row (clique_stands p minute h row_is) =
        let same = is.platforms in
        (clique_holds l point w read.are c is p minute h row row_is).1 (none p (omega (arith, h, same)) minute)
    all_hold uses none row (pair_stands cut order there holds row_is) =
        (pair_holds l point w read.are c cut order there holds (own_value cut.first cut.second) (own_value_is cut.first cut.second) row row_is).1
        (worth_most cut order there holds)

-- what a look that found a row, or none, says of the rows that stand
pub off_in : (c : CaseRecord) (l : LayoutRecord) (point : Point) (N : Type 0) (o : Option Row) → MatchOption o N (IsOff c l point)
    → IfSome o (λ row. StandsIn c l row × (Holds row point → ⊥))
off_in c l point N None m = tt
off_in c l point N (Some row) m = (m.stands, m.fails)

pub none_in : (c : CaseRecord) (l : LayoutRecord) (point : Point) (N : Type 0) (o : Option Row) → MatchOption o N (IsOff c l point) → IfNone o N
none_in c l point N None m = m
none_in c l point N (Some row) m = tt
