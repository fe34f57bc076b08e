-- The leaf of lists with one member each.
use Rattle.std.proofs.Common.{◌≡◌, ℕ, zero, suc, ◌<◌, List, [], ◌∷◌, length, get_or, sym, ◌∙◌, subst, arith}
use Rattle.std.specs.Prelude.{Contains, slice_index}
use Rattle.std.specs.List.{All}
use Rattle.std.proofs.lemmas.List.Elements.{All-nil, Contains-get_or}
use Rattle.patterns.specs.Book.{offers_of}
use Rattle.patterns.specs.Allowed.{Lists, list_of, FitsBook}
use Rattle.patterns.proofs.Bounds.{all_from_places}
use Rattle.pair_prices.specs.Case.{CaseRecord, IsCase}
use Rattle.pair_prices.specs.Plan.{Fits}
use Rattle.pair_prices.proofs.CaseLemmas.{get_or_map, length_map}
use Rattle.leaf_bounds.specs.declared.leaf.Leaf.{Leaf}
use Rattle.leaf_bounds.specs.Fixed.{IsLeafOfPlan, minute_list, pair_list, paid}
use Rattle.leaf_bounds.specs.Made.{HasOnePlan, IsFixedLeaf, plan_of}
use Rattle.leaf_bounds.specs.Shown.{ArePlaces, IsPairThere}
use Rattle.leaf_bounds.proofs.BareLemmas.{trains_there}
use Rattle.leaf_bounds.proofs.PlanLemmas.{plan_stands, cost_is, empty_is}
use Rattle.leaf_bounds.proofs.PlanLists.{each_minute, each_pair}

one_member : (xs : List ℕ) (k i : ℕ) → length xs ≡ 1 → k < length xs → get_or xs k i ≡ i → i ≡ get_or xs 0 0
one_member [] k i e h f = absurd (omega arith)
one_member (x ∷ []) zero i e h f = sym f
one_member (x ∷ []) (suc k) i e h f = absurd (omega arith)
one_member (x ∷ y ∷ xs) k i e h f = absurd (omega arith)

module _ (c : CaseRecord) (lists : Lists) (fits : FitsBook lists c.book) (one : HasOnePlan lists) where
  plan_at : (t : ℕ) → slice_index (plan_of lists) t ≡ get_or (list_of lists t) 0 0
  plan_at t = get_or_map (λ ns. slice_index ns 0) lists t []

  has_one : (t : ℕ) → t < length c.book → length (list_of lists t) ≡ 1
  has_one t h = one t (omega (arith, h, fits.trains))

  only_number : (t i : ℕ) → t < length c.book → Contains (list_of lists t) i → i ≡ slice_index (plan_of lists) t
  only_number t i h ci = one_member (list_of lists t) ci.0 i (has_one t h) ci.1 ci.2 ∙ sym (plan_at t)

  number_in : (t : ℕ) → t < length c.book → Contains (list_of lists t) (slice_index (plan_of lists) t)
  number_in t h =
      let single = has_one t h in
      subst (λ (n : ℕ). Contains (list_of lists t) n) (sym (plan_at t)) (Contains-get_or (list_of lists t) 0 0 (omega (arith, single)))

  pub plan_fits : Fits c (plan_of lists)
  plan_fits = record {
    trains = length_map (λ ns. slice_index ns 0) lists ∙ fits.trains;
    numbers = λ t h.
        let single = has_one t h in
        let there : get_or (list_of lists t) 0 0 < length (offers_of c.book t) = fits.there t (omega (arith, h, fits.trains)) 0 0 (omega (arith, single)) in
        let same = plan_at t in
        omega (arith, there, same);
  }

  module _ (case : IsCase c) (l : Leaf) (h : IsLeafOfPlan c (plan_of lists) l) where
    pairs_there : All (IsPairThere c) l.alpha
    pairs_there =
        subst (All (IsPairThere c)) (sym h.alpha)
        (all_from_places (IsPairThere c) (pair_list c (plan_of lists))
        (each_pair c (plan_of lists) case plan_fits (IsPairThere c) (λ s t a b some. record { order = a; there = b })))

    fixed_places : ArePlaces c lists l
    fixed_places = record {
      trains = subst (All (λ x. x.train < length c.book)) (sym h.u) (trains_there (paid c (plan_of lists)) (length c.book));
      platforms = subst (All (λ x. x.platform < length c.station.platforms)) (sym h.v)
          (all_from_places (λ x. x.platform < length c.station.platforms) (minute_list c (plan_of lists) (length c.station.platforms))
          (each_minute c (plan_of lists) case plan_fits (λ x. x.platform < length c.station.platforms) (λ k t a e some. a)));
      alpha_pairs = pairs_there;
      alpha_numbers = subst (All (λ x. Contains (list_of lists x.first) x.number)) (sym h.alpha)
          (all_from_places (λ x. Contains (list_of lists x.first) x.number) (pair_list c (plan_of lists))
          (each_pair c (plan_of lists) case plan_fits (λ x. Contains (list_of lists x.first) x.number)
          (λ s t a b some. number_in s (omega (arith, a, b)))));
      beta_pairs = subst (All (IsPairThere c)) (sym h.beta) (All-nil (IsPairThere c));
      beta_numbers = subst (All (λ x. Contains (list_of lists x.second) x.number)) (sym h.beta) (All-nil (λ x. Contains (list_of lists x.second) x.number));
    }

    pub fixed_made : IsFixedLeaf c lists l
    fixed_made = record {
      leaf = record {
        q = h.q;
        stands = record { places = fixed_places; stands = plan_stands c (plan_of lists) case plan_fits l h lists only_number pairs_there };
      };
      value = cost_is c (plan_of lists) case plan_fits l h;
      empty = empty_is c (plan_of lists) case plan_fits l h;
    }
