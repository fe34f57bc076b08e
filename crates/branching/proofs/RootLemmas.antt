-- What the root line says of the tree's bound and of the answer.
use Rattle.std.proofs.Common.{◌≡◌, ℕ, ◌+◌, ◌*◌, ◌≤◌, Bool, true, false, cond, List, [], ◌∷◌, ◌++◌, refl, sym, ap, ◌∙◌, subst, inl, inr, ◌⊎◌, arith, ℤ, pos, negsuc, ◌+ℤ◌, ◌*ℤ◌, ◌≤ℤ◌, ◌<ℤ◌, Option, Some, None}
use Rattle.std.specs.Prelude.{int_le, unsigned_abs, All, IfSome}
use Rattle.std.specs.List.Sorted.{IsPermutation}
use Rattle.std.specs.Ordering.{int_cmp, MatchOrdering}
use Rattle.std.specs.declared.cmp.Ordering.{Ordering}
use Rattle.std.specs.declared.cmp.Ordering.TheVariants.{Less, Equal, Greater}
use Rattle.std.proofs.lemmas.Cmp.{int_ranked}
use Rattle.std.proofs.lemmas.Int.{by_lt_z, ints}
use Rattle.std.proofs.lemmas.List.{append-nil}
use Rattle.std.proofs.lemmas.List.Elements.{All-head, All-weaker}
use Rattle.std.proofs.lemmas.List.Sorted.{All-permutation}
use Rattle.ratio.specs.declared.fraction.Ratio.{Ratio}
use Rattle.ratio.specs.Fraction.{IsCeiling, IsSameFraction}
use Rattle.ratio.proofs.Ring.{add-mul_ℤ, mul_comm_ℤ, mul_right_comm_ℤ}
use Rattle.exact_lp.specs.declared.answer.WeakCause.{WeakCause}
use Rattle.exact_lp.proofs.Order.{cancel_le_ℤ, mul_le_ℤ}
use Rattle.patterns.specs.Allowed.{Lists, full_lists}
use Rattle.pair_prices.specs.Case.{CaseRecord, IsCase}
use Rattle.pair_prices.specs.Plan.{cost}
use Rattle.pair_prices.specs.Top.{top_of}
use Rattle.leaf_bounds.specs.declared.leaf.Leaf.{Leaf}
use Rattle.leaf_bounds.specs.declared.tree.Bound.{Bound}
use Rattle.leaf_bounds.specs.declared.tree.Bound.TheVariants.{AtLeast, Nothing}
use Rattle.leaf_bounds.specs.Leaf.{ceiling, value_of}
use Rattle.leaf_bounds.specs.Shown.{bound_of_leaf, numbers_of}
use Rattle.leaf_bounds.proofs.BoundLemmas.{leaf_bounds}
use Rattle.leaf_bounds.proofs.CeilingLemmas.{ceiling_at_least, ceiling_least}
use Rattle.leaf_bounds.proofs.FullLemmas.{within_full}
use Rattle.primal_heuristic.specs.Greedy.{greedy_plan}
use Rattle.primal_heuristic.proofs.Taken.{feasible_taken}
use Rattle.dual_ascent.specs.Plain.{IsAtLeastPlain}
use Rattle.master_lp.specs.declared.answer.ExactBound.{ExactBound}
use Rattle.master_lp.specs.declared.answer.WeakBound.{WeakBound}
use Rattle.master_lp.specs.declared.answer.Relaxed.{Relaxed}
use Rattle.master_lp.specs.declared.answer.Relaxed.TheVariants.{Exact, Weak}
use Rattle.master_lp.specs.Bounds.{IfWeakBound, IsExact, IsWeak, IsWorth, MatchRelaxed}
use Rattle.branching.specs.declared.found.Found.{Found}
use Rattle.branching.specs.declared.found.Found.TheVariants.{Optimal, NoPlan, Open}
use Rattle.branching.specs.declared.found.Priced.{Priced}
use Rattle.branching.specs.declared.found.Root.{Root}
use Rattle.branching.specs.declared.waiting.Key.{Key}
use Rattle.branching.specs.Answer.{AnswerIs, IsBelowPlan, IsLeast}
use Rattle.branching.specs.Bounds.{IsAtLeast, IsNoLess, least_sum}
use Rattle.branching.specs.Known.{IsKnown}
use Rattle.branching.specs.RootLine.{is_no_plan, is_optimal, root_bound, root_of, rounded_up, shown_bound, AreAboveRoot, IsExactValue, IsOpenAboveRoot, IsRoot, IsRootBy, IsTopOrMore, ReachesGreedy}
use Rattle.branching.specs.Searching.{keys_for}
use Rattle.branching.proofs.BoundsLemmas.{keeps_below, none_below}
use Rattle.branching.proofs.FractionLemmas.{least_value}
use Rattle.branching.proofs.KnownLemmas.{le_of, of_le}
use Rattle.branching.proofs.LeafLemmas.{no_less_twice}
use Rattle.branching.proofs.StepLemmas.{keys_all}

le_step : (a b d : ℤ) → a ≤ℤ b → b ≤ℤ d → a ≤ℤ d
le_step a b d h k = omega (arith, ints)

crossed : (a b x : ℤ) → x ≤ℤ a → b ≡ x → a <ℤ b → ⊥
crossed a b x h e l = omega (arith, ints, h, e, l)

-- ---- two equal fractions

above_zero : (z : ℤ) → pos 0 <ℤ z → pos 0 ≤ℤ z
above_zero z h = omega (arith, ints)

from_one : (z : ℤ) → pos 0 <ℤ z → pos 1 ≤ℤ z
from_one z h = omega (arith, ints)

module _ (num den value q : ℤ) (some : pos 0 <ℤ den) (more : pos 0 <ℤ q) (e : num *ℤ q ≡ value *ℤ den) where
  -- a whole number that is at least the one is at least the other
  over_both : (n : ℤ) → num ≤ℤ (n *ℤ den) → value ≤ℤ (n *ℤ q)
  over_both n h =
      let P : ℤ → Type 0 = λ z. z ≤ℤ ((n *ℤ q) *ℤ den) in
      let Q : ℤ → Type 0 = λ z. (num *ℤ q) ≤ℤ z in
      cancel_le_ℤ value (n *ℤ q) den some (subst P e (subst Q (mul_right_comm_ℤ n den q) (mul_le_ℤ num (n *ℤ den) q (above_zero q more) h)))

  -- and one that is at most the one is at most the other
  under_both : (n : ℤ) → (n *ℤ den) ≤ℤ num → (n *ℤ q) ≤ℤ value
  under_both n h =
      let P : ℤ → Type 0 = λ z. ((n *ℤ q) *ℤ den) ≤ℤ z in
      let Q : ℤ → Type 0 = λ z. z ≤ℤ (num *ℤ q) in
      cancel_le_ℤ (n *ℤ q) value den some (subst P e (subst Q (mul_right_comm_ℤ n den q) (mul_le_ℤ (n *ℤ den) num q (above_zero q more) h)))

tests_same : (a b x y : ℤ) → (a ≤ℤ b → x ≤ℤ y) → (x ≤ℤ y → a ≤ℤ b) → int_le a b ≡ int_le x y
tests_same a b x y f g = by_tests (int_le a b) (int_le x y) refl refl
  where
    by_tests : (s t : Bool) → int_le a b ≡ s → int_le x y ≡ t → s ≡ t
    by_tests true true h k = refl
    by_tests true false h k = sym (of_le x y (f (le_of a b h))) ∙ k
    by_tests false true h k = sym h ∙ of_le a b (g (le_of x y k))
    by_tests false false h k = refl

both_ways : (a b : ℤ) → a ≤ℤ b → b ≤ℤ a → a ≡ b
both_ways a b h k = omega (arith, ints)

turned_le : (a b n : ℤ) → (a *ℤ b) ≤ℤ n → (b *ℤ a) ≤ℤ n
turned_le a b n h = let P : ℤ → Type 0 = λ z. z ≤ℤ n in subst P (mul_comm_ℤ a b) h

module _ (num den value q : ℤ) (some : pos 0 <ℤ den) (more : pos 0 <ℤ q) (e : num *ℤ q ≡ value *ℤ den) where
  same_ceiling : ceiling num den ≡ ceiling value q
  same_ceiling =
      both_ways (ceiling num den) (ceiling value q)
      (ceiling_least num den (ceiling value q) (from_one den some)
      (over_both value q num den more some (sym e) (ceiling value q) (ceiling_at_least value q (from_one q more))))
      (ceiling_least value q (ceiling num den) (from_one q more)
      (over_both num den value q some more e (ceiling num den) (ceiling_at_least num den (from_one den some))))

  same_test : (n : ℤ) → int_le (den *ℤ n) num ≡ int_le (q *ℤ n) value
  same_test n =
      tests_same (den *ℤ n) num (q *ℤ n) value
      (λ h. turned_le n q value (under_both num den value q some more e n (turned_le den n num h)))
      (λ h. turned_le n den num (under_both value q num den more some (sym e) n (turned_le q n value h)))

leaf_scale : (leaf : Leaf) → pos 0 <ℤ leaf.q
leaf_scale leaf = let h = leaf.kept.q_least in omega (arith, ints, h)

-- what the root's value says is what its leaf says
pub root_bound_is : (c : CaseRecord) (lists : Lists) (leaf : Leaf) (value : Ratio) → IsWorth c leaf value → root_bound c value ≡ bound_of_leaf c lists leaf
root_bound_is c lists leaf value e =
    let own = value_of c (numbers_of leaf) in
    ap (λ b. cond b Nothing (AtLeast (ceiling value.num value.den))) (same_test value.num value.den own leaf.q value.positive (leaf_scale leaf) e (pos (top_of c)))
    ∙ ap (λ z. cond (int_le (leaf.q *ℤ pos (top_of c)) own) Nothing (AtLeast z)) (same_ceiling value.num value.den own leaf.q value.positive (leaf_scale leaf) e)

-- ---- the least prices

pub weak_plain : (c : CaseRecord) (leaf : Leaf) (value : Ratio) → IsWorth c leaf value → IsAtLeastPlain c (full_lists c.book) leaf
    → (pos (least_sum c (full_lists c.book)) *ℤ value.den) ≤ℤ value.num
unfolding least_sum
weak_plain c leaf value e h =
    under_both (value_of c (numbers_of leaf)) leaf.q value.num value.den (leaf_scale leaf) value.positive (sym e) (pos (least_sum c (full_lists c.book)))
    (turned_le leaf.q (pos (least_sum c (full_lists c.book))) (value_of c (numbers_of leaf)) h)

pub exact_plain : (c : CaseRecord) (value : Ratio) → IsExactValue c value → (pos (least_sum c (full_lists c.book)) *ℤ value.den) ≤ℤ value.num
exact_plain c value is =
    by_parts value.num value.den (least_sum c (full_lists c.book)) is.whole value.positive
    (least_value c (full_lists c.book) (unsigned_abs value.num) (unsigned_abs value.den) is.root)
  where
    by_parts : (num den : ℤ) (least : ℕ) → pos (unsigned_abs num) ≡ num → pos 0 <ℤ den → least * unsigned_abs den ≤ unsigned_abs num
        → (pos least *ℤ den) ≤ℤ num
    by_parts num (pos d) least e some h = omega (arith, ints, e, h)
    by_parts num (negsuc d) least e some h = absurd (omega (arith, ints, some))

plain_by : (b : Bool) (least num den : ℤ) → pos 0 <ℤ den → (least *ℤ den) ≤ℤ num → IsAtLeast least (cond b Nothing (AtLeast (ceiling num den)))
plain_by true least num den some h = tt
plain_by false least num den some h =
    cancel_le_ℤ least (ceiling num den) den some
    (le_step (least *ℤ den) num (ceiling num den *ℤ den) h (ceiling_at_least num den (from_one den some)))

pub root_plain : (c : CaseRecord) (leaf : Leaf) (root : Root) → IsRootBy c leaf root
    → IsAtLeast (pos (least_sum c (full_lists c.book))) (bound_of_leaf c (full_lists c.book) leaf)
root_plain c leaf root is =
    subst (IsAtLeast (pos (least_sum c (full_lists c.book)))) (root_bound_is c (full_lists c.book) leaf root.value is.bound.worth)
    (plain_by (int_le (root.value.den *ℤ pos (top_of c)) root.value.num) (pos (least_sum c (full_lists c.book))) root.value.num root.value.den root.value.positive
    is.plain)

-- ---- the root line of a bound

pub exact_root : (c : CaseRecord) (e : ExactBound) → IsExact c (full_lists c.book) e → IsRootBy c e.leaf (record { value = e.value; weak = None })
exact_root c e is =
    let known : IsExactValue c e.value = record { whole = is.whole; root = is.least } in
    record {
      bound = is.bound;
      plain = exact_plain c e.value known;
      exact = λ h. known;
    }

pub weak_root : (c : CaseRecord) (w : WeakBound) → IsWeak c (full_lists c.book) w → IsRootBy c w.leaf (record { value = w.value; weak = Some w.cause })
weak_root c w is = record {
  bound = is.bound;
  plain = weak_plain c w.leaf w.value is.bound.worth is.plain;
  exact = λ h. absurd (cc h);
}

-- what holds of the cause of a weak bound holds of that of the root
pub cause_given : (P : WeakCause → Type 0) (r : Relaxed) (weak : Option WeakCause) → MatchRelaxed r (λ e. weak ≡ None) (λ w. weak ≡ Some w.cause)
    → IfWeakBound r (λ w. P w.cause) → IfSome weak P
cause_given P (Exact e) weak same h = subst (λ (o : Option WeakCause). IfSome o P) (sym same) tt
cause_given P (Weak w) weak same h = subst (λ (o : Option WeakCause). IfSome o P) (sym same) h

-- ---- leaves that wait

pub keys_above : (c : CaseRecord) (root : Root) (best : Option Priced) (b : Bound) (keys : List Key) → IsNoLess (root_bound c root.value) b
    → IsPermutation (keys_for best b 0 0 ++ []) keys → AreAboveRoot c root keys
keys_above c root best b keys h made =
    let P : Key → Type 0 = λ key. IsNoLess (root_bound c root.value) (AtLeast key.bound) in
    All-permutation P (keys_for best b 0 0) keys
    (subst (λ (ks : List Key). IsPermutation ks keys) (append-nil (keys_for best b 0 0)) made)
    (keys_all P best b 0 0 (λ m e. subst (IsNoLess (root_bound c root.value)) e h))

pub keys_step : (floor : Bound) (n : ℤ) (keys : List Key) → IsNoLess floor (AtLeast n) → All (λ k. n ≤ℤ k.bound) keys
    → All (λ k. IsNoLess floor (AtLeast k.bound)) keys
keys_step floor n keys h l =
    All-weaker (λ (k : Key). n ≤ℤ k.bound) (λ (k : Key). IsNoLess floor (AtLeast k.bound)) (λ k m. no_less_twice floor (AtLeast n) (AtLeast k.bound) h m) keys l

-- the key that is next
pub next_above : (c : CaseRecord) (root : Root) (keys rest : List Key) (key : Key) → IsPermutation keys (key ∷ rest) → AreAboveRoot c root keys
    → IsNoLess (root_bound c root.value) (AtLeast key.bound)
next_above c root keys rest key taken above =
    let P : Key → Type 0 = λ k. IsNoLess (root_bound c root.value) (AtLeast k.bound) in
    All-head P key rest (All-permutation P keys (key ∷ rest) taken above)

-- ---- the answer

-- no tree's bound is below what the root says
pub above_root : (c : CaseRecord) (splits : ℕ) (f : Found) → IsCase c → AnswerIs c splits f → IsRoot c (root_of f) → IsOpenAboveRoot c f
    → IsNoLess (root_bound c (root_of f).value) (shown_bound f)
above_root c splits (Optimal b) case h root above =
    subst (λ (x : Bound). IsNoLess x (AtLeast b.cost)) (sym (root_bound_is c (full_lists c.book) root.0 b.root.value root.1.bound.worth))
    (keeps_below c b.plan.choice (bound_of_leaf c (full_lists c.book) root.0) b.cost h.value
    (leaf_bounds c case (full_lists c.book) (numbers_of root.0) root.1.bound.stands.stands b.plan.choice h.feasible (within_full c b.plan.choice h.feasible)))
above_root c splits (NoPlan s) case h root above = none_below (root_bound c s.root.value)
above_root c splits (Open o) case h root above = above

rounded_by : (b : Bool) (n : ℤ) (x : Bound) → IsNoLess (cond b Nothing (AtLeast n)) x → IsAtLeast n x
rounded_by true n Nothing h = tt
rounded_by true n (AtLeast m) h = absurd h
rounded_by false n x h = h

pub rounded_root : (c : CaseRecord) (value : Ratio) (x : Bound) → IsNoLess (root_bound c value) x → IsAtLeast (rounded_up value) x
rounded_root c value x h = rounded_by (int_le (value.den *ℤ pos (top_of c)) value.num) (rounded_up value) x h

nothing_at : (b : Bool) (n : ℤ) → b ≡ true → cond b Nothing (AtLeast n) ≡ Nothing
nothing_at true n e = refl
nothing_at false n e = cc

none_by : (f : Found) → IsNoLess Nothing (shown_bound f) → is_no_plan f ≡ true
none_by (Optimal b) h = absurd h
none_by (NoPlan s) h = refl
none_by (Open o) h = absurd h

-- a root's value of TOP or more
pub none_at_top : (c : CaseRecord) (f : Found) → IsNoLess (root_bound c (root_of f).value) (shown_bound f) → IsTopOrMore c (root_of f).value
    → is_no_plan f ≡ true
none_at_top c f h top =
    none_by f
    (subst (λ (x : Bound). IsNoLess x (shown_bound f))
    (nothing_at (int_le ((root_of f).value.den *ℤ pos (top_of c)) (root_of f).value.num) (rounded_up (root_of f).value)
    (of_le ((root_of f).value.den *ℤ pos (top_of c)) (root_of f).value.num top)) h)

no_open : (c : CaseRecord) (o : Option Priced) (plan : List ℕ) (up bound : ℤ) → IsKnown c o → IsBelowPlan bound o → greedy_plan c ≡ Some plan
    → pos (cost c plan) ≤ℤ up → up ≤ℤ bound → ⊥
no_open c None plan up bound known below e reached above = cc
no_open c (Some p) plan up bound known below e reached above =
    let less = known.greedy plan e in
    let value = known.priced.value in
    omega (arith, ints, less, value, below, reached, above)

-- a root's value that reaches the cost of the greedy plan
pub optimal_at_greedy : (c : CaseRecord) (splits : ℕ) (f : Found) → AnswerIs c splits f → IsLeast c f
    → IsAtLeast (rounded_up (root_of f).value) (shown_bound f) → ReachesGreedy c (root_of f).value → is_optimal f ≡ true
optimal_at_greedy c splits (Optimal b) h least above reached = refl
optimal_at_greedy c splits (NoPlan s) h least above reached = absurd (least reached.0 (feasible_taken c reached.0 (sym reached.1)))
optimal_at_greedy c splits (Open o) h least above reached =
    absurd (no_open c o.plan reached.0 (rounded_up o.root.value) o.bound h.known h.below reached.1 reached.2 above)

-- ---- what a root's value says, by a comparison with TOP

pub below_by : (a b : ℤ) (o : Ordering) → o ≡ int_cmp a b → o ≡ Less → a <ℤ b
below_by a b o e is = subst (λ (r : Ordering). MatchOrdering r (a <ℤ b) (a ≡ b) (b <ℤ a)) is (int_ranked a b o e)

pub not_below_by : (a b : ℤ) (o : Ordering) → o ≡ int_cmp a b → (o ≡ Equal) ⊎ (o ≡ Greater) → b ≤ℤ a
not_below_by a b o e (inl is) =
    let same : a ≡ b = subst (λ (r : Ordering). MatchOrdering r (a <ℤ b) (a ≡ b) (b <ℤ a)) is (int_ranked a b o e) in
    omega (arith, ints, same)
not_below_by a b o e (inr is) =
    let less : b <ℤ a = subst (λ (r : Ordering). MatchOrdering r (a <ℤ b) (a ≡ b) (b <ℤ a)) is (int_ranked a b o e) in
    omega (arith, ints, less)

no_room : (k n d r : ℤ) → pos 0 <ℤ d → n ≤ℤ (k *ℤ d) → (r *ℤ d) <ℤ (n +ℤ d) → k <ℤ r → ⊥
no_room k n d r some up least less =
    let more : ((k +ℤ pos 1) *ℤ d) ≤ℤ (r *ℤ d) = mul_le_ℤ (k +ℤ pos 1) r d (above_zero d some) (omega (arith, ints, less)) in
    let parts : (k +ℤ pos 1) *ℤ d ≡ k *ℤ d +ℤ pos 1 *ℤ d = add-mul_ℤ k (pos 1) d in
    omega (arith, ints, up, least, more, parts)

ceiling_is : (n d r : ℤ) → pos 0 <ℤ d → IsCeiling n d r → r ≡ ceiling n d
ceiling_is n d r some is =
    both_ways r (ceiling n d)
    (by_lt_z (ceiling n d) r (λ less. absurd (no_room (ceiling n d) n d r some (ceiling_at_least n d (from_one d some)) is.least less)) (λ h. h))
    (ceiling_least n d r (from_one d some) is.at_least)

module _ (c : CaseRecord) (value top : Ratio) (is : IsSameFraction top.num top.den (pos (top_of c)) (pos 1)) where
  scaled_top : top.num *ℤ value.den ≡ (value.den *ℤ pos (top_of c)) *ℤ top.den
  scaled_top =
      ap (λ (z : ℤ). z *ℤ value.den) (once top.num ∙ is) ∙ mul_right_comm_ℤ (pos (top_of c)) top.den value.den
      ∙ ap (λ (z : ℤ). z *ℤ top.den) (mul_comm_ℤ (pos (top_of c)) value.den)
    where
      once : (z : ℤ) → z ≡ z *ℤ pos 1
      once z = omega (arith, ints)

  pub bound_below_top : (up : ℤ) → (value.num *ℤ top.den) <ℤ (top.num *ℤ value.den) → IsCeiling value.num value.den up → AtLeast up ≡ root_bound c value
  bound_below_top up less is_up = by_test (int_le (value.den *ℤ pos (top_of c)) value.num) refl
    where
      by_test : (b : Bool) → int_le (value.den *ℤ pos (top_of c)) value.num ≡ b → AtLeast up ≡ cond b Nothing (AtLeast (rounded_up value))
      by_test false e = ap (λ z. AtLeast z) (ceiling_is value.num value.den up value.positive is_up)
      by_test true e =
          absurd (crossed (value.num *ℤ top.den) (top.num *ℤ value.den) ((value.den *ℤ pos (top_of c)) *ℤ top.den)
          (mul_le_ℤ (value.den *ℤ pos (top_of c)) value.num top.den (above_zero top.den top.positive)
          (le_of (value.den *ℤ pos (top_of c)) value.num e)) scaled_top less)

  pub bound_at_top : (top.num *ℤ value.den) ≤ℤ (value.num *ℤ top.den) → Nothing ≡ root_bound c value
  bound_at_top most =
      let P : ℤ → Type 0 = λ z. z ≤ℤ (value.num *ℤ top.den) in
      sym (nothing_at (int_le (value.den *ℤ pos (top_of c)) value.num) (rounded_up value)
      (of_le (value.den *ℤ pos (top_of c)) value.num
      (cancel_le_ℤ (value.den *ℤ pos (top_of c)) value.num top.den top.positive (subst P scaled_top most))))
