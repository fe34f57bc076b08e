-- What each kind of row has where the weights of columns are those of a fractional plan.
use Rattle.std.proofs.Common.{◌≡◌, ℕ, ◌+◌, ◌*◌, ◌<◌, Bool, true, false, cond, List, [], ◌∷◌, ◌++◌, length, refl, sym, ap, ◌∙◌, arith, ℤ, pos, neg_ℤ, ◌+ℤ◌, ◌-ℤ◌, ◌*ℤ◌}
use Rattle.std.specs.Prelude.{slice_index, sum_by}
use Rattle.std.proofs.lemmas.Int.{ints}
use Rattle.std.proofs.lemmas.List.{get_or_append_left, get_or_push}
use Rattle.station.specs.Allowed.{numbers}
use Rattle.transport.specs.Coupling.{at}
use Rattle.patterns.specs.Allowed.{list_of}
use Rattle.patterns.specs.Book.{price_at}
use Rattle.pair_prices.specs.Case.{CaseRecord}
use Rattle.pair_prices.specs.Fraction.{Fraction, choices, held_by_train, held_weight, holds_there, left_out, pattern_of, use_cost, weight_cost, weight_cost_of}
use Rattle.pair_prices.specs.Plan.{platform_price}
use Rattle.pair_prices.specs.Top.{top_of}
use Rattle.pair_prices.specs.Trains.{train_pairs}
use Rattle.pair_prices.proofs.TopLemmas.{sum_numbers_more}
use Rattle.leaf_bounds.specs.Total.{only_if, total}
use Rattle.leaf_bounds.proofs.Totals.{total_add, total_numbers_next, total_numbers_same}
use Rattle.leaf_bounds.proofs.BareLemmas.{total_pos}
use Rattle.pair_cuts.specs.declared.cut.PairCut.{PairCut}
use Rattle.pair_cuts.specs.Cut.{alphas, betas}
use Rattle.pattern_pricing.specs.declared.column.Column.{Column}
use Rattle.pattern_pricing.specs.declared.column.Column.TheVariants.{LeftOut, PlatformUse}
use Rattle.pattern_pricing.specs.Layout.{LayoutRecord, weight_column, pair_column}
use Rattle.pattern_pricing.specs.Prices.{IsLayoutOf, price_of_column}
use Rattle.station_rows.specs.Rows.{train_value, use_value, clique_value, pair_row_value}
use Rattle.station_rows.specs.Points.{value_column}
use Rattle.station_rows.proofs.Spread.{spread}
use Rattle.station_rows.proofs.RowSums.{train_spread, use_spread, train_held, clique_spread, train_worth, pair_spread, patterns_price, price_spread}

-- The weights of columns are the numbers of the fractional plan.
pub record Agrees (l : LayoutRecord) (x : Column → ℤ) (f : Fraction) : Type 0 where
  pub weights : (t i : ℕ) → t < length l.lists → i < length (list_of l.lists t) → x (weight_column t i) ≡ pos (f.weight t i)
  pub lefts : (t : ℕ) → t < length l.lists → x (LeftOut t) ≡ pos (f.weight t (left_out l.lists t))
  pub uses : (p : ℕ) → p < l.platforms → x (PlatformUse p) ≡ pos (f.use p)

-- what numbers at a train's choices are worth at the plan's weights
abbrev pub choice_worth : LayoutRecord → Fraction → List ℤ → ℕ → ℤ
choice_worth l f xs t = total (λ k. at xs k *ℤ pos (f.weight t k)) (choices l.lists t)

module _ (l : LayoutRecord) (x : Column → ℤ) (f : Fraction) (agrees : Agrees l x f) where
  pub agreed_train : (t : ℕ) → t < length l.lists → spread l (train_value t) x ≡ pos (sum_by (f.weight t) (choices l.lists t))
  agreed_train t h =
      let n = left_out l.lists t in
      let all = train_spread l x t h in
      let same = total_numbers_same (λ i. x (weight_column t i)) (λ i. pos (f.weight t i)) n (λ i k. agrees.weights t i h k) in
      let sums = total_pos (f.weight t) (numbers n) in
      let left = agrees.lefts t h in
      let more = sum_numbers_more (f.weight t) n in
      omega (arith, ints, all, same, sums, left, more)

  pub agreed_use : (p : ℕ) → p < l.platforms → spread l (use_value p) x ≡ neg_ℤ (pos (f.use p))
  agreed_use p h = use_spread l x p h ∙ ap neg_ℤ (agrees.uses p h)

  held_one : (b : Bool) (z : ℤ) (n : ℕ) → z ≡ pos n → only_if b z ≡ pos (cond b n 0)
  held_one true z n e = e
  held_one false z n e = refl

  agreed_held : (c : CaseRecord) (p : ℕ) (m : ℤ) (t : ℕ) → t < length l.lists → train_held l x c p m t ≡ pos (held_by_train c l.lists f p m t)
  agreed_held c p m t h =
      let n = left_out l.lists t in
      let b : ℕ → Bool = λ i. holds_there c p m (pattern_of c l.lists t i) in
      let g : ℕ → ℕ = λ i. cond (b i) (f.weight t i) 0 in
      total_numbers_same (λ i. only_if (b i) (x (weight_column t i))) (λ i. pos (g i)) n (λ i k. held_one (b i) (x (weight_column t i)) (f.weight t i) (agrees.weights t i h k))
      ∙ total_pos g (numbers n)

  pub agreed_clique : (c : CaseRecord) → IsLayoutOf c l → (p : ℕ) (m : ℤ) → p < l.platforms
      → spread l (clique_value c l.lists p m) x ≡ pos (f.use p) -ℤ pos (held_weight c l.lists f p m)
  unfolding held_weight
  agreed_clique c is p m h =
      let all = clique_spread l x c p m h in
      let use_is = agrees.uses p h in
      let trains = length l.lists in
      let same = total_numbers_same (train_held l x c p m) (λ t. pos (held_by_train c l.lists f p m t)) trains (λ t k. agreed_held c p m t k) in
      let sums = total_pos (held_by_train c l.lists f p m) (numbers trains) in
      let book = ap (λ k. sum_by (held_by_train c l.lists f p m) (numbers k)) is.lists.trains in
      omega (arith, ints, all, use_is, same, sums, book)

  agreed_worth : (xs : List ℤ) (left : ℤ) (t : ℕ) → t < length l.lists → length xs ≡ left_out l.lists t
      → train_worth l x xs left t ≡ choice_worth l f (xs ++ left ∷ []) t
  agreed_worth xs left t h long =
      let n = left_out l.lists t in
      let g : ℕ → ℤ = λ k. at (xs ++ left ∷ []) k *ℤ pos (f.weight t k) in
      let same = total_numbers_same (λ i. at xs i *ℤ x (weight_column t i)) g n
      (λ i k. ap (λ (z : ℤ). at xs i *ℤ z) (agrees.weights t i h k)
      ∙ ap (λ (z : ℤ). z *ℤ pos (f.weight t i)) (sym (get_or_append_left xs (left ∷ []) (pos 0) i (omega (arith, long, k))))) in
      let last : left *ℤ x (LeftOut t) ≡ g n =
      ap (λ (z : ℤ). left *ℤ z) (agrees.lefts t h) ∙ ap (λ (z : ℤ). z *ℤ pos (f.weight t n)) (sym (get_or_push xs left (pos 0) n long)) in
      let more = total_numbers_next g n in
      omega (arith, ints, same, last, more)

  pub agreed_pair : (cut : PairCut) → cut.first < cut.second → cut.second < length l.lists → length cut.alpha ≡ left_out l.lists cut.first
      → length cut.beta ≡ left_out l.lists cut.second → spread l (pair_row_value cut) x
      ≡ x (value_column cut.first cut.second) -ℤ (choice_worth l f (alphas cut) cut.first +ℤ choice_worth l f (betas cut) cut.second)
  agreed_pair cut h n alpha beta =
      let all = pair_spread l x cut h n in
      let below : cut.first < length l.lists = omega (arith, h, n) in
      let a = agreed_worth cut.alpha cut.alpha_left cut.first below alpha in
      let b = agreed_worth cut.beta cut.beta_left cut.second n beta in
      omega (arith, ints, all, a, b)

  agreed_price : (c : CaseRecord) (t : ℕ) → t < length l.lists
      → (patterns_price l x c t +ℤ pos (top_of c) *ℤ x (LeftOut t)) ≡ pos (weight_cost_of c l.lists f t)
  agreed_price c t h =
      let n = left_out l.lists t in
      let price : ℕ → ℕ = λ i. price_at c.book t (slice_index (list_of l.lists t) i) in
      let same = total_numbers_same (λ i. pos (price i) *ℤ x (weight_column t i)) (λ i. pos (price i * f.weight t i)) n
      (λ i k. ap (λ (z : ℤ). pos (price i) *ℤ z) (agrees.weights t i h k)) in
      let sums = total_pos (λ i. price i * f.weight t i) (numbers n) in
      let left : pos (top_of c) *ℤ x (LeftOut t) ≡ pos (top_of c * f.weight t n) = ap (λ (z : ℤ). pos (top_of c) *ℤ z) (agrees.lefts t h) in
      omega (arith, ints, same, sums, left)

  pub agreed_cost : (c : CaseRecord) → IsLayoutOf c l → spread l (λ col. pos (price_of_column c l col)) x
      ≡ pos (use_cost c f) +ℤ pos (weight_cost c l.lists f) +ℤ total (λ p. x (pair_column p)) (train_pairs (length l.lists))
  agreed_cost c is =
      let trains = length l.lists in
      let all = price_spread l x c in
      let both = total_add (patterns_price l x c) (λ t. pos (top_of c) *ℤ x (LeftOut t)) (numbers trains) in
      let same = total_numbers_same (λ t. patterns_price l x c t +ℤ pos (top_of c) *ℤ x (LeftOut t)) (λ t. pos (weight_cost_of c l.lists f t)) trains
      (λ t k. agreed_price c t k) in
      let sums = total_pos (weight_cost_of c l.lists f) (numbers trains) in
      let book = ap (λ k. sum_by (weight_cost_of c l.lists f) (numbers k)) is.lists.trains in
      let uses = total_numbers_same (λ p. pos (platform_price c p) *ℤ x (PlatformUse p)) (λ p. pos (platform_price c p * f.use p)) l.platforms
      (λ p k. ap (λ (z : ℤ). pos (platform_price c p) *ℤ z) (agrees.uses p k)) in
      let uses_sum = total_pos (λ p. platform_price c p * f.use p) (numbers l.platforms) in
      let platforms = ap (λ k. sum_by (λ p. platform_price c p * f.use p) (numbers k)) is.platforms in
      omega (arith, ints, all, both, same, sums, book, uses, uses_sum, platforms)
