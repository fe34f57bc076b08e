-- Weak duality: duals under which no column improves bound the cost of every point at which their rows hold.
use Rattle.std.proofs.Common.{◌≡◌, ℕ, suc, ◌<◌, arith, refl, sym, ap, subst, ◌∙◌, List, [], ◌∷◌, get_or, Bool, true, false, ℤ, pos, ◌+ℤ◌, ◌-ℤ◌, ◌*ℤ◌, ◌<ℤ◌, ◌≤ℤ◌, ⊎_elim}
use Rattle.std.specs.Prelude.{All, MatchBool}
use Rattle.std.proofs.lemmas.Int.{ints}
use Rattle.std.proofs.lemmas.List.Elements.{All-contains}
use Rattle.ratio.proofs.Ring.{mul_assoc_ℤ, mul_comm_ℤ, mul_right_comm_ℤ, mul-add_ℤ, add-mul_ℤ}
use Rattle.exact_lp.specs.declared.row.Row.{Row}
use Rattle.exact_lp.specs.declared.point.ColumnWeight.{ColumnWeight}
use Rattle.exact_lp.specs.declared.point.Point.{Point}
use Rattle.exact_lp.specs.declared.duals.Duals.{Duals}
use Rattle.exact_lp.specs.declared.answer.Outcome.{Outcome}
use Rattle.exact_lp.specs.declared.answer.Outcome.TheVariants.{Exact, Weak}
use Rattle.exact_lp.specs.Outcomes.{IfExact}
use Rattle.exact_lp.specs.Columns.{ArePositive, value_at, weighed_sum}
use Rattle.exact_lp.specs.Programs.{BoundsPoints, Holds, IsLeast, IsWithin, ShowsLeast, paid_by_rows, reduced_price, row_sum, valued_leasts}
use Rattle.exact_lp.specs.Signs.{AreSigned}
use Rattle.exact_lp.proofs.Order.{add_le_ℤ, mul_le_ℤ, mul_le_left_ℤ, cancel_le_ℤ}

sum_zero : (f : ℕ → ℤ) (ws : List ColumnWeight) → ((c : ℕ) → f c ≡ pos 0) → weighed_sum f ws ≡ pos 0
sum_zero f [] h = refl
sum_zero f (w ∷ ws) h = nothing (f w.column) w.weight (weighed_sum f ws) (h w.column) (sum_zero f ws h)
  where
    nothing : (a w s : ℤ) → a ≡ pos 0 → s ≡ pos 0 → a *ℤ w +ℤ s ≡ pos 0
    nothing a w s e k = ap (λ (z : ℤ). z *ℤ w +ℤ s) e ∙ ap (λ (z : ℤ). pos 0 *ℤ w +ℤ z) k ∙ none w
      where
        none : (w : ℤ) → pos 0 *ℤ w +ℤ pos 0 ≡ pos 0
        none w = omega (arith, ints)

regroup : (a b s c d : ℤ) → s ≡ c +ℤ d → a +ℤ b +ℤ s ≡ (a +ℤ c) +ℤ (b +ℤ d)
regroup a b s c d e = omega (arith, ints)

nothing_more : (y : ℤ) → pos 0 ≡ y *ℤ pos 0 +ℤ pos 0
nothing_more y = omega (arith, ints)

-- a multiple of one number of a column, and another
sum_more : (y : ℤ) (f g : ℕ → ℤ) (ws : List ColumnWeight) → weighed_sum (λ c. y *ℤ f c +ℤ g c) ws ≡ y *ℤ weighed_sum f ws +ℤ weighed_sum g ws
sum_more y f g [] = nothing_more y
sum_more y f g (w ∷ ws) = more (f w.column) (g w.column) w.weight (weighed_sum f ws) (weighed_sum g ws) (weighed_sum (λ c. y *ℤ f c +ℤ g c) ws) (sum_more y f g ws)
  where
    more : (a b w F G s : ℤ) → s ≡ y *ℤ F +ℤ G → (y *ℤ a +ℤ b) *ℤ w +ℤ s ≡ y *ℤ (a *ℤ w +ℤ F) +ℤ (b *ℤ w +ℤ G)
    more a b w F G s e =
        ap (λ (z : ℤ). z +ℤ s) (add-mul_ℤ (y *ℤ a) b w)
        ∙ ap (λ (z : ℤ). z +ℤ b *ℤ w +ℤ s) (mul_assoc_ℤ y a w)
        ∙ regroup (y *ℤ (a *ℤ w)) (b *ℤ w) s (y *ℤ F) G e
        ∙ ap (λ (z : ℤ). z +ℤ (b *ℤ w +ℤ G)) (sym (mul-add_ℤ y (a *ℤ w) F))

sum_scaled : (k : ℤ) (f : ℕ → ℤ) (ws : List ColumnWeight) → weighed_sum (λ c. k *ℤ f c) ws ≡ k *ℤ weighed_sum f ws
sum_scaled k f [] = nothing k
  where
    nothing : (k : ℤ) → pos 0 ≡ k *ℤ pos 0
    nothing k = omega (arith, ints)
sum_scaled k f (w ∷ ws) =
    ap (λ (z : ℤ). z +ℤ weighed_sum (λ c. k *ℤ f c) ws) (mul_assoc_ℤ k (f w.column) w.weight)
    ∙ ap (λ (z : ℤ). k *ℤ (f w.column *ℤ w.weight) +ℤ z) (sum_scaled k f ws)
    ∙ sym (mul-add_ℤ k (f w.column *ℤ w.weight) (weighed_sum f ws))

-- the greater numbers have the greater sum
sum_at_most : (f g : ℕ → ℤ) (count : ℕ) (ws : List ColumnWeight) → ((c : ℕ) → c < count → f c ≤ℤ g c) → IsWithin count ws → ArePositive ws → weighed_sum f ws ≤ℤ weighed_sum g ws
sum_at_most f g count [] less within positive = omega (arith, ints)
sum_at_most f g count (w ∷ ws) less within positive =
    add_le_ℤ (f w.column *ℤ w.weight) (g w.column *ℤ w.weight) (weighed_sum f ws) (weighed_sum g ws)
    (mul_le_ℤ (f w.column) (g w.column) w.weight (above w.weight (positive 0 w (omega arith))) (less w.column (within 0 w (omega arith))))
    (sum_at_most f g count ws less (λ k d h. within (suc k) d (omega arith)) (λ k d h. positive (suc k) d (omega arith)))
  where
    above : (z : ℤ) → pos 0 <ℤ z → pos 0 ≤ℤ z
    above z h = omega (arith, ints)

-- what a row at a point is worth with its dual value
held : (equal : Bool) (value sum least : ℤ) → MatchBool equal (sum ≡ least) (least ≤ℤ sum) → (equal ≡ false → pos 0 ≤ℤ value) → (value *ℤ least) ≤ℤ (value *ℤ sum)
held true value sum least same signed = subst (λ (z : ℤ). (value *ℤ least) ≤ℤ (value *ℤ z)) (sym same) (itself (value *ℤ least))
  where
    itself : (z : ℤ) → z ≤ℤ z
    itself z = omega (arith, ints)
held false value sum least above signed = mul_le_left_ℤ value least sum (signed refl) above

-- what the rows are worth at their least is at most what they pay for the point's columns
rows_bound : (rows : List Row) (values : List ℤ) (point : Point) → AreSigned rows values → All (λ row. Holds row point) rows
    → (valued_leasts rows values *ℤ point.scale) ≤ℤ weighed_sum (paid_by_rows rows values) point.weights
rows_bound [] values point signed hold = nothing point.scale (sum_zero (paid_by_rows [] values) point.weights (λ c. refl))
  where
    nothing : (s : ℤ) {t : ℤ} → t ≡ pos 0 → (pos 0 *ℤ s) ≤ℤ t
    nothing s e = omega (arith, ints)
rows_bound (row ∷ rows) [] point signed hold = nothing point.scale (sum_zero (paid_by_rows (row ∷ rows) []) point.weights (λ c. refl))
  where
    nothing : (s : ℤ) {t : ℤ} → t ≡ pos 0 → (pos 0 *ℤ s) ≤ℤ t
    nothing s e = omega (arith, ints)
rows_bound (row ∷ rows) (value ∷ values) point signed hold =
    let first = held row.equal value (row_sum row point) (row.least *ℤ point.scale) (hold 0 row (omega arith)) (signed 0 row (omega arith)) in
    let rest = rows_bound rows values point (λ k d h. signed (suc k) d (omega arith)) (λ k d h. hold (suc k) d (omega arith)) in
    let both = add_le_ℤ (value *ℤ (row.least *ℤ point.scale)) (value *ℤ row_sum row point) (valued_leasts rows values *ℤ point.scale) (weighed_sum (paid_by_rows rows values) point.weights) first rest in
    let left : (value *ℤ row.least +ℤ valued_leasts rows values) *ℤ point.scale ≡ value *ℤ (row.least *ℤ point.scale) +ℤ valued_leasts rows values *ℤ point.scale =
    add-mul_ℤ (value *ℤ row.least) (valued_leasts rows values) point.scale
    ∙ ap (λ (z : ℤ). z +ℤ valued_leasts rows values *ℤ point.scale) (mul_assoc_ℤ value row.least point.scale) in
    let right = sum_more value (value_at row.cells) (paid_by_rows rows values) point.weights in
    along left right both
  where
    along : {a b c d : ℤ} → a ≡ b → d ≡ c → b ≤ℤ c → a ≤ℤ d
    along e k h = omega (arith, ints)

pub duals_bound : (price : ℕ → ℤ) (count : ℕ) (duals : Duals) → ((column : ℕ) → column < count → pos 0 ≤ℤ reduced_price (price column) duals column) → BoundsPoints price count duals
duals_bound price count duals none other within hold =
    let paid = paid_by_rows duals.rows duals.values in
    let ws = other.weights in
    let rows = rows_bound duals.rows duals.values other duals.signed hold in
    let columns = sum_at_most paid (λ (c : ℕ). duals.scale *ℤ price c) count ws (λ c h. unpaid (duals.scale *ℤ price c) (paid c) (none c h)) within other.positive in
    let whole : weighed_sum (λ (c : ℕ). duals.scale *ℤ price c) ws ≡ weighed_sum price ws *ℤ duals.scale = sum_scaled duals.scale price ws ∙ mul_comm_ℤ duals.scale (weighed_sum price ws) in
    through rows columns whole
  where
    unpaid : (a b : ℤ) → pos 0 ≤ℤ (a -ℤ b) → b ≤ℤ a
    unpaid a b h = omega (arith, ints)

    through : {a b c d : ℤ} → a ≤ℤ b → b ≤ℤ c → c ≡ d → a ≤ℤ d
    through h k e = omega (arith, ints)

pub shown_is_least : (price : ℕ → ℤ) (count : ℕ) (opening : List Row) (stands : Row → Type 0) (point : Point) (duals : Duals) → ShowsLeast price count opening stands point duals → IsLeast price count opening stands point
shown_is_least price count opening stands point duals shows other within opens standing =
    let P : Row → Type 0 = λ row. Holds row other in
    let hold : All P duals.rows = λ k d h. ⊎_elim (λ given. All-contains P opening (get_or duals.rows k d) opens given) (λ so. standing (get_or duals.rows k d) so) (shows.rows_given k d h) in
    let bound = duals_bound price count duals shows.not_improving other within hold in
    let cost = weighed_sum price point.weights in
    let others = weighed_sum price other.weights in
    let value = valued_leasts duals.rows duals.values in
    let wide : ((value *ℤ other.scale) *ℤ point.scale) ≤ℤ ((others *ℤ duals.scale) *ℤ point.scale) = mul_le_ℤ (value *ℤ other.scale) (others *ℤ duals.scale) point.scale (above point.scale point.above) bound in
    let left : (cost *ℤ other.scale) *ℤ duals.scale ≡ (value *ℤ other.scale) *ℤ point.scale =
    mul_right_comm_ℤ cost other.scale duals.scale ∙ ap (λ (z : ℤ). z *ℤ other.scale) shows.same_cost ∙ mul_right_comm_ℤ value point.scale other.scale in
    let right : (others *ℤ point.scale) *ℤ duals.scale ≡ (others *ℤ duals.scale) *ℤ point.scale = mul_right_comm_ℤ others point.scale duals.scale in
    cancel_le_ℤ (cost *ℤ other.scale) (others *ℤ point.scale) duals.scale duals.above (along left right wide)
  where
    above : (z : ℤ) → pos 0 <ℤ z → pos 0 ≤ℤ z
    above z h = omega (arith, ints)

    along : {a b c d : ℤ} → a ≡ b → d ≡ c → b ≤ℤ c → a ≤ℤ d
    along e k h = omega (arith, ints)

-- so an exact outcome is least
pub exact_is_least : (price : ℕ → ℤ) (count : ℕ) (opening : List Row) (stands : Row → Type 0) (outcome : Outcome)
    → IfExact outcome (λ solved. ShowsLeast price count opening stands solved.point solved.duals) → IfExact outcome (λ solved. IsLeast price count opening stands solved.point)
exact_is_least price count opening stands (Exact solved) shows = shown_is_least price count opening stands solved.point solved.duals shows
exact_is_least price count opening stands (Weak cause) shows = tt
