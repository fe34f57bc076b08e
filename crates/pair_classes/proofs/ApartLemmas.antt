-- Trains whose windows are apart cost nothing together.
use Rattle.std.proofs.Common.{◌≡◌, ℕ, zero, suc, ◌+◌, ◌-◌, ◌*◌, ◌==◌, ◌<◌, Bool, true, false, cond, ◌&&◌, ◌||◌, length, refl, ap, ◌∙◌, arith, Option, None, Some, ℤ, pos, ◌+ℤ◌, ◌≤ℤ◌, ◌<ℤ◌, nat_lt, inl, inr, ◌⊎◌}
use Rattle.std.specs.Prelude.{sum_by, is_some, slice_get, int_le, int_lt}
use Rattle.std.proofs.lemmas.Bool.{eqb-true}
use Rattle.std.proofs.lemmas.Bool.Decides.{nat_tests}
use Rattle.std.proofs.lemmas.Int.{ints, clamps}
use Rattle.station.specs.Allowed.{StationRecord}
use Rattle.station.specs.declared.part.PathWay.{PathWay}
use Rattle.station.specs.declared.part.PathWay.TheVariants.{In, Out}
use Rattle.station.specs.declared.part.Pattern.{Pattern}
use Rattle.path_conflicts.specs.declared.held.Held.{Held}
use Rattle.path_conflicts.specs.Meeting.{common_minutes}
use Rattle.path_conflicts.specs.Minutes.{free_from, path_used}
use Rattle.path_conflicts.specs.Overlap.{overlap, are_incompatible}
use Rattle.path_conflicts.proofs.Counts.{common_minutes_none}
use Rattle.patterns.specs.Book.{pattern_at}
use Rattle.patterns.specs.Sound.{IsSound}
use Rattle.pair_prices.specs.Case.{CaseRecord, IsCase}
use Rattle.pair_prices.specs.Pair.{meet_on_platform, all_ways, overlap_at, reason, gap, buffer_of, minutes_between, missing_minutes, pair_price}
use Rattle.pair_prices.specs.Spans.{path_span, platform_span}
use Rattle.pair_prices.specs.Top.{sealed_price, top_of}
use Rattle.pair_prices.proofs.OverlapLemmas.{overlap_both, overlap_apart, overlap_first, overlap_second}
use Rattle.pair_prices.proofs.PairLemmas.{shared, between_some, free_low}
use Rattle.pair_prices.proofs.CaseLemmas.{sound_at}
use Rattle.pair_classes.specs.Windows.{Encloses, Covers, CoversTrain, are_apart}
use Rattle.pair_classes.specs.Meetings.{AreFree}

-- one of the spans ends before the other begins
abbrev AreApart : Held → Held → Type 0
AreApart X Y = (X.end ≤ℤ Y.start) ⊎ (Y.end ≤ℤ X.start)

le_true : (x y : ℤ) → int_le x y ≡ true → x ≤ℤ y
le_true x y e = grind (arith, ints, nat_tests)

lt_is_true : (x y : ℤ) → x <ℤ y → int_lt x y ≡ true
lt_is_true x y h = grind (arith, ints, nat_tests)

lt_is_false : (x y : ℤ) → y ≤ℤ x → int_lt x y ≡ false
lt_is_false x y h = grind (arith, ints, nat_tests)

apart_either : (X Y : Held) → are_apart X Y ≡ true → AreApart X Y
apart_either X Y e = by (int_le X.end Y.start) refl e
  where
    by : (b : Bool) → int_le X.end Y.start ≡ b → (b || int_le Y.end X.start) ≡ true → AreApart X Y
    by true f g = inl (le_true X.end Y.start f)
    by false f g = inr (le_true Y.end X.start g)

common_apart : (X Y a b : Held) → Encloses X a → Encloses Y b → AreApart X Y → common_minutes a b ≡ 0
common_apart X Y a b h k (inl e) =
    common_minutes_none a b (omega (arith, ints, clamps, h.end, k.start, e))
common_apart X Y a b h k (inr e) =
    common_minutes_none a b (omega (arith, ints, clamps, h.start, k.end, e))

overlap_none : (r : StationRecord) (x y : Pattern) (X Y : Held) → Covers r x X → Covers r y Y → AreApart X Y
    → (v w : PathWay) → overlap r v x w y ≡ 0
overlap_none r x y X Y h k apart v w = by (path_used v x) (path_used w y) refl refl
  where
    clash : (p q : ℕ) → path_used v x ≡ Some p → path_used w y ≡ Some q → (b : Bool) → are_incompatible r.incompatible p q ≡ b
        → overlap r v x w y ≡ 0
    clash p q e f true g =
        overlap_both r v w x y p q e f g ∙ common_apart X Y (path_span r v x p) (path_span r w y q) (h.path v p e) (k.path w q f) apart
    clash p q e f false g = overlap_apart r v w x y p q e f g

    by : (o u : Option ℕ) → path_used v x ≡ o → path_used w y ≡ u → overlap r v x w y ≡ 0
    by None u e f = overlap_first r v w x y e
    by (Some p) None e f = overlap_second r v w x y f
    by (Some p) (Some q) e f = clash p q e f (are_incompatible r.incompatible p q) refl

and_no : (b : Bool) → (b && false) ≡ false
and_no true = refl
and_no false = refl

-- a platform's span lies in the buffered one
platform_in : (r : StationRecord) (x : Pattern) (X : Held) → Covers r x X → Encloses X (platform_span r x)
platform_in r x X h = record { start = h.platform.start; end = omega (arith, ints, h.platform.end) }

platform_none : (r : StationRecord) (x y : Pattern) (X Y : Held) → Covers r x X → Covers r y Y → AreApart X Y → meet_on_platform r x y ≡ false
platform_none r x y X Y h k apart =
    shared r x y
    ∙ ap (λ n. x.platform == y.platform && nat_lt 0 n)
    (common_apart X Y (platform_span r x) (platform_span r y) (platform_in r x X h) (platform_in r y Y k) apart)
    ∙ and_no (x.platform == y.platform)

-- a gap of at least the buffer
lacks_nothing : (r : StationRecord) (x y : Pattern) → IsSound r x → IsSound r y → (n : ℕ) → (free_from r x +ℤ pos n) ≤ℤ y.arrive
    → n - minutes_between r x y ≡ 0
lacks_nothing r x y h k zero e = omega arith
lacks_nothing r x y h k (suc n) e =
    let low = free_low r x h in
    let gap_is = between_some r x y (free_from r x) refl low (omega (arith, ints, e)) k.arrive_most in
    omega (arith, ints, gap_is, e)

buffer_in : (r : StationRecord) (x : Pattern) (X : Held) → Covers r x X → (free_from r x +ℤ pos (buffer_of (slice_get r.platforms x.platform))) ≤ℤ X.end
buffer_in r x X h = h.platform.end

free_later : (r : StationRecord) (x : Pattern) → IsSound r x → x.arrive <ℤ free_from r x
free_later r x h = omega (arith, ints, h.stays)

missing_none : (r : StationRecord) (x y : Pattern) (X Y : Held) → IsSound r x → IsSound r y → Covers r x X → Covers r y Y → AreApart X Y
    → missing_minutes r x y ≡ 0
unfolding missing_minutes
missing_none r x y X Y i j h k apart = by (x.platform == y.platform) refl
  where
    same : x.platform ≡ y.platform → AreApart X Y → buffer_of (slice_get r.platforms x.platform) - gap r x y ≡ 0
    same e (inl f) =
        let ends = buffer_in r x X h in
        let begins = k.platform.start in
        let later = free_later r x i in
        let enough : (free_from r x +ℤ pos (buffer_of (slice_get r.platforms x.platform))) ≤ℤ y.arrive = omega (arith, ints, ends, begins, f) in
        ap (λ b. buffer_of (slice_get r.platforms x.platform) - cond b (minutes_between r x y) (minutes_between r y x))
        (lt_is_true x.arrive y.arrive (omega (arith, ints, enough, later)))
        ∙ lacks_nothing r x y i j (buffer_of (slice_get r.platforms x.platform)) enough
    same e (inr f) =
        let ends = buffer_in r y Y k in
        let begins = h.platform.start in
        let later = free_later r y j in
        let enough : (free_from r y +ℤ pos (buffer_of (slice_get r.platforms y.platform))) ≤ℤ x.arrive = omega (arith, ints, ends, begins, f) in
        ap (λ b. buffer_of (slice_get r.platforms x.platform) - cond b (minutes_between r x y) (minutes_between r y x))
        (lt_is_false x.arrive y.arrive (omega (arith, ints, enough, later)))
        ∙ ap (λ p. buffer_of (slice_get r.platforms p) - minutes_between r y x) e
        ∙ lacks_nothing r y x j i (buffer_of (slice_get r.platforms y.platform)) enough

    by : (b : Bool) → (x.platform == y.platform) ≡ b → cond b (buffer_of (slice_get r.platforms x.platform) - gap r x y) 0 ≡ 0
    by true e = same (eqb-true x.platform y.platform e) apart
    by false e = refl

none_below : (n : ℕ) → nat_lt n 0 ≡ false
none_below n = grind (arith, nat_tests)

reason_none : (r : StationRecord) (x y : Pattern) → meet_on_platform r x y ≡ false
    → overlap r In x In y ≡ 0 → overlap r In x Out y ≡ 0 → overlap r Out x In y ≡ 0 → overlap r Out x Out y ≡ 0 → reason r x y ≡ None
unfolding reason
reason_none r x y m a b c d = rw (m, a, b, c, d, none_below r.threshold) refl

price_none : (r : StationRecord) (x y : Pattern) → overlap r In x In y ≡ 0 → overlap r In x Out y ≡ 0 → overlap r Out x In y ≡ 0
    → overlap r Out x Out y ≡ 0 → missing_minutes r x y ≡ 0 → pair_price r x y ≡ 0
unfolding pair_price
price_none r x y a b c d m =
    let total : sum_by (overlap_at r x y) all_ways ≡ 0 = omega (arith, a, b, c, d) in
    ap (λ n. r.conflict_price * n + r.buffer_price * missing_minutes r x y) total
    ∙ ap (λ n. r.conflict_price * 0 + r.buffer_price * n) m ∙ (omega arith)

sealed_none : (c : CaseRecord) (x y : Pattern) → reason c.station x y ≡ None → pair_price c.station x y ≡ 0 → sealed_price c x y ≡ 0
unfolding sealed_price
sealed_none c x y e f = ap (λ o. cond (is_some o) (top_of c) (pair_price c.station x y)) e ∙ f

patterns_free : (c : CaseRecord) (x y : Pattern) (X Y : Held) → IsSound c.station x → IsSound c.station y
    → Covers c.station x X → Covers c.station y Y → AreApart X Y → sealed_price c x y ≡ 0
patterns_free c x y X Y i j h k apart =
    let none = overlap_none c.station x y X Y h k apart in
    sealed_none c x y
    (reason_none c.station x y (platform_none c.station x y X Y h k apart) (none In In) (none In Out) (none Out In) (none Out Out))
    (price_none c.station x y (none In In) (none In Out) (none Out In) (none Out Out) (missing_none c.station x y X Y i j h k apart))

pub trains_free : (c : CaseRecord) → IsCase c → (s t : ℕ) → s < length c.book → t < length c.book → (X Y : Held)
    → CoversTrain c s X → CoversTrain c t Y → are_apart X Y ≡ true → AreFree c s t
trains_free c is s t hs ht X Y h k apart i j li lj =
    patterns_free c (pattern_at c.book s i) (pattern_at c.book t j) X Y (sound_at c is s i hs li) (sound_at c is t j ht lj)
    (h i li) (k j lj) (apart_either X Y apart)
