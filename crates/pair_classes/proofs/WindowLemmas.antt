-- Windows that cover the patterns of the first trains.
use Rattle.std.proofs.Common.{◌≡◌, ℕ, ◌+◌, ◌<◌, List, [], ◌∷◌, ◌++◌, length, sym, ap, ◌∙◌, subst, arith, ◌⊎◌, inl, inr}
use Rattle.std.proofs.lemmas.List.{get_or_append_left, get_or_push, length-append}
use Rattle.std.proofs.lemmas.Int.{ints}
use Rattle.station.specs.Allowed.{StationRecord}
use Rattle.station.specs.declared.part.Pattern.{Pattern}
use Rattle.path_conflicts.specs.declared.held.Held.{Held}
use Rattle.patterns.specs.Book.{pattern_at}
use Rattle.pair_prices.specs.Case.{CaseRecord}
use Rattle.pair_classes.proofs.GroupLemmas.{last_or}
use Rattle.pair_classes.specs.Windows.{Encloses, Covers, CoversTrain, span_at, no_span}

pub encloses_more : (a b c : Held) → Encloses a b → Encloses b c → Encloses a c
encloses_more a b c h k = record { start = omega (arith, ints, h.start, k.start); end = omega (arith, ints, h.end, k.end) }

pub covers_more : (r : StationRecord) (x : Pattern) (a b : Held) → Encloses b a → Covers r x a → Covers r x b
covers_more r x a b h k = record {
  platform = encloses_more b a _ h k.platform;
  path = λ way p e. encloses_more b a _ h (k.path way p e);
}

-- the same of the trains below n
pub record AreWindowsTo (c : CaseRecord) (n : ℕ) (spans : List Held) : Type 0 where
  pub count : length spans ≡ n
  pub each : (t : ℕ) → t < n → CoversTrain c t (span_at spans t)

-- one more pattern
pub covers_next : (c : CaseRecord) (t n : ℕ) (old own new : Held) → ((i : ℕ) → i < n → Covers c.station (pattern_at c.book t i) old)
    → Covers c.station (pattern_at c.book t n) own → Encloses new old → Encloses new own
    → (i : ℕ) → i < n + 1 → Covers c.station (pattern_at c.book t i) new
covers_next c t n old own new all one first second i h = by (last_or i n h)
  where
    by : (i < n) ⊎ (i ≡ n) → Covers c.station (pattern_at c.book t i) new
    by (inl e) = covers_more c.station (pattern_at c.book t i) old new first (all i e)
    by (inr e) =
        let P : ℕ → Type 0 = λ k. Covers c.station (pattern_at c.book t k) new in
        subst P (sym e) (covers_more c.station (pattern_at c.book t n) own new second one)

-- one more train
pub windows_next : (c : CaseRecord) (n : ℕ) (old new : List Held) (one : Held) → AreWindowsTo c n old → new ≡ old ++ one ∷ []
    → CoversTrain c n one → AreWindowsTo c (n + 1) new
windows_next c n old new one w e h = record {
  count = ap length e ∙ length-append old (one ∷ []) ∙ ap (λ k. k + 1) w.count;
  each = λ t l. by t (last_or t n l);
}
  where
    by : (t : ℕ) → (t < n) ⊎ (t ≡ n) → CoversTrain c t (span_at new t)
    by t (inl l) =
        let P : Held → Type 0 = CoversTrain c t in
        subst P (sym (ap (λ xs. span_at xs t) e ∙ get_or_append_left old (one ∷ []) no_span t (omega (arith, l, w.count)))) (w.each t l)
    by t (inr l) =
        let P : Held → Type 0 = CoversTrain c t in
        let Q : ℕ → Type 0 = λ k. CoversTrain c k one in
        subst P (sym (ap (λ xs. span_at xs t) e ∙ get_or_push old one no_span t (w.count ∙ sym l))) (subst Q (sym l) h)
