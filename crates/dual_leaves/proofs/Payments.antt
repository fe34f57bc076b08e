-- What is paid for platforms whose use is held down.
use Rattle.std.proofs.Common.{◌≡◌, ℕ, ◌+◌, ◌<◌, ◌≤◌, ◌==◌, Bool, true, false, List, length, refl, sym, ap, ◌∙◌, subst, arith, inl, inr, ◌⊎◌, ℤ, pos, neg_ℤ, ◌+ℤ◌, ◌-ℤ◌, ◌≤ℤ◌}
use Rattle.std.specs.Int.{int_max}
use Rattle.std.specs.List.{All}
use Rattle.std.specs.Map.{keys_of, values_of}
use Rattle.std.proofs.lemmas.Int.{ints, clamps}
use Rattle.std.proofs.lemmas.Bool.{cases_lt, eq-eqb, ne_eqb}
use Rattle.pair_prices.specs.Case.{CaseRecord}
use Rattle.pattern_pricing.specs.Layout.{LayoutRecord}
use Rattle.leaf_bounds.specs.Total.{only_if}
use Rattle.dual_leaves.specs.declared.key.MinuteKey.{MinuteKey}
use Rattle.dual_leaves.specs.Account.{IsMinuteKey, NoneBelow, of_number, on_platform}
use Rattle.dual_leaves.specs.Orders.{minute_order}
use Rattle.dual_leaves.specs.Priced.{AreFirstPaid, AreUsesPaid, paid_above, use_price}
use Rattle.dual_leaves.specs.Sums.{summed, IsAdded}
use Rattle.dual_leaves.proofs.Entries.{added_sum, added_keys, added_least, summed_least}
use Rattle.dual_leaves.proofs.Orders.{minute_total, minute_exact}

not_less : (b : Bool) (z : ℤ) → pos 0 ≤ℤ z → pos 0 ≤ℤ only_if b z
not_less true z h = h
not_less false z h = omega (arith, ints)

module _ (c : CaseRecord) (scale : ℤ) (uses : List (ℕ × ℤ)) (least : NoneBelow (values_of uses)) (platform : ℕ) (old : List (MinuteKey × ℤ))
    (most : on_platform old platform ≤ℤ (use_price c scale platform +ℤ of_number uses platform)) where
  -- nothing holds the use down
  pub first_none : of_number uses platform ≡ pos 0 → AreFirstPaid c scale uses platform old old
  first_none e = record {
    more = λ test. same (summed test old);
    others = λ other ne. refl;
    excess = within (on_platform old platform) (use_price c scale platform) (of_number uses platform) most e;
    keys = λ l there all. all;
    least = λ all. all;
  }
    where
      same : (z : ℤ) → z ≤ℤ z
      same z = omega (arith, ints)

      within : (v p u : ℤ) → v ≤ℤ (p +ℤ u) → u ≡ pos 0 → int_max (v -ℤ p) (pos 0) ≡ u
      within v p u h e = omega (arith, ints, clamps, h, e)

  pub first_paid : (rest : ℤ) (new : List (MinuteKey × ℤ))
      → rest ≡ (use_price c scale platform +ℤ of_number uses platform) -ℤ on_platform old platform
      → IsAdded minute_order old (record { platform = platform; minute = neg_ℤ (pos 30) }) rest new → AreFirstPaid c scale uses platform old new
  first_paid rest new is added =
      let some : pos 0 ≤ℤ rest = above rest (use_price c scale platform) (of_number uses platform) (on_platform old platform) is most in
      record {
        more = λ test. grows (summed test old) (summed test new) (only_if (test (record { platform = platform; minute = neg_ℤ (pos 30) })) rest) (sum test)
            (not_less (test (record { platform = platform; minute = neg_ℤ (pos 30) })) rest some);
        others = λ other ne.
            stays (on_platform old other) (on_platform new other) (only_if (platform == other) rest) (sum (λ k. k.platform == other))
            (ap (λ b. only_if b rest) (ne_eqb platform other (λ e. ne (sym e))));
        excess =
            beyond (on_platform old platform) (on_platform new platform) (use_price c scale platform) (of_number uses platform) rest
            (only_if (platform == platform) rest) is (sum (λ k. k.platform == platform)) (ap (λ b. only_if b rest) (eq-eqb platform platform refl))
            (summed_least (λ k. k == platform) uses least);
        keys = λ l there all.
            added_keys minute_order (IsMinuteKey l) old new (record { platform = platform; minute = neg_ℤ (pos 30) }) rest added
            (record { there = there; first = omega (arith, ints); last = omega (arith, ints) }) all;
        least = λ all. added_least minute_order old new (record { platform = platform; minute = neg_ℤ (pos 30) }) rest added some all;
      }
    where
      sum : (test : MinuteKey → Bool) → summed test new ≡ summed test old +ℤ only_if (test (record { platform = platform; minute = neg_ℤ (pos 30) })) rest
      sum test = added_sum minute_order minute_total minute_exact test old new (record { platform = platform; minute = neg_ℤ (pos 30) }) rest added

      above : (r p u v : ℤ) → r ≡ (p +ℤ u) -ℤ v → v ≤ℤ (p +ℤ u) → pos 0 ≤ℤ r
      above r p u v e h = omega (arith, ints, e, h)

      grows : (x y d : ℤ) → y ≡ x +ℤ d → pos 0 ≤ℤ d → x ≤ℤ y
      grows x y d e h = omega (arith, ints, e, h)

      stays : (x y d : ℤ) → y ≡ x +ℤ d → d ≡ pos 0 → y ≡ x
      stays x y d e f = omega (arith, ints, e, f)

      beyond : (v w p u r d : ℤ) → r ≡ (p +ℤ u) -ℤ v → w ≡ v +ℤ d → d ≡ r → pos 0 ≤ℤ u → int_max (w -ℤ p) (pos 0) ≡ u
      beyond v w p u r d e f g h = omega (arith, ints, clamps, e, f, g, h)

-- the same of the first so many platforms
pub record AreFrontPaid (c : CaseRecord) (scale : ℤ) (uses : List (ℕ × ℤ)) (count : ℕ) (old new : List (MinuteKey × ℤ)) : Type 0 where
  pub more : (test : MinuteKey → Bool) → summed test old ≤ℤ summed test new
  pub rest : (other : ℕ) → count ≤ other → on_platform new other ≡ on_platform old other
  pub excess : (platform : ℕ) → platform < count → paid_above c scale new platform ≡ of_number uses platform
  pub keys : (l : LayoutRecord) → count ≤ l.platforms → All (IsMinuteKey l) (keys_of old) → All (IsMinuteKey l) (keys_of new)
  pub least : NoneBelow (values_of old) → NoneBelow (values_of new)

module _ (c : CaseRecord) (scale : ℤ) (uses : List (ℕ × ℤ)) (old : List (MinuteKey × ℤ)) where
  pub front_none : AreFrontPaid c scale uses 0 old old
  front_none = record {
    more = λ test. same (summed test old);
    rest = λ other h. refl;
    excess = λ platform h. absurd (omega (arith, h));
    keys = λ l h all. all;
    least = λ all. all;
  }
    where
      same : (z : ℤ) → z ≤ℤ z
      same z = omega (arith, ints)

  pub front_more : (k : ℕ) (mid new : List (MinuteKey × ℤ)) → AreFrontPaid c scale uses k old mid → AreFirstPaid c scale uses k mid new
      → AreFrontPaid c scale uses (k + 1) old new
  front_more k mid new h s = record {
    more = λ test. through (summed test old) (summed test mid) (summed test new) (h.more test) (s.more test);
    rest = λ other m. s.others other (λ e. absurd (omega (arith, m, e))) ∙ h.rest other (omega (arith, m));
    excess = λ platform m. by platform m (cases_lt platform k);
    keys = λ l m all. s.keys l (omega (arith, m)) (h.keys l (omega (arith, m)) all);
    least = λ all. s.least (h.least all);
  }
    where
      through : (x y z : ℤ) → x ≤ℤ y → y ≤ℤ z → x ≤ℤ z
      through x y z a b = omega (arith, ints, a, b)

      by : (platform : ℕ) → platform < k + 1 → (platform < k) ⊎ (k ≤ platform) → paid_above c scale new platform ≡ of_number uses platform
      by platform m (inl less) =
          ap (λ z. int_max (z -ℤ use_price c scale platform) (pos 0)) (s.others platform (λ e. absurd (omega (arith, less, e)))) ∙ h.excess platform less
      by platform m (inr more) =
          let here : k ≡ platform = omega (arith, m, more) in
          subst (λ (n : ℕ). paid_above c scale new n ≡ of_number uses n) here s.excess

  pub front_all : (count : ℕ) (new : List (MinuteKey × ℤ)) → count ≡ length c.station.platforms → AreFrontPaid c scale uses count old new
      → AreUsesPaid c scale uses old new
  front_all count new e h = record {
    more = h.more;
    excess = λ platform m. h.excess platform (omega (arith, m, e));
    keys = λ l same all. h.keys l (omega (arith, e, same)) all;
    least = h.least;
  }
