-- The lists of what is due: what a split leads to, and what is due after a subtree.
use Rattle.std.proofs.Common.{◌≡◌, ℕ, zero, suc, ◌<◌, ◌≤◌, Bool, true, false, List, [], ◌∷◌, ◌++◌, length, get_or, cond, refl, sym, ap, subst, ◌∙◌, arith}
use Rattle.std.specs.Prelude.{All, reverse, nat_lt, nat_le}
use Rattle.std.specs.List.{filter}
use Rattle.std.specs.List.Sorted.{IsStrictlyIncreasing}
use Rattle.std.proofs.Math.ListN.{get_or-append}
use Rattle.std.proofs.Math.Seq.{get_or-append_seam}
use Rattle.std.proofs.lemmas.List.{reverse-append, length-append, length-set}
use Rattle.std.proofs.lemmas.List.Elements.{All-append}
use Rattle.std.proofs.lemmas.List.Kept.{AllPairs-from_increasing}
use Rattle.std.proofs.lemmas.Bool.Decides.{nat_tests}
use Rattle.patterns.specs.Allowed.{Lists, list_of, part_below, part_from, with_list}
use Rattle.leaf_bounds.specs.declared.tree.Cut.{Cut}
use Rattle.leaf_bounds.specs.Tree.{lists_below, lists_from}
use Rattle.proof_check.specs.declared.splits.OpenSplit.{OpenSplit}
use Rattle.proof_check.specs.declared.splits.Subtree.TheVariants.{Below, Rest}
use Rattle.proof_check.specs.declared.splits.Subtree.{Subtree}
use Rattle.proof_check.specs.Due.{due_at, whole_of, later, joined}

pub with_list_twice : (lists : Lists) (t : ℕ) (ms ns : List ℕ) → with_list (with_list lists t ms) t ns ≡ with_list lists t ns
with_list_twice [] t ms ns = refl
with_list_twice (x ∷ lists) zero ms ns = refl
with_list_twice (x ∷ lists) (suc t) ms ns = ap (λ (l : Lists). x ∷ l) (with_list_twice lists t ms ns)

with_its_list : (lists : Lists) (t : ℕ) → with_list lists t (list_of lists t) ≡ lists
with_its_list [] t = refl
with_its_list (x ∷ lists) zero = refl
with_its_list (x ∷ lists) (suc t) = ap (λ (l : Lists). x ∷ l) (with_its_list lists t)

list_put : (lists : Lists) (t : ℕ) (ns : List ℕ) → t < length lists → list_of (with_list lists t ns) t ≡ ns
list_put [] t ns h = absurd (omega (arith, h))
list_put (x ∷ lists) zero ns h = refl
list_put (x ∷ lists) (suc t) ns h = list_put lists t ns (omega (arith, h))

-- a list that stood for another train's for a while
pub rejoined : (lists new after : Lists) (t : ℕ) (none whole other rest : List ℕ) → new ≡ with_list lists t none → after ≡ with_list new t whole
    → whole ≡ other ++ rest → rest ≡ list_of lists t → after ≡ with_list lists t (other ++ list_of lists t)
rejoined lists new after t none whole other rest e f g h =
    f ∙ ap (λ (w : List ℕ). with_list new t w) (g ∙ ap (λ (r : List ℕ). other ++ r) h)
    ∙ ap (λ (l : Lists). with_list l t (other ++ list_of lists t)) e ∙ with_list_twice lists t none (other ++ list_of lists t)

-- the two parts of an ascending list make it up
module _ (at : ℕ) where
  none_below : (ns : List ℕ) → ((k : ℕ) → k < length ns → at ≤ get_or ns k 0) → filter (λ n. nat_lt n at) ns ≡ []
  none_below [] h = refl
  none_below (m ∷ ns) h = gone (nat_lt m at) (filter (λ n. nat_lt n at) ns) (not_less (h 0 (omega arith))) (none_below ns (λ k l. h (suc k) (omega (arith, l))))
    where
      not_less : at ≤ m → nat_lt m at ≡ false
      not_less l = grind (arith, nat_tests)

      gone : (a : Bool) (f : List ℕ) → a ≡ false → f ≡ [] → cond a (m ∷ f) f ≡ []
      gone true f e g = absurd cc
      gone false f e g = g

  all_from : (ns : List ℕ) → ((k : ℕ) → k < length ns → at ≤ get_or ns k 0) → filter (λ n. nat_le at n) ns ≡ ns
  all_from [] h = refl
  all_from (m ∷ ns) h = kept (nat_le at m) (filter (λ n. nat_le at n) ns) (at_least (h 0 (omega arith))) (all_from ns (λ k l. h (suc k) (omega (arith, l))))
    where
      at_least : at ≤ m → nat_le at m ≡ true
      at_least l = grind (arith, nat_tests)

      kept : (a : Bool) (f : List ℕ) → a ≡ true → f ≡ ns → cond a (m ∷ f) f ≡ m ∷ ns
      kept true f e g = ap (λ (l : List ℕ). m ∷ l) g
      kept false f e g = absurd cc

  both : (ns : List ℕ) → ((i j : ℕ) → i < j → j < length ns → get_or ns i 0 < get_or ns j 0)
      → filter (λ n. nat_lt n at) ns ++ filter (λ n. nat_le at n) ns ≡ ns
  both [] h = refl
  both (m ∷ ns) h = by (both ns (λ i j l k. h (suc i) (suc j) (omega (arith, l)) (omega (arith, k)))) (nat_lt m at) (nat_le at m) refl refl
    where
      above : at ≤ m → (k : ℕ) → k < length ns → at ≤ get_or ns k 0
      above l k b = omega (arith, l, h 0 (suc k) (omega arith) (omega (arith, b)))

      must : nat_lt m at ≡ true → nat_le at m ≡ true → ⊥
      must a b = grind (arith, nat_tests)

      either : nat_lt m at ≡ false → at ≤ m
      either a = grind (arith, nat_tests)

      from : nat_lt m at ≡ false → nat_le at m ≡ false → ⊥
      from a b = grind (arith, nat_tests)

      by : filter (λ n. nat_lt n at) ns ++ filter (λ n. nat_le at n) ns ≡ ns → (a b : Bool) → nat_lt m at ≡ a → nat_le at m ≡ b
          → cond a (m ∷ filter (λ n. nat_lt n at) ns) (filter (λ n. nat_lt n at) ns)
          ++ cond b (m ∷ filter (λ n. nat_le at n) ns) (filter (λ n. nat_le at n) ns) ≡ m ∷ ns
      by rest true true e f = absurd (must e f)
      by rest true false e f = ap (λ (l : List ℕ). m ∷ l) rest
      by rest false false e f = absurd (from e f)
      by rest false true e f =
          ap (λ (l : List ℕ). l ++ m ∷ filter (λ n. nat_le at n) ns) (none_below ns (above (either e)))
          ∙ ap (λ (l : List ℕ). m ∷ l) (all_from ns (above (either e)))

parts_join : (at : ℕ) (ns : List ℕ) → IsStrictlyIncreasing ns → part_below at ns ++ part_from at ns ≡ ns
unfolding part_below part_from
parts_join at ns up = both at ns (λ i j l k. AllPairs-from_increasing ns up i j 0 l k)

-- a list that isn't empty, from its length
pub some_there : (n : ℕ) (ns ms : List ℕ) → (n ≡ 0 → ⊥) → n ≡ length ns → ns ≡ ms → ms ≡ [] → ⊥
some_there n ns ms a b e f = a (b ∙ ap length (e ∙ f))

pub divided : (lists : Lists) (cut : Cut) (new : Lists) (old above : List OpenSplit) (below rest : List ℕ) → cut.train < length lists
    → IsStrictlyIncreasing (list_of lists cut.train) → below ≡ part_below cut.at (list_of lists cut.train) → rest ≡ part_from cut.at (list_of lists cut.train)
    → new ≡ with_list lists cut.train below → above ≡ old ++ record { train = cut.train; reads = Below; other = rest } ∷ []
    → (new ∷ later new (reverse above)) ≡ lists_below lists cut ∷ lists_from lists cut ∷ later lists (reverse old)
divided lists cut new old above below rest inside up b r e f =
    let o : OpenSplit = record { train = cut.train; reads = Below; other = rest } in
    let t = cut.train in
    let reversed : reverse above ≡ o ∷ reverse old = ap reverse f ∙ reverse-append old (o ∷ []) in
    let first : new ≡ lists_below lists cut = e ∙ ap (with_list lists t) b in
    let second : with_list new t rest ≡ lists_from lists cut =
    ap (λ (l : Lists). with_list l t rest) e ∙ with_list_twice lists t below rest ∙ ap (with_list lists t) r in
    let whole : list_of new t ++ rest ≡ list_of lists t =
    ap (λ (ns : List ℕ). ns ++ rest) (ap (λ (l : Lists). list_of l t) e ∙ list_put lists t below inside)
    ∙ ap (λ (ns : List ℕ). ns ++ rest) b ∙ ap (λ (ns : List ℕ). part_below cut.at (list_of lists t) ++ ns) r
    ∙ parts_join cut.at (list_of lists t) up in
    let back : joined o new ≡ lists =
    ap (with_list new t) whole ∙ ap (λ (l : Lists). with_list l t (list_of lists t)) e ∙ with_list_twice lists t below (list_of lists t)
    ∙ with_its_list lists t in
    ap (λ (os : List OpenSplit). new ∷ later new os) reversed
    ∙ ap (λ (l : Lists). new ∷ with_list new t rest ∷ later l (reverse old)) back
    ∙ ap (λ (l : Lists). l ∷ with_list new t rest ∷ later lists (reverse old)) first
    ∙ ap (λ (l : Lists). lists_below lists cut ∷ l ∷ later lists (reverse old)) second

reversed : (above front : List OpenSplit) (o : OpenSplit) → above ≡ front ++ o ∷ [] → reverse above ≡ o ∷ reverse front
reversed above front o e = ap reverse e ∙ reverse-append front (o ∷ [])

pub turned : (lists new : Lists) (front above now : List OpenSplit) (o : OpenSplit) → o.train < length lists → o.reads ≡ Below → above ≡ front ++ o ∷ []
    → new ≡ with_list lists o.train o.other → now ≡ front ++ record { train = o.train; reads = Rest; other = list_of lists o.train } ∷ []
    → later lists (reverse above) ≡ new ∷ later new (reverse now)
turned lists new front above now o inside b e f g =
    let t = o.train in
    let p : OpenSplit = record { train = o.train; reads = Rest; other = list_of lists o.train } in
    let kept : list_of new t ≡ o.other = ap (λ (l : Lists). list_of l t) f ∙ list_put lists t o.other inside in
    let same : joined p new ≡ with_list lists t (list_of lists t ++ o.other) =
    ap (λ (ns : List ℕ). with_list new t (list_of lists t ++ ns)) kept
    ∙ ap (λ (l : Lists). with_list l t (list_of lists t ++ o.other)) f ∙ with_list_twice lists t o.other (list_of lists t ++ o.other) in
    ap (later lists) (reversed above front o e)
    ∙ ap (λ (r : Subtree). due_at r o lists ++ later (with_list lists t (whole_of r o (list_of lists t))) (reverse front)) b
    ∙ ap (λ (l : Lists). with_list lists t o.other ∷ later l (reverse front)) (sym same)
    ∙ ap (λ (l : Lists). l ∷ later (joined p new) (reverse front)) (sym f)
    ∙ ap (λ (os : List OpenSplit). new ∷ later new os) (sym (reversed now front p g))

pub passed : (lists new : Lists) (front above : List OpenSplit) (o : OpenSplit) → o.reads ≡ Rest → above ≡ front ++ o ∷ []
    → new ≡ with_list lists o.train (o.other ++ list_of lists o.train) → later lists (reverse above) ≡ later new (reverse front)
passed lists new front above o b e f =
    ap (later lists) (reversed above front o e)
    ∙ ap (λ (r : Subtree). due_at r o lists ++ later (with_list lists o.train (whole_of r o (list_of lists o.train))) (reverse front)) b
    ∙ ap (λ (l : Lists). later l (reverse front)) (sym f)

pub shorter : (above front : List OpenSplit) (o : OpenSplit) → above ≡ front ++ o ∷ [] → length front < length above
shorter above front o e = omega (arith, ap length e ∙ length-append front (o ∷ []))

-- splits of trains that are there
abbrev pub There : ℕ → List OpenSplit → Type 0
There n os = All (λ o. o.train < n) os

pub front_there : (n : ℕ) (above front : List OpenSplit) (o : OpenSplit) → above ≡ front ++ o ∷ [] → There n above → There n front
front_there n above front o e h = λ k d l.
    subst (λ (x : OpenSplit). x.train < n) (get_or-append front (o ∷ []) d k l)
    (subst (There n) e h k d (omega (arith, l, length-append front (o ∷ []))))

pub last_there : (n : ℕ) (above front : List OpenSplit) (o : OpenSplit) → above ≡ front ++ o ∷ [] → There n above → o.train < n
last_there n above front o e h =
    subst (λ (x : OpenSplit). x.train < n) (get_or-append_seam front o [] o)
    (subst (There n) e h (length front) o (omega (arith, length-append front (o ∷ []))))

one_there : (n : ℕ) (o : OpenSplit) → o.train < n → There n (o ∷ [])
one_there n o h zero d l = h
one_there n o h (suc k) d l = absurd (omega (arith, l))

pub there_still : (lists new : Lists) (t : ℕ) (ns : List ℕ) (os now : List OpenSplit) → new ≡ with_list lists t ns → now ≡ os
    → There (length lists) os → There (length new) now
there_still lists new t ns os now e f h = subst (λ (n : ℕ). There n now) (sym (ap length e ∙ length-set lists t ns)) (subst (There (length lists)) (sym f) h)

pub there_turned : (n : ℕ) (front : List OpenSplit) (o : OpenSplit) → There n front → o.train < n → There n (front ++ o ∷ [])
there_turned n front o h l = All-append (λ x. x.train < n) front (o ∷ []) h (one_there n o l)

pub nothing_left : (lists : Lists) (above : List OpenSplit) → length above ≡ 0 → later lists (reverse above) ≡ []
nothing_left lists [] e = refl
nothing_left lists (o ∷ above) e = absurd (omega (arith, e))
