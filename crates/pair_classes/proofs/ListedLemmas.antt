-- Listing pairs one after the other.
use Rattle.std.proofs.Common.{◌≡◌, ℕ, zero, suc, ◌+◌, ◌<◌, ◌≤◌, List, [], ◌∷◌, ◌++◌, length, get_or, drop, refl, sym, ap, ◌∙◌, subst, arith, Option, Some, None, Bool, true, false, cond, ◌&&◌, ◌==◌, ◌⊎◌, inl, inr, pos}
use Rattle.std.specs.Prelude.{slice_get, filter, find}
use Rattle.std.specs.List.{All}
use Rattle.std.specs.Option.{option_or, option_to_list}
use Rattle.std.proofs.lemmas.Bool.{eqb-true, eq-eqb}
use Rattle.std.proofs.lemmas.List.{append-nil, get_or_default}
use Rattle.std.proofs.lemmas.List.Elements.{All-head, All-push, All-tail, All-weaker, filter-append}
use Rattle.std.proofs.lemmas.List.Folds.{find-append}
use Rattle.std.proofs.lemmas.List.Quantifiers.{all_pairs_push}
use Rattle.std.proofs.lemmas.Option.{same_Some, slice_get-get_or}
use Rattle.std.proofs.Math.Seq.{drop-cons}
use Rattle.station.specs.Allowed.{numbers}
use Rattle.patterns.proofs.Steps.{numbers_more}
use Rattle.pair_prices.specs.Case.{CaseRecord}
use Rattle.pair_classes.specs.declared.meeting.Meeting.{Meeting}
use Rattle.pair_classes.specs.Classes.{ArePriced, ClassTable}
use Rattle.pair_classes.proofs.GroupLemmas.{last_or}
use Rattle.pair_classes.specs.Places.{ArePlacesFrom, meeting_at, place_of}
use Rattle.pair_classes.specs.Meetings.{AreFree, AreAscending, AreListedTo, AreMeetings, IsFound, IsMeeting, MeetingList, is_of, is_with, meeting_of, pair_key}

pub none_listed : (c : CaseRecord) → AreListedTo c 1 []
none_listed c = record {
  listed = λ i d h. let bad : ⊥ = omega (arith, h) in absurd bad;
  below = λ i d h. let bad : ⊥ = omega (arith, h) in absurd bad;
  ascending = λ i j d h l. let bad : ⊥ = omega (arith, h, l) in absurd bad;
  unlisted = λ s t h l k e. let bad : ⊥ = omega (arith, h, k) in absurd bad;
}

-- a pair up to these two is below them, or is these two
before_or : (n s t a b : ℕ) → t < n → n ≤ 200 → a < b → b < n → pair_key a b < pair_key s (t + 1) → (pair_key a b < pair_key s t) ⊎ ((a ≡ s) × (b ≡ t))
before_or n s t a b l most e f g = split (last_or (pair_key a b) (pair_key s t) (omega (arith, g)))
  where
    split : (pair_key a b < pair_key s t) ⊎ (pair_key a b ≡ pair_key s t) → (pair_key a b < pair_key s t) ⊎ ((a ≡ s) × (b ≡ t))
    split (inl k) = inl k
    split (inr k) = inr (omega (arith, k, f, l, most), omega (arith, k, f, l, most))

-- with no entry for the two, since they are free
free_added : (c : CaseRecord) (s t : ℕ) (old : List Meeting) → s < t → t < length c.book → length c.book ≤ 200 → AreListedTo c (pair_key s t) old
    → AreFree c s t → AreListedTo c (pair_key s (t + 1)) old
free_added c s t old h l most is free = record {
  listed = is.listed;
  below = All-weaker (λ m. pair_key m.first m.second < pair_key s t) (λ m. pair_key m.first m.second < pair_key s (t + 1)) (λ m e. omega (arith, e)) old is.below;
  ascending = is.ascending;
  unlisted = λ a b e f g none. by a b e f none (before_or (length c.book) s t a b l most e f g);
}
  where
    by : (a b : ℕ) → a < b → b < length c.book → meeting_of old a b ≡ None → (pair_key a b < pair_key s t) ⊎ ((a ≡ s) × (b ≡ t)) → AreFree c a b
    by a b e f none (inl k) = is.unlisted a b e f k none
    by a b e f none (inr (k, j)) =
        let P : ℕ → Type 0 = λ x. AreFree c x b in
        let Q : ℕ → Type 0 = λ y. AreFree c s y in
        subst P (sym k) (subst Q (sym j) free)

neither : (o u : Option Meeting) → option_or o u ≡ None → (o ≡ None) × (u ≡ None)
neither None None e = (refl, refl)
neither None (Some y) e = cc
neither (Some x) u e = cc

own : (m : Meeting) (s t : ℕ) → m.first ≡ s → m.second ≡ t → is_of s t m ≡ true
own m s t e f = rw (eq-eqb m.first s e, eq-eqb m.second t f) refl

-- an entry for the two
entry_added : (c : CaseRecord) (s t : ℕ) (old : List Meeting) (m : Meeting) → s < t → t < length c.book → length c.book ≤ 200
    → AreListedTo c (pair_key s t) old → m.first ≡ s → m.second ≡ t → IsMeeting c m → AreListedTo c (pair_key s (t + 1)) (old ++ m ∷ [])
entry_added c s t old m h l most is e1 e2 meets = record {
  listed = All-push (IsMeeting c) old m is.listed meets;
  below = All-push (λ x. pair_key x.first x.second < pair_key s (t + 1)) old m
      (All-weaker (λ x. pair_key x.first x.second < pair_key s t) (λ x. pair_key x.first x.second < pair_key s (t + 1)) (λ x e. omega (arith, e)) old is.below)
      (omega (arith, e1, e2));
  ascending = all_pairs_push (λ x y. pair_key x.first x.second < pair_key y.first y.second) old m is.ascending
      (λ k d g. let f = is.below k d g in omega (arith, f, e1, e2));
  unlisted = λ a b e f g none. by a b e f (neither (find (is_of a b) old) (find (is_of a b) (m ∷ [])) (sym (find-append (is_of a b) old (m ∷ [])) ∙ none)) (before_or (length c.book) s t a b l most e f g);
}
  where
    found : (a b : ℕ) → a ≡ s → b ≡ t → find (is_of a b) (m ∷ []) ≡ None → ⊥
    found a b k j none =
        let here : find (is_of a b) (m ∷ []) ≡ Some m = ap (λ p. cond p (Some m) None) (own m a b (e1 ∙ sym k) (e2 ∙ sym j)) in
        let bad : None ≡ Some m = sym none ∙ here in
        cc

    by : (a b : ℕ) → a < b → b < length c.book → (find (is_of a b) old ≡ None) × (find (is_of a b) (m ∷ []) ≡ None)
        → (pair_key a b < pair_key s t) ⊎ ((a ≡ s) × (b ≡ t)) → AreFree c a b
    by a b e f none (inl k) = is.unlisted a b e f k none.0
    by a b e f none (inr (k, j)) = let bad : ⊥ = found a b k j none.1 in absurd bad

-- what was found of the two
pub listed_more : (c : CaseRecord) (s t : ℕ) (old new : List Meeting) (o : Option Meeting) → s < t → t < length c.book → length c.book ≤ 200
    → AreListedTo c (pair_key s t) old → IsFound c s t o → new ≡ old ++ option_to_list o → AreListedTo c (pair_key s (t + 1)) new
listed_more c s t old new None h l most is found e =
    let P : List Meeting → Type 0 = AreListedTo c (pair_key s (t + 1)) in
    subst P (sym (e ∙ append-nil old)) (free_added c s t old h l most is found)
listed_more c s t old new (Some m) h l most is found e =
    let P : List Meeting → Type 0 = AreListedTo c (pair_key s (t + 1)) in
    subst P (sym e) (entry_added c s t old m h l most is found.0 found.1 found.2)

-- keys that ascend are at least their places
key_least : (xs : List Meeting) → AreAscending xs → (i : ℕ) (d : Meeting) → i < length xs → i ≤ pair_key (get_or xs i d).first (get_or xs i d).second
key_least xs up zero d h = omega arith
key_least xs up (suc i) d h =
    let before = key_least xs up i d (omega (arith, h)) in
    let step = up i (suc i) d (omega arith) h in
    omega (arith, before, step)

-- there are no more entries than keys
pub listed_few : (c : CaseRecord) (bound : ℕ) (xs : List Meeting) → AreListedTo c bound xs → length xs ≤ bound
listed_few c bound [] is = omega arith
listed_few c bound (x ∷ xs) is =
    let least = key_least (x ∷ xs) is.ascending (length xs) x (omega arith) in
    let most = is.below (length xs) x (omega arith) in
    omega (arith, least, most)

next : (k : ℕ) → suc k ≡ k + 1
next k = omega arith

-- the place of one more entry
pub places_next : (pairs : List Meeting) (k : ℕ) (m n : Meeting) (old new : List (Option ℕ)) → k < length pairs → ArePlacesFrom pairs (k + 1) old
    → ((s t : ℕ) → s < 200 → t < 200 →
    place_of new s t ≡ cond ((get_or pairs k m).first == s && (get_or pairs k n).second == t) (Some k) (place_of old s t))
    → ArePlacesFrom pairs k new
places_next pairs k m n old new h is set s t hs ht =
    ap (meeting_at pairs) (set s t hs ht)
    ∙ ap (λ z. meeting_at pairs (cond ((get_or pairs k m).first == s && z.second == t) (Some k) (place_of old s t))) (get_or_default pairs k n m h)
    ∙ by (is_of s t (get_or pairs k m))
    ∙ sym (ap (λ xs. find (is_of s t) xs) whole)
  where
    whole : drop k pairs ≡ get_or pairs k m ∷ drop (k + 1) pairs
    whole = drop-cons pairs k m h ∙ ap (λ i. get_or pairs k m ∷ drop i pairs) (next k)

    by : (b : Bool) → meeting_at pairs (cond b (Some k) (place_of old s t)) ≡ cond b (Some (get_or pairs k m)) (find (is_of s t) (drop (k + 1) pairs))
    by true = slice_get-get_or pairs k m h
    by false = is s t hs ht

-- one more number that is kept if it passes
pub filter_numbers_more : (p : ℕ → Bool) (k : ℕ) (old new : List ℕ) (keep : Bool) → old ≡ filter p (numbers k) → keep ≡ p k
    → new ≡ old ++ cond keep (k ∷ []) [] → new ≡ filter p (numbers (k + 1))
filter_numbers_more p k old new keep e f g =
    g ∙ ap (λ xs. xs ++ cond keep (k ∷ []) []) e ∙ ap (λ b. filter p (numbers k) ++ cond b (k ∷ []) []) f
    ∙ sym (ap (filter p) (numbers_more k) ∙ filter-append p (numbers k) (k ∷ []))

-- what is asked of the entry that is read is asked of its place
pub sees_train : (pairs : List Meeting) (k train : ℕ) (m : Meeting) (seen : Bool) → k < length pairs → m ≡ get_or pairs k m
    → seen ≡ is_with train (Some m) → seen ≡ is_with train (slice_get pairs k)
sees_train pairs k train m seen h is e = e ∙ ap (is_with train) (ap Some is ∙ sym (slice_get-get_or pairs k m h))

-- an element that was found passes, and has what all have
find_some : (P : Meeting → Type 0) (p : Meeting → Bool) (xs : List Meeting) (x : Meeting) → All P xs → find p xs ≡ Some x → (p x ≡ true) × P x
find_some P p [] x all e = cc
find_some P p (y ∷ ys) x all e = by (p y) refl e (λ g. find_some P p ys x (All-tail P y ys all) g)
  where
    by : (b : Bool) → p y ≡ b → cond b (Some y) (find p ys) ≡ Some x → (find p ys ≡ Some x → (p x ≡ true) × P x) → (p x ≡ true) × P x
    by true f g rest =
        let same : y ≡ x = cc in
        let Q : Meeting → Type 0 = λ z. p z ≡ true in
        (subst Q same f, subst P same (All-head P y ys all))
    by false f g rest = rest g

both : (s t a b : ℕ) → (a == s && b == t) ≡ true → (a ≡ s) × (b ≡ t)
both s t a b e = by (a == s) refl e
  where
    by : (x : Bool) → (a == s) ≡ x → (x && b == t) ≡ true → (a ≡ s) × (b ≡ t)
    by true f g = (eqb-true a s f, eqb-true b t g)
    by false f g = cc

pub found_by : (c : CaseRecord) (l : MeetingList) (s t : ℕ) (o : Option Meeting) → AreMeetings c l → s < t → t < l.trains
    → o ≡ meeting_of l.pairs s t → IsFound c s t o
found_by c l s t None is h k e = is.unlisted s t h (omega (arith, k, is.trains)) (sym e)
found_by c l s t (Some m) is h k e =
    let found = find_some (IsMeeting c) (is_of s t) l.pairs m is.listed (sym e) in
    let own_pair = both s t m.first m.second found.0 in
    (own_pair.0, own_pair.1, found.1)

-- an entry with classes that aren't all free
pub found_priced : (c : CaseRecord) (s t : ℕ) (k : ClassTable) → s < t → t < length c.book → ArePriced c s t k
    → (All (λ p. p ≡ pos 0) k.prices → ⊥) → IsMeeting c (record { first = s; second = t; classes = Some k })
found_priced c s t k h l priced some = record {
  order = h;
  there = l;
  classes = λ q e. subst (ArePriced c s t) (same_Some k q e) priced;
  meets = λ q e free. some (priced.zeros free);
}
