-- A search for the first element, step by step.
use Rattle.std.proofs.Common.{◌≡◌, ℕ, suc, ◌+◌, ◌-◌, ◌<◌, ◌≤◌, Bool, true, false, cond, List, [], ◌∷◌, ◌++◌, map, length, get_or, drop, refl, sym, ap, ◌∙◌, arith, Option, None, Some, drop-cons, append_assoc}
use Rattle.std.specs.Prelude.{is_some, find}
use Rattle.std.specs.Option.{option_or}
use Rattle.std.specs.List.{flat_map, range_with_len}
use Rattle.std.proofs.lemmas.List.Folds.{find-append, flat_map-map}
use Rattle.std.proofs.lemmas.List.{drop_all}
use Rattle.station.specs.Allowed.{numbers}
use Rattle.pair_prices.specs.Trains.{TrainPair, pairs_with, train_pairs}

found : {A : Type 0} (o r : Option A) → is_some o ≡ true → option_or o r ≡ o
found None r e = cc
found (Some x) r e = refl

passed : {A : Type 0} (o r : Option A) → is_some o ≡ false → option_or o r ≡ r
passed None r e = refl
passed (Some x) r e = cc

pub range_open : (a n : ℕ) → a < n → range_with_len a (n - a) ≡ a ∷ range_with_len (a + 1) (n - (a + 1))
range_open a n h = ap (range_with_len a) (count a n h)
  where
    count : (b m : ℕ) → b < m → m - b ≡ suc (m - (b + 1))
    count b m l = omega arith

pub range_done : (a n : ℕ) → n ≤ a → range_with_len a (n - a) ≡ []
range_done a n h = ap (range_with_len a) (count a n h)
  where
    count : (b m : ℕ) → m ≤ b → m - b ≡ 0
    count b m l = omega arith

open_range : {X : Type 0} (p : X → Bool) (g : ℕ → List X) (a n : ℕ) → a < n
    → find p (flat_map g (range_with_len a (n - a)))
    ≡ option_or (find p (g a)) (find p (flat_map g (range_with_len (a + 1) (n - (a + 1)))))
open_range p g a n h =
    ap (λ ks. find p (flat_map g ks)) (range_open a n h)
    ∙ find-append p (g a) (flat_map g (range_with_len (a + 1) (n - (a + 1))))

-- a search over the numbers from a to n, each of which stands for a list
pub range_found : {X : Type 0} (p : X → Bool) (g : ℕ → List X) (whole o : Option X) (a n : ℕ)
    → whole ≡ find p (flat_map g (range_with_len a (n - a))) → a < n → o ≡ find p (g a) → is_some o ≡ true → o ≡ whole
range_found p g whole o a n e h i j =
    sym (e ∙ open_range p g a n h
    ∙ ap (λ v. option_or v (find p (flat_map g (range_with_len (a + 1) (n - (a + 1)))))) (sym i)
    ∙ found o (find p (flat_map g (range_with_len (a + 1) (n - (a + 1))))) j)

pub range_passed : {X : Type 0} (p : X → Bool) (g : ℕ → List X) (whole o : Option X) (a n : ℕ)
    → whole ≡ find p (flat_map g (range_with_len a (n - a))) → a < n → o ≡ find p (g a) → is_some o ≡ false
    → whole ≡ find p (flat_map g (range_with_len (a + 1) (n - (a + 1))))
range_passed p g whole o a n e h i j =
    e ∙ open_range p g a n h
    ∙ ap (λ v. option_or v (find p (flat_map g (range_with_len (a + 1) (n - (a + 1)))))) (sym i)
    ∙ passed o (find p (flat_map g (range_with_len (a + 1) (n - (a + 1))))) j

pub range_ended : {X : Type 0} (p : X → Bool) (g : ℕ → List X) (whole : Option X) (a n : ℕ)
    → whole ≡ find p (flat_map g (range_with_len a (n - a))) → n ≤ a → None ≡ whole
range_ended p g whole a n e h = sym (e ∙ ap (λ ks. find p (flat_map g ks)) (range_done a n h))

open_list : {X : Type 0} (p : X → Bool) (g : ℕ → List X) (xs : List ℕ) (k : ℕ) → k < length xs
    → find p (flat_map g (drop k xs)) ≡ option_or (find p (g (get_or xs k 0))) (find p (flat_map g (drop (k + 1) xs)))
open_list p g xs k h =
    ap (λ ks. find p (flat_map g ks)) (drop-cons xs k 0 h ∙ ap (λ n. get_or xs k 0 ∷ drop n xs) (next k))
    ∙ find-append p (g (get_or xs k 0)) (flat_map g (drop (k + 1) xs))
  where
    next : (k : ℕ) → suc k ≡ k + 1
    next k = omega arith

-- the same over the rest of a list
pub list_found : {X : Type 0} (p : X → Bool) (g : ℕ → List X) (whole o : Option X) (xs : List ℕ) (k : ℕ)
    → whole ≡ find p (flat_map g (drop k xs)) → k < length xs → o ≡ find p (g (get_or xs k 0)) → is_some o ≡ true → o ≡ whole
list_found p g whole o xs k e h i j =
    sym (e ∙ open_list p g xs k h ∙ ap (λ v. option_or v (find p (flat_map g (drop (k + 1) xs)))) (sym i)
    ∙ found o (find p (flat_map g (drop (k + 1) xs))) j)

pub list_passed : {X : Type 0} (p : X → Bool) (g : ℕ → List X) (whole o : Option X) (xs : List ℕ) (k : ℕ)
    → whole ≡ find p (flat_map g (drop k xs)) → k < length xs → o ≡ find p (g (get_or xs k 0)) → is_some o ≡ false
    → whole ≡ find p (flat_map g (drop (k + 1) xs))
list_passed p g whole o xs k e h i j =
    e ∙ open_list p g xs k h ∙ ap (λ v. option_or v (find p (flat_map g (drop (k + 1) xs)))) (sym i)
    ∙ passed o (find p (flat_map g (drop (k + 1) xs))) j

pub list_ended : {X : Type 0} (p : X → Bool) (g : ℕ → List X) (whole : Option X) (xs : List ℕ) (k : ℕ)
    → whole ≡ find p (flat_map g (drop k xs)) → length xs ≤ k → None ≡ whole
list_ended p g whole xs k e h = sym (e ∙ ap (λ ks. find p (flat_map g ks)) (drop_all k xs h))

-- the same where each number stands for one element
open_each : {X : Type 0} (p : X → Bool) (g : ℕ → X) (xs : List ℕ) (k : ℕ) → k < length xs
    → find p (map g (drop k xs)) ≡ cond (p (g (get_or xs k 0))) (Some (g (get_or xs k 0))) (find p (map g (drop (k + 1) xs)))
open_each p g xs k h =
    ap (λ ks. find p (map g ks)) (drop-cons xs k 0 h ∙ ap (λ n. get_or xs k 0 ∷ drop n xs) (next k))
  where
    next : (k : ℕ) → suc k ≡ k + 1
    next k = omega arith

pub each_found : {X : Type 0} (p : X → Bool) (g : ℕ → X) (whole : Option X) (xs : List ℕ) (k : ℕ)
    → whole ≡ find p (map g (drop k xs)) → k < length xs → p (g (get_or xs k 0)) ≡ true → Some (g (get_or xs k 0)) ≡ whole
each_found p g whole xs k e h i =
    sym (e ∙ open_each p g xs k h ∙ ap (λ b. cond b (Some (g (get_or xs k 0))) (find p (map g (drop (k + 1) xs)))) i)

pub each_passed : {X : Type 0} (p : X → Bool) (g : ℕ → X) (whole : Option X) (xs : List ℕ) (k : ℕ)
    → whole ≡ find p (map g (drop k xs)) → k < length xs → p (g (get_or xs k 0)) ≡ false → whole ≡ find p (map g (drop (k + 1) xs))
each_passed p g whole xs k e h i =
    e ∙ open_each p g xs k h ∙ ap (λ b. cond b (Some (g (get_or xs k 0))) (find p (map g (drop (k + 1) xs)))) i

pub each_ended : {X : Type 0} (p : X → Bool) (g : ℕ → X) (whole : Option X) (xs : List ℕ) (k : ℕ)
    → whole ≡ find p (map g (drop k xs)) → length xs ≤ k → None ≡ whole
each_ended p g whole xs k e h = sym (e ∙ ap (λ ks. find p (map g ks)) (drop_all k xs h))

-- the pairs of one first train, by the second
pub seconds : {X : Type 0} (p : X → Bool) (g : TrainPair → List X) (n s : ℕ)
    → find p (flat_map g (pairs_with n s)) ≡ find p (flat_map (λ t. g (record { first = s; second = t })) (range_with_len (s + 1) (n - (s + 1))))
seconds p g n s = ap (find p) (flat_map-map g (λ t. record { first = s; second = t }) (range_with_len (s + 1) (n - (s + 1))))

pub flat_map-append : {X Y : Type 0} (f : X → List Y) (xs ys : List X) → flat_map f (xs ++ ys) ≡ flat_map f xs ++ flat_map f ys
flat_map-append f [] ys = refl
flat_map-append f (x ∷ xs) ys =
    ap (λ zs. f x ++ zs) (flat_map-append f xs ys) ∙ sym (append_assoc (f x) (flat_map f xs) (flat_map f ys))

pub flat_map-flat_map : {X Y Z : Type 0} (f : Y → List Z) (g : X → List Y) (xs : List X) → flat_map f (flat_map g xs) ≡ flat_map (λ x. flat_map f (g x)) xs
flat_map-flat_map f g [] = refl
flat_map-flat_map f g (x ∷ xs) = flat_map-append f (g x) (flat_map g xs) ∙ ap (λ zs. flat_map f (g x) ++ zs) (flat_map-flat_map f g xs)

-- all pairs, by the first train
pub firsts : {X : Type 0} (p : X → Bool) (g : TrainPair → List X) (n m : ℕ) → n ≡ m
    → find p (flat_map g (train_pairs m)) ≡ find p (flat_map (λ s. flat_map g (pairs_with n s)) (range_with_len 0 (n - 0)))
unfolding train_pairs
firsts p g n m e =
    ap (find p) (flat_map-flat_map g (pairs_with m) (numbers m))
    ∙ ap (λ k. find p (flat_map (λ s. flat_map g (pairs_with k s)) (range_with_len 0 k))) (sym e)
    ∙ ap (λ k. find p (flat_map (λ s. flat_map g (pairs_with n s)) (range_with_len 0 k))) (whole n)
  where
    whole : (n : ℕ) → n ≡ n - 0
    whole n = omega arith

-- all trains
pub all_trains : {X : Type 0} (f : List ℕ → X) (n m : ℕ) → n ≡ m → f (numbers m) ≡ f (range_with_len 0 (n - 0))
all_trains f n m e = ap (λ k. f (range_with_len 0 k)) (sym e ∙ whole n)
  where
    whole : (n : ℕ) → n ≡ n - 0
    whole n = omega arith
