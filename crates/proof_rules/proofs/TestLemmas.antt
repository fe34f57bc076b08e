-- Tests that pass, and lists that grow by one.
use Rattle.std.proofs.Common.{◌≡◌, ◌≤◌, Bool, true, false, List, [], ◌∷◌, ◌++◌, refl, arith, ℤ, ◌<ℤ◌}
use Rattle.std.specs.Prelude.{int_lt, unsigned_abs, Ok, Contains}
use Rattle.std.specs.List.{All, list_all}
use Rattle.std.proofs.lemmas.Int.{ints}
use Rattle.std.proofs.lemmas.Bool.{and_from, and_parts, lt-ltb, ltb-true}
use Rattle.std.proofs.lemmas.List.Elements.{All-nil, All-cons, All-head, All-tail, All-contains}
use Rattle.station.proofs.Lists.{Every, Rising, every-append, every-weaker, rising-append}
use Rattle.leaf_bounds.proofs.RisingLemmas.{Before}
use Rattle.proof_rules.specs.Fault.{State, checked, is_none, is_above, is_some_value}

-- tests

pub checked_is : (b : Bool) (s t : State) → checked b s ≡ Ok t → (b ≡ true) × (s ≡ t)
checked_is true s t e = (refl, cc)
checked_is false s t e = absurd (cc e)

pub none_is : {X : Type 0} (xs : List X) → is_none xs ≡ true → xs ≡ []
none_is [] e = refl
none_is (x ∷ xs) e = absurd (cc e)

less_is : (a b : ℤ) → int_lt a b ≡ true → a <ℤ b
less_is a b e = grind (arith, ints)

is_less : (a b : ℤ) → a <ℤ b → int_lt a b ≡ true
is_less a b h = grind (arith, ints)

pub some_is : (z : ℤ) → is_some_value z ≡ true → 1 ≤ unsigned_abs z
some_is z e = let h = ltb-true 0 (unsigned_abs z) e in omega (arith, h)

pub is_some : (z : ℤ) → 1 ≤ unsigned_abs z → is_some_value z ≡ true
is_some z h = lt-ltb 0 (unsigned_abs z) (omega (arith, h))

pub all_true : {X : Type 0} (p : X → Bool) → ((x : X) → p x ≡ true) → (xs : List X) → list_all p xs ≡ true
all_true p h [] = refl
all_true p h (x ∷ xs) = and_from (p x) (list_all p xs) (h x) (all_true p h xs)

pub all_every : {X : Type 0} (P : X → Type 0) (xs : List X) → All P xs → Every P xs
all_every P [] h = tt
all_every P (x ∷ xs) h = (All-head P x xs h, all_every P xs (All-tail P x xs h))

pub every_all : {X : Type 0} (P : X → Type 0) (xs : List X) → Every P xs → All P xs
every_all P [] h = All-nil P
every_all P (x ∷ xs) h = All-cons P x xs h.0 (every_all P xs h.1)

pub passes_every : {X : Type 0} (p : X → Bool) (xs : List X) → list_all p xs ≡ true → Every (λ x. p x ≡ true) xs
passes_every p [] e = tt
passes_every p (x ∷ xs) e = let parts = and_parts (p x) (list_all p xs) e in (parts.0, passes_every p xs parts.1)

pub passes_in : {X : Type 0} (p : X → Bool) (xs : List X) (x : X) → list_all p xs ≡ true → Contains xs x → p x ≡ true
passes_in p xs x e h = All-contains (λ y. p y ≡ true) xs x (every_all (λ y. p y ≡ true) xs (passes_every p xs e)) h

-- one more at the end, and one on the way

pub every_push : {X : Type 0} (P : X → Type 0) (xs : List X) (x : X) → Every P xs → P x → Every P (xs ++ x ∷ [])
every_push P xs x all h = every-append P xs (x ∷ []) all (h, tt)

pub every_mid : {X : Type 0} (P : X → Type 0) (xs ys : List X) (x : X) → Every P (xs ++ x ∷ ys) → P x
every_mid P [] ys x all = all.0
every_mid P (y ∷ xs) ys x all = every_mid P xs ys x all.1

pub rising_push : {X : Type 0} (R : X → X → Type 0) (xs : List X) (x : X) → Rising R xs → Every (λ y. R y x) xs → Rising R (xs ++ x ∷ [])
rising_push R xs x all before =
    rising-append R xs (x ∷ []) all (tt, tt) (every-weaker (λ y. R y x) (λ y. Every (R y) (x ∷ [])) (λ y h. (h, tt)) xs before)

pub rising_mid : {X : Type 0} (R : X → X → Type 0) (xs ys : List X) (x : X) → Rising R (xs ++ x ∷ ys) → Every (λ y. R y x) xs
rising_mid R [] ys x all = tt
rising_mid R (y ∷ xs) ys x all = (every_mid (R y) xs ys x all.0, rising_mid R xs ys x all.1)

above_is : {X : Type 0} (key : X → ℤ) (xs : List X) (x : X) → is_above key xs x ≡ true → Every (λ y. key y <ℤ key x) xs
above_is key xs x e =
    every-weaker (λ y. int_lt (key y) (key x) ≡ true) (λ y. key y <ℤ key x) (λ y f. less_is (key y) (key x) f) xs
    (passes_every (λ y. int_lt (key y) (key x)) xs e)

is_above_by : {X : Type 0} (key : X → ℤ) (xs : List X) (x : X) → Every (λ y. key y <ℤ key x) xs → is_above key xs x ≡ true
is_above_by key [] x h = refl
is_above_by key (y ∷ xs) x h = and_from (int_lt (key y) (key x)) (is_above key xs x) (is_less (key y) (key x) h.0) (is_above_by key xs x h.1)

-- entries of one group: what each of them is, and their order
pub record IsListed {X : Type 0} (key : X → ℤ) (P : X → Type 0) (xs : List X) : Type 0 where
  pub each : Every P xs
  pub rising : Rising (Before key) xs

pub listed_none : {X : Type 0} (key : X → ℤ) (P : X → Type 0) → IsListed key P []
listed_none key P = record { each = tt; rising = tt }

pub listed_push : {X : Type 0} (key : X → ℤ) (P : X → Type 0) (xs : List X) (x : X) → IsListed key P xs → P x → is_above key xs x ≡ true
    → IsListed key P (xs ++ x ∷ [])
listed_push key P xs x h p e = record {
  each = every_push P xs x h.each p;
  rising = rising_push (Before key) xs x h.rising (above_is key xs x e);
}

-- what an entry on the way is, and that it is above those before it
pub listed_mid : {X : Type 0} (key : X → ℤ) (P : X → Type 0) (xs ys : List X) (x : X) → IsListed key P (xs ++ x ∷ ys)
    → P x × (is_above key xs x ≡ true)
listed_mid key P xs ys x h = (every_mid P xs ys x h.each, is_above_by key xs x (rising_mid (Before key) xs ys x h.rising))
