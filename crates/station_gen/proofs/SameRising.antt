-- Two lists that rise by a key and have the same elements are one.
use Rattle.std.proofs.Common.{◌≡◌, ℕ, suc, ◌<◌, List, [], ◌∷◌, map, Some, slice_get, refl, sym, ap, ◌∙◌, subst, arith, inl, inr, ◌⊎◌}
use Rattle.station.proofs.Among.{Among}
use Rattle.station.proofs.Lists.{Every, Rising}

pub every-of : {X : Type 0} (P : X → Type 0) (xs : List X) → Every P xs → (x : X) → Among xs x → P x
every-of P [] all x h = absurd h
every-of P (y ∷ ys) all x (inl e) = subst P e all.0
every-of P (y ∷ ys) all x (inr h) = every-of P ys all.1 x h

pub every-by : {X : Type 0} (P : X → Type 0) (xs : List X) → ((i : ℕ) (x : X) → slice_get xs i ≡ Some x → P x) → Every P xs
every-by P [] all = tt
every-by P (x ∷ xs) all = (all 0 x refl, every-by P xs (λ i y is. all (suc i) y is))

pub rising-by : {X : Type 0} (R : X → X → Type 0) (xs : List X) → ((i j : ℕ) (x y : X) → i < j → slice_get xs i ≡ Some x → slice_get xs j ≡ Some y → R x y) → Rising R xs
rising-by R [] all = tt
rising-by R (x ∷ xs) all = (
  every-by (R x) xs (λ j y is. all 0 (suc j) x y (omega arith) refl is),
  rising-by R xs (λ i j y z h is js. all (suc i) (suc j) y z (omega arith) is js),
)

every-unmap : {X Y : Type 0} (P : Y → Type 0) (f : X → Y) (xs : List X) → Every P (map f xs) → Every (λ x. P (f x)) xs
every-unmap P f [] all = tt
every-unmap P f (x ∷ xs) all = (all.0, every-unmap P f xs all.1)

pub rising-unmap : {X Y : Type 0} (R : Y → Y → Type 0) (f : X → Y) (xs : List X) → Rising R (map f xs) → Rising (λ x z. R (f x) (f z)) xs
rising-unmap R f [] all = tt
rising-unmap R f (x ∷ xs) all = (every-unmap (R (f x)) f xs all.0, rising-unmap R f xs all.1)

module _ {X : Type 0} (key : X → ℕ) where
  abbrev pub IsBelow : X → X → Type 0
  IsBelow x y = key x < key y

  same-head : (x : X) (xs : List X) (y : X) (ys : List X) → (y ≡ x) ⊎ Among ys x → (x ≡ y) ⊎ Among xs y → Every (IsBelow x) xs → Every (IsBelow y) ys → x ≡ y
  same-head x xs y ys (inl e) back rx ry = sym e
  same-head x xs y ys (inr h) (inl e) rx ry = e
  same-head x xs y ys (inr h) (inr g) rx ry =
      let below : key y < key x = every-of (IsBelow y) ys ry x h in
      let above : key x < key y = every-of (IsBelow x) xs rx y g in
      absurd (omega arith)

  in-tail : (x : X) (xs : List X) (y : X) (ys : List X) → x ≡ y → Every (IsBelow x) xs → (z : X) → Among xs z → (y ≡ z) ⊎ Among ys z → Among ys z
  in-tail x xs y ys same rx z h (inr g) = g
  in-tail x xs y ys same rx z h (inl e) =
      let below : key x < key z = every-of (IsBelow x) xs rx z h in
      let tied : key x ≡ key z = ap key (same ∙ e) in
      absurd (omega arith)

  pub same-rising : (xs ys : List X) → Rising IsBelow xs → Rising IsBelow ys → ((x : X) → Among xs x → Among ys x) → ((x : X) → Among ys x → Among xs x) → xs ≡ ys
  same-rising [] [] rx ry into back = refl
  same-rising [] (y ∷ ys) rx ry into back = absurd (back y (inl refl))
  same-rising (x ∷ xs) [] rx ry into back = absurd (into x (inl refl))
  same-rising (x ∷ xs) (y ∷ ys) rx ry into back =
      let same : x ≡ y = same-head x xs y ys (into x (inl refl)) (back y (inl refl)) rx.0 ry.0 in
      ap (λ z. z ∷ xs) same
      ∙ ap (λ zs. y ∷ zs) (same-rising xs ys rx.1 ry.1 (λ z h. in-tail x xs y ys same rx.0 z h (into z (inr h))) (λ z h. in-tail y ys x xs (sym same) ry.0 z h (back z (inr h))))
