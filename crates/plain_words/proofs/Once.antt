-- One step of the test that no dashed word stands again.
use Rattle.std.proofs.Common.{◌≡◌, ◌⊎◌, ℕ, ◌+◌, ◌-◌, ◌<◌, Bool, true, false, not, ◌&&◌, ◌||◌, List, ◌∷◌, length, map, take, drop, get_or, drop-cons, add-one, take_all, length-drop, arith, refl, sym, ◌∙◌, ap, ap₂, inl, inr}
use Rattle.std.specs.List.{list_any}
use Rattle.std.specs.Str.{bytes_eq}
use Rattle.plain_words.specs.Form.{Text}
use Rattle.plain_words.specs.Rules.{is_dashed, has_options_once}
use Rattle.plain_words.proofs.Lists.{any_of_mapped}

first_left : {X : Type 0} (xs : List X) (i : ℕ) (x : X) → i < length xs → x ≡ get_or xs i x → drop i xs ≡ x ∷ drop (i + 1) xs
first_left xs i x within is = drop-cons xs i x within ∙ ap₂ (λ y ys. y ∷ ys) (sym is) (ap (λ n. drop n xs) (sym (add-one i)))

-- the words behind the one at a place, as a slice has them
whole_rest : {X : Type 0} (xs : List X) (i : ℕ) → take (length xs - (i + 1)) (drop (i + 1) xs) ≡ drop (i + 1) xs
whole_rest xs i = take_all (length xs - (i + 1)) (drop (i + 1) xs) (omega (arith, length-drop (i + 1) xs))

behind_is : {X : Type 0} (f : X → Text) (xs : List X) (i : ℕ) (x : X) (b : Bool) → b ≡ list_any (λ other. bytes_eq (f x) (f other)) (take (length xs - (i + 1)) (drop (i + 1) xs))
    → list_any (bytes_eq (f x)) (map f (drop (i + 1) xs)) ≡ b
behind_is f xs i x b is = any_of_mapped (bytes_eq (f x)) f (drop (i + 1) xs) ∙ sym (is ∙ ap (λ ys. list_any (λ other. bytes_eq (f x) (f other)) ys) (whole_rest xs i))

pub stands_again : {X : Type 0} (f : X → Text) (xs : List X) (i : ℕ) (x : X) → i < length xs → x ≡ get_or xs i x → true ≡ is_dashed (f x)
    → true ≡ list_any (λ other. bytes_eq (f x) (f other)) (take (length xs - (i + 1)) (drop (i + 1) xs)) → has_options_once (map f (drop i xs)) ≡ false
stands_again f xs i x within is dashed again =
    let dash = sym dashed in
    let behind = behind_is f xs i x true again in
    let test : has_options_once (f x ∷ map f (drop (i + 1) xs)) ≡ false = rw (dash, behind) refl in
    ap (λ ys. has_options_once (map f ys)) (first_left xs i x within is) ∙ test

pub stands_once : {X : Type 0} (f : X → Text) (xs : List X) (i : ℕ) (x : X) → i < length xs → x ≡ get_or xs i x
    → (false ≡ is_dashed (f x)) ⊎ (false ≡ list_any (λ other. bytes_eq (f x) (f other)) (take (length xs - (i + 1)) (drop (i + 1) xs)))
    → has_options_once (map f (drop i xs)) ≡ has_options_once (map f (drop (i + 1) xs))
stands_once f xs i x within is (inl undashed) =
    let dash = sym undashed in
    let test : has_options_once (f x ∷ map f (drop (i + 1) xs)) ≡ has_options_once (map f (drop (i + 1) xs)) = rw dash refl in
    ap (λ ys. has_options_once (map f ys)) (first_left xs i x within is) ∙ test
stands_once f xs i x within is (inr none) =
    ap (λ ys. has_options_once (map f ys)) (first_left xs i x within is) ∙ by_test (is_dashed (f x)) (behind_is f xs i x false none)
  where
    by_test : (b : Bool) → list_any (bytes_eq (f x)) (map f (drop (i + 1) xs)) ≡ false
        → ((not b || not (list_any (bytes_eq (f x)) (map f (drop (i + 1) xs)))) && has_options_once (map f (drop (i + 1) xs))) ≡ has_options_once (map f (drop (i + 1) xs))
    by_test true behind = rw behind refl
    by_test false behind = refl
