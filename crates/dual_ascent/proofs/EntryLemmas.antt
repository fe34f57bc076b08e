-- Loops that look at each entry of a list, and looking a number up.
use Rattle.std.proofs.Common.{◌≡◌, ℕ, ◌+◌, ◌<◌, List, length, get_or, subst, sym, arith, Result, Ok, Err, true}
use Rattle.std.specs.Prelude.{All, Contains, IfOk, is_ok}
use Rattle.std.specs.Ordering.{nat_cmp}
use Rattle.std.specs.declared.cmp.Ordering.TheVariants.{Equal}
use Rattle.std.specs.List.{AllWithin, HoldsAt}
use Rattle.std.specs.List.Sorted.{IsSearchInRange}
use Rattle.std.proofs.lemmas.Cmp.{ranked}
use Rattle.std.proofs.lemmas.List.{get_or_default}
use Rattle.std.proofs.lemmas.List.Elements.{AllWithin-more}

-- what holds of each entry before a place and of the one there holds of each before the next
pub each_more : {X : Type 0} (P : X → Type 0) (xs : List X) (i : ℕ) (e : X) → i < length xs
    → ((k : ℕ) (d : X) → k < i → P (get_or xs k d)) → P (get_or xs i e) → (k : ℕ) (d : X) → k < i + 1 → P (get_or xs k d)
each_more {X} P xs i e there below here =
    let so_far : AllWithin P xs 0 i = λ k d _ h. below k d h in
    let at_i : HoldsAt P xs i = λ d. subst P (get_or_default xs i e d there) here in
    λ k d h. AllWithin-more P xs 0 i so_far at_i k d (omega arith) h

-- a search that ends at a number shows that it is there
pub number_found : (ns xs : List ℕ) (n : ℕ) (r : Result ℕ ℕ) → xs ≡ ns → IsSearchInRange r (length xs)
    → IfOk r (λ k. HoldsAt (λ y. nat_cmp y n ≡ Equal) xs k) → is_ok r ≡ true → Contains ns n
number_found ns xs n (Ok k) same bound found ok =
    let here : Contains xs n = (k, bound, ranked (get_or xs k n) n Equal (sym (found n))) in subst (λ (l : List ℕ). Contains l n) same here
number_found ns xs n (Err k) same bound found ok = cc

-- what holds of each entry of an equal list
pub all_along : {X : Type 0} (P : X → Type 0) (xs ys : List X) → xs ≡ ys → All P xs → All P ys
all_along P xs ys same all = subst (All P) same all
