-- The orders of the keys.
use Rattle.std.proofs.Common.{◌≡◌, Ordering}
use Rattle.std.specs.Cmp.{IsTotalOrder}
use Rattle.std.specs.Ordering.{nat_cmp, int_cmp, ordering_then}
use Rattle.std.specs.declared.cmp.Ordering.TheVariants.{Less, Equal, Greater}
use Rattle.std.proofs.lemmas.Cmp.{nat_cmp_total, int_cmp_total, on_total, then_total}
use Rattle.std.proofs.lemmas.Map.Lookups.{CmpEqualImpliesEq, exact_unsigned, exact_signed}
use Rattle.dual_leaves.specs.declared.key.MinuteKey.{MinuteKey}
use Rattle.dual_leaves.specs.declared.key.PairKey.{PairKey}
use Rattle.dual_leaves.specs.Orders.{minute_order, pair_order}

pub minute_total : IsTotalOrder minute_order
minute_total = then_total (on_total (λ (k : MinuteKey). k.platform) nat_cmp_total) (on_total (λ (k : MinuteKey). k.minute) int_cmp_total)

pub pair_total : IsTotalOrder pair_order
pair_total =
    then_total (on_total (λ (k : PairKey). k.first) nat_cmp_total)
    (then_total (on_total (λ (k : PairKey). k.second) nat_cmp_total) (on_total (λ (k : PairKey). k.number) nat_cmp_total))

-- both parts are equal
both : (a b : Ordering) → ordering_then a b ≡ Equal → (a ≡ Equal) × (b ≡ Equal)
both Less b e = cc
both Equal b e = (λ i. Equal, e)
both Greater b e = cc

pub minute_exact : CmpEqualImpliesEq minute_order
minute_exact x y e =
    let parts = both (nat_cmp x.platform y.platform) (int_cmp x.minute y.minute) e in
    let p = exact_unsigned x.platform y.platform parts.0 in
    let m = exact_signed x.minute y.minute parts.1 in
    λ i. record { platform = p i; minute = m i }

pub pair_exact : CmpEqualImpliesEq pair_order
pair_exact x y e =
    let outer = both (nat_cmp x.first y.first) (ordering_then (nat_cmp x.second y.second) (nat_cmp x.number y.number)) e in
    let inner = both (nat_cmp x.second y.second) (nat_cmp x.number y.number) outer.1 in
    let f = exact_unsigned x.first y.first outer.0 in
    let s = exact_unsigned x.second y.second inner.0 in
    let n = exact_unsigned x.number y.number inner.1 in
    λ i. record { first = f i; second = s i; number = n i }
