use Rattle.std.proofs.Common.{◌+◌, ◌<◌, ◌≤◌, ℕ, List, length, slice_index, ap, subst, sym, ◌∙◌}
use Rattle.std.proofs.lemmas.List.{length_push}
use Rattle.transport.specs.Core.{lifted}
use Rattle.transport.proofs.Writes.{push_each}
use Rattle.transport.proofs.plan.open_columns.Goals as goal

pub loop-column-preserved : goal.loop-column-preserved
loop-column-preserved g c =
    let v = c.loop-column.invariant in
    let t = g.C.Cost.table c.args.cost.now in
    let items = c.in_ok-push.ensures.items in
    let K = c.loop-column.columns.items in
    let k = c.loop-column.column in
    let r = c.open_column.result in
    let F : ℕ → ℕ → Type 0 = λ j x. (i : ℕ) → i < length c.args.rows.now → slice_index c.args.rows.now i + x ≤ lifted t i j in
    let W : ℕ → ℕ → Type 0 = λ j x. 0 < slice_index c.args.right.now j → 10000000000000 ≤ x in
    let B : ℕ → ℕ → Type 0 = λ j x. x ≤ 20000000000000 in
    let BB : List ℕ → Type 0 = λ l. (j : ℕ) → j < length l → slice_index l j ≤ 20000000000000 in
    let FF : List ℕ → Type 0 = λ l. (i j : ℕ) → i < length c.args.rows.now → j < length l → slice_index c.args.rows.now i + slice_index l j ≤ lifted t i j in
    let WW : List ℕ → Type 0 = λ l. (j : ℕ) → j < length l → 0 < slice_index c.args.right.now j → 10000000000000 ≤ slice_index l j in
    record {
      len = ap length items ∙ length_push K r ∙ ap (λ n. n + 1) v.len;
      feasible = subst FF (sym items) (λ i j il jl. push_each F K k r v.len (λ j' jl' i' il'. v.feasible i' j' il' jl') (λ i' il'. c.open_column.ensures.below i' il') j jl i il);
      caps = subst BB (sym items) (push_each B K k r v.len v.caps c.open_column.ensures.cap);
      wanting = subst WW (sym items) (push_each W K k r v.len v.wanting c.open_column.ensures.wanting);
    }
