use Rattle.std.proofs.Common.{arith, ◌≡◌, ◌∙◌, ◌+◌, ◌^◌, ◌<◌, ap, sym, List, [], ◌∷◌, ◌++◌, ℕ, ℤ, pos, length, map, take, drop}
use Rattle.std.proofs.lemmas.List.{length-map, length_push}
use Rattle.ratio.proofs.Progress.{written_back}
use Rattle.ratio.specs.Cells.{cell_at}
use Rattle.exact_lp.specs.Places.{place_of}
use Rattle.exact_lp.specs.Tables.{row_at}
use Rattle.exact_lp.proofs.Started.{new_cell, spare_added, spare_alone}
use Rattle.exact_lp.proofs.table.Table.add_spare.Goals as goal

pub returns-clause-table : goal.returns-clause-table
returns-clause-table c =
    let widen : List ℤ → List ℤ = λ row. row ++ pos 0 ∷ [] in
    let rows = c.args.self.now.rows.items in
    let news = c.append_each.new.rows in
    let made : news ≡ map widen rows = c.in_ok-append_each.ensures ∙ ap (λ (xs : List (List ℤ)). map widen xs) c.deref_mut.ensures.value in
    let long : length news ≡ length rows = ap length made ∙ length-map rows widen in
    let back = written_back c.args.self.now.rows.len news rows (omega (arith, c.args.self.now.rows.ok.0, long)) in
    let n = length c.args.self.now.variables.items in
    let at : c.len-at.result ≡ n = omega (arith, c.args.self.now.variables.ok.0, c.len-at.ensures) in
    let fits : n + 2 < 2 ^ 64 = omega (arith, c.in_ok-append.ensures.fits, ap length c.in_ok-append.ensures.added, length_push c.args.self.now.cost (pos 0), c.requires.cost_wide) in
    spare_added rows c.args.self.now.cost n c.args.self.now.basis.items c.args.self.now.spares.items c.requires _ _ _ _ (back ∙ made) c.in_ok-append.ensures.added
    (ap length c.in_ok-push.ensures.items ∙ length_push c.args.self.now.variables.items _)
    (c.in_ok-push-2.ensures.items ∙ ap (λ (m : ℕ). c.args.self.now.spares.items ++ m ∷ []) at) fits

pub returns-clause-spare : goal.returns-clause-spare
returns-clause-spare c =
    let widen : List ℤ → List ℤ = λ row. row ++ pos 0 ∷ [] in
    let rows = c.args.self.now.rows.items in
    let news = c.append_each.new.rows in
    let made : news ≡ map widen rows = c.in_ok-append_each.ensures ∙ ap (λ (xs : List (List ℤ)). map widen xs) c.deref_mut.ensures.value in
    let long : length news ≡ length rows = ap length made ∙ length-map rows widen in
    let back = written_back c.args.self.now.rows.len news rows (omega (arith, c.args.self.now.rows.ok.0, long)) in
    let n = length c.args.self.now.variables.items in
    let at : c.len-at.result ≡ n = omega (arith, c.args.self.now.variables.ok.0, c.len-at.ensures) in
    let fits : n + 2 < 2 ^ 64 = omega (arith, c.in_ok-append.ensures.fits, ap length c.in_ok-append.ensures.added, length_push c.args.self.now.cost (pos 0), c.requires.cost_wide) in
    let now = take c.args.self.now.rows.len (news ++ drop (length news) rows) in
    record {
      last = ap length c.in_ok-push.ensures.items ∙ length_push c.args.self.now.variables.items _ ∙ ap (λ (m : ℕ). m + 1) (sym at);
      fits = omega (arith, at, fits);
      alone = λ k h. ap (λ (m : ℕ). cell_at (row_at now k) (place_of m)) at ∙ spare_alone rows now n c.requires.wide (back ∙ made) fits k h;
      unpriced = ap (λ (m : ℕ). cell_at c.append.new.row (place_of m)) at ∙ ap (λ (xs : List ℤ). cell_at xs (place_of n)) c.in_ok-append.ensures.added ∙ new_cell c.args.self.now.cost n c.requires.cost_wide fits;
    }
