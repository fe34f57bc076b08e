-- The files that `solve` writes are apart.
use Rattle.std.proofs.Common.{◌≡◌, ℕ, Bool, true, false, cond, List, [], ◌∷◌, drop, Option, Some, None, codes, refl, subst}
use Rattle.std.specs.Option.{option_map, option_and_then}
use Rattle.plain_words.specs.Form.{Text}
use Rattle.plain_words.specs.Rules.{are_plain, named_words, option_value}
use Rattle.command_words.specs.declared.table.CommandName.{CommandName}
use Rattle.command_words.specs.declared.table.CommandName.TheVariants as names
use Rattle.command_words.specs.Command.{ChartView, GeneratedView, SolveView, solve, platforms, paths, make, trial, are_apart, chart_of, command_of, generated_of, named_command, picked_row, row_command, solve_of, splits_of}
use Rattle.command_words.specs.Table.{RowView}

of_solve : (instance : Text) (splits plan proof : Option Text) (words : SolveView) → solve_of instance splits plan proof ≡ Some (solve words) → are_apart words.instance words.plan words.proof ≡ true
of_solve instance splits plan proof words is = by_count (splits_of splits) is
  where
    by_test : (count : ℕ) (b : Bool) → are_apart instance plan proof ≡ b → cond b (Some (solve (record { instance = instance; splits = count; plan = plan; proof = proof }))) None ≡ Some (solve words)
        → are_apart words.instance words.plan words.proof ≡ true
    by_test count true apart e =
        let same : ◌≡◌ {A = SolveView} (record { instance = instance; splits = count; plan = plan; proof = proof }) words = cc e in
        subst (λ (w : SolveView). are_apart w.instance w.plan w.proof ≡ true) same apart
    by_test count false apart e = absurd (cc e)

    by_count : (o : Option ℕ) → option_and_then (λ count. cond (are_apart instance plan proof) (Some (solve (record { instance = instance; splits = count; plan = plan; proof = proof }))) None) o ≡ Some (solve words)
        → are_apart words.instance words.plan words.proof ≡ true
    by_count None e = absurd (cc e)
    by_count (Some count) e = by_test count (are_apart instance plan proof) refl e

no_chart : (o : Option ChartView) (words : SolveView) → (option_map platforms o ≡ Some (solve words) → ⊥) × (option_map paths o ≡ Some (solve words) → ⊥)
no_chart None words = (λ e. cc e, λ e. cc e)
no_chart (Some chart) words = (λ e. cc e, λ e. cc e)

no_station : (o : Option GeneratedView) (words : SolveView) → (option_map make o ≡ Some (solve words) → ⊥) × (option_map trial o ≡ Some (solve words) → ⊥)
no_station None words = (λ e. cc e, λ e. cc e)
no_station (Some station) words = (λ e. cc e, λ e. cc e)

of_name : (name : CommandName) (named : List Text) (value : Text → Option Text) (words : SolveView) → named_command name named value ≡ Some (solve words) → are_apart words.instance words.plan words.proof ≡ true
of_name names.Solve [] value words e = absurd (cc e)
of_name names.Solve (a ∷ []) value words e = of_solve a (value (codes "splits")) (value (codes "plan")) (value (codes "proof")) words e
of_name names.Solve (a ∷ b ∷ rest) value words e = absurd (cc e)
of_name names.Check [] value words e = absurd (cc e)
of_name names.Check (a ∷ []) value words e = absurd (cc e)
of_name names.Check (a ∷ b ∷ []) value words e = absurd (cc e)
of_name names.Check (a ∷ b ∷ c ∷ []) value words e = absurd (cc e)
of_name names.Check (a ∷ b ∷ c ∷ d ∷ rest) value words e = absurd (cc e)
of_name names.Cost [] value words e = absurd (cc e)
of_name names.Cost (a ∷ []) value words e = absurd (cc e)
of_name names.Cost (a ∷ b ∷ []) value words e = absurd (cc e)
of_name names.Cost (a ∷ b ∷ c ∷ rest) value words e = absurd (cc e)
of_name names.Bound [] value words e = absurd (cc e)
of_name names.Bound (a ∷ []) value words e = absurd (cc e)
of_name names.Bound (a ∷ b ∷ rest) value words e = absurd (cc e)
of_name names.Patterns [] value words e = absurd (cc e)
of_name names.Patterns (a ∷ []) value words e = absurd (cc e)
of_name names.Patterns (a ∷ b ∷ rest) value words e = absurd (cc e)
of_name names.Platforms [] value words e = absurd (cc e)
of_name names.Platforms (a ∷ []) value words e = absurd (cc e)
of_name names.Platforms (a ∷ b ∷ []) value words e = absurd (cc e)
of_name names.Platforms (a ∷ b ∷ c ∷ []) value words e = absurd (cc e)
of_name names.Platforms (a ∷ b ∷ c ∷ d ∷ []) value words e = absurd ((no_chart (chart_of a b c d) words).0 e)
of_name names.Platforms (a ∷ b ∷ c ∷ d ∷ f ∷ rest) value words e = absurd (cc e)
of_name names.Paths [] value words e = absurd (cc e)
of_name names.Paths (a ∷ []) value words e = absurd (cc e)
of_name names.Paths (a ∷ b ∷ []) value words e = absurd (cc e)
of_name names.Paths (a ∷ b ∷ c ∷ []) value words e = absurd (cc e)
of_name names.Paths (a ∷ b ∷ c ∷ d ∷ []) value words e = absurd ((no_chart (chart_of a b c d) words).1 e)
of_name names.Paths (a ∷ b ∷ c ∷ d ∷ f ∷ rest) value words e = absurd (cc e)
of_name names.Make [] value words e = absurd (cc e)
of_name names.Make (a ∷ []) value words e = absurd (cc e)
of_name names.Make (a ∷ b ∷ []) value words e = absurd ((no_station (generated_of a b) words).0 e)
of_name names.Make (a ∷ b ∷ c ∷ rest) value words e = absurd (cc e)
of_name names.Trial [] value words e = absurd (cc e)
of_name names.Trial (a ∷ []) value words e = absurd (cc e)
of_name names.Trial (a ∷ b ∷ []) value words e = absurd ((no_station (generated_of a b) words).1 e)
of_name names.Trial (a ∷ b ∷ c ∷ rest) value words e = absurd (cc e)

of_row : (row : RowView) (words : List Text) (search : SolveView) → row_command row words ≡ Some (solve search) → are_apart search.instance search.plan search.proof ≡ true
of_row row words search e = by_test (are_plain row.form words) e
  where
    by_test : (b : Bool) → cond b (named_command row.name (named_words words) (λ name. option_value name words)) None ≡ Some (solve search) → are_apart search.instance search.plan search.proof ≡ true
    by_test true e = of_name row.name (named_words words) (λ name. option_value name words) search e
    by_test false e = absurd (cc e)

-- a file that is written isn't the instance, nor the other file that is written
pub solve_apart : (words : List Text) (search : SolveView) → command_of words ≡ Some (solve search) → are_apart search.instance search.plan search.proof ≡ true
solve_apart words search e = by_row (picked_row words) e
  where
    by_row : (o : Option RowView) → option_and_then (λ row. row_command row (drop 1 words)) o ≡ Some (solve search) → are_apart search.instance search.plan search.proof ≡ true
    by_row None e = absurd (cc e)
    by_row (Some row) e = of_row row (drop 1 words) search e
