-- The rows of the table: each can be read, and its command is the one that the values under its names give.
use Rattle.std.proofs.Common.{◌≡◌, ℕ, ◌≤◌, Bool, true, false, cond, nat_le, List, [], ◌∷◌, length, map, take, drop, take_all, length-drop, ◌-◌, Option, Some, None, codes, refl, sym, ◌∙◌, ap, subst, arith}
use Rattle.std.specs.List.{find, slice_get, AllByRecursion}
use Rattle.std.specs.Option.{option_map, option_and_then}
use Rattle.std.specs.Str.{bytes_eq}
use Rattle.std.proofs.lemmas.Option.{same_Some}
use Rattle.std.proofs.lemmas.List.{drop-map}
use Rattle.plain_words.specs.Form.{Text, CommandForm, option_names, is_readable}
use Rattle.plain_words.specs.Rules.{is_option, option_word, option_value, named_words, has_arguments, are_plain}
use Rattle.plain_words.proofs.Split.{both_true}
use Rattle.std.proofs.lemmas.Bool.Decides.{nat_tests}
use Rattle.command_words.specs.Command.{ChartView, CommandView, GeneratedView, cost, bound_all, patterns, platforms, paths, make, trial, solve_of, check_of, chart_of, generated_of, of_one, of_two, of_two_or_three, of_four, named_command, picked_row, row_command}
use Rattle.command_words.specs.Table.{RowView, command_table, solve_row, check_row, cost_row, bound_row, patterns_row, platforms_row, paths_row, make_row, trial_row}
use Rattle.command_words.specs.Values.{values_command}

-- what the values under a row's names are
pub record GivesValues (form : CommandForm) (named : List Text) (option value : Text → Option Text) : Type 0 where
  pub arguments : (k : ℕ) (name : Text) → slice_get form.arguments k ≡ Some name → value name ≡ slice_get named k
  pub options : (name : Text) → is_option (option_names form) (option_word name) ≡ true → value name ≡ option name
  pub few : length named ≤ length form.arguments

pub record IsRow (row : RowView) : Type 0 where
  pub readable : is_readable row.form ≡ true
  pub same : (named : List Text) (option value : Text → Option Text) → GivesValues row.form named option value → values_command row.name value ≡ named_command row.name named option

one_named : {A : Type 0} (build : Text → Option A) (named : List Text) (first : Option Text) → length named ≤ 1 → first ≡ slice_get named 0 → option_and_then build first ≡ of_one named build
one_named build [] first few is = rw is refl
one_named build (a ∷ []) first few is = rw is refl
one_named build (a ∷ b ∷ rest) first few is = absurd (omega arith)

two_named : {A : Type 0} (build : Text → Text → Option A) (named : List Text) (first second : Option Text) → length named ≤ 2 → first ≡ slice_get named 0 → second ≡ slice_get named 1
    → option_and_then (λ a. option_and_then (λ b. build a b) second) first ≡ of_two named build
two_named build [] first second few is next = rw is refl
two_named build (a ∷ []) first second few is next = rw (is, next) refl
two_named build (a ∷ b ∷ []) first second few is next = rw (is, next) refl
two_named build (a ∷ b ∷ c ∷ rest) first second few is next = absurd (omega arith)

two_or_three_named : {A : Type 0} (build : Text → Text → Option Text → Option A) (named : List Text) (first second third : Option Text) → length named ≤ 3
    → first ≡ slice_get named 0 → second ≡ slice_get named 1 → third ≡ slice_get named 2
    → option_and_then (λ a. option_and_then (λ b. build a b third) second) first ≡ of_two_or_three named build
two_or_three_named build [] first second third few is next last = rw is refl
two_or_three_named build (a ∷ []) first second third few is next last = rw (is, next) refl
two_or_three_named build (a ∷ b ∷ []) first second third few is next last = rw (is, next, last) refl
two_or_three_named build (a ∷ b ∷ c ∷ []) first second third few is next last = rw (is, next, last) refl
two_or_three_named build (a ∷ b ∷ c ∷ d ∷ rest) first second third few is next last = absurd (omega arith)

chart_named : (build : ChartView → CommandView) (named : List Text) (instance plan from to : Option Text) → length named ≤ 4
    → instance ≡ slice_get named 0 → plan ≡ slice_get named 1 → from ≡ slice_get named 2 → to ≡ slice_get named 3
    → option_and_then (λ i. option_map build (option_and_then (λ p. option_and_then (λ a. option_and_then (λ b. chart_of i p a b) to) from) plan)) instance
    ≡ of_four named (λ i p a b. option_map build (chart_of i p a b))
chart_named build [] instance plan from to few e0 e1 e2 e3 = rw e0 refl
chart_named build (i ∷ []) instance plan from to few e0 e1 e2 e3 = rw (e0, e1) refl
chart_named build (i ∷ p ∷ []) instance plan from to few e0 e1 e2 e3 = rw (e0, e1, e2) refl
chart_named build (i ∷ p ∷ a ∷ []) instance plan from to few e0 e1 e2 e3 = rw (e0, e1, e2, e3) refl
chart_named build (i ∷ p ∷ a ∷ b ∷ []) instance plan from to few e0 e1 e2 e3 = rw (e0, e1, e2, e3) refl
chart_named build (i ∷ p ∷ a ∷ b ∷ c ∷ rest) instance plan from to few e0 e1 e2 e3 = absurd (omega arith)

station_named : (build : GeneratedView → CommandView) (named : List Text) (number trains : Option Text) → length named ≤ 2 → number ≡ slice_get named 0 → trains ≡ slice_get named 1
    → option_map build (option_and_then (λ n. option_and_then (λ t. generated_of n t) trains) number) ≡ of_two named (λ n t. option_map build (generated_of n t))
station_named build [] number trains few e0 e1 = rw e0 refl
station_named build (n ∷ []) number trains few e0 e1 = rw (e0, e1) refl
station_named build (n ∷ t ∷ []) number trains few e0 e1 = rw (e0, e1) refl
station_named build (n ∷ t ∷ c ∷ rest) number trains few e0 e1 = absurd (omega arith)

solve_is : IsRow solve_row
solve_is = record {
  readable = refl;
  same = λ named option value gives.
      one_named (λ instance. solve_of instance (value (codes "splits")) (value (codes "plan")) (value (codes "proof"))) named (value (codes "INSTANCE")) gives.few
      (gives.arguments 0 (codes "INSTANCE") refl)
      ∙ ap (λ (splits : Option Text). of_one named (λ instance. solve_of instance splits (value (codes "plan")) (value (codes "proof")))) (gives.options (codes "splits") refl)
      ∙ ap (λ (plan : Option Text). of_one named (λ instance. solve_of instance (option (codes "splits")) plan (value (codes "proof")))) (gives.options (codes "plan") refl)
      ∙ ap (λ (proof : Option Text). of_one named (λ instance. solve_of instance (option (codes "splits")) (option (codes "plan")) proof)) (gives.options (codes "proof") refl);
}

check_is : IsRow check_row
check_is = record {
  readable = refl;
  same = λ named option value gives.
      two_or_three_named (λ instance proof plan. Some (check_of instance proof plan)) named (value (codes "INSTANCE")) (value (codes "PROOF")) (value (codes "PLAN")) gives.few
      (gives.arguments 0 (codes "INSTANCE") refl) (gives.arguments 1 (codes "PROOF") refl) (gives.arguments 2 (codes "PLAN") refl);
}

cost_is : IsRow cost_row
cost_is = record {
  readable = refl;
  same = λ named option value gives.
      two_named (λ instance plan. Some (cost instance plan)) named (value (codes "INSTANCE")) (value (codes "PLAN")) gives.few (gives.arguments 0 (codes "INSTANCE") refl) (gives.arguments 1 (codes "PLAN") refl);
}

bound_is : IsRow bound_row
bound_is = record {
  readable = refl;
  same = λ named option value gives. one_named (λ instance. Some (bound_all instance)) named (value (codes "INSTANCE")) gives.few (gives.arguments 0 (codes "INSTANCE") refl);
}

patterns_is : IsRow patterns_row
patterns_is = record {
  readable = refl;
  same = λ named option value gives. one_named (λ instance. Some (patterns instance)) named (value (codes "INSTANCE")) gives.few (gives.arguments 0 (codes "INSTANCE") refl);
}

platforms_is : IsRow platforms_row
platforms_is = record {
  readable = refl;
  same = λ named option value gives.
      chart_named platforms named (value (codes "INSTANCE")) (value (codes "PLAN")) (value (codes "FROM")) (value (codes "TO")) gives.few
      (gives.arguments 0 (codes "INSTANCE") refl) (gives.arguments 1 (codes "PLAN") refl) (gives.arguments 2 (codes "FROM") refl) (gives.arguments 3 (codes "TO") refl);
}

paths_is : IsRow paths_row
paths_is = record {
  readable = refl;
  same = λ named option value gives.
      chart_named paths named (value (codes "INSTANCE")) (value (codes "PLAN")) (value (codes "FROM")) (value (codes "TO")) gives.few
      (gives.arguments 0 (codes "INSTANCE") refl) (gives.arguments 1 (codes "PLAN") refl) (gives.arguments 2 (codes "FROM") refl) (gives.arguments 3 (codes "TO") refl);
}

make_is : IsRow make_row
make_is = record {
  readable = refl;
  same = λ named option value gives.
      station_named make named (value (codes "NUMBER")) (value (codes "TRAINS")) gives.few (gives.arguments 0 (codes "NUMBER") refl) (gives.arguments 1 (codes "TRAINS") refl);
}

trial_is : IsRow trial_row
trial_is = record {
  readable = refl;
  same = λ named option value gives.
      station_named trial named (value (codes "NUMBER")) (value (codes "TRAINS")) gives.few (gives.arguments 0 (codes "NUMBER") refl) (gives.arguments 1 (codes "TRAINS") refl);
}

table_is : AllByRecursion IsRow command_table
table_is = (solve_is, (check_is, (cost_is, (bound_is, (patterns_is, (platforms_is, (paths_is, (make_is, (trial_is, tt)))))))))

found_is : {X : Type 0} (P : X → Type 0) (p : X → Bool) (xs : List X) (x : X) → AllByRecursion P xs → find p xs ≡ Some x → P x
found_is P p [] x all is = absurd (cc is)
found_is P p (first ∷ xs) x all is = by_test (λ later. found_is P p xs x all.1 later) (p first) is
  where
    by_test : (find p xs ≡ Some x → P x) → (b : Bool) → cond b (Some first) (find p xs) ≡ Some x → P x
    by_test rest true here = subst P (same_Some first x here) all.0
    by_test rest false later = rest later

pub picked_is : (words : List Text) (row : RowView) → picked_row words ≡ Some row → IsRow row
picked_is [] row is = absurd (cc is)
picked_is (word ∷ words) row is = found_is IsRow (λ row. bytes_eq row.form.word word) command_table row table_is is

pub find_of_mapped : {X Y : Type 0} (p : Y → Bool) (f : X → Y) (xs : List X) → find p (map f xs) ≡ option_map f (find (λ x. p (f x)) xs)
find_of_mapped p f [] = refl
find_of_mapped p f (x ∷ xs) = by_test (find_of_mapped p f xs) (p (f x))
  where
    by_test : find p (map f xs) ≡ option_map f (find (λ x. p (f x)) xs) → (b : Bool) → cond b (Some (f x)) (find p (map f xs)) ≡ option_map f (cond b (Some x) (find (λ x. p (f x)) xs))
    by_test rest true = refl
    by_test rest false = rest

pub picked_first : {X : Type 0} (f : X → Text) (xs : List X) (x : X) → slice_get xs 0 ≡ Some x → picked_row (map f xs) ≡ find (λ row. bytes_eq row.form.word (f x)) command_table
picked_first f [] x is = absurd (cc is)
picked_first f (first ∷ xs) x is = ap (λ y. find (λ row. bytes_eq row.form.word (f y)) command_table) (same_Some first x is)

le_of : (m n : ℕ) → nat_le m n ≡ true → m ≤ n
le_of m n is = grind (arith, nat_tests)

pub row_read : (row : RowView) (words : List Text) (value : Text → Option Text) → IsRow row → are_plain row.form words ≡ true
    → ((k : ℕ) (name : Text) → slice_get row.form.arguments k ≡ Some name → value name ≡ slice_get (named_words words) k)
    → ((name : Text) → is_option (option_names row.form) (option_word name) ≡ true → value name ≡ option_value name words)
    → values_command row.name value ≡ row_command row words
row_read row words value good plain arguments options =
    let parts = both_true _ (has_arguments row.form words) plain in
    let counts = both_true (nat_le (length (named_words words)) (length row.form.arguments)) _ parts.1 in
    good.same (named_words words) (λ name. option_value name words) value
    (record { arguments = arguments; options = options; few = le_of (length (named_words words)) (length row.form.arguments) counts.0 })
    ∙ sym (ap (λ b. cond b (named_command row.name (named_words words) (λ name. option_value name words)) None) plain)

-- the words behind the first are plain, as a slice of the words
pub plain_behind : {X : Type 0} (f : X → Text) (form : CommandForm) (xs : List X) → true ≡ are_plain form (map f (take (length xs - 1) (drop 1 xs))) → are_plain form (drop 1 (map f xs)) ≡ true
plain_behind f form xs plain =
    ap (are_plain form) (drop-map f 1 xs ∙ ap (map f) (sym (take_all (length xs - 1) (drop 1 xs) (omega (arith, length-drop 1 xs))))) ∙ sym plain
