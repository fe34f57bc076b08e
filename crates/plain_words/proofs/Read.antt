-- What a command makes of plain words.
use Rattle.std.proofs.Common.{◌≡◌, ℕ, ◌+◌, ◌<◌, ◌≤◌, Bool, true, ◌&&◌, nat_le, nat_lt, List, [], ◌∷◌, ◌++◌, length, drop, map, Some, sym, ◌∙◌, ap, subst, inl, inr, arith}
use Rattle.std.specs.List.{list_all, slice_get}
use Rattle.std.proofs.lemmas.Bool.Decides.{nat_tests}
use Rattle.clap.specs.Lexer.{usize_max}
use Rattle.clap.specs.Walk.{Rule, first_of, rows_of}
use Rattle.clap.specs.Matches.{first_value}
use Rattle.clap.specs.declared.parser.matches.Found.{Found}
use Rattle.clap.specs.Simple.{built, matches_of}
use Rattle.clap.specs.Takes.{takes}
use Rattle.clap.proofs.WalkLemmas.{first_value-rows}
use Rattle.plain_words.specs.App.{app_of_form}
use Rattle.plain_words.specs.Form.{Text, CommandForm, option_names, is_option_name, are_different, is_readable}
use Rattle.plain_words.specs.Rules.{has_no_empty, has_known_options, has_options_once, has_values, has_arguments, named_words, are_plain, is_option, option_word, option_value}
use Rattle.plain_words.proofs.Walks.{Plain, AreApart, row_of_value}
use Rattle.plain_words.proofs.Passes.{table_takes}
use Rattle.plain_words.proofs.Rows.{table_values}
use Rattle.plain_words.proofs.Table.{option_rules, rules_of_form, built_rules, form_table, form_no_defaults}
use Rattle.plain_words.proofs.Split.{Among, Split, split, both_true, named_option}
use Rattle.plain_words.proofs.Found.{option_found, arguments_found, plain_of}
use Rattle.plain_words.proofs.Values.{AreNamedApart, named_apart, ids_avoid, values_apart, value_in_rows, argument_given, option_given}

pub le_of : (m n : ℕ) → nat_le m n ≡ true → m ≤ n
le_of m n is = grind (arith, nat_tests)

lt_of : (m n : ℕ) → nat_lt m n ≡ true → m < n
lt_of m n is = grind (arith, nat_tests)

all_among : (p : Text → Bool) (texts : List Text) (text : Text) → list_all p texts ≡ true → Among texts text → p text ≡ true
all_among p [] text all among = absurd among
all_among p (first ∷ texts) text all (inl is) = subst (λ (other : Text). p other ≡ true) is (both_true (p first) (list_all p texts) all).0
all_among p (first ∷ texts) text all (inr among) = all_among p texts text (both_true (p first) (list_all p texts) all).1 among

-- what the words give, and how
pub record IsRead (form : CommandForm) (words : List Text) : Type 0 where
  pub pairs : List (Text × Text)
  pub given : Split (option_names form) form.arguments words pairs
  pub named : AreNamedApart (option_names form) form.arguments
  pub plain : Plain (built (app_of_form form)).top.rules 1 words pairs
  pub apart : AreApart pairs

pub plain_read : (form : CommandForm) (words : List Text) → is_readable form ≡ true → are_plain form words ≡ true → IsRead form words
plain_read form words readable plain =
    let names = option_names form in
    let ids = form.arguments in
    let form_parts : (are_different (ids ++ names) ≡ true) × ((list_all is_option_name names && nat_lt (length ids) 1000) ≡ true) = both_true _ _ readable in
    let limits : (list_all is_option_name names ≡ true) × (nat_lt (length ids) 1000 ≡ true) = both_true _ _ form_parts.1 in
    let short : length ids < 1000 = lt_of (length ids) 1000 limits.1 in
    let fits : 1 + length ids ≤ usize_max = omega arith in
    let rules_five : ((has_no_empty words && has_known_options names words && has_options_once words && has_values words) ≡ true) × (has_arguments form words ≡ true) = both_true _ _ plain in
    let rules_four : ((has_no_empty words && has_known_options names words && has_options_once words) ≡ true) × (has_values words ≡ true) = both_true _ _ rules_five.0 in
    let rules_three : ((has_no_empty words && has_known_options names words) ≡ true) × (has_options_once words ≡ true) = both_true _ _ rules_four.0 in
    let rules_two : (has_no_empty words ≡ true) × (has_known_options names words ≡ true) = both_true _ _ rules_three.0 in
    let counts : (nat_le (length (named_words words)) (length ids) ≡ true) × (nat_le (length ids) (length (named_words words) + form.missing) ≡ true) = both_true _ _ rules_five.1 in
    let found = split names ids words (record { some = rules_two.0; known = rules_two.1; values = rules_four.1; few = le_of (length (named_words words)) (length ids) counts.0 }) in
    let named = named_apart names ids form_parts.0 in
    let rules_plain = plain_of (rules_of_form form) names 1 ids words found.0
    (λ name among. option_found ids names name among (all_among is_option_name names name limits.0 among) (ids_avoid names ids name named among))
    (arguments_found 1 ids (option_rules (option_names form)) fits named.distinct) found.1 in
    record {
      pairs = found.0;
      given = found.1;
      named = named;
      plain = subst (λ (rules : List Rule). Plain rules 1 words found.0) (sym (built_rules form)) rules_plain;
      apart = values_apart names ids words found.0 named rules_three.1 found.1;
    }

pub form_takes : (form : CommandForm) (words : List Text) → is_readable form ≡ true → are_plain form (drop 1 words) ≡ true → takes (app_of_form form) words ≡ true
form_takes form words readable plain =
    let read = plain_read form (drop 1 words) readable plain in
    table_takes (app_of_form form) words read.pairs (form_table form) read.plain

form_matches : (form : CommandForm) (words : List Text) (read : IsRead form (drop 1 words)) → matches_of (app_of_form form) words ≡ map row_of_value read.pairs
form_matches form words read = table_values (app_of_form form) words read.pairs (form_table form) (form_no_defaults form) read.apart read.plain

pub argument_read : (form : CommandForm) (words : List Text) (found : Found) → is_readable form ≡ true → are_plain form (drop 1 words) ≡ true → rows_of found ≡ matches_of (app_of_form form) words
    → (k : ℕ) (name : Text) → slice_get form.arguments k ≡ Some name → first_value found name ≡ slice_get (named_words (drop 1 words)) k
argument_read form words found readable plain rows k name there =
    let read = plain_read form (drop 1 words) readable plain in
    first_value-rows found name
    ∙ (ap (first_of name) (rows ∙ form_matches form words read)
    ∙ (value_in_rows name read.pairs ∙ argument_given (option_names form) form.arguments (drop 1 words) read.pairs k name read.named there read.given))

pub option_read : (form : CommandForm) (words : List Text) (found : Found) → is_readable form ≡ true → are_plain form (drop 1 words) ≡ true → rows_of found ≡ matches_of (app_of_form form) words
    → (name : Text) → is_option (option_names form) (option_word name) ≡ true → first_value found name ≡ option_value name (drop 1 words)
option_read form words found readable plain rows name there =
    let read = plain_read form (drop 1 words) readable plain in
    let option = named_option (option_names form) (option_word name) there in
    let same : option.0 ≡ name = ap (λ (text : Text). drop 2 text) option.2 in
    let among : Among (option_names form) name = subst (λ (other : Text). Among (option_names form) other) same option.1 in
    first_value-rows found name
    ∙ (ap (first_of name) (rows ∙ form_matches form words read)
    ∙ (value_in_rows name read.pairs ∙ option_given (option_names form) form.arguments (drop 1 words) read.pairs name (ids_avoid (option_names form) form.arguments name read.named among) read.given))
