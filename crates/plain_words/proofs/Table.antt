-- What building makes of a command's arguments, and that the command is simple.
use Rattle.std.proofs.Common.{◌≡◌, ℕ, ◌+◌, Bool, true, false, ◌&&◌, ◌||◌, not, is_some, List, [], ◌∷◌, ◌++◌, map, Some, None, refl, sym, ap, subst, min}
use Rattle.std.specs.List.{list_all, list_any, count_by, AllByRecursion}
use Rattle.clap.specs.Lexer.{usize_max}
use Rattle.clap.specs.Walk.{Rule, is_early_multiple}
use Rattle.clap.specs.Takes.{default_passes, is_given}
use Rattle.clap.specs.Simple.{built, new_rule, help_rule, filled, filled_from}
use Rattle.plain_words.specs.App.{option_rule, app_of_form}
use Rattle.plain_words.specs.Form.{Text, CommandForm, option_names}
use Rattle.plain_words.proofs.Passes.{both}
use Rattle.plain_words.proofs.Walks.{text_rule, IsTable, HaveNoDefaults}

-- the named arguments from a position on
abbrev pub named_rules : ℕ → List Text → List Rule
named_rules position [] = []
named_rules position (id ∷ ids) = text_rule id None (Some position) ∷ named_rules (min (position + 1) usize_max) ids

-- the options, and the flag for help that `clap` adds
abbrev pub option_rules : List Text → List Rule
option_rules [] = filled help_rule ∷ []
option_rules (name ∷ names) = text_rule name (Some name) None ∷ option_rules names

abbrev pub rules_of_form : CommandForm → List Rule
rules_of_form form = named_rules 1 form.arguments ++ option_rules (option_names form)

filled_options : (position : ℕ) (names : List Text) → filled_from position (map option_rule names ++ help_rule ∷ []) ≡ option_rules names
filled_options position [] = refl
filled_options position (name ∷ names) = ap (λ (rules : List Rule). text_rule name (Some name) None ∷ rules) (filled_options position names)

filled_rules : (position : ℕ) (ids names : List Text) → filled_from position ((map new_rule ids ++ map option_rule names) ++ help_rule ∷ []) ≡ named_rules position ids ++ option_rules names
filled_rules position [] names = filled_options position names
filled_rules position (id ∷ ids) names = ap (λ (rules : List Rule). text_rule id None (Some position) ∷ rules) (filled_rules (min (position + 1) usize_max) ids names)

pub built_rules : (form : CommandForm) → (built (app_of_form form)).top.rules ≡ rules_of_form form
built_rules form = filled_rules 1 form.arguments (option_names form)

-- what holds of each argument, of each option and of the flag for help
pub record HoldsOfEach (P : Rule → Type 0) : Type 0 where
  pub named : (id : Text) (position : ℕ) → P (text_rule id None (Some position))
  pub option : (name : Text) → P (text_rule name (Some name) None)
  pub help : P (filled help_rule)

in_options : (P : Rule → Type 0) (names : List Text) → HoldsOfEach P → AllByRecursion P (option_rules names)
in_options P [] each = (each.help, tt)
in_options P (name ∷ names) each = (each.option name, in_options P names each)

pub in_rules : (P : Rule → Type 0) (position : ℕ) (ids names : List Text) → HoldsOfEach P → AllByRecursion P (named_rules position ids ++ option_rules names)
in_rules P position [] names each = in_options P names each
in_rules P position (id ∷ ids) names each = (each.named id position, in_rules P (min (position + 1) usize_max) ids names each)

all_true : (p : Rule → Bool) (rules : List Rule) → AllByRecursion (λ rule. p rule ≡ true) rules → list_all p rules ≡ true
all_true p [] all = refl
all_true p (rule ∷ rules) all =
    let first = all.0 in
    let rest = all_true p rules all.1 in
    rw (first, rest) refl

none_true : (p : Rule → Bool) (rules : List Rule) → AllByRecursion (λ rule. p rule ≡ false) rules → list_any p rules ≡ false
none_true p [] none = refl
none_true p (rule ∷ rules) none =
    let first = none.0 in
    let rest = none_true p rules none.1 in
    rw (first, rest) refl

pub all_in_rules : (p : Rule → Bool) (form : CommandForm) → HoldsOfEach (λ rule. p rule ≡ true) → list_all p (built (app_of_form form)).top.rules ≡ true
all_in_rules p form each =
    subst (λ (rules : List Rule). list_all p rules ≡ true) (sym (built_rules form)) (all_true p (rules_of_form form) (in_rules (λ rule. p rule ≡ true) 1 form.arguments (option_names form) each))

none_in_rules : (p : Rule → Bool) (form : CommandForm) → HoldsOfEach (λ rule. p rule ≡ false) → list_any p (built (app_of_form form)).top.rules ≡ false
none_in_rules p form each =
    subst (λ (rules : List Rule). list_any p rules ≡ false) (sym (built_rules form)) (none_true p (rules_of_form form) (in_rules (λ rule. p rule ≡ false) 1 form.arguments (option_names form) each))

-- the arguments as they are declared
declared_options : (names : List Text) → list_all (λ rule. rule.is_simple) (map option_rule names) ≡ true
declared_options [] = refl
declared_options (name ∷ names) = declared_options names

declared_simple : (ids names : List Text) → list_all (λ rule. rule.is_simple) (map new_rule ids ++ map option_rule names) ≡ true
declared_simple [] names = declared_options names
declared_simple (id ∷ ids) names = declared_simple ids names

joined : (a b c : Bool) → a ≡ true → b ≡ true → c ≡ false → ((a && true) && ((b && not c) && true)) ≡ true
joined a b c a_is b_is c_is = rw (a_is, b_is, c_is) refl

abbrev early : ℕ → Rule → Bool
early count rule = is_early_multiple count rule

pub form_table : (form : CommandForm) → IsTable (app_of_form form)
form_table form =
    let declared : list_all (λ rule. rule.is_simple) (app_of_form form).top.rules ≡ true = declared_simple form.arguments (option_names form) in
    let all_simple : list_all (λ rule. rule.is_simple) (built (app_of_form form)).top.rules ≡ true = all_in_rules (λ rule. rule.is_simple) form (record { named = λ id position. refl; option = λ name. refl; help = refl }) in
    let no_early : (count : ℕ) → list_any (is_early_multiple count) (built (app_of_form form)).top.rules ≡ false = λ count. none_in_rules (early count) form (record { named = λ id position. refl; option = λ name. refl; help = refl }) in
    let all_free : list_all (λ rule. rule.is_free) (built (app_of_form form)).top.rules ≡ true = all_in_rules (λ rule. rule.is_free) form (record { named = λ id position. refl; option = λ name. refl; help = refl }) in
    record {
      simple = joined _ _ _ declared all_simple (no_early (count_by (λ rule. is_some rule.index) (built (app_of_form form)).top.rules));
      no_subs = refl;
      again = refl;
      defaults = all_in_rules default_passes form (record { named = λ id position. refl; option = λ name. refl; help = refl });
      valid = λ rows. both _ _ all_free (all_in_rules (λ rule. not rule.required || is_given rule.id rows) form (record { named = λ id position. refl; option = λ name. refl; help = refl }));
    }

pub form_no_defaults : (form : CommandForm) → HaveNoDefaults (built (app_of_form form)).top.rules
form_no_defaults form =
    subst HaveNoDefaults (sym (built_rules form)) (in_rules (λ rule. rule.defaults ≡ []) 1 form.arguments (option_names form) (record { named = λ id position. refl; option = λ name. refl; help = refl }))
