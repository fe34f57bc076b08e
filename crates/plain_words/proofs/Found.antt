-- Which argument a word belongs to.
use Rattle.std.proofs.Common.{◌≡◌, ℕ, ◌+◌, ◌<◌, ◌≤◌, Bool, true, false, cond, ◌&&◌, ◌||◌, not, ◌==◌, nat_eq, List, [], ◌∷◌, ◌++◌, length, take, take_all, Some, None, refl, ◌∙◌, ap, ap₂, subst, min, arith, inl, inr}
use Rattle.std.specs.List.{list_any, find, position_or_len, after_first, AllByRecursion}
use Rattle.std.specs.Str.{bytes_eq}
use Rattle.std.proofs.lemmas.Bool.Decides.{nat_tests}
use Rattle.clap.specs.Lexer.{usize_max, long_of, has_byte}
use Rattle.clap.specs.Walk.{Rule, arg_by_id, arg_by_index, has_long}
use Rattle.std.specs.Prelude.{is_some}
use Rattle.plain_words.specs.Form.{Text, is_option_name}
use Rattle.plain_words.specs.Rules.{option_word}
use Rattle.plain_words.proofs.Walks.{nothing, with_option, with_argument, text_rule, IsValue, IsOption, Plain}
use Rattle.plain_words.proofs.Table.{named_rules, option_rules}
use Rattle.plain_words.proofs.Steps.{same_text}
use Rattle.plain_words.proofs.Split.{Among, IsValueWord, Split, nothing as no_words, option_first, argument_first, is_same, both_true, not_true, or_false}

-- none of these texts is this one
abbrev pub Avoids : Text → List Text → Type 0
Avoids text others = AllByRecursion (λ other. bytes_eq text other ≡ false) others

-- each text stands once
abbrev pub Distinct : List Text → Type 0
Distinct [] = Unit {0}
Distinct (text ∷ texts) = Avoids text texts × Distinct texts

find_past : (p : Rule → Bool) (position : ℕ) (ids : List Text) (rest : List Rule) → AllByRecursion (λ id. (i : ℕ) → p (text_rule id None (Some i)) ≡ false) ids
    → find p (named_rules position ids ++ rest) ≡ find p rest
find_past p position [] rest none = refl
find_past p position (id ∷ ids) rest none =
    ap (λ b. cond b (Some (text_rule id None (Some position))) (find p (named_rules (min (position + 1) usize_max) ids ++ rest))) (none.0 position)
    ∙ find_past p (min (position + 1) usize_max) ids rest none.1

find_among : (p : Rule → Bool) (names : List Text) (name : Text) → ((other : Text) → p (text_rule other (Some other) None) ≡ bytes_eq other name) → Among names name
    → find p (option_rules names) ≡ Some (text_rule name (Some name) None)
find_among p [] name same among = absurd among
find_among p (first ∷ names) name same among = by_test (λ rest. find_among p names name same rest) (bytes_eq first name) refl among
  where
    by_test : (Among names name → find p (option_rules names) ≡ Some (text_rule name (Some name) None)) → (b : Bool) → bytes_eq first name ≡ b → Among (first ∷ names) name
        → find p (option_rules (first ∷ names)) ≡ Some (text_rule name (Some name) None)
    by_test later true is found =
        ap (λ b. cond b (Some (text_rule first (Some first) None)) (find p (option_rules names))) (same first ∙ is)
        ∙ ap (λ (n : Text). Some (text_rule n (Some n) None)) (is_same first name is)
    by_test later false is (inl equal) =
        let bad : bytes_eq first name ≡ true = subst (λ (n : Text). bytes_eq first n ≡ true) equal (same_text first) in absurd (cc (is, bad))
    by_test later false is (inr rest) =
        ap (λ b. cond b (Some (text_rule first (Some first) None)) (find p (option_rules names))) (same first ∙ is) ∙ later rest

or_nothing : (b : Bool) → (b || false) ≡ b
or_nothing true = refl
or_nothing false = refl

no_index : (ids : List Text) (name : Text) → AllByRecursion (λ id. (i : ℕ) → false ≡ false) ids
no_index [] name = tt
no_index (id ∷ ids) name = (λ i. refl, no_index ids name)

ids_apart : (name : Text) (ids : List Text) → AllByRecursion (λ id. bytes_eq id name ≡ false) ids → AllByRecursion (λ id. (i : ℕ) → bytes_eq id name ≡ false) ids
ids_apart name [] apart = tt
ids_apart name (id ∷ ids) apart = (λ i. apart.0, ids_apart name ids apart.1)

all_before : (p : ℕ → Bool) (text : Text) → list_any p text ≡ false → length text ≤ position_or_len p text
all_before p [] none = omega arith
all_before p (first ∷ text) none =
    let both : (p first ≡ false) × (list_any p text ≡ false) = or_false _ _ none in
    let here = both.0 in
    let rest = all_before p text both.1 in
    let step : position_or_len p (first ∷ text) ≡ 1 + position_or_len p text = rw here refl in
    omega arith

whole_before : (p : ℕ → Bool) (text : Text) → list_any p text ≡ false → take (position_or_len p text) text ≡ text
whole_before p text none = take_all (position_or_len p text) text (all_before p text none)

long_name : (name : Text) → is_option_name name ≡ true → long_of (option_word name) ≡ Some (name, None)
long_name [] is = absurd (cc is)
long_name (first ∷ name) is =
    let parts : (not (length (first ∷ name) == 0) ≡ true) × (not (has_byte 61 (first ∷ name)) ≡ true) = both_true _ _ is in
    let none : has_byte 61 (first ∷ name) ≡ false = not_true _ parts.1 in
    let whole = whole_before (λ byte. byte == 61) (first ∷ name) none in
    ap₂ (λ (text : Text) (b : Bool). Some (text, cond b (Some (after_first (λ byte. byte == 61) (first ∷ name))) None)) whole none

no_end : (name : Text) → is_option_name name ≡ true → bytes_eq (option_word name) (45 ∷ 45 ∷ []) ≡ false
no_end [] is = absurd (cc is)
no_end (first ∷ name) is = refl

pub option_found : (ids names : List Text) (name : Text) → Among names name → is_option_name name ≡ true → AllByRecursion (λ id. bytes_eq id name ≡ false) ids
    → IsOption (named_rules 1 ids ++ option_rules names) (option_word name) name
option_found ids names name among is apart = record {
  name = name;
  long = Some name;
  is_long = long_name name is;
  no_end = no_end name is;
  named = find_past (λ rule. not (is_some rule.index) && has_long rule name) 1 ids (option_rules names) (no_index ids name)
      ∙ find_among (λ rule. not (is_some rule.index) && has_long rule name) names name (λ other. or_nothing (bytes_eq other name)) among;
  by_id = find_past (λ rule. bytes_eq rule.id name) 1 ids (option_rules names) (ids_apart name ids apart)
      ∙ find_among (λ rule. bytes_eq rule.id name) names name (λ other. refl) among;
}

-- the rules have these arguments from a position on
abbrev pub HasArguments : List Rule → ℕ → List Text → Type 0
HasArguments rules position [] = Unit {0}
HasArguments rules position (id ∷ ids) = (arg_by_index rules position ≡ Some (text_rule id None (Some position)))
    × (arg_by_id rules id ≡ Some (text_rule id None (Some position))) × HasArguments rules (min (position + 1) usize_max) ids

other_place : (i j : ℕ) → i < j → nat_eq i j ≡ false
other_place i j less = grind (arith, nat_tests)

same_place : (i : ℕ) → nat_eq i i ≡ true
same_place i = grind (arith, nat_tests)

one_before : (rules : List Rule) (id : Text) (i j : ℕ) (ids : List Text) → i < j → j + length ids ≤ usize_max → Avoids id ids → HasArguments rules j ids
    → HasArguments (text_rule id None (Some i) ∷ rules) j ids
one_before rules id i j [] less within avoids has = tt
one_before rules id i j (next ∷ ids) less within avoids has =
    let apart = other_place i j less in
    let other = avoids.0 in (
      rw apart has.0,
      rw other has.1,
      one_before rules id i (min (j + 1) usize_max) ids (omega arith) (omega arith) avoids.1 has.2,
    )

pub arguments_found : (position : ℕ) (ids : List Text) (rest : List Rule) → position + length ids ≤ usize_max → Distinct ids → HasArguments (named_rules position ids ++ rest) position ids
arguments_found position [] rest within distinct = tt
arguments_found position (id ∷ ids) rest within distinct =
    let place = same_place position in
    let text = same_text id in (
      rw place refl,
      rw text refl,
      one_before (named_rules (min (position + 1) usize_max) ids ++ rest) id position (min (position + 1) usize_max) ids (omega arith) (omega arith) distinct.0
          (arguments_found (min (position + 1) usize_max) ids rest (omega arith) distinct.1),
    )

value_is : (word : Text) → IsValueWord word → IsValue word
value_is [] is = absurd (cc is.some)
value_is (first ∷ rest) is =
    let apart = is.no_dash in
    record { no_long = rw apart refl; no_short = rw apart refl; no_end = rw apart refl }

pub plain_of : (rules : List Rule) (names : List Text) (position : ℕ) (arguments words : List Text) (pairs : List (Text × Text)) → ((name : Text) → Among names name → IsOption rules (option_word name) name)
    → HasArguments rules position arguments → Split names arguments words pairs → Plain rules position words pairs
plain_of rules names position arguments words pairs options has (no_words _) = nothing position
plain_of rules names position arguments words pairs options has (option_first _ rest others name value among is split) =
    with_option position (option_word name) name value rest others (options name among) (value_is value is) (plain_of rules names position arguments rest others options has split)
plain_of rules names position arguments words pairs options has (argument_first later rest others id word is split) =
    with_argument position id word rest others (value_is word is) has.0 has.1 (plain_of rules names (min (position + 1) usize_max) later rest others options has.2 split)
