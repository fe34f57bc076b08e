-- Plain words as options with their values and named arguments.
use Rattle.std.proofs.Common.{◌≡◌, ◌⊎◌, ◌≤◌, Bool, true, false, ◌&&◌, ◌||◌, not, ◌==◌, List, [], ◌∷◌, length, refl, subst, arith, inl, inr}
use Rattle.std.specs.List.{AllByRecursion}
use Rattle.std.specs.Str.{bytes_eq}
use Rattle.std.proofs.lemmas.Slice.Eq.{bytes_eq-Decides}
use Rattle.plain_words.specs.Form.{Text}
use Rattle.plain_words.specs.Rules.{is_dashed, option_word, has_no_empty, is_option, has_known_options, has_values, named_words}

pub is_same : (text other : Text) → bytes_eq text other ≡ true → text ≡ other
is_same text other = (bytes_eq-Decides text other).0

-- a text of the list
abbrev pub Among : List Text → Text → Type 0
Among [] text = ⊥
Among (first ∷ texts) text = (first ≡ text) ⊎ Among texts text

pub of_among : (P : Text → Type 0) (texts : List Text) (text : Text) → AllByRecursion P texts → Among texts text → P text
of_among P [] text all among = absurd among
of_among P (first ∷ texts) text all (inl is) = subst P is all.0
of_among P (first ∷ texts) text all (inr among) = of_among P texts text all.1 among

-- a word that isn't empty and has no dash
pub record IsValueWord (word : Text) : Type 0 where
  pub some : (length word == 0) ≡ false
  pub no_dash : is_dashed word ≡ false

-- the words, and what they give: each option with its value, and each named argument with its word
pub data Split (names : List Text) : List Text → List Text → List (Text × Text) → Type 0 where
  nothing : (arguments : List Text) → Split names arguments [] []
  option_first : (arguments words : List Text) (pairs : List (Text × Text)) (name value : Text) → Among names name → IsValueWord value → Split names arguments words pairs
      → Split names arguments (option_word name ∷ value ∷ words) ((name, value) ∷ pairs)
  argument_first : (arguments words : List Text) (pairs : List (Text × Text)) (id word : Text) → IsValueWord word → Split names arguments words pairs
      → Split names (id ∷ arguments) (word ∷ words) ((id, word) ∷ pairs)

-- what the rules say of the words that are left
pub record IsLeft (names arguments words : List Text) : Type 0 where
  pub some : has_no_empty words ≡ true
  pub known : has_known_options names words ≡ true
  pub values : has_values words ≡ true
  pub few : length (named_words words) ≤ length arguments

pub both_true : (a b : Bool) → (a && b) ≡ true → (a ≡ true) × (b ≡ true)
both_true true b is = (refl, is)
both_true false b is = absurd (cc is)

pub not_true : (b : Bool) → not b ≡ true → b ≡ false
not_true true is = absurd (cc is)
not_true false is = refl

pub or_false : (a b : Bool) → (a || b) ≡ false → (a ≡ false) × (b ≡ false)
or_false true b is = absurd (cc is)
or_false false b is = (refl, is)

-- the name of an option's word
pub named_option : (names : List Text) (word : Text) → is_option names word ≡ true → (name : Text) × Among names name × (option_word name ≡ word)
named_option [] word is = absurd (cc is)
named_option (first ∷ names) word is = by_test (λ found. named_option names word found) (bytes_eq (option_word first) word) refl is
  where
    by_test : (is_option names word ≡ true → (name : Text) × Among names name × (option_word name ≡ word)) → (b : Bool) → bytes_eq (option_word first) word ≡ b → (b || is_option names word) ≡ true
        → (name : Text) × (Among (first ∷ names) name) × (option_word name ≡ word)
    by_test later true same found = (first, inl refl, is_same (option_word first) word same)
    by_test later false apart found =
        let rest = later found in (rest.0, inr rest.1, rest.2)

-- a word that isn't dashed and its rest
undashed : (names arguments words : List Text) (word : Text) → IsLeft names arguments (word ∷ words) → is_dashed word ≡ false
    → ((others : List Text) → IsLeft names others words → (pairs : List (Text × Text)) × Split names others words pairs) → (pairs : List (Text × Text)) × Split names arguments (word ∷ words) pairs
undashed names [] words word left no_dash more =
    let named : named_words (word ∷ words) ≡ word ∷ named_words words = rw no_dash refl in
    let few : length (word ∷ named_words words) ≤ 0 = subst (λ (ws : List Text). length ws ≤ 0) named left.few in
    absurd (omega arith)
undashed names (id ∷ others) words word left no_dash more =
    let named : named_words (word ∷ words) ≡ word ∷ named_words words = rw no_dash refl in
    let few : length (word ∷ named_words words) ≤ length (id ∷ others) = subst (λ (ws : List Text). length ws ≤ length (id ∷ others)) named left.few in
    let some : (not (length word == 0) ≡ true) × (has_no_empty words ≡ true) = both_true _ _ left.some in
    let found = more others (record { some = some.1; known = (both_true _ _ left.known).1; values = (both_true _ _ left.values).1; few = omega arith }) in
    ((id, word) ∷ found.0, argument_first others words found.0 id word (record { some = not_true _ some.0; no_dash = no_dash }) found.1)

pub split : (names arguments words : List Text) → IsLeft names arguments words → (pairs : List (Text × Text)) × Split names arguments words pairs
split names arguments [] left = ([], nothing arguments)
split names arguments (word ∷ []) left = by_dash (is_dashed word) refl
  where
    by_dash : (b : Bool) → is_dashed word ≡ b → (pairs : List (Text × Text)) × Split names arguments (word ∷ []) pairs
    by_dash true dash =
        let bad : false ≡ true = rw dash at left.values in absurd (cc bad)
    by_dash false no_dash = undashed names arguments [] word left no_dash (λ others rest. ([], nothing others))
split names arguments (word ∷ next ∷ words) left =
    by_dash (λ others rest. split names others (next ∷ words) rest) (λ rest. split names arguments words rest) (is_dashed word) refl
  where
    by_dash : ((others : List Text) → IsLeft names others (next ∷ words) → (pairs : List (Text × Text)) × Split names others (next ∷ words) pairs)
        → (IsLeft names arguments words → (pairs : List (Text × Text)) × Split names arguments words pairs)
        → (b : Bool) → is_dashed word ≡ b → (pairs : List (Text × Text)) × Split names arguments (word ∷ next ∷ words) pairs
    by_dash next_more more true dash =
        let known : ((not (is_dashed word) || is_option names word) ≡ true) × (has_known_options names (next ∷ words) ≡ true) = both_true _ _ left.known in
        let values : ((not (is_dashed word) || not (is_dashed next)) ≡ true) × (has_values (next ∷ words) ≡ true) = both_true _ _ left.values in
        let is_one : is_option names word ≡ true = rw dash at known.0 in
        let next_value : not (is_dashed next) ≡ true = rw dash at values.0 in
        let no_dash = not_true _ next_value in
        let some = both_true _ _ (both_true _ _ left.some).1 in
        let named : named_words (word ∷ next ∷ words) ≡ named_words words = rw (dash, no_dash) refl in
        let option = named_option names word is_one in
        let found = more (record { some = some.1; known = (both_true _ _ known.1).1; values = (both_true _ _ values.1).1; few = subst (λ (ws : List Text). length ws ≤ length arguments) named left.few }) in (
          (option.0, next) ∷ found.0,
          subst (λ (w : Text). Split names arguments (w ∷ next ∷ words) ((option.0, next) ∷ found.0)) option.2
              (option_first arguments words found.0 option.0 next option.1 (record { some = not_true _ some.0; no_dash = no_dash }) found.1),
        )
    by_dash next_more more false no_dash = undashed names arguments (next ∷ words) word left no_dash next_more
