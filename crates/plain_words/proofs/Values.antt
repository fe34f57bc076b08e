-- The values of plain words: each belongs to another option or argument, and is found under its name.
use Rattle.std.proofs.Common.{◌≡◌, ℕ, zero, suc, Bool, true, false, cond, ◌||◌, not, List, [], ◌∷◌, ◌++◌, map, Option, Some, None, refl, sym, ◌∙◌, ap, subst}
use Rattle.std.specs.List.{list_any, find, slice_get, AllByRecursion}
use Rattle.std.specs.Option.{option_and_then}
use Rattle.std.specs.Str.{bytes_eq}
use Rattle.std.proofs.lemmas.Bool.{false_from_ne_true}
use Rattle.std.proofs.lemmas.Slice.Eq.{bytes_eq-Decides}
use Rattle.std.proofs.lemmas.Option.{same_Some}
use Rattle.clap.specs.Walk.{Row, first_of}
use Rattle.plain_words.specs.Form.{Text, are_different}
use Rattle.plain_words.specs.Rules.{is_dashed, option_word, has_options_once, named_words, option_value}
use Rattle.plain_words.proofs.Walks.{AreApart, row_of_value}
use Rattle.plain_words.proofs.Steps.{same_text}
use Rattle.plain_words.proofs.Split.{Among, of_among, IsValueWord, Split, nothing, option_first, argument_first, both_true, not_true, or_false}
use Rattle.plain_words.proofs.Found.{Avoids, Distinct}

turned : (text other : Text) → bytes_eq text other ≡ false → bytes_eq other text ≡ false
turned text other apart = false_from_ne_true (bytes_eq other text) (λ same. cc (apart, (bytes_eq-Decides text other).1 (sym ((bytes_eq-Decides other text).0 same))))

none_of : (p : Text → Bool) (texts : List Text) → list_any p texts ≡ false → AllByRecursion (λ text. p text ≡ false) texts
none_of p [] none = tt
none_of p (text ∷ texts) none =
    let both = or_false _ _ none in (both.0, none_of p texts both.1)

front_of : (P : Text → Type 0) (xs ys : List Text) → AllByRecursion P (xs ++ ys) → AllByRecursion P xs
front_of P [] ys all = tt
front_of P (x ∷ xs) ys all = (all.0, front_of P xs ys all.1)

back_of : (P : Text → Type 0) (xs ys : List Text) → AllByRecursion P (xs ++ ys) → AllByRecursion P ys
back_of P [] ys all = all
back_of P (x ∷ xs) ys all = back_of P xs ys all.1

at_place : (P : Text → Type 0) (texts : List Text) (k : ℕ) (text : Text) → AllByRecursion P texts → slice_get texts k ≡ Some text → P text
at_place P [] k text all is = absurd (cc is)
at_place P (first ∷ texts) zero text all is = subst P (same_Some first text is) all.0
at_place P (first ∷ texts) (suc k) text all is = at_place P texts k text all.1 is

-- arguments and options have different names
pub record AreNamedApart (names arguments : List Text) : Type 0 where
  pub distinct : Distinct arguments
  pub apart : AllByRecursion (λ id. (name : Text) → Among names name → bytes_eq id name ≡ false) arguments

pub named_apart : (names arguments : List Text) → are_different (arguments ++ names) ≡ true → AreNamedApart names arguments
named_apart names [] different = record { distinct = tt; apart = tt }
named_apart names (id ∷ arguments) different =
    let both = both_true (not (list_any (bytes_eq id) (arguments ++ names))) (are_different (arguments ++ names)) different in
    let none = none_of (bytes_eq id) (arguments ++ names) (not_true _ both.0) in
    let rest = named_apart names arguments both.1 in
    record {
      distinct = (front_of (λ other. bytes_eq id other ≡ false) arguments names none, rest.distinct);
      apart = (λ name among. of_among (λ other. bytes_eq id other ≡ false) names name (back_of (λ other. bytes_eq id other ≡ false) arguments names none) among, rest.apart);
    }

tail_apart : (names arguments : List Text) (id : Text) → AreNamedApart names (id ∷ arguments) → AreNamedApart names arguments
tail_apart names arguments id apart = record { distinct = apart.distinct.1; apart = apart.apart.1 }

pub ids_avoid : (names arguments : List Text) (name : Text) → AreNamedApart names arguments → Among names name → AllByRecursion (λ id. bytes_eq id name ≡ false) arguments
ids_avoid names [] name apart among = tt
ids_avoid names (id ∷ arguments) name apart among = (apart.apart.0 name among, ids_avoid names arguments name (tail_apart names arguments id apart) among)

name_avoids : (names arguments : List Text) (name : Text) → AreNamedApart names arguments → Among names name → Avoids name arguments
name_avoids names [] name apart among = tt
name_avoids names (id ∷ arguments) name apart among = (turned id name (apart.apart.0 name among), name_avoids names arguments name (tail_apart names arguments id apart) among)

abbrev Lacks : Text → List (Text × Text) → Type 0
Lacks id pairs = AllByRecursion (λ pair. bytes_eq id pair.0 ≡ false) pairs

option_lacks : (names arguments words : List Text) (pairs : List (Text × Text)) (name : Text) → Split names arguments words pairs → list_any (bytes_eq (option_word name)) words ≡ false
    → Avoids name arguments → Lacks name pairs
option_lacks names arguments words pairs name (nothing _) none avoids = tt
option_lacks names arguments words pairs name (option_first _ rest others other value among is split) none avoids =
    let both : (bytes_eq name other ≡ false) × (list_any (bytes_eq (option_word name)) (value ∷ rest) ≡ false) = or_false _ _ none in
    let later : (bytes_eq (option_word name) value ≡ false) × (list_any (bytes_eq (option_word name)) rest ≡ false) = or_false _ _ both.1 in
    (both.0, option_lacks names arguments rest others name split later.1 avoids)
option_lacks names arguments words pairs name (argument_first later rest others id word is split) none avoids =
    let both : (bytes_eq (option_word name) word ≡ false) × (list_any (bytes_eq (option_word name)) rest ≡ false) = or_false _ _ none in
    (avoids.0, option_lacks names later rest others name split both.1 avoids.1)

argument_lacks : (names arguments words : List Text) (pairs : List (Text × Text)) (id : Text) → Split names arguments words pairs → ((name : Text) → Among names name → bytes_eq id name ≡ false)
    → Avoids id arguments → Lacks id pairs
argument_lacks names arguments words pairs id (nothing _) apart avoids = tt
argument_lacks names arguments words pairs id (option_first _ rest others other value among is split) apart avoids =
    (apart other among, argument_lacks names arguments rest others id split apart avoids)
argument_lacks names arguments words pairs id (argument_first later rest others other word is split) apart avoids =
    (avoids.0, argument_lacks names later rest others id split apart avoids.1)

pub values_apart : (names arguments words : List Text) (pairs : List (Text × Text)) → AreNamedApart names arguments → has_options_once words ≡ true → Split names arguments words pairs → AreApart pairs
values_apart names arguments words pairs apart once (nothing _) = tt
values_apart names arguments words pairs apart once (option_first _ rest others name value among is split) =
    let both : (not (list_any (bytes_eq (option_word name)) (value ∷ rest)) ≡ true) × (has_options_once (value ∷ rest) ≡ true) = both_true _ _ once in
    let none : (bytes_eq (option_word name) value ≡ false) × (list_any (bytes_eq (option_word name)) rest ≡ false) = or_false _ _ (not_true _ both.0) in
    let later : ((not (is_dashed value) || not (list_any (bytes_eq value) rest)) ≡ true) × (has_options_once rest ≡ true) = both_true _ _ both.1 in
    (option_lacks names arguments rest others name split none.1 (name_avoids names arguments name apart among), values_apart names arguments rest others apart later.1 split)
values_apart names arguments words pairs apart once (argument_first after rest others id word is split) =
    let both : ((not (is_dashed word) || not (list_any (bytes_eq word) rest)) ≡ true) × (has_options_once rest ≡ true) = both_true _ _ once in
    (argument_lacks names after rest others id split apart.apart.0 apart.distinct.0, values_apart names after rest others (tail_apart names after id apart) both.1 split)

-- the value that a list of pairs has under a name
abbrev pub value_in : Text → List (Text × Text) → Option Text
value_in id [] = None
value_in id (pair ∷ pairs) = cond (bytes_eq pair.0 id) (Some pair.1) (value_in id pairs)

pub value_in_rows : (id : Text) (pairs : List (Text × Text)) → first_of id (map row_of_value pairs) ≡ value_in id pairs
value_in_rows id [] = refl
value_in_rows id (pair ∷ pairs) = by_test (value_in_rows id pairs) (bytes_eq pair.0 id)
  where
    by_test : first_of id (map row_of_value pairs) ≡ value_in id pairs → (b : Bool)
        → option_and_then (λ (row : Row). slice_get row.values 0) (cond b (Some (row_of_value pair)) (find (λ row. bytes_eq row.id id) (map row_of_value pairs))) ≡ cond b (Some pair.1) (value_in id pairs)
    by_test later true = refl
    by_test later false = later

-- a value is no option
value_apart : (name value : Text) → IsValueWord value → bytes_eq value (option_word name) ≡ false
value_apart name [] is = refl
value_apart name (first ∷ rest) is =
    let apart = is.no_dash in rw apart refl

pub option_given : (names arguments words : List Text) (pairs : List (Text × Text)) (name : Text) → AllByRecursion (λ id. bytes_eq id name ≡ false) arguments → Split names arguments words pairs
    → value_in name pairs ≡ option_value name words
option_given names arguments words pairs name apart (nothing _) = refl
option_given names arguments words pairs name apart (option_first _ rest others other value among is split) =
    ap (λ (found : Option Text). cond (bytes_eq other name) (Some value) found)
    (option_given names arguments rest others name apart split ∙ sym (ap (λ b. cond b (slice_get rest 0) (option_value name rest)) (value_apart name value is)))
option_given names arguments words pairs name apart (argument_first later rest others id word is split) =
    ap (λ b. cond b (Some word) (value_in name others)) apart.0
    ∙ (option_given names later rest others name apart.1 split ∙ sym (ap (λ b. cond b (slice_get rest 0) (option_value name rest)) (value_apart name word is)))

named_behind : (name value : Text) (words : List Text) → IsValueWord value → named_words (option_word name ∷ value ∷ words) ≡ named_words words
named_behind name value words is =
    let apart = is.no_dash in rw apart refl

named_first : (word : Text) (words : List Text) → IsValueWord word → named_words (word ∷ words) ≡ word ∷ named_words words
named_first word words is =
    let apart = is.no_dash in rw apart refl

pub argument_given : (names arguments words : List Text) (pairs : List (Text × Text)) (k : ℕ) (id : Text) → AreNamedApart names arguments → slice_get arguments k ≡ Some id → Split names arguments words pairs
    → value_in id pairs ≡ slice_get (named_words words) k
argument_given names arguments words pairs k id apart there (nothing _) = refl
argument_given names arguments words pairs k id apart there (option_first _ rest others name value among is split) =
    ap (λ b. cond b (Some value) (value_in id others)) (at_place (λ other. bytes_eq name other ≡ false) arguments k id (name_avoids names arguments name apart among) there)
    ∙ (argument_given names arguments rest others k id apart there split ∙ sym (ap (λ (words : List Text). slice_get words k) (named_behind name value rest is)))
argument_given names arguments words pairs zero id apart there (argument_first later rest others first word is split) =
    let same : bytes_eq first id ≡ true = subst (λ (other : Text). bytes_eq first other ≡ true) (same_Some first id there) (same_text first) in
    ap (λ b. cond b (Some word) (value_in id others)) same ∙ sym (ap (λ (words : List Text). slice_get words 0) (named_first word rest is))
argument_given names arguments words pairs (suc k) id apart there (argument_first later rest others first word is split) =
    ap (λ b. cond b (Some word) (value_in id others)) (at_place (λ other. bytes_eq first other ≡ false) later k id apart.distinct.0 there)
    ∙ (argument_given names later rest others k id (tail_apart names later first apart) there split ∙ sym (ap (λ (words : List Text). slice_get words (suc k)) (named_first word rest is)))
