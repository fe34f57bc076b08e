-- The matches of plain words.
use Rattle.std.proofs.Common.{◌≡◌, ℕ, ◌+◌, Bool, true, false, cond, List, [], ◌∷◌, ◌++◌, Option, Some, None, refl, sym, ◌∙◌, ap, min, fold, map, append_assoc}
use Rattle.std.specs.Str.{bytes_eq}
use Rattle.std.specs.List.{AllByRecursion}
use Rattle.std.proofs.lemmas.List.{append-nil, map-append}
use Rattle.clap.specs.Lexer.{usize_max}
use Rattle.clap.specs.Walk.{Rule, Row, Text, Names, Held, Walk, walk, settled, nothing_held, arg_by_id, at_row, with_values, used, more_values, with_default, has_row, reading_by, rows_after}
use Rattle.clap.specs.Simple.{App, Shape, built, argument_words, matches_of, names_of, label_of}
use Rattle.clap.specs.declared.parser.matches.ValueSource.TheVariants.{CommandLine}
use Rattle.plain_words.proofs.Walks.{nothing, with_option, with_argument, text_rule, Plain, IsTable, with_value, row_of_value, AreApart, HaveNoDefaults}
use Rattle.plain_words.proofs.Steps.{walk_at}

-- no pair has this argument
abbrev Lacks : Text → List (Text × Text) → Type 0
Lacks id pairs = AllByRecursion (λ other. bytes_eq other.0 id ≡ false) pairs

at_new_row : (id : Text) (change : Row → List Row) (missing : List Row) (pairs : List (Text × Text)) → Lacks id pairs → at_row id change missing (map row_of_value pairs) ≡ map row_of_value pairs ++ missing
at_new_row id change missing [] lacks = refl
at_new_row id change missing (pair ∷ pairs) lacks =
    ap (λ (b : Bool). cond b (change (row_of_value pair) ++ map row_of_value pairs) (row_of_value pair ∷ at_row id change missing (map row_of_value pairs))) lacks.0
    ∙ ap (λ (rows : List Row). row_of_value pair ∷ rows) (at_new_row id change missing pairs lacks.1)

-- one value more
used_new : (id value : Text) (long : Option Text) (index : Option ℕ) (pairs : List (Text × Text)) → Lacks id pairs
    → used (text_rule id long index) (value ∷ []) (map row_of_value pairs) ≡ map row_of_value (pairs ++ (id, value) ∷ [])
used_new id value long index pairs lacks =
    ap (λ (rows : List Row). with_values id (reading_by (text_rule id long index)) CommandLine (value ∷ []) rows) (at_new_row id (λ _. []) [] pairs lacks ∙ append-nil (map row_of_value pairs))
    ∙ at_new_row id (more_values CommandLine (value ∷ [])) (row_of_value (id, value) ∷ []) pairs lacks
    ∙ sym (map-append row_of_value pairs ((id, value) ∷ []))

settled_value : (rules : List Rule) (held : Held) (id value : Text) (long : Option Text) (index : Option ℕ) (pairs : List (Text × Text)) → arg_by_id rules id ≡ Some (text_rule id long index)
    → (settled rules held).rows ≡ map row_of_value pairs → Lacks id pairs → (settled rules (with_value rules held (id, value))).rows ≡ map row_of_value (pairs ++ (id, value) ∷ [])
settled_value rules held id value long index pairs by_id before lacks =
    rw by_id (ap (λ (rows : List Row). used (text_rule id long index) (value ∷ []) rows) before ∙ used_new id value long index pairs lacks)

-- those before and those to come have no argument in common
abbrev Meet : List (Text × Text) → List (Text × Text) → Type 0
Meet before pairs = AllByRecursion (λ pair. Lacks pair.0 before) pairs

lacks_push : (id : Text) (before : List (Text × Text)) (pair : Text × Text) → Lacks id before → bytes_eq pair.0 id ≡ false → Lacks id (before ++ pair ∷ [])
lacks_push id [] pair lacks apart = (apart, tt)
lacks_push id (other ∷ before) pair lacks apart = (lacks.0, lacks_push id before pair lacks.1 apart)

meet_push : (before pairs : List (Text × Text)) (pair : Text × Text) → Meet before pairs → AllByRecursion (λ other. bytes_eq pair.0 other.0 ≡ false) pairs → Meet (before ++ pair ∷ []) pairs
meet_push before [] pair meet apart = tt
meet_push before (next ∷ pairs) pair meet apart = (lacks_push next.0 before pair meet.0 apart.0, meet_push before pairs pair meet.1 apart.1)

rows_plain : (rules : List Rule) (position : ℕ) (words : List Text) (pairs : List (Text × Text)) (held : Held) (before : List (Text × Text)) → Plain rules position words pairs
    → (settled rules held).rows ≡ map row_of_value before → Meet before pairs → AreApart pairs → (settled rules (fold (with_value rules) held pairs)).rows ≡ map row_of_value (before ++ pairs)
rows_plain rules position words pairs held before (nothing _) is meet apart = is ∙ ap (λ (ps : List (Text × Text)). map row_of_value ps) (sym (append-nil before))
rows_plain rules position words pairs held before (with_option _ word id value others rest is_option is_value plain) is meet apart =
    rows_plain rules position others rest (with_value rules held (id, value)) (before ++ (id, value) ∷ []) plain
    (settled_value rules held id value is_option.long None before is_option.by_id is meet.0) (meet_push before rest (id, value) meet.1 apart.0) apart.1
    ∙ ap (λ (ps : List (Text × Text)). map row_of_value ps) (append_assoc before ((id, value) ∷ []) rest)
rows_plain rules position words pairs held before (with_argument _ id value others rest is_value by_index by_id plain) is meet apart =
    rows_plain rules (min (position + 1) usize_max) others rest (with_value rules held (id, value)) (before ++ (id, value) ∷ []) plain
    (settled_value rules held id value None (Some position) before by_id is meet.0) (meet_push before rest (id, value) meet.1 apart.0) apart.1
    ∙ ap (λ (ps : List (Text × Text)). map row_of_value ps) (append_assoc before ((id, value) ∷ []) rest)

meet_nothing : (pairs : List (Text × Text)) → Meet [] pairs
meet_nothing [] = tt
meet_nothing (pair ∷ pairs) = (tt, meet_nothing pairs)

no_default : (rows : List Row) (rule : Rule) → rule.defaults ≡ [] → with_default rows rule ≡ rows
no_default rows rule none = by_row (has_row rule.id rows) refl
  where
    by_row : (b : Bool) → has_row rule.id rows ≡ b → with_default rows rule ≡ rows
    by_row true is = rw is refl
    by_row false is = rw (is, none) refl

no_defaults : (rules : List Rule) (rows : List Row) → HaveNoDefaults rules → fold with_default rows rules ≡ rows
no_defaults [] rows none = refl
no_defaults (rule ∷ rules) rows none = ap (λ (rs : List Row). fold with_default rs rules) (no_default rows rule none.0) ∙ no_defaults rules rows none.1

pub table_values : (a : App) (words : List Text) (pairs : List (Text × Text)) → IsTable a → HaveNoDefaults (built a).top.rules → AreApart pairs → Plain (built a).top.rules 1 (argument_words a words) pairs
    → matches_of a words ≡ map row_of_value pairs
table_values a words pairs table none apart plain =
    let s = (built a).top in
    let rest = argument_words a words in
    let names : names_of (built a) ≡ [] = ap (λ (subs : List Shape). map label_of subs) table.no_subs in
    ap (λ (ns : Names). rows_after s.rules ns rest) names
    ∙ no_defaults s.rules (settled s.rules (walk s.rules [] nothing_held rest).held).rows none
    ∙ ap (λ (w : Walk). (settled s.rules w.held).rows) (walk_at s.rules 1 rest pairs nothing_held plain)
    ∙ rows_plain s.rules 1 rest pairs nothing_held [] plain refl (meet_nothing pairs) apart
