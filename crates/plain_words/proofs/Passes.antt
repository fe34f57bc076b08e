-- Plain words pass, where a later use of an argument may replace an earlier one.
use Rattle.std.proofs.Common.{◌≡◌, ℕ, ◌+◌, Bool, true, false, ◌&&◌, ◌||◌, not, List, [], ◌∷◌, Option, Some, None, refl, sym, ◌∙◌, ap, subst, min, fold}
use Rattle.clap.specs.Lexer.{usize_max}
use Rattle.clap.specs.Walk.{Rule, Text, Names, Held, Walk, walk, walk_from, settled, nothing_held, arg_by_id, arg_by_index, has_row, is_pending, finished, idle, option}
use Rattle.std.specs.Prelude.{map, is_some}
use Rattle.std.specs.List.{list_all}
use Rattle.clap.specs.Takes.{settle_passes, turn_passes, walk_passes, default_passes, level_passes, entered_passes, takes}
use Rattle.clap.specs.Simple.{App, Shape, built, argument_words, is_simple, names_of, label_of, entered}
use Rattle.plain_words.proofs.Walks.{nothing, with_option, with_argument, text_rule, IsValue, IsOption, Plain, IsTable, with_value}
use Rattle.plain_words.proofs.Steps.{at, and_false, option_step, walk_at, end_of, value_step, argument_step}

or_true : (b : Bool) → (b || true) ≡ true
or_true true = refl
or_true false = refl

-- what is pending passes
abbrev pub Settles : List Rule → Held → Type 0
Settles rules held = settle_passes rules true held ≡ true

pub settles_value : (rules : List Rule) (held : Held) (id value : Text) (long : Option Text) (index : Option ℕ) → arg_by_id rules id ≡ Some (text_rule id long index)
    → Settles rules (with_value rules held (id, value))
settles_value rules held id value long index by_id =
    let e = or_true (not (has_row id (settled rules held).rows)) in
    rw (by_id, e) refl

pub option_passes : (s : Shape) (held : Held) (position : ℕ) (word id : Text) → s.args_override_self ≡ true → IsOption s.rules word id → Settles s.rules held → turn_passes s [] (at held idle position) word ≡ true
option_passes s held position word id again is settles =
    let e1 = is.no_end in
    let e2 = is.is_long in
    let e3 = is.named in
    rw (again, e1, e2, e3, settles) refl

pub value_passes : (s : Shape) (held : Held) (position : ℕ) (id value : Text) (long : Option Text) → IsValue value → arg_by_id s.rules id ≡ Some (text_rule id long None)
    → turn_passes s [] (at (record { rows = held.rows; pending = Some (id, []); skip = held.skip }) (option id) position) value ≡ true
value_passes s held position id value long is by_id =
    let e1 = is.no_end in
    let e2 = is.no_long in
    let e3 = is.no_short in
    rw (e1, e2, e3) refl

pub argument_passes : (s : Shape) (held : Held) (position : ℕ) (id value : Text) → s.args_override_self ≡ true → IsValue value → arg_by_index s.rules position ≡ Some (text_rule id None (Some position)) → Settles s.rules held
    → turn_passes s [] (at held idle position) value ≡ true
argument_passes s held position id value again is by_index settles =
    let e1 = is.no_end in
    let e2 = is.no_long in
    let e3 = is.no_short in
    let e4 = and_false (is_pending (text_rule id None (Some position)) held.pending) in
    rw (again, e1, e2, e3, by_index, e4, settles) refl

pub both : (a b : Bool) → a ≡ true → b ≡ true → (a && b) ≡ true
both a b is also = ap (λ (x : Bool). x && b) is ∙ also

pub plain_passes : (s : Shape) (position : ℕ) (words : List Text) (pairs : List (Text × Text)) (held : Held) → s.args_override_self ≡ true → Plain s.rules position words pairs → Settles s.rules held
    → walk_passes s [] (at held idle position) words ≡ true
unfolding walk_passes
plain_passes s position words pairs held again (nothing _) settles = refl
plain_passes s position words pairs held again (with_option _ word id value others rest is_option is_value plain) settles =
    let after : Held = record { rows = (settled s.rules held).rows; pending = Some (id, []); skip = held.skip } in
    both (turn_passes s [] (at held idle position) word) _ (option_passes s held position word id again is_option settles)
    (ap (λ (w : Walk). walk_passes s [] w (value ∷ others)) (option_step s.rules held position word id is_option)
    ∙ both (turn_passes s [] (at after (option id) position) value) _ (value_passes s after position id value is_option.long is_value is_option.by_id)
    (ap (λ (w : Walk). walk_passes s [] w others) (value_step s.rules after position id value is_option.long is_value is_option.by_id)
    ∙ plain_passes s position others rest (with_value s.rules held (id, value)) again plain (settles_value s.rules held id value is_option.long None is_option.by_id)))
plain_passes s position words pairs held again (with_argument _ id value others rest is_value by_index by_id plain) settles =
    both (turn_passes s [] (at held idle position) value) _ (argument_passes s held position id value again is_value by_index settles)
    (ap (λ (w : Walk). walk_passes s [] w others) (argument_step s.rules held position id value is_value by_index)
    ∙ plain_passes s (min (position + 1) usize_max) others rest (with_value s.rules held (id, value)) again plain (settles_value s.rules held id value None (Some position) by_id))

settles_pairs : (rules : List Rule) (position : ℕ) (words : List Text) (pairs : List (Text × Text)) (held : Held) → Plain rules position words pairs → Settles rules held → Settles rules (fold (with_value rules) held pairs)
settles_pairs rules position words pairs held (nothing _) settles = settles
settles_pairs rules position words pairs held (with_option _ word id value others rest is_option is_value plain) settles =
    settles_pairs rules position others rest (with_value rules held (id, value)) plain (settles_value rules held id value is_option.long None is_option.by_id)
settles_pairs rules position words pairs held (with_argument _ id value others rest is_value by_index by_id plain) settles =
    settles_pairs rules (min (position + 1) usize_max) others rest (with_value rules held (id, value)) plain (settles_value rules held id value None (Some position) by_id)

-- a table's command takes plain words
pub table_takes : (a : App) (words : List Text) (pairs : List (Text × Text)) → IsTable a → Plain (built a).top.rules 1 (argument_words a words) pairs → takes a words ≡ true
table_takes a words pairs table plain =
    let s = (built a).top in
    let rest = argument_words a words in
    let ends : walk s.rules [] nothing_held rest ≡ at (fold (with_value s.rules) nothing_held pairs) idle (end_of 1 plain) = walk_at s.rules 1 rest pairs nothing_held plain in
    let settles : Settles s.rules (walk s.rules [] nothing_held rest).held = subst (λ (w : Walk). Settles s.rules w.held) (sym ends) (settles_pairs s.rules 1 rest pairs nothing_held plain refl) in
    let stop : (walk s.rules [] nothing_held rest).stopped ≡ None = ap (λ (w : Walk). w.stopped) ends in
    let names : names_of (built a) ≡ [] = ap (λ (subs : List Shape). map label_of subs) table.no_subs in
    let passes : walk_passes s [] (walk_from nothing_held) rest ≡ true = plain_passes s 1 rest pairs nothing_held table.again plain refl in
    both (is_simple a) _ table.simple
    (subst (λ (ns : Names). (entered_passes (built a) (walk s.rules ns nothing_held rest).stopped && level_passes s ns nothing_held rest (is_some (entered (built a) (walk s.rules ns nothing_held rest).stopped))) ≡ true) (sym names)
    (subst (λ (o : Option (Text × List Text)). (entered_passes (built a) o && level_passes s [] nothing_held rest (is_some (entered (built a) o))) ≡ true) (sym stop)
    (both (walk_passes s [] (walk_from nothing_held) rest) _ passes
    (both (settle_passes s.rules s.args_override_self (walk s.rules [] nothing_held rest).held) _ (subst (λ (b : Bool). settle_passes s.rules b (walk s.rules [] nothing_held rest).held ≡ true) (sym table.again) settles)
    (both (list_all default_passes s.rules) _ table.defaults (table.valid (finished s.rules (walk s.rules [] nothing_held rest).held)))))))
