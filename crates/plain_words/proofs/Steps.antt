-- What the walk makes of an option with its value, and of a named argument.
use Rattle.std.proofs.Common.{◌≡◌, ℕ, ◌+◌, Bool, true, false, ◌&&◌, List, [], ◌∷◌, Option, Some, None, refl, ◌∙◌, ap, min, fold}
use Rattle.std.specs.Str.{bytes_eq}
use Rattle.std.proofs.lemmas.Slice.Eq.{bytes_eq-Decides}
use Rattle.clap.specs.Lexer.{usize_max}
use Rattle.clap.specs.Walk.{Rule, Text, Held, Walk, Waiting, walked, settled, arg_by_id, arg_by_index, is_pending, idle, option}
use Rattle.plain_words.proofs.Walks.{nothing, with_option, with_argument, text_rule, IsValue, IsOption, Plain, with_value}

pub same_text : (xs : Text) → bytes_eq xs xs ≡ true
same_text xs = (bytes_eq-Decides xs xs).1 refl

pub and_false : (b : Bool) → (b && false) ≡ false
and_false true = refl
and_false false = refl

abbrev pub at : Held → Waiting → ℕ → Walk
at held waiting position = record { held = held; waiting = waiting; position = position; is_trailing = false; stopped = None }

pub option_step : (rules : List Rule) (held : Held) (position : ℕ) (word id : Text) → IsOption rules word id
    → walked rules [] (at held idle position) word ≡ at (record { rows = (settled rules held).rows; pending = Some (id, []); skip = held.skip }) (option id) position
unfolding walked
option_step rules held position word id is =
    let e1 = is.no_end in
    let e2 = is.is_long in
    let e3 = is.named in
    rw (e1, e2, e3) refl

pub value_step : (rules : List Rule) (held : Held) (position : ℕ) (id value : Text) (long : Option Text) → IsValue value → arg_by_id rules id ≡ Some (text_rule id long None)
    → walked rules [] (at (record { rows = held.rows; pending = Some (id, []); skip = held.skip }) (option id) position) value
    ≡ at (record { rows = held.rows; pending = Some (id, value ∷ []); skip = held.skip }) idle position
unfolding walked
value_step rules held position id value long is by_id =
    let e1 = is.no_end in
    let e2 = is.no_long in
    let e3 = is.no_short in
    let e4 = same_text id in
    rw (e1, e2, e3, by_id, e4) refl

pub argument_step : (rules : List Rule) (held : Held) (position : ℕ) (id value : Text) → IsValue value → arg_by_index rules position ≡ Some (text_rule id None (Some position))
    → walked rules [] (at held idle position) value ≡ at (with_value rules held (id, value)) idle (min (position + 1) usize_max)
unfolding walked
argument_step rules held position id value is by_index =
    let e1 = is.no_end in
    let e2 = is.no_long in
    let e3 = is.no_short in
    let e4 = and_false (is_pending (text_rule id None (Some position)) held.pending) in
    rw (e1, e2, e3, by_index, e4) refl

-- the position after plain words
pub end_of : {rules : List Rule} (position : ℕ) {words : List Text} {pairs : List (Text × Text)} → Plain rules position words pairs → ℕ
end_of position (nothing _) = position
end_of position (with_option _ word id value others rest is_option is_value plain) = end_of position plain
end_of position (with_argument _ id value others rest is_value by_index by_id plain) = end_of (min (position + 1) usize_max) plain

-- the walk over plain words
pub walk_at : (rules : List Rule) (position : ℕ) (words : List Text) (pairs : List (Text × Text)) (held : Held) (plain : Plain rules position words pairs)
    → fold (walked rules []) (at held idle position) words ≡ at (fold (with_value rules) held pairs) idle (end_of position plain)
unfolding end_of
walk_at rules position words pairs held (nothing _) = refl
walk_at rules position words pairs held (with_option _ word id value others rest is_option is_value plain) =
    ap (λ (w : Walk). fold (walked rules []) w others)
    (ap (λ (w : Walk). walked rules [] w value) (option_step rules held position word id is_option)
    ∙ value_step rules (record { rows = (settled rules held).rows; pending = Some (id, []); skip = held.skip }) position id value is_option.long is_value is_option.by_id)
    ∙ walk_at rules position others rest (with_value rules held (id, value)) plain
walk_at rules position words pairs held (with_argument _ id value others rest is_value by_index by_id plain) =
    ap (λ (w : Walk). fold (walked rules []) w others) (argument_step rules held position id value is_value by_index)
    ∙ walk_at rules (min (position + 1) usize_max) others rest (with_value rules held (id, value)) plain
