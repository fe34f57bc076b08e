-- One argument more of a command that is being declared.
use Rattle.std.proofs.Common.{◌≡◌, ℕ, ◌+◌, ◌<◌, ◌∙◌, ◌++◌, List, [], ◌∷◌, length, get_or, map, take, ap, ap₂, sym, append_assoc}
use Rattle.std.proofs.lemmas.List.{map_more}
use Rattle.clap.specs.Walk.{Rule}
use Rattle.clap.specs.Simple.{App, with_rule}
use Rattle.plain_words.specs.App.{app_with}
use Rattle.plain_words.specs.Form.{Text}

pub one_more : {X : Type 0} (f : X → Rule) (word : Text) (before : List Rule) (xs : List X) (i : ℕ) (d : X) (old new : App) (rule : Rule) → i < length xs
    → old ≡ app_with word (before ++ map f (take i xs)) → new ≡ with_rule old rule → rule ≡ f (get_or xs i d)
    → new ≡ app_with word (before ++ map f (take (i + 1) xs))
one_more f word before xs i d old new rule within old_is new_is rule_is =
    new_is ∙ ap₂ with_rule old_is rule_is
    ∙ ap (λ (rules : List Rule). app_with word rules) (append_assoc before (map f (take i xs)) (f (get_or xs i d) ∷ []) ∙ ap (λ (rules : List Rule). before ++ rules) (sym (map_more f xs i d within)))
