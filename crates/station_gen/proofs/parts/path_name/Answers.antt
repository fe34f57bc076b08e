use Rattle.std.proofs.Common.{◌≡◌, ◌∙◌, List, ℕ, IfOk, subst}
use Rattle.station_gen.proofs.Names.{name_path}
use Rattle.station_gen.proofs.Ends.{named_as, path_text}
use Rattle.station_gen.proofs.parts.path_name.Goals as goal

pub new-requires : goal.new-requires
new-requires c =
    named_as _ _
    (c.as_bytes.ensures.value ∙ path_text _ _ _ c.args.direction c.args.platform c.args.way c.in_ok-text.ensures.ok c.direction_name.ensures c.letter.ensures)
    (name_path c.args.direction c.args.platform c.args.way c.requires.direction c.requires.platform)

pub returns : goal.returns
returns c =
    subst (λ (bs : List ℕ). IfOk c.new.result (λ n. n ≡ bs))
    (c.as_bytes.ensures.value ∙ path_text _ _ _ c.args.direction c.args.platform c.args.way c.in_ok-text.ensures.ok c.direction_name.ensures c.letter.ensures)
    c.new.ensures
