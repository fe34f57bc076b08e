use Rattle.std.proofs.Common.{ap, ◌∙◌, ◌∷◌, []}
use Rattle.patterns.specs.Allowed.{full_lists}
use Rattle.proof_check.proofs.WalkSteps.{new_sound}
use Rattle.proof_check.proofs.walk.Walk.new.Goals as goal

pub returns-clause-sound : goal.returns-clause-sound
returns-clause-sound c =
    new_sound c.args.case.now c.new.result c.in_ok-new.field-0 c.station-station.ensures.limits.book c.new.ensures
    (c.in_ok-new.ensures.due ∙ ap (λ b. full_lists b ∷ []) c.book.ensures) c.in_ok-new.ensures.open
