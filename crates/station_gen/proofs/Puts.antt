-- One more member of an object.
use Rattle.std.proofs.Common.{◌≡◌, ℕ, List, ap, ◌∙◌}
use Rattle.serde_json.specs.Data.{Data, Members, put}

pub put_step : (key : List ℕ) (v d : Data) (old new wanted : Members) → new ≡ put key v old → v ≡ d → old ≡ wanted → new ≡ put key d wanted
put_step key v d old new wanted grown is so_far = grown ∙ ap (λ e. put key e old) is ∙ ap (put key d) so_far
