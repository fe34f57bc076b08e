-- What the rules for records say of whole files.
use Rattle.std.specs.Prelude.{◌≡◌, ◌↔◌, ℕ, List, ◌++◌, Ok, Some}
use Rattle.pair_prices.specs.Case.{CaseRecord, IsCase}
use Rattle.leaf_bounds.specs.declared.tree.Bound.{Bound}
use Rattle.proof_file.specs.Accepted.{IsAccepted}
use Rattle.proof_rules.specs.Verdict.{verdict, refusal_of}
use Rattle.proof_rules.specs.declared.refused.ProofRefused.{ProofRefused}

-- The bytes come to a bound exactly where they are the text of a tree that stands, and of that bound.
abbrev pub AcceptedExactly : Type 0
AcceptedExactly =
    (c : CaseRecord) → IsCase c → (bound : Bound) (bytes : List ℕ) → (verdict c bytes ≡ Ok bound) ↔ IsAccepted c bound bytes

-- Further bytes leave a refusal as it is.
abbrev pub RefusalsStay : Type 0
RefusalsStay =
    (c : CaseRecord) (bytes piece : List ℕ) (r : ProofRefused) → refusal_of c bytes ≡ Some r → refusal_of c (bytes ++ piece) ≡ Some r
