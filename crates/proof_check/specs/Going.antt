-- What a step of the checker answers.
use Rattle.std.specs.Prelude.{◌≡◌, ℕ, Bool, true, false, Option, Some, None, Result, Ok, Err}
use Rattle.proof_rules.specs.Fault.{Fault}
use Rattle.proof_rules.specs.declared.refused.ProofKind.TheVariants.{Place}
use Rattle.proof_check.specs.declared.stop.Stop.{Stop}
use Rattle.proof_check.specs.declared.stop.Stop.TheVariants.{Memory, Refused}
use Rattle.proof_check.specs.declared.refused.CheckFault.{CheckFault}
use Rattle.proof_check.specs.declared.refused.CheckFault.TheVariants.{Memory as NoMemory, Refused as RefusedAt}
use Rattle.proof_rules.specs.Verdict.{kind_of, refused}

-- Where it is due it is done, and else it is `Place`.
abbrev pub IsPlaced : Bool → Type 0 → Result (Unit {0}) Stop → Type 0
IsPlaced due Done (Ok done) = (due ≡ true) × Done
IsPlaced due Done (Err Memory) = Unit {0}
IsPlaced due Done (Err (Refused kind)) = (due ≡ false) × (kind ≡ Place)

-- It comes to that value, or is `Place` where there is none.
abbrev pub IsFound : {X : Type 0} → Option X → X → Result (Unit {0}) Stop → Type 0
IsFound o new (Ok done) = o ≡ Some new
IsFound o new (Err Memory) = Unit {0}
IsFound o new (Err (Refused kind)) = (o ≡ None) × (kind ≡ Place)

-- It comes to what the definition says, or to its refusal.
abbrev pub Follows : {S : Type 0} → Result S Fault → (S → Type 0) → Result (Unit {0}) Stop → Type 0
Follows (Ok s) Stands (Ok done) = Stands s
Follows (Ok s) Stands (Err Memory) = Unit {0}
Follows (Ok s) Stands (Err (Refused kind)) = ⊥
Follows (Err fault) Stands (Ok done) = ⊥
Follows (Err fault) Stands (Err Memory) = Unit {0}
Follows (Err fault) Stands (Err (Refused kind)) = kind ≡ kind_of fault

abbrev pub fault_at : ℕ → Stop → CheckFault
fault_at number Memory = NoMemory
fault_at number (Refused kind) = RefusedAt (refused kind number)

abbrev pub placed : Bool → Result (Unit {0}) Stop
placed true = Ok tt
placed false = Err (Refused Place)
