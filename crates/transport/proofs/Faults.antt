-- Which faults are handed on.
use Rattle.std.proofs.Common.{◌≡◌, ℤ, List, Result, Ok, Err, ap, sym, ◌∙◌, ◌↔◌, IsErrAnd}
use Rattle.transport.specs.declared.NoCouple.{NoCouple}
use Rattle.transport.specs.declared.NoCouple.TheVariants.{Memory, Scale}
use Rattle.transport.specs.Coupling.{IsTotalAbove}

same_fault : {X : Type 0} {f g : NoCouple} → ◌≡◌ {A = Result X NoCouple} (Err f) (Err g) → f ≡ g
same_fault h = cc

-- the fault of the total is handed on
pub handed_total : {X : Type 0} (r : Result X NoCouple) (f : NoCouple) (ws : List ℤ) (n : ℤ) → IsErrAnd r (λ g. g ≡ f) → (◌≡◌ {A = Result (Unit {0}) NoCouple} (Err f) (Err (Scale n))) ↔ IsTotalAbove ws n → (r ≡ Err (Scale n)) ↔ IsTotalAbove ws n
handed_total (Ok x) f ws n e s = absurd e
handed_total (Err g) f ws n e s =
    let into : NoCouple → Result (Unit {0}) NoCouple = λ z. Err z in
    (λ h. s.0 (ap into (sym e ∙ same_fault h)), λ h. let k = same_fault (s.1 h) in cc)

-- want of memory is no fault of the total, which is taken
pub handed_memory : {X : Type 0} (r : Result X NoCouple) (ws : List ℤ) (n : ℤ) → IsErrAnd r (λ g. g ≡ Memory) → (◌≡◌ {A = Result (Unit {0}) NoCouple} (Ok tt) (Err (Scale n))) ↔ IsTotalAbove ws n → (r ≡ Err (Scale n)) ↔ IsTotalAbove ws n
handed_memory (Ok x) ws n e s = absurd e
handed_memory (Err g) ws n e s = (λ h. let k : g ≡ Scale n = same_fault h in cc, λ h. let k = s.1 h in cc)
