-- The verdict of bytes, and where their records lead.
use Rattle.std.proofs.Common.{◌≡◌, ℕ, ◌+◌, Bool, true, false, cond, List, [], ◌∷◌, length, refl, sym, ◌∙◌, ap, subst, Option, Some, None, Result, Ok, Err}
use Rattle.pair_prices.specs.Case.{CaseRecord}
use Rattle.leaf_bounds.specs.declared.tree.Bound.{Bound}
use Rattle.proof_file.specs.declared.record.ProofRecord.{ProofRecord}
use Rattle.proof_file.specs.declared.fault.ReaderFault.{ReaderFault}
use Rattle.proof_file.specs.Reading.{open_line, records_of, fault_of}
use Rattle.proof_file.specs.Whole.{IsReadAs}
use Rattle.proof_rules.specs.declared.refused.ProofKind.TheVariants.{Trail, Cut}
use Rattle.proof_rules.specs.declared.refused.ProofRefused.{ProofRefused}
use Rattle.proof_rules.specs.Fault.{State, start}
use Rattle.proof_rules.specs.Verdict.{refused, going_on, walked, is_more, line_refusal, behind_refusal, unless_refused, standing, concluded, verdict}
use Rattle.proof_rules.proofs.WalkLemmas.{Goes}

-- what these records come to, with this fault and this line that isn't whole behind them
abbrev outcome : CaseRecord → List ProofRecord → Option ReaderFault → List ℕ → Result Bound ProofRefused
outcome c records fault text =
    concluded (length records + 1)
    (going_on (walked c start 1 records) (λ s. unless_refused s (behind_refusal s (length records + 1) fault text)))

verdict_is : (c : CaseRecord) (bytes : List ℕ) → verdict c bytes ≡ outcome c (records_of bytes) (fault_of bytes) (open_line bytes)
unfolding verdict standing
verdict_is c bytes = refl

over_concluded : (n : ℕ) (s : State) → s.is_over ≡ true → concluded n (unless_refused s (behind_refusal s n None [])) ≡ Ok s.least
over_concluded n s e =
    ap (λ b. concluded n (unless_refused s (cond b None None))) e ∙ ap (λ b. cond b (Ok s.least) (Err (refused Cut n))) e

pub verdict_by : (c : CaseRecord) (bytes : List ℕ) (records : List ProofRecord) (t : State) → IsReadAs bytes records → Goes c start records t → t.is_over ≡ true
    → verdict c bytes ≡ Ok t.least
verdict_by c bytes records t h g e =
    let read = h.read in
    let none = h.none in
    let ended = h.ended in
    let same : outcome c (records_of bytes) (fault_of bytes) (open_line bytes) ≡ outcome c records None [] = λ i. outcome c (read i) (none i) (ended i) in
    verdict_is c bytes ∙ same
    ∙ ap (λ a. concluded (length records + 1) (going_on a (λ s. unless_refused s (behind_refusal s (length records + 1) None [])))) (g 1)
    ∙ over_concluded (length records + 1) t e

-- bytes that come to a bound
pub record IsJudged (c : CaseRecord) (bound : Bound) (records : List ProofRecord) (fault : Option ReaderFault) (text : List ℕ) : Type 0 where
  pub final : State
  pub walk : walked c start 1 records ≡ Ok final
  pub over : final.is_over ≡ true
  pub least : final.least ≡ bound
  pub none : fault ≡ None
  pub ended : text ≡ []

record IsQuiet (fault : Option ReaderFault) (text : List ℕ) : Type 0 where
  none : fault ≡ None
  ended : text ≡ []

quiet : (fault : Option ReaderFault) (text : List ℕ) (r : ProofRefused) → cond (is_more fault text) (Some r) None ≡ None → IsQuiet fault text
quiet (Some f) text r e = absurd (cc e)
quiet None [] r e = record { none = refl; ended = refl }
quiet None (byte ∷ text) r e = absurd (cc e)

record IsLast (s : State) (bound : Bound) : Type 0 where
  over : s.is_over ≡ true
  least : s.least ≡ bound

last_is : (s : State) (bound : Bound) (r : ProofRefused) (b : Bool) → s.is_over ≡ b → cond b (Ok s.least) (Err r) ≡ Ok bound → IsLast s bound
last_is s bound r true i e = record { over = i; least = cc (e) }
last_is s bound r false i e = absurd (cc e)

module _ (c : CaseRecord) (bound : Bound) (records : List ProofRecord) (fault : Option ReaderFault) (text : List ℕ) where
  by_refusal : (s : State) (o : Option ProofRefused) → walked c start 1 records ≡ Ok s → behind_refusal s (length records + 1) fault text ≡ o
      → concluded (length records + 1) (unless_refused s o) ≡ Ok bound → IsJudged c bound records fault text
  by_refusal s (Some r) w i e = absurd (cc e)
  by_refusal s None w i e =
      let last = last_is s bound (refused Cut (length records + 1)) s.is_over refl e in
      let n = length records + 1 in
      let P : Bool → Type 0 = λ b. cond b (cond (is_more fault text) (Some (refused Trail n)) None) (line_refusal fault) ≡ None in
      let silent = quiet fault text (refused Trail n) (subst P last.over i) in
      record { final = s; walk = w; over = last.over; least = last.least; none = silent.none; ended = silent.ended }

  by_walk : (a : Result State ProofRefused) → walked c start 1 records ≡ a
      → concluded (length records + 1) (going_on a (λ s. unless_refused s (behind_refusal s (length records + 1) fault text))) ≡ Ok bound
      → IsJudged c bound records fault text
  by_walk (Err r) w e = absurd (cc e)
  by_walk (Ok s) w e = by_refusal s (behind_refusal s (length records + 1) fault text) w refl e

pub verdict_judged : (c : CaseRecord) (bound : Bound) (bytes : List ℕ) → verdict c bytes ≡ Ok bound
    → IsJudged c bound (records_of bytes) (fault_of bytes) (open_line bytes)
verdict_judged c bound bytes e =
    by_walk c bound (records_of bytes) (fault_of bytes) (open_line bytes) (walked c start 1 (records_of bytes)) refl (sym (verdict_is c bytes) ∙ e)
