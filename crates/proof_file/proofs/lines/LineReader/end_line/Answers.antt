use Rattle.std.proofs.Common.{◌≡◌, ◌∙◌, ◌+◌, ◌-◌, ◌^◌, ◌∷◌, ◌++◌, [], Err, ap, min, refl, subst, sym}
use Rattle.proof_file.specs.declared.fault.ReaderFault.{ReaderFault}
use Rattle.proof_file.specs.declared.lines.LineReader.{LineReader}
use Rattle.proof_file.specs.Reading.{fault_at, version_after}
use Rattle.proof_file.specs.Reader.{ReadsOn}
use Rattle.proof_file.proofs.StepLemmas.{ends_line, refuses_line}
use Rattle.proof_file.proofs.lines.LineReader.end_line.Goals as goal

pub returns-in-Err : goal.returns-in-Err
returns-in-Err c = λ bytes at small plain.
    let is : c.at.result ≡ fault_at c.args.self.now.number c.in-Err.fault =
    c.at.ensures ∙ ap (λ (r : LineReader). fault_at r.number c.in-Err.fault) c.whole_line.ensures.same in
    let P : ReaderFault → Type 0 = λ f. ReadsOn bytes (c.args.part.now ++ 10 ∷ []) c.whole_line.new.self c.args.into.now.items c.args.into.now.items (Err f) in
    subst P (sym is)
    (refuses_line c.args.self.now bytes c.args.part.now at plain c.whole_line.new.self c.in-Err.fault c.args.into.now.items c.args.into.now.items
    (sym c.whole_line.ensures.value ∙ c.in-Err.is) refl)

pub returns : goal.returns
returns c = λ bytes at small plain.
    ends_line c.args.self.now bytes c.args.part.now at plain
    (record { version = c.version_after-self.result; number = c.saturating_add-self.result; kept = c.whole_line.new.self.kept })
    c.in-Ok.record c.args.into.now.items c.push.new.self.items small (sym c.whole_line.ensures.value ∙ c.in-Ok.is)
    (c.version_after-self.ensures ∙ ap (λ (r : LineReader). version_after r.number r.version c.in-Ok.record) c.whole_line.ensures.same)
    (c.saturating_add-self.ensures ∙ ap (λ (r : LineReader). min (r.number + 1) (2 ^ 64 - 1)) c.whole_line.ensures.same)
    c.in-Ok.ensures.kept c.in_ok-push.ensures.items
