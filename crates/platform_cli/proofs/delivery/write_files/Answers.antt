use Rattle.std.proofs.Common.{◌≡◌, ◌<◌, length, get_or, map, string_bytes, sym, ◌∙◌, ap, arith, Err}
use Rattle.std.proofs.lemmas.List.{length-map, get_or-map}
use Rattle.std.proofs.lemmas.Result.{err_from_is_err_and}
use Rattle.shelf.specs.declared.fault.ShelfFault.TheVariants.{Failed}
use Rattle.platform_cli.specs.View.{file_of}
use Rattle.platform_cli.proofs.Files.{stopped, holds_more, is_named, later_more}
use Rattle.platform_cli.proofs.Puts.{on_err}
use Rattle.platform_cli.proofs.delivery.write_files.Goals as goal

pub returns-in_err-write-clause-stopped : goal.returns-in_err-write-clause-stopped
returns-in_err-write-clause-stopped g c =
    let files = map file_of c.args.files.now in
    let file = file_of c.file-item.result in
    let le : c.loop-file.file-index < length files = omega (arith, length-map c.args.files.now file_of) in
    let is : file ≡ get_or files c.loop-file.file-index file = ap file_of c.file-item.is ∙ sym (get_or-map file_of c.args.files.now c.loop-file.file-index c.file-item.result file (omega arith)) in
    on_err _ (stopped g.S.Shelf.tells files c.loop-file.file-index file _ _ _ _ _ _ c.in_err-write.field-0.0 le is c.loop-file.invariant.files c.loop-file.invariant.later
    (rw c.deref.ensures at c.write.ensures.others)
    (λ failed. rw c.deref.ensures at (c.in_err-write.ensures.cause.failed (ap (λ fault. Err fault) failed)))
    (λ memory. (c.in_err-write.ensures.unchanged (ap (λ fault. Err fault) memory)).0))

pub returns-in_err-write-clause-cause : goal.returns-in_err-write-clause-cause
returns-in_err-write-clause-cause g c = λ answer.
    let files = map file_of c.args.files.now in
    let file = file_of c.file-item.result in
    let le : c.loop-file.file-index < length files = omega (arith, length-map c.args.files.now file_of) in
    let is : file ≡ get_or files c.loop-file.file-index file = ap file_of c.file-item.is ∙ sym (get_or-map file_of c.args.files.now c.loop-file.file-index c.file-item.result file (omega arith)) in
    let at = err_from_is_err_and c.from_residual.result c.from_residual.ensures.1 in
    let failed : ◌≡◌ (Err c.in_err-write.field-0.0) (Err Failed) = cc (answer, at.1, at.2) in
    let rose = rw c.deref.ensures at (c.in_err-write.ensures.cause.failed failed) in
    (string_bytes c.file-item.result.name, is_named files c.loop-file.file-index file le is, omega (arith, rose, c.loop-file.invariant.later (string_bytes c.file-item.result.name)))

pub loop-file-preserved : goal.loop-file-preserved
loop-file-preserved g c =
    let files = map file_of c.args.files.now in
    let file = file_of c.file-item.result in
    let le : c.loop-file.file-index < length files = omega (arith, length-map c.args.files.now file_of) in
    let is : file ≡ get_or files c.loop-file.file-index file = ap file_of c.file-item.is ∙ sym (get_or-map file_of c.args.files.now c.loop-file.file-index c.file-item.result file (omega arith)) in
    record {
      files = holds_more g.S.Shelf.tells files c.loop-file.file-index file _ _ _ le is c.loop-file.invariant.files
          (record {
            same = rw (c.deref.ensures, c.deref-in-loop-file.ensures.value) at c.in_ok-write.ensures.written;
            told = rw c.deref.ensures at c.in_ok-write.ensures.told;
          })
          (rw c.deref.ensures at c.write.ensures.others);
      later = later_more file.name _ _ _ c.loop-file.invariant.later (rw c.deref.ensures at c.write.ensures.cause.later) (rw c.deref.ensures at c.write.ensures.cause.others);
      reads = λ name. c.write.ensures.read_faults name ∙ c.loop-file.invariant.reads name;
    }
