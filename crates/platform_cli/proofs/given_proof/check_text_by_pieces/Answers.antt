use Rattle.std.proofs.Common.{rules, ◌<◌, ◌≤◌, ◌^◌, length}
use Rattle.proof_check.specs.Check.{case_in}
use Rattle.platform_cli.proofs.TextSteps.{text_more, text_refused}
use Rattle.platform_cli.proofs.given_proof.check_text_by_pieces.Goals as goal

pub loop-from-preserved : goal.loop-from-preserved
loop-from-preserved c =
    let some : c.loop-from.from < c.min-end.result = search rules in
    let room : c.min-end.result ≤ length c.args.text.now = search rules in
    record {
      fed = text_more c.args.text.now (case_in c.args.checker) c.loop-from.checker c.loop-from.from c.min-end.result c.loop-from.invariant.fed some room c.feed.new.self
          c.in-Ok.ensures.case c.in-Ok.ensures.stands c.in-Ok.ensures.answer;
      within = room;
    }

pub returns-in-Err-Refused-clause-read : goal.returns-in-Err-Refused-clause-read
returns-in-Err-Refused-clause-read c =
    let some : c.loop-from.from < c.min-end.result = search rules in
    let room : c.min-end.result ≤ length c.args.text.now = search rules in
    let short : length c.args.text.now < 2 ^ 63 = search rules in
    text_refused c.args.text.now (case_in c.args.checker) c.loop-from.checker c.loop-from.from c.min-end.result c.loop-from.invariant.fed some room short c.in-Err-Refused.refused
    c.in-Err-Refused.field-0 c.in-Err-Refused.field-0-is c.in-Err-Refused.ensures.answer
