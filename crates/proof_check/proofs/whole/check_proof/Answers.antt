use Rattle.std.proofs.Common.{[], length, ◌<◌, ◌^◌, ◌∙◌, ap, rules}
use Rattle.pair_prices.specs.Case.{CaseRecord}
use Rattle.proof_rules.specs.Verdict.{refusal_of, verdict}
use Rattle.proof_check.specs.Check.{answered}
use Rattle.proof_check.specs.Reads.{told}
use Rattle.proof_check.proofs.CheckLemmas.{bound_accepted, err_is, ok_apart, whole_refused}
use Rattle.proof_check.proofs.whole.check_proof.Goals as goal

pub returns-in_err-checker-clause-exact : goal.returns-in_err-checker-clause-exact
returns-in_err-checker-clause-exact c = λ bound. c.accepted_exactly.ensures c.args.case.now c.station.ensures.limits bound c.args.bytes.now

pub returns-in_err-feed-clause-exact : goal.returns-in_err-feed-clause-exact
returns-in_err-feed-clause-exact c = λ bound. c.accepted_exactly.ensures c.args.case.now c.station.ensures.limits bound c.args.bytes.now

pub returns-in_err-feed-clause-answer : goal.returns-in_err-feed-clause-answer
returns-in_err-feed-clause-answer c =
    let short : length c.args.bytes.now < 2 ^ 63 = search rules in
    λ f.
    whole_refused c.args.case.now c.args.bytes.now c.from_residual-in_err-feed.result c.in_err-feed.field-0.0 short c.from_residual-in_err-feed.ensures.1
    (λ g.
    c.in_err-feed.ensures.answer [] c.in_ok-checker.ensures.stands (λ e. g (err_is e))
    ∙ ap (λ (k : CaseRecord). told (refusal_of k c.args.bytes.now)) c.in_ok-checker.ensures.case)
    f

pub returns-clause-accepted : goal.returns-clause-accepted
returns-clause-accepted c =
    bound_accepted c.accepted_exactly.ensures c.args.case.now c.station.ensures.limits c.args.bytes.now c.finish.result
    (c.finish.ensures.answer c.args.bytes.now (c.in_ok-feed.ensures.stands [] c.in_ok-checker.ensures.stands ok_apart) c.in_ok-feed.ensures.met
    ∙ ap (λ (k : CaseRecord). answered (verdict k c.args.bytes.now)) (c.in_ok-feed.ensures.case ∙ c.in_ok-checker.ensures.case))

pub returns-clause-exact : goal.returns-clause-exact
returns-clause-exact c = λ bound. c.accepted_exactly.ensures c.args.case.now c.station.ensures.limits bound c.args.bytes.now
