use Rattle.std.proofs.Common.{◌∙◌, sym}
use Rattle.leaf_bounds.specs.Shown.{numbers_of}
use Rattle.leaf_bounds.proofs.VerdictLemmas.{pair_verdict, pattern_verdict, value_verdict, verdict_stands}
use Rattle.leaf_bounds.proofs.judge.leaf_check.Goals as goal

pub returns-in-Some-clause-verdict : goal.returns-in-Some-clause-verdict
returns-in-Some-clause-verdict c =
    pair_verdict c.args.case.now c.args.allowed.now.lists (numbers_of c.args.leaf.now) c.in-Some.place (sym c.first_pair_fault.ensures ∙ c.in-Some.is)

pub returns-in-Some-clause-stands : goal.returns-in-Some-clause-stands
returns-in-Some-clause-stands c =
    verdict_stands c.args.case.now c.args.allowed.now.lists c.args.leaf.now _
    (pair_verdict c.args.case.now c.args.allowed.now.lists (numbers_of c.args.leaf.now) c.in-Some.place (sym c.first_pair_fault.ensures ∙ c.in-Some.is))
    (c.check_is_exact.ensures c.args.case.now c.args.allowed.now.lists c.args.leaf.now c.requires.places)

pub returns-in-Some-first_pattern_fault-clause-verdict : goal.returns-in-Some-first_pattern_fault-clause-verdict
returns-in-Some-first_pattern_fault-clause-verdict c =
    pattern_verdict c.args.case.now c.args.allowed.now.lists (numbers_of c.args.leaf.now) c.in-Some-first_pattern_fault.place
    (sym c.first_pair_fault.ensures ∙ c.in-None.is) (sym c.first_pattern_fault.ensures ∙ c.in-Some-first_pattern_fault.is)

pub returns-in-Some-first_pattern_fault-clause-stands : goal.returns-in-Some-first_pattern_fault-clause-stands
returns-in-Some-first_pattern_fault-clause-stands c =
    verdict_stands c.args.case.now c.args.allowed.now.lists c.args.leaf.now _
    (pattern_verdict c.args.case.now c.args.allowed.now.lists (numbers_of c.args.leaf.now) c.in-Some-first_pattern_fault.place
    (sym c.first_pair_fault.ensures ∙ c.in-None.is) (sym c.first_pattern_fault.ensures ∙ c.in-Some-first_pattern_fault.is))
    (c.check_is_exact.ensures c.args.case.now c.args.allowed.now.lists c.args.leaf.now c.requires.places)

pub returns-in-None-first_pattern_fault-clause-verdict : goal.returns-in-None-first_pattern_fault-clause-verdict
returns-in-None-first_pattern_fault-clause-verdict c =
    value_verdict c.args.case.now c.args.allowed.now.lists (numbers_of c.args.leaf.now) c.leaf_value.result
    (sym c.first_pair_fault.ensures ∙ c.in-None.is) (sym c.first_pattern_fault.ensures ∙ c.in-None-first_pattern_fault.is) c.leaf_value.ensures

pub returns-in-None-first_pattern_fault-clause-stands : goal.returns-in-None-first_pattern_fault-clause-stands
returns-in-None-first_pattern_fault-clause-stands c =
    verdict_stands c.args.case.now c.args.allowed.now.lists c.args.leaf.now _
    (value_verdict c.args.case.now c.args.allowed.now.lists (numbers_of c.args.leaf.now) c.leaf_value.result
    (sym c.first_pair_fault.ensures ∙ c.in-None.is) (sym c.first_pattern_fault.ensures ∙ c.in-None-first_pattern_fault.is) c.leaf_value.ensures)
    (c.check_is_exact.ensures c.args.case.now c.args.allowed.now.lists c.args.leaf.now c.requires.places)
