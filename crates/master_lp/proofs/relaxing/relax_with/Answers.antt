use Rattle.std.proofs.Common.{length}
use Rattle.exact_lp.specs.declared.answer.WeakCause.{WeakCause}
use Rattle.master_lp.specs.Bounds.{MayWeaken, column_count}
use Rattle.master_lp.proofs.EngineEnds.{ended_in, is_layout, weakened, with_cause}
use Rattle.master_lp.proofs.relaxing.relax_with.Goals as goal

pub solved-requires-clause-layout : goal.solved-requires-clause-layout
solved-requires-clause-layout c =
    is_layout c.args.case.now c.in_ok-layout.layout c.args.allowed.now.lists c.in_ok-layout.ensures.lists c.in_ok-layout.ensures.platforms c.requires.fits

pub exact_end-requires-clause-layout : goal.exact_end-requires-clause-layout
exact_end-requires-clause-layout c =
    is_layout c.args.case.now c.in_ok-layout.layout c.args.allowed.now.lists c.in_ok-layout.ensures.lists c.in_ok-layout.ensures.platforms c.requires.fits

pub exact_end-requires-clause-solved : goal.exact_end-requires-clause-solved
exact_end-requires-clause-solved c = rw c.in-Exact.is at c.in_ok-outcome.ensures.exact

-- The ledger of the whole call rose where that of the end did.
pub returns-in-Exact-clause-cause : goal.returns-in-Exact-clause-cause
returns-in-Exact-clause-cause c =
    ended_in c.args.limits.now (length c.args.case.now.book) (column_count c.args.case.now c.args.allowed.now.lists) c.args.width.now c.solved.new.width
    c.exact_end.new.width c.in_ok-outcome.ensures.ledger c.in_ok-bound-in-Exact.bound c.in_ok-bound-in-Exact.ensures.cause

pub returns-clause-cause : goal.returns-clause-cause
returns-clause-cause c =
    let weak = rw c.in-Weak.is at c.in_ok-outcome.ensures.weak in
    with_cause
    (λ (x : WeakCause).
    MayWeaken c.args.limits.now (length c.args.case.now.book) (column_count c.args.case.now c.args.allowed.now.lists) c.args.width.now c.solved.new.width x)
    c.weak_bound-bound.result.cause c.in-Weak.cause c.weak_bound-bound.ensures.cause
    (weakened c.args.case.now c.in_ok-layout.layout c.args.allowed.now.lists c.in_ok-layout.ensures.lists c.in_ok-layout.ensures.platforms c.args.limits.now
    c.args.width.now c.solved.new.width c.in-Weak.cause weak)
