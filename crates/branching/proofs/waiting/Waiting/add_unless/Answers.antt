use Rattle.branching.proofs.KeyLemmas.{added}
use Rattle.branching.proofs.waiting.Waiting.add_unless.Goals as goal

pub returns-in_ok-push : goal.returns-in_ok-push
returns-in_ok-push c = added c.args.key c.args.settled c.if-not-settled.true _ _ c.args.self.now c.self.view_is c.in_ok-push.ensures.permutation
