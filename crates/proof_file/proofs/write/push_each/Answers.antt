use Rattle.std.proofs.Common.{◌∙◌, ap}
use Rattle.proof_file.proofs.WriteLemmas.{value_written}
use Rattle.proof_file.proofs.write.push_each.Goals as goal

pub loop-value-preserved : goal.loop-value-preserved
loop-value-preserved g c = λ made post.
    value_written made c.args.values.now c.loop-value.value-index c.value-item.result c.args.into.now.items c.loop-value.into.items c.push_record.new.into.items
    c.make.result c.loop-value-test.true (c.loop-value.invariant made post) c.in_ok-push_record.ensures
    (post c.value-item.result c.make.result c.make.ensures ∙ ap made c.value-item.is)
