use Rattle.station_rows.specs.Written.{train_part}
use Rattle.station_rows.proofs.Pushed.{mapped_more}
use Rattle.station_rows.proofs.reading.weights_by_train.Goals as goal

pub loop-train-preserved : goal.loop-train-preserved
loop-train-preserved c =
    mapped_more (train_part c.args.layout.now c.args.all.now) c.loop-train.train c.loop-train.lists.items c.push.new.self.items c.in_ok-list.list
    c.loop-train.invariant c.in_ok-push.ensures.items c.in_ok-list.ensures
