use Rattle.std.proofs.Common.{ap, ◌∙◌, arith, length}
use Rattle.clique_cuts.specs.Over.{fraction_of}
use Rattle.clique_cuts.proofs.Descent.{clear_before}
use Rattle.clique_cuts.proofs.Found.{trains_step}
use Rattle.clique_cuts.proofs.search.first_minute.Goals as goal

pub loop-train-preserved : goal.loop-train-preserved
loop-train-preserved c =
    trains_step c.args.case.now c.args.allowed.now.lists (fraction_of c.args.weights.now) c.args.platform c.loop-train.train
    c.loop-train.first c.first_of_train-found.result c.earlier-first.result c.loop-train.invariant c.first_of_train-found.ensures c.earlier-first.ensures

pub returns : goal.returns
returns c =
    let done = c.loop-train-test.false in
    let count = c.trains-train-end.ensures.value ∙ ap length c.book.ensures in
    record {
      over = c.loop-train.invariant.over;
      before = clear_before c.args.case.now c.station-station.ensures.limits c.args.allowed.now.lists c.requires.lists (fraction_of c.args.weights.now) c.args.platform
          c.loop-train.first (λ t i tl il. c.loop-train.invariant.clear t i (omega (arith, done, count)) il);
    }
