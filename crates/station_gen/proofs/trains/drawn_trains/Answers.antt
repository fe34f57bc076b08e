use Rattle.std.proofs.Common.{◌∙◌, ◌*◌, ap, refl, arith}
use Rattle.station_gen.specs.Made.{next, state_after, made_train}
use Rattle.station_gen.proofs.Steps.{map_step, five_draws}
use Rattle.station_gen.proofs.Ends.{trains_all}
use Rattle.station_gen.proofs.trains.drawn_trains.Goals as goal

pub loop-train-init : goal.loop-train-init
unfolding state_after
loop-train-init c = record { items = c.new-found.ensures.items; state = refl }

pub loop-train-preserved : goal.loop-train-preserved
loop-train-preserved c =
    let k = c.loop-train.train in
    let number = c.args.number in
    record {
      items = map_step (λ j. made_train (state_after number (5 * j)) j) k _ _ _ c.loop-train.invariant.items c.in_ok-push.ensures.items
          (c.in_ok-drawn_train.ensures.train ∙ ap (λ s. made_train s k) c.loop-train.invariant.state);
      state = c.drawn_train.ensures.state ∙ ap (λ s. next (next (next (next (next s))))) c.loop-train.invariant.state ∙ five_draws number k;
    }

pub returns : goal.returns
returns c = c.from_vec.ensures ∙ c.loop-train.invariant.items ∙ trains_all c.args.number c.loop-train.train c.args.count (omega arith)
