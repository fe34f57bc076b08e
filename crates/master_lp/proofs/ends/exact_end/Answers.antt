use Rattle.master_lp.proofs.ends.exact_end.Goals as goal

-- The rows of the duals are opening rows of trains, or stand.
pub leaf_of_duals-requires-clause-rows : goal.leaf_of_duals-requires-clause-rows
leaf_of_duals-requires-clause-rows c =
    let solved = c.requires.solved in
    record { opening = solved.opening; trains = solved.trains; given = solved.shows.rows_given }

pub leaf_of_duals-requires-clause-not_improving : goal.leaf_of_duals-requires-clause-not_improving
leaf_of_duals-requires-clause-not_improving c = c.requires.solved.shows.not_improving

pub plan_of-requires-clause-rows : goal.plan_of-requires-clause-rows
plan_of-requires-clause-rows c =
    let solved = c.requires.solved in
    record {
      opening = solved.opening;
      trains = solved.trains;
      meets = record { within = solved.shows.within; opening = solved.shows.opening_hold; standing = solved.shows.standing_hold };
    }

pub plan_of-requires-clause-scale : goal.plan_of-requires-clause-scale
plan_of-requires-clause-scale c = c.requires.solved.scales.0
