-- How a run ended gives each promise.
use Rattle.std.proofs.Common.{◌≡◌, ◌⊎◌, Some, true}
use Rattle.command_words.specs.Command.{SolveView, are_apart, solve}
use Rattle.platform_cli.specs.Promises.{RunRecord, KeepsPromises, NothingFailed, ReadFailed, WriteFailed, PutFailed}
use Rattle.platform_cli.specs.Run.{IsEnded, IsFinished}
use Rattle.platform_cli.proofs.Ends.{quiet_finished, optimal_given, no_plan_given, open_given, checked_given, made_given, tried_given, bounded_given, listed_given, reported_given, refused_given, proof_refused_given, plan_refused_given, conflict_given, window_given, usage_given, bad_window_status, usage_status, nothing_given, done_of, front_given, kept_name, kept_plan, kept_proof, complete_given, solve_given, trial_given, check_given, bounding_given, listing_given, report_given}

module _ (run : RunRecord)
    (ended : IsEnded run.tells run.command run.status run.before.held run.after.held run.before.write_faults run.after.write_faults run.before.written run.after.written)
    (read : run.status ≡ 6 → ReadFailed run) (write : run.status ≡ 7 → WriteFailed run ⊎ PutFailed run)
    (apart : (words : SolveView) → run.command ≡ Some (solve words) → are_apart words.instance words.plan words.proof ≡ true) where
  finished : NothingFailed run → IsFinished run.status
  finished quiet =
      quiet_finished run.tells run.before.held run.command run.status run.before.read_faults run.after.read_faults run.before.write_faults run.after.write_faults
      run.before.put_faults run.after.put_faults read write quiet.calls quiet.memory

  pub promises_kept : KeepsPromises run
  promises_kept = record {
    optimal = optimal_given ended;
    no_plan = no_plan_given ended;
    stopped = open_given ended;
    checked = checked_given ended;
    bounded = bounded_given ended;
    listed = listed_given ended;
    made = made_given ended;
    tried = tried_given ended;
    reported = reported_given ended;
    instance_refused = refused_given ended;
    plan_refused = plan_refused_given ended;
    proof_refused = proof_refused_given ended;
    conflict = conflict_given ended;
    window = window_given ended;
    no_window = λ window asked. bad_window_status ended run.before.read_faults run.after.read_faults window asked read;
    usage = usage_given ended;
    no_command = λ none. usage_status ended run.before.read_faults run.after.read_faults none read;
    read_fault = read;
    nothing = nothing_given ended;
    write_fault = write;
    whole = done_of ended;
    cut = front_given ended;
    unchanged = kept_name ended;
    plan_file = λ words name asked named. kept_plan ended words name asked (apart words asked) named;
    proof_file = λ words name asked named. kept_proof ended words name asked (apart words asked) named;
    complete = λ quiet. complete_given ended (finished quiet);
    solve_exact = λ words bytes asked holds quiet. solve_given ended words bytes asked holds (finished quiet);
    trial_exact = λ words asked quiet. trial_given ended words asked (finished quiet);
    check_exact = λ words bytes asked holds quiet. check_given ended words bytes asked holds (finished quiet);
    bound_exact = λ instance bytes asked holds quiet. bounding_given ended instance bytes asked holds (finished quiet);
    patterns_exact = λ instance bytes asked holds quiet. listing_given ended instance bytes asked holds (finished quiet);
    report_exact = λ asked bytes words holds quiet. report_given ended asked bytes words holds (finished quiet);
  }
