use Rattle.std.proofs.Common.{rules, inl, inr, map, ap, arith, Err, string_bytes}
use Rattle.command_words.specs.Command.{command_of}
use Rattle.platform_cli.specs.View.{outcome_of}
use Rattle.platform_cli.proofs.Ends.{cut_off, read_stop, stopped_at, write_stop}
use Rattle.platform_cli.proofs.Files.{part_from}
use Rattle.platform_cli.proofs.PlanFiles.{named_written}
use Rattle.platform_cli.proofs.top.carry_out.Goals as goal

pub returns-in-Ok-clause-ended : goal.returns-in-Ok-clause-ended
returns-in-Ok-clause-ended g c = record {
  way = inr (inl (
    cut_off c.in-Err-deliver.stop c.status_of.result.code c.status_of.ensures.code (λ read. c.in-Err-deliver.ensures.no_read (ap (λ s. Err s) read)),
    record {
      outcome = outcome_of c.in-Ok.output;
      is_outcome = c.in-Ok.ensures.outcome;
      given = part_from g.S.Shelf.tells (outcome_of c.in-Ok.output) (g.S.Shelf.held c.args.shelf.now) (g.S.Shelf.held c.work.new.shelf) (g.S.Shelf.held c.deliver.new.shelf)
          (g.S.Shelf.write_faults c.args.shelf.now) (g.S.Shelf.write_faults c.work.new.shelf) (g.S.Shelf.write_faults c.deliver.new.shelf)
          (g.K.Sink.written c.args.out.now) (g.K.Sink.written c.deliver.new.out) c.work.ensures.held c.work.ensures.writes c.in-Err-deliver.ensures.part;
    },
  ));
}

pub returns-in-Ok-clause-write_fault : goal.returns-in-Ok-clause-write_fault
returns-in-Ok-clause-write_fault g c = λ seven.
    let stop = write_stop c.in-Err-deliver.stop c.status_of.result.code c.status_of.ensures.code seven in
    elim (c.in-Err-deliver.ensures.cause (ap (λ s. Err s) stop)) [
      | inl file ↦ inl (
        file.0,
        named_written g.S.Shelf.tells (g.S.Shelf.held c.args.shelf.now) (command_of (map string_bytes c.args.words.now)) (outcome_of c.in-Ok.output) file.0 c.in-Ok.ensures.outcome file.1,
        omega (arith, file.2, c.work.ensures.writes file.0),
      )
      | inr rose ↦ inr rose
    ]

pub returns-clause-ended : goal.returns-clause-ended
returns-clause-ended g c = record {
  way = inr (inr (stopped_at c.in-Err.stop c.status_of-in-Err.result.code c.status_of-in-Err.ensures.code, record { held = c.work.ensures.held; put = search rules }));
}

pub returns-clause-read_fault : goal.returns-clause-read_fault
returns-clause-read_fault g c = λ six. c.in-Err.ensures.cause (ap (λ s. Err s) (read_stop c.in-Err.stop c.status_of-in-Err.result.code c.status_of-in-Err.ensures.code six))
