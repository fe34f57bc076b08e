use Rattle.std.proofs.Common.{map, string_bytes}
use Rattle.command_words.proofs.Apart.{solve_apart}
use Rattle.platform_cli.proofs.Promised.{promises_kept}
use Rattle.platform_cli.proofs.top.run.Goals as goal

pub returns : goal.returns
returns g c = promises_kept _ c.carry_out.ensures.ended c.carry_out.ensures.read_fault c.carry_out.ensures.write_fault (solve_apart (map string_bytes c.args.words.now))
