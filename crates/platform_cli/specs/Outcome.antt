-- What the commands give.
use Rattle.std.specs.Prelude.{Bool, Option}
use Rattle.command_words.specs.Command.{CommandView}
use Rattle.platform_cli.specs.Answers.{IsUsage, IsWindow, IsUnread, IsOptimal, IsNoPlan, IsOpen, IsBounded, IsListed, IsMade, IsTriedOptimal, IsTriedNoPlan, IsTriedOpen, IsProofRefused, IsChecked, IsPlanRefused, IsConflict, IsReported}
use Rattle.platform_cli.specs.Given.{Outcome}
use Rattle.platform_cli.specs.Instance.{Held}

-- the answers
pub data Answer : Type 0 where
  usage : Answer
  window : Answer
  unread : Answer
  optimal : Answer
  no_plan : Answer
  stopped : Answer
  bounded : Answer
  listed : Answer
  made : Answer
  tried_optimal : Answer
  tried_none : Answer
  tried_open : Answer
  refused_proof : Answer
  checked : Answer
  refused_plan : Answer
  conflict : Answer
  reported : Answer

abbrev pub IsAnswer : Answer → Bool → Held → Option CommandView → Outcome → Type 0
IsAnswer usage tells held command outcome = IsUsage command outcome
IsAnswer window tells held command outcome = IsWindow command outcome
IsAnswer unread tells held command outcome = IsUnread tells held command outcome
IsAnswer optimal tells held command outcome = IsOptimal tells held command outcome
IsAnswer no_plan tells held command outcome = IsNoPlan tells held command outcome
IsAnswer stopped tells held command outcome = IsOpen tells held command outcome
IsAnswer bounded tells held command outcome = IsBounded tells held command outcome
IsAnswer listed tells held command outcome = IsListed tells held command outcome
IsAnswer made tells held command outcome = IsMade command outcome
IsAnswer tried_optimal tells held command outcome = IsTriedOptimal command outcome
IsAnswer tried_none tells held command outcome = IsTriedNoPlan command outcome
IsAnswer tried_open tells held command outcome = IsTriedOpen command outcome
IsAnswer refused_proof tells held command outcome = IsProofRefused tells held command outcome
IsAnswer checked tells held command outcome = IsChecked tells held command outcome
IsAnswer refused_plan tells held command outcome = IsPlanRefused tells held command outcome
IsAnswer conflict tells held command outcome = IsConflict tells held command outcome
IsAnswer reported tells held command outcome = IsReported tells held command outcome

-- A command gives one of the answers.
abbrev pub IsOutcome : Bool → Held → Option CommandView → Outcome → Type 0
IsOutcome tells held command outcome = (answer : Answer) × IsAnswer answer tells held command outcome
