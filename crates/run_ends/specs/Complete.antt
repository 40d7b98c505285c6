-- How a run ends where neither its source nor its sink fails.
use Rattle.std.specs.Prelude.{◌≡◌, ◌⊎◌, ℕ, List, Option}
use Rattle.policy_versions.specs.Judging.{Judged}
use Rattle.command_line.specs.declared.command.Command.{Command}
use Rattle.flaskd_run.specs.Top.{IsJudgedFor, expected_of}
use Rattle.flaskd_run.specs.declared.status.Status.{Status}
use Rattle.flaskd_run.specs.declared.status.Status.TheVariants as status

-- the status is the one that the words and all bytes of the text have, by what the policy comes to; or memory was wanting
pub record IsComplete (answer : Status) (asked : Option Command) (bytes : List ℕ) : Type 0 where
  pub judged : Option Judged
  pub is_judged : IsJudgedFor asked bytes judged
  pub is_expected : (answer ≡ status.Memory) ⊎ (answer ≡ expected_of asked bytes judged)
