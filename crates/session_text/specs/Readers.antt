-- How far a session text was read.
use Rattle.policy_text.specs.Reading.{Reading}
use Rattle.session_text.specs.Progress.{SetupReading, RunReading}

-- in its policy, in its session lines, or in the lines that run
pub data SessionReader : Type 0 where
  Policy : Reading → SessionReader
  Setup : SetupReading → SessionReader
  Run : RunReading → SessionReader
