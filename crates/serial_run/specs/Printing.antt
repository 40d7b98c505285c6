-- What a line that was run does to what was written and logged.
use Rattle.std.specs.Prelude.{◌≡◌, ℕ, ◌-◌, ◌<◌, List, ◌++◌, Option}
use Rattle.audit_log.specs.Logs.{Gains}
use Rattle.audit_log.specs.declared.audited.AuditLine.{AuditLine}
use Rattle.flask_io.specs.Streams.{HasCause}
use Rattle.run_output.specs.Gathering.{GoesOut, PutsOrWaits}
use Rattle.run_output.specs.Writing.{AddsFront}
use Rattle.run_output.specs.declared.setting.Setting.{Setting}
use Rattle.run_output.specs.declared.stop.RunStop.{RunStop}
use Rattle.run_output.specs.declared.stop.RunStop.TheVariants as run_stop
use Rattle.session_runner.specs.Runs.{Shown}
use Rattle.serial_run.specs.Serial.{line_text, line_audit}
use Rattle.serial_run.specs.declared.printing.Printing.{Printing}

-- what is printed of a line in a setting
abbrev pub text_in : Setting → Shown → List ℕ
text_in setting one = line_text setting.contexts.now setting.clients.now one

-- and its audit lines
abbrev pub audit_in : Setting → Shown → List AuditLine
audit_in setting one = line_audit setting.audited setting.policy.now setting.contexts.now one

-- a line was printed: its text was gathered behind the answers that wait, all of which were offered whole in one write and were added, or wait on; where
-- answers still go out alone, one fewer does now, and it did not wait; its audit lines were logged, and nothing failed
pub record Prints {K : Type 0} (written : K → Option (List ℕ)) (offered : K → Option (List (List ℕ))) (faults : K → ℕ) (printing : Printing) (out : K) (one : Shown) (after : Printing) (later : K) : Type 0 where
  pub setting_is : after.setting ≡ printing.setting
  pub puts : PutsOrWaits (written out) (written later) (offered out) (offered later) (printing.gathered ++ text_in printing.setting one) after.gathered
  pub alone : 0 < printing.alone → GoesOut (written out) (written later) (offered out) (offered later) (printing.gathered ++ text_in printing.setting one) after.gathered
  pub fewer : after.alone ≡ printing.alone - 1
  pub quiet : faults later ≡ faults out
  pub gains : Gains printing.log after.log (audit_in printing.setting one)

-- the run stopped at a line: a front of the answers that wait and of its text was added, and a write fault comes only from the sink
pub record StopsPrint {K : Type 0} (written : K → Option (List ℕ)) (faults : K → ℕ) (printing : Printing) (out : K) (one : Shown) (later : K) (stop : RunStop) : Type 0 where
  pub adds : AddsFront (written out) (written later) (printing.gathered ++ text_in printing.setting one)
  pub cause : HasCause (faults out) (faults later) (stop ≡ run_stop.WriteFault)
