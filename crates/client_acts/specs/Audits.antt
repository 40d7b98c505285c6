-- What a client's calls at a manager have to tell.
use Rattle.std.specs.Prelude.{ℕ, List, [], length, drop, Option, if◌then◌else◌}
use Rattle.access_vectors.specs.declared.asked.Asked.{Asked}
use Rattle.manager_history.specs.declared.entry.Entry.{Entry}
use Rattle.manager_history.specs.declared.answers.Answer.{Answer as Said}
use Rattle.epoch_gate.specs.Seats.{SeatView}
use Rattle.managed_run.specs.Calls.{HasAnswered}
use Rattle.audit_log.specs.Audited.{audited_in}
use Rattle.audit_log.specs.declared.audited.AuditLine.{AuditLine}
use Rattle.client_acts.specs.declared.worker.Audit.{Audit}

-- a call under the pass was answered
abbrev pub IsAnswered : {Call Reply D O : Type 0} → (ℕ → Call → Option ℕ) → ℕ → Call → SeatView (Entry Call Reply) D O → SeatView (Entry Call Reply) D O → Type 0
IsAnswered {Reply = Reply} use_of mark call s t = (said : Said Reply) × (asked : List Asked) × HasAnswered use_of mark call said asked s t

-- the audit lines of the entries that came behind others, where audit lines are printed
abbrev pub audited_since : {Call Reply : Type 0} → Audit → List (Entry Call Reply) → List (Entry Call Reply) → List AuditLine
audited_since audit before after = if audit.printed then audited_in audit.policy.now audit.contexts.now (drop (length before) after) else []
