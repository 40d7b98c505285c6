-- The audit lines of scripts.
use Rattle.std.specs.Prelude.{ℕ, ◌+◌, ◌≤◌, List, [], ◌∷◌, ◌++◌, if◌then◌else◌}
use Rattle.std.specs.List.{filter, flat_map}
use Rattle.session_text.specs.declared.session.RunLine.{RunLine}
use Rattle.audit_log.specs.Audited.{audited_in}
use Rattle.audit_log.specs.Logs.{is_of_call}
use Rattle.audit_log.specs.declared.audited.AuditLine.{AuditLine}
use Rattle.client_acts.specs.declared.worker.Audit.{Audit}
use Rattle.client_acts.specs.Audits as acts
use Rattle.client_script.specs.Clients.{Standings}

-- a client's audit lines out of those of all histories, in the order of its script: those of the call of each line, in the order in
-- which it asked
abbrev pub audit_of : ℕ → List RunLine → List AuditLine → List AuditLine
audit_of client lines all = flat_map (λ line. filter (is_of_call client line.line) all) lines

-- the numbers of lines rise, from this number on
abbrev pub RiseFrom : ℕ → List RunLine → Type 0
RiseFrom least [] = Unit {0}
RiseFrom least (line ∷ lines) = (least ≤ line.line) × RiseFrom (line.line + 1) lines

-- the audit lines of a client's own entries, one manager after another
abbrev pub own_audit : Audit → Standings → List AuditLine
own_audit audit s =
    audited_in audit.policy.now audit.contexts.now s.files.mine
    ++ (audited_in audit.policy.now audit.contexts.now s.processes.mine ++ audited_in audit.policy.now audit.contexts.now s.ports.mine)

-- the audit lines of the entries that a client has more, where audit lines are printed
abbrev pub audited_since : Audit → Standings → Standings → List AuditLine
audited_since audit s t =
    acts.audited_since audit s.files.mine t.files.mine ++ (acts.audited_since audit s.processes.mine t.processes.mine ++ acts.audited_since audit s.ports.mine t.ports.mine)

-- the audit lines of a client that ran these lines, in their order, where audit lines are printed: those of its own entries
abbrev pub script_audit : Audit → ℕ → List RunLine → Standings → List AuditLine
script_audit audit client lines s = if audit.printed then audit_of client lines (own_audit audit s) else []
