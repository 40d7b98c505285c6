-- A script on its way.
use Rattle.std.specs.Prelude.{◌≡◌, ℕ, ◌≤◌, ◌<◌, true, false, List, [], ◌∷◌, ◌++◌, length, Some, None}
use Rattle.std.specs.List.{filter}
use Rattle.manager_history.specs.declared.entry.Entry.{Entry}
use Rattle.session_text.specs.declared.session.Run.{Run}
use Rattle.session_text.specs.declared.session.RunLine.{RunLine}
use Rattle.client_acts.specs.Acts.{Act, Leads}
use Rattle.client_script.specs.Scripts.{acts_by, file_act, process_act, port_act}
use Rattle.client_acts.specs.Standings.{Standing}
use Rattle.client_script.specs.Clients.{Standings}
use Rattle.client_script.specs.Audits.{audit_of, RiseFrom, own_audit}
use Rattle.audit_log.specs.Audited.{audited_in}
use Rattle.audit_log.specs.Logs.{is_of_call}
use Rattle.audit_log.specs.declared.audited.AuditLine.{AuditLine}
use Rattle.client_acts.specs.declared.worker.Audit.{Audit}

-- of all lines of a client these are left, and whatever entries the acts that are left lead to from here on, they stand behind its own
-- entries as what all acts lead to; the client has room for the lines, and holds no pass that is older than its last entry
pub record IsAlong {Call Reply : Type 0} (act : ℕ → Run → List (Act Call)) (client : ℕ) (all left : List RunLine) (s : Standing Call Reply) : Type 0 where
  pub client_is : s.client ≡ client
  pub room : length left < s.room
  pub last : ℕ
  pub below : last ≤ s.newest
  pub above : (number : ℕ) → s.held ≡ Some number → last ≤ number
  pub done : List (Act Call)
  pub split : acts_by act all ≡ done ++ acts_by act left
  pub leads : (acts : List (Act Call)) (entries : List (Entry Call Reply)) → Leads client s.held last acts entries
      → Leads client None 0 (done ++ acts) (s.mine ++ entries)

-- the same at each manager
pub record AreAlong (client : ℕ) (all left : List RunLine) (s : Standings) : Type 0 where
  pub files : IsAlong file_act client all left s.files
  pub processes : IsAlong process_act client all left s.processes
  pub ports : IsAlong port_act client all left s.ports

-- the numbers of these lines are below this one
abbrev pub AreBelow : ℕ → List RunLine → Type 0
AreBelow next [] = Unit {0}
AreBelow next (line ∷ lines) = (line.line < next) × AreBelow next lines

-- of all lines of a client these are left, with numbers from `next` on; no audit line of its own entries is of such a call; and it has
-- posted the audit lines of the lines before them, in their order
pub record IsTold (audit : Audit) (client : ℕ) (all left : List RunLine) (s : Standings) (posted : List AuditLine) : Type 0 where
  pub done : List RunLine
  pub split : all ≡ done ++ left
  pub next : ℕ
  pub rising : RiseFrom next left
  pub before : AreBelow next done
  pub files : (mark : ℕ) → next ≤ mark → filter (is_of_call client mark) (audited_in audit.policy.now audit.contexts.now s.files.mine) ≡ []
  pub processes : (mark : ℕ) → next ≤ mark → filter (is_of_call client mark) (audited_in audit.policy.now audit.contexts.now s.processes.mine) ≡ []
  pub ports : (mark : ℕ) → next ≤ mark → filter (is_of_call client mark) (audited_in audit.policy.now audit.contexts.now s.ports.mine) ≡ []
  pub told : posted ≡ audit_of client done (own_audit audit s)

-- a client with these lines left has posted what it owes so far: where audit lines are printed and the numbers of its lines rise, the
-- audit lines of the lines before them; and where none are printed nothing
pub record IsPosted (audit : Audit) (client : ℕ) (all left : List RunLine) (s : Standings) (posted : List AuditLine) : Type 0 where
  pub on : audit.printed ≡ true → RiseFrom 0 all → IsTold audit client all left s posted
  pub off : audit.printed ≡ false → posted ≡ []
