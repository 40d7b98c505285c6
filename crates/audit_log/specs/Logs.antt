-- Audit lines, client by client.
use Rattle.std.specs.Prelude.{◌≡◌, ℕ, Bool, ◌==◌, ◌&&◌, List, [], ◌++◌, length, slice_get, unwrap_or}
use Rattle.std.specs.List.{filter}
use Rattle.audit_log.specs.declared.audited.AuditLine.{AuditLine}

-- the lines of a client in a log
abbrev pub of_client : List (List AuditLine) → ℕ → List AuditLine
of_client log client = unwrap_or (slice_get log client) []

-- a line of that client
abbrev pub is_of : ℕ → AuditLine → Bool
is_of client line = line.client == client

-- a line of the call of that client with that mark
abbrev pub is_of_call : ℕ → ℕ → AuditLine → Bool
is_of_call client mark line = (line.client == client) && (line.mark == mark)

-- those of these lines that are a client's, in their order
abbrev pub lines_by : ℕ → List AuditLine → List AuditLine
lines_by client lines = filter (is_of client) lines

-- a log has these lines more: each client those that are its own, behind those that it had
pub record Gains (old new : List (List AuditLine)) (lines : List AuditLine) : Type 0 where
  pub clients : length new ≡ length old
  pub each : (client : ℕ) → of_client new client ≡ of_client old client ++ lines_by client lines
