-- What is printed of a log of audit lines.
use Rattle.std.specs.Prelude.{ℕ, ◌+◌, List, [], ◌∷◌, ◌++◌}
use Rattle.std.specs.List.{flat_map}
use Rattle.flask_sid.specs.declared.context.ContextOf.{ContextOf}
use Rattle.audit_log.specs.Logs.{of_client}
use Rattle.audit_log.specs.Texts.{line_text}
use Rattle.audit_log.specs.declared.audited.AuditLine.{AuditLine}
use Rattle.session_text.specs.declared.session.ClientLine.{ClientLine}

-- what is printed of a log for clients from number n on
abbrev pub logged_text : List (ContextOf (List ℕ)) → List (List AuditLine) → ℕ → List ClientLine → List ℕ
logged_text contexts log n [] = []
logged_text contexts log n (client ∷ clients) = flat_map (line_text contexts client.name) (of_client log n) ++ logged_text contexts log (n + 1) clients
