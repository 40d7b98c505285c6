use Rattle.std.proofs.Common.{◌≡◌, [], replicate}
use Rattle.audit_log.proofs.log.AuditLog.new.Given as goal

abbrev pub invariant-clients : goal.invariant-clients
invariant-clients l = l.lists.items ≡ replicate l._client []
