-- Which questions have an audit line.
use Rattle.std.specs.Prelude.{ℕ, Bool, not, ◌&&◌, List, [], map, if◌then◌else◌}
use Rattle.std.specs.List.{list_any, filter, flat_map}
use Rattle.flask_sid.specs.declared.context.ContextOf.{ContextOf}
use Rattle.access_vectors.specs.Table.{Permission}
use Rattle.access_vectors.specs.declared.asked.Asked.{Asked}
use Rattle.manager_history.specs.declared.entry.Entry.{Entry}
use Rattle.manager_history.specs.declared.entry.Entry.TheVariants.{Op, Aborted, Notice, Ack, Forced}
use Rattle.policy_model.specs.declared.policy.Pattern.{Pattern}
use Rattle.policy_model.specs.declared.policy.PolicyParts.{PolicyParts}
use Rattle.policy_model.specs.Matching.{matches_permission}
use Rattle.text_print.specs.Printed.{context_with}
use Rattle.audit_log.specs.declared.audited.Acting.{Acting}
use Rattle.audit_log.specs.declared.audited.AuditLine.{AuditLine}

-- some of these lines on permissions matches a question of these types
abbrev pub is_listed : PolicyParts → List Pattern → List ℕ → List ℕ → Permission → Bool
is_listed policy patterns s t perm = list_any (λ pattern. matches_permission policy.attributes pattern s t perm) patterns

-- a question has an audit line: it was allowed and an `auditallow` line matches it, or denied and no `dontaudit` line does
unfoldable pub is_audited : PolicyParts → List (ContextOf (List ℕ)) → Asked → Bool
is_audited policy contexts asked =
    if asked.yes then is_listed policy policy.loud (context_with contexts asked.s).kind (context_with contexts asked.t).kind asked.perm
    else not (is_listed policy policy.silent (context_with contexts asked.s).kind (context_with contexts asked.t).kind asked.perm)

-- a question was denied and has an audit line
abbrev pub is_denial : PolicyParts → List (ContextOf (List ℕ)) → Asked → Bool
is_denial policy contexts asked = not asked.yes && is_audited policy contexts asked

-- the audit line of a question of an operation: it is its caller's, whoever was judged
abbrev pub line_for : Acting → Asked → AuditLine
line_for acting asked = record { client = acting.client; mark = acting.mark; asked = asked; number = acting.number }

-- the audit lines of an operation that asked these questions, in their order
abbrev pub lines_asked : PolicyParts → List (ContextOf (List ℕ)) → Acting → List Asked → List AuditLine
lines_asked policy contexts acting asked = map (line_for acting) (filter (is_audited policy contexts) asked)

-- the audit lines of an entry of a history; an aborted call, a notice and an acknowledgement have none
abbrev pub lines_of : {Call Reply : Type 0} → PolicyParts → List (ContextOf (List ℕ)) → Entry Call Reply → List AuditLine
lines_of policy contexts (Op caller mark call number asked reply) = lines_asked policy contexts (record { client = caller; mark = mark; number = number }) asked
lines_of policy contexts (Aborted caller mark call number) = []
lines_of policy contexts (Notice number version) = []
lines_of policy contexts (Ack number) = []
lines_of policy contexts (Forced number) = []

-- the audit lines of entries, in their order
abbrev pub audited_in : {Call Reply : Type 0} → PolicyParts → List (ContextOf (List ℕ)) → List (Entry Call Reply) → List AuditLine
audited_in policy contexts log = flat_map (lines_of policy contexts) log
