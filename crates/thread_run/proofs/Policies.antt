-- A policy, and what decides which questions have an audit line, may be shared by threads.
use denote.RattleType.{RattleType}
use denote.Param.Send.{IsSync, sendable}
use Rattle.std.proofs.Crossing.{crosses}
use Rattle.flask_sid.specs.contracts.sid_table.SidTable as sid_table
use Rattle.flask_sid.specs.contracts.rows.Rows as rows
use Rattle.flask_sid.specs.contracts.name.Name as name
use Rattle.policy_model.specs.contracts.policy.WhoOf as who
use Rattle.policy_model.specs.contracts.policy.Pattern as pattern
use Rattle.policy_model.specs.contracts.policy.Verdict as verdict
use Rattle.policy_model.specs.contracts.policy.RuleLine as rule_line
use Rattle.policy_model.specs.contracts.policy.ContextLine as context_line
use Rattle.policy_model.specs.contracts.policy.KindLine as kind_line
use Rattle.policy_model.specs.contracts.policy.AttributeLine as attribute_line
use Rattle.policy_model.specs.contracts.policy.Version as version
use Rattle.policy_model.specs.contracts.policy.PolicyParts as policy_parts
use Rattle.client_acts.specs.contracts.worker.Audit as audit
use Rattle.thread_run.proofs.SharedLists.{small_vec_sync}

rows_sync : (T : RattleType) → IsSync T → IsSync (rows.the_row T)
rows_sync T t = search (sendable, crosses) depth 20

name_sync : IsSync name.the_row
name_sync = let v = small_vec_sync in search (sendable, crosses) depth 20

sid_table_sync : IsSync sid_table.the_row
sid_table_sync = let n = name_sync in search (sendable, crosses) depth 60

who_sync : IsSync (who.the_row name.the_row)
who_sync = let n = name_sync in search (sendable, crosses) depth 20

pattern_sync : IsSync pattern.the_row
pattern_sync = let n = who_sync in search (sendable, crosses) depth 60

verdict_sync : IsSync verdict.the_row
verdict_sync = let n = name_sync in search (sendable, crosses) depth 20

rule_line_sync : IsSync rule_line.the_row
rule_line_sync = let m = name_sync in let n = who_sync in let v = verdict_sync in search (sendable, crosses) depth 60 fits 100000

context_line_sync : IsSync context_line.the_row
context_line_sync = let n = name_sync in search (sendable, crosses) depth 20

kind_line_sync : IsSync kind_line.the_row
kind_line_sync = let n = name_sync in search (sendable, crosses) depth 20

attribute_line_sync : IsSync attribute_line.the_row
attribute_line_sync = let n = name_sync in let r = rows_sync name.the_row name_sync in search (sendable, crosses) depth 20

version_sync : IsSync version.the_row
version_sync = let r = rows_sync rule_line.the_row rule_line_sync in search (sendable, crosses) depth 60 fits 100000

policy_sync : IsSync policy_parts.the_row
policy_sync =
    let a = rows_sync context_line.the_row context_line_sync in let b = rows_sync kind_line.the_row kind_line_sync in let c = rows_sync attribute_line.the_row attribute_line_sync in
    let d = rows_sync pattern.the_row pattern_sync in let e = rows_sync version.the_row version_sync in search (sendable, crosses) depth 60 fits 100000

pub audit_sync : (κ : _) → IsSync (audit.the_row κ)
audit_sync κ = let s = sid_table_sync in let p = policy_sync in search (sendable, crosses) depth 60
