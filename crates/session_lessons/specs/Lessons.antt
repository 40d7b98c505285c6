-- What is learned from a session: the denials of its run under a version of its policy.
use Rattle.std.specs.Prelude.{◌≡◌, ℕ, ◌==◌, List, [], Option, Some, None, All, if◌then◌else◌}
use Rattle.std.specs.List.{filter, flat_map}
use Rattle.flask_sid.specs.declared.context.ContextOf.{ContextOf}
use Rattle.access_vectors.specs.Decisions.{Decisions}
use Rattle.access_vectors.specs.declared.asked.Asked.{Asked}
use Rattle.audit_allow.specs.Denials.{Lesson}
use Rattle.audit_allow.specs.Grants.{grants}
use Rattle.audit_allow.specs.declared.grant.GrantKind.TheVariants.{Allow, Refused}
use Rattle.audit_log.specs.Audited.{is_denial}
use Rattle.manager_history.specs.Answers.{IsTold}
use Rattle.policy_model.specs.declared.policy.PolicyParts.{PolicyParts}
use Rattle.session_runner.specs.Runs.{Shown, first_state, lines_shown}
use Rattle.session_runner.specs.declared.outcomes.Caller.{Caller}
use Rattle.session_text.specs.declared.session.SessionParts.{SessionParts}
use Rattle.session_lessons.specs.declared.learning.Learnt.{Learnt}

-- which of these questions were denied and have an audit line, where a caller asked them that acts under a version
abbrev pub caller_denials : ℕ → PolicyParts → List (ContextOf (List ℕ)) → Option Caller → List Asked → List Asked
caller_denials version policy contexts None asked = []
caller_denials version policy contexts (Some caller) asked = if caller.version == version then filter (is_denial policy contexts) asked else []

-- what a line was denied under a version, but for what goes without an audit line
abbrev pub line_denials : ℕ → PolicyParts → List (ContextOf (List ℕ)) → Shown → List Asked
line_denials version policy contexts one = caller_denials version policy contexts one.caller one.asked

-- what lines were denied under a version, but for what goes without an audit line, in the text's order
abbrev pub lines_denials : ℕ → PolicyParts → List (ContextOf (List ℕ)) → List Shown → List Asked
lines_denials version policy contexts all = flat_map (line_denials version policy contexts) all

-- what is learned from in a session: what its lines were denied under the version
abbrev pub lesson_of : ℕ → List (ContextOf (List ℕ)) → Decisions → SessionParts → Lesson
lesson_of version contexts d session =
    record { policy = session.policy; contexts = contexts; asked = lines_denials version session.policy contexts (lines_shown d (first_state session) session.lines) }

-- what was learned from a session under a version, with its policy; what was learned from has the answers that the decisions give under that version
pub record IsLearnt (version : ℕ) (contexts : List (ContextOf (List ℕ))) (d : Decisions) (session : SessionParts) (learnt : Learnt) : Type 0 where
  pub policy_is : learnt.policy ≡ session.policy
  pub allow_is : learnt.learned.allow ≡ grants Allow (lesson_of version contexts d session)
  pub refused_is : learnt.learned.refused ≡ grants Refused (lesson_of version contexts d session)
  pub told : All (IsTold d version) (lesson_of version contexts d session).asked
