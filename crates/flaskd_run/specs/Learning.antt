-- What `learn` prints of a session: the grants that would allow what its run was denied under a version of its policy.
use Rattle.std.specs.Prelude.{ℕ, nat_lt, List, length, if◌then◌else◌, codes}
use Rattle.flask_sid.specs.declared.context.ContextOf.{ContextOf}
use Rattle.access_vectors.specs.Decisions.{Decisions}
use Rattle.audit_allow.specs.Grants.{grants}
use Rattle.audit_allow.specs.declared.grant.GrantKind.TheVariants.{Allow, Refused}
use Rattle.grant_print.specs.Printed.{learned_text}
use Rattle.session_lessons.specs.Lessons.{lesson_of}
use Rattle.session_text.specs.declared.session.SessionParts.{SessionParts}

-- what is printed of a session: the grants, where the policy has the version
unfoldable pub learned_on : ℕ → List (ContextOf (List ℕ)) → Decisions → SessionParts → List ℕ
learned_on version contexts d session =
    if nat_lt version (length session.policy.versions)
    then learned_text session.policy (grants Allow (lesson_of version contexts d session)) (grants Refused (lesson_of version contexts d session))
    else codes "noversion\n"
