use Rattle.session_generator.proofs.PolicyLaws.{is_policy, no_fault}
use Rattle.session_generator.proofs.policy.policy.Goals as goal

pub unreachable-requires : goal.unreachable-requires
unreachable-requires c = no_fault _ _ c.as_bytes.ensures.value (rw c.in-Err-Text.field-0-is at c.in-Err-Text.ensures)

pub returns-in-Ok : goal.returns-in-Ok
returns-in-Ok c = is_policy _ _ c.as_bytes.ensures.value c.in-Ok.ensures
