use Rattle.std.proofs.Common.{sym}
use Rattle.policy_versions.proofs.JudgingLemmas.{has_room}
use Rattle.policy_versions.proofs.compiling.compile.Goals as goal

pub returns-in-Some : goal.returns-in-Some
returns-in-Some c =
    rw c.fault_of.ensures (has_room _ _ c.in-Ok.ensures.ok.contexts c.in-Ok.ensures.ok.few, sym c.in-Some.ensures)
