use Rattle.std.proofs.Common.{sym}
use Rattle.policy_text.proofs.KeptLemmas.{whole_kept}
use Rattle.policy_text.proofs.reader.PolicyReader.finish.Goals as goal

pub of-requires : goal.of-requires
of-requires c =
    whole_kept c.finish-policy.result.0 (rw (c.finish-policy.ensures.policy) (rw c.in-Some.is at c.self.invariant.grown)) (sym c.if-is_whole.ensures)
