use Rattle.policy_versions.proofs.kinds.Kinds.named.Goals as goal

pub returns-in-Some : goal.returns-in-Some
returns-in-Some c = λ policy kinds. c.in-Some.ensures policy kinds.named
