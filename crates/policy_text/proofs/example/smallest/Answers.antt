use Rattle.std.proofs.Common.{refl}
use Rattle.policy_text.proofs.OnLiterals.{policies_on_literals}
use Rattle.policy_text.proofs.example.smallest.Goals as goal

pub returns-clause-answers : goal.returns-clause-answers
unfolding policies_on_literals
returns-clause-answers c = record { policy = refl; file = refl; dir = refl; process = refl; other = refl }
