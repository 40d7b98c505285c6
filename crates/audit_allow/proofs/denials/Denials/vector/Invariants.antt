use Rattle.std.proofs.Common.{◌≡◌}
use Rattle.policy_model.specs.Deciding.{vector_where}
use Rattle.policy_versions.specs.Places.{kind_at}
use Rattle.audit_allow.specs.Grants.{is_learned}
use Rattle.audit_allow.proofs.denials.Denials.vector.Given as goal

abbrev pub invariant-indexes : goal.invariant-indexes
invariant-indexes l = l.perms ≡ vector_where l.index (λ index. is_learned l.list l.self (kind_at l.self.policy l.s) (kind_at l.self.policy l.t) (record { class = l.class; index = index }))
