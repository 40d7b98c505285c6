use Rattle.std.proofs.Common.{◌≡◌, length}
use Rattle.std.specs.List.{list_all}
use Rattle.policy_model.specs.Declarations.{is_kind}
use Rattle.policy_text.proofs.draft.Draft.are_kinds.Given as goal

abbrev pub invariant-names : goal.invariant-names
invariant-names l = list_all (is_kind l.self.kinds) l.rest ≡ list_all (is_kind l.self.kinds) l.fn.names

abbrev pub decreases-names : goal.decreases-names
decreases-names l = length l.rest
