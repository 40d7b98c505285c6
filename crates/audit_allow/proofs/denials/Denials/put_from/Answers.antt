use Rattle.std.proofs.Common.{◌≡◌, ◌∙◌, ◌++◌, sym, ap}
use Rattle.std.proofs.lemmas.List.{append-nil}
use Rattle.audit_allow.specs.Grants.{grants_between}
use Rattle.audit_allow.proofs.GrantLemmas.{joined_zero, joined_more}
use Rattle.audit_allow.proofs.denials.Denials.put_from.Goals as goal

pub targets-init : goal.targets-init
targets-init c = sym (ap (λ back. c.args.grants.now ++ back) (joined_zero (grants_between c.args.list c.args.self.now c.args.s)) ∙ append-nil c.args.grants.now)

pub targets-preserved : goal.targets-preserved
targets-preserved c = joined_more (grants_between c.args.list c.args.self.now c.args.s) c.targets.t c.args.grants.now c.targets.grants c.put_between.new.grants c.targets.invariant c.in_ok-put_between.ensures
