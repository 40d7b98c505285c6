use Rattle.std.proofs.Common.{◌∙◌, sym}
use Rattle.policy_versions.proofs.UserLemmas.{row_found, row_new, holder_place}
use Rattle.policy_versions.proofs.user_role.UserRoles.find.Goals as goal

pub returns-in-Some : goal.returns-in-Some
returns-in-Some c =
    rw (← c.self.view_is) (row_found _ _ _ _ (sym (holder_place c.self.inside.rows.items c.self.inside.holders.keys c.args.holder.now c.self.invariant.holders) ∙ sym c.in-Some.ensures.index))

pub returns-in-None : goal.returns-in-None
returns-in-None c =
    rw (← c.self.view_is) (row_new _ _ _ (c.in-None.ensures.index ∙ holder_place c.self.inside.rows.items c.self.inside.holders.keys c.args.holder.now c.self.invariant.holders))
