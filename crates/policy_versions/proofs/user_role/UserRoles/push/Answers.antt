use Rattle.policy_versions.proofs.UserLemmas.{rows_pushed}
use Rattle.policy_versions.proofs.user_role.UserRoles.push.Goals as goal

pub invariant_of-self-2 : goal.invariant_of-self-2
invariant_of-self-2 c =
    rw (c.in-Ok.ensures.items, c.in_ok-insert.ensures.keys, c.reserve.ensures.items, c.in_ok-user.ensures, c.in_ok-role.ensures)
    (rows_pushed c.self.inside.rows.items c.self.inside.holders.keys c.args.holder c.args.object c.self.invariant (rw (← c.self.view_is) at c.requires.new) (rw (← c.self.view_is) at c.requires.object))
