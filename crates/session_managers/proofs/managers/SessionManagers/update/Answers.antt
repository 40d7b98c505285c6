use Rattle.session_managers.proofs.ThreeLemmas.{three}
use Rattle.session_managers.proofs.UpdateLemmas.{IsUpdatedSession, updated_session, updated_state, updated_left_on}
use Rattle.session_managers.proofs.managers.SessionManagers.update.Given as given
use Rattle.session_managers.proofs.managers.SessionManagers.update.Goals as goal

-- the session after the update
updated : (g : given.Over) (c : goal.After-left-2-1 g) → IsUpdatedSession g.D.Decider.decides c.self.inside.changes c.update_all.new.self c.self.invariant.0 c.args.k c.update_all.new.left
updated g c =
    let told = c.update_all.ensures in
    let s = c.self.invariant.0 in
    let t = three c.self.inside.changes s c.update_all.new.self.managers told.many told.same in
    updated_session g.D.Decider.decides c.self.inside.changes c.update_all.new.self s t c.args.k c.update_all.new.left (rw c.from.ensures at told.updated) told.server told.reached

pub invariant_of-self : goal.invariant_of-self
invariant_of-self g c = ((updated g c).session, c.self.invariant.1)

pub returns-clause-left : goal.returns-clause-left
returns-clause-left g c =
    rw (← c.self.view_is) (updated_left_on g.D.Decider.decides c.self.inside.changes c.update_all.new.self c.self.invariant.0 c.args.k c.update_all.new.left
    c.self.inside.calls c.self.inside.denied c.self.inside.completed (updated g c))

pub returns-clause-state : goal.returns-clause-state
returns-clause-state g c =
    rw (← c.self.view_is) (updated_state g.D.Decider.decides c.self.inside.changes c.update_all.new.self c.self.invariant.0 c.args.k c.update_all.new.left
    c.self.inside.calls c.self.inside.denied c.self.inside.completed (updated g c))

pub returns-clause-events : goal.returns-clause-events
returns-clause-events g c = rw (← c.self.view_is) ((updated g c).events)
