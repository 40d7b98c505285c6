use Rattle.session_managers.proofs.ThreeLemmas.{three}
use Rattle.session_managers.proofs.NoticeLemmas.{IsNotifiedSession, notified_session}
use Rattle.session_managers.proofs.managers.SessionManagers.notify.Given as given
use Rattle.session_managers.proofs.managers.SessionManagers.notify.Goals as goal

-- the session after the choice
notified : (g : given.Over) (c : goal.After-notify_all g)
    → IsNotifiedSession g.D.Decider.decides c.self.inside.changes c.notify_all.new.self c.notify_all.result c.args.ver c.self.inside.calls c.self.inside.denied c.self.inside.completed
notified g c =
    let told = c.notify_all.ensures in
    let s = c.self.invariant.0 in
    let t = three c.self.inside.changes s c.notify_all.new.self.managers told.many told.same in
    notified_session g.D.Decider.decides c.self.inside.changes c.notify_all.new.self s t c.notify_all.result c.args.ver c.self.inside.calls c.self.inside.denied c.self.inside.completed
    (rw (← c.self.view_is) at c.requires)
    (record { answer = told.answer; refused = told.refused; server = told.server; notified = told.notified; was_led = told.was_led })

pub invariant_of-self : goal.invariant_of-self
invariant_of-self g c = ((notified g c).session, c.self.invariant.1)

pub returns-clause-said : goal.returns-clause-said
returns-clause-said g c = rw (← c.self.view_is) ((notified g c).told)

pub returns-clause-state : goal.returns-clause-state
returns-clause-state g c = rw (← c.self.view_is) ((notified g c).state)

pub returns-clause-whole : goal.returns-clause-whole
returns-clause-whole g c = (notified g c).whole

pub returns-clause-events : goal.returns-clause-events
returns-clause-events g c = rw (← c.self.view_is) ((notified g c).events)
