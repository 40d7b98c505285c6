use Rattle.std.proofs.Common.{false}
use Rattle.session_managers.proofs.ThreeLemmas.{three}
use Rattle.session_managers.proofs.AckLemmas.{IsAckedSession, acked_session}
use Rattle.session_managers.proofs.managers.SessionManagers.acknowledge.Given as given
use Rattle.session_managers.proofs.managers.SessionManagers.acknowledge.Goals as goal

-- the session after the question
acked : (g : given.Over) (c : goal.After-self-1 g)
    → IsAckedSession g.D.Decider.decides false c.self.inside.changes c.ack_all-all.new.self c.ack_all-all.new.said c.ack_all-all.result c.self.inside.calls c.self.inside.denied c.self.inside.completed
acked g c =
    let told = c.ack_all-all.ensures in
    let s = c.self.invariant.0 in
    let t = three c.self.inside.changes s c.ack_all-all.new.self.managers told.many told.same_are in
    acked_session g.D.Decider.decides false c.self.inside.changes c.ack_all-all.new.self s t c.ack_all-all.new.said c.ack_all-all.result c.self.inside.calls c.self.inside.denied c.self.inside.completed
    (rw (← c.self.view_is) at c.requires.whole) told

pub invariant_of-self : goal.invariant_of-self
invariant_of-self g c = ((acked g c).session, c.self.invariant.1)

pub returns-clause-all : goal.returns-clause-all
returns-clause-all g c = rw (← c.self.view_is) ((acked g c).all_is)

pub returns-clause-said : goal.returns-clause-said
returns-clause-said g c = rw (← c.self.view_is) ((acked g c).said_is)

pub returns-clause-state : goal.returns-clause-state
returns-clause-state g c = rw (← c.self.view_is, c.counted-self-inside.ensures) ((acked g c).state)

pub returns-clause-whole : goal.returns-clause-whole
returns-clause-whole g c = (acked g c).whole

pub returns-clause-events : goal.returns-clause-events
returns-clause-events g c = rw (← c.self.view_is) ((acked g c).events)
