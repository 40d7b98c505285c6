use Rattle.std.proofs.Common.{arith, ap, sym, ◌∙◌, ◌≡◌}
use Rattle.change_protocol.specs.Changes.{started, first_on, number_after}
use Rattle.change_protocol.proofs.Noticing.{begun, started_many, notified_led, notified_each}
use Rattle.change_protocol.proofs.coordinator.Coordinator.notify_all.Goals as goal

pub invariant_of-self-2 : goal.invariant_of-self-2
invariant_of-self-2 g c =
    let server = c.self.inside.server in
    let before = c.self.inside.managers in
    let after = c.notify_from-self-inside.new.managers in
    let told = c.notify_from-self-inside.ensures in
    let many = started_many server c.args.ver in
    let first_is : c.in_ok-begun.begun.first ≡ first_on server.phase c.self.inside.reached = ap (λ b. b.first) c.in_ok-begun.ensures.begun in
    let at = begun g.D.Decider.decides g.M.Managed.seen server before.items c.self.inside.reached c.args.ver c.self.invariant c.in_ok-begun.ensures.allowed in
    rw c.in_ok-begun.ensures.started
    (notified_led g.D.Decider.decides g.M.Managed.seen (started server c.args.ver) before.items after.items _ c.notify_from-self-inside.result (number_after server.phase) c.args.ver
    at (omega (arith, told.len, before.ok.0, after.ok.0)) (c.self.invariant.registered ∙ sym many) (rw first_is at told.after)
    (omega (arith, told.within, before.ok.0, c.self.invariant.registered, many)) (rw first_is at told.each))

pub returns-clause-notified : goal.returns-clause-notified
returns-clause-notified g c =
    let server = c.self.inside.server in
    let before = c.self.inside.managers in
    let after = c.notify_from-self-inside.new.managers in
    let told = c.notify_from-self-inside.ensures in
    let first_is : c.in_ok-begun.begun.first ≡ first_on server.phase c.self.inside.reached = ap (λ b. b.first) c.in_ok-begun.ensures.begun in
    let at = begun g.D.Decider.decides g.M.Managed.seen server before.items c.self.inside.reached c.args.ver c.self.invariant c.in_ok-begun.ensures.allowed in
    rw (← c.self.view_is) (λ _. notified_each g.D.Decider.decides g.M.Managed.seen (started server c.args.ver) before.items after.items _ c.notify_from-self-inside.result (number_after server.phase) c.args.ver
    at (rw first_is at told.after) (rw first_is at told.each))
